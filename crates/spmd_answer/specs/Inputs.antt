-- What a request is answered from.
use Rattle.std.specs.Prelude.{ℕ, List, Option, map}
use Rattle.f77_lines.specs.Listing.{entries_of}
use Rattle.f77_scene.specs.Reading.{program_in}
use Rattle.f77_source.specs.Sources.{setting_of}
use Rattle.f77_source.specs.declared.source.Setting.{Setting}
use Rattle.nest_tree.specs.Tree.{Tree}
use Rattle.spmd_answer.specs.Due.{Due, Readings, due_of_refusal, readings}
use Rattle.spmd_answer.specs.declared.source.Behind.TheVariants.{SweptPlan}
use Rattle.spmd_answer.specs.declared.sweep.Input.{Input}

abbrev pub readings_of : Input → Readings
readings_of input = readings (map setting_of input.settings.now) input.bytes.now

-- what a source of a sweep is with these settings
abbrev pub reading_with : List Setting → List ℕ → Option Due × Tree
reading_with settings bytes = (
  due_of_refusal SweptPlan bytes (map setting_of settings),
  program_in (entries_of bytes) (map setting_of settings),
)
