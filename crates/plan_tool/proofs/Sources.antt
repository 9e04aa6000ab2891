-- The source of a plan that something is told of, and what else its plan shows.
use Rattle.std.proofs.Common.{◌≡◌, ℕ, ℤ, List, Option, Some, None, refl}
use Rattle.f77_lines.specs.Listing.{entries_of, first_line_fault}
use Rattle.f77_lines.specs.declared.refusal.LineRefusal.{LineRefusal}
use Rattle.f77_scene.specs.Reading.{Reads, as_refusal, first_fault_in}
use Rattle.f77_scene.specs.Scene.{Name}
use Rattle.nest_tree.specs.Tree.{Tree}
use Rattle.plan_input.specs.Sources.{HasProgramWith}
use Rattle.plan_tool.specs.Subjects.{IsPlanOf}
use Rattle.plan_words.specs.declared.request.Subject.{Subject}
use Rattle.plan_words.specs.declared.request.Subject.TheVariants.{Behind, For}
use Rattle.std.specs.Option.{option_or}
use Rattle.sync_plan.specs.declared.plan.Plan.{Plan}

pub source_of : (subject : Subject) (bytes : List ℕ) (settings : List (Name × ℤ)) (tree : Tree) (plan : Plan) → IsPlanOf subject bytes settings tree plan → HasProgramWith settings bytes tree
source_of Behind bytes settings tree plan is = is.source
source_of (For workers choice) bytes settings tree plan is = is.source

pub faultless : (bytes : List ℕ) (settings : List (Name × ℤ)) (tree : Tree) → Reads bytes settings tree → first_line_fault bytes ≡ None
faultless bytes settings tree reads = by (first_line_fault bytes) reads.faultless
  where
    by : (o : Option LineRefusal) → option_or (as_refusal o) (first_fault_in (entries_of bytes) settings) ≡ None → o ≡ None
    by None e = refl
    by (Some refusal) e = absurd (cc)
