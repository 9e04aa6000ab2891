-- What the reader answers.
use Rattle.std.specs.Prelude.{ℤ, List, Option, Some, None, ◌≡◌}
use Rattle.nest_tree.specs.Tree.{Tree}
use Rattle.f77_lines.specs.Statements.{Entry}
use Rattle.f77_scene.specs.Reading.{first_fault_in, program_in}
use Rattle.f77_scene.specs.Scene.{Name}
use Rattle.f77_scene.specs.Fault as scene
use Rattle.f77_program.specs.declared.refusal.Refusal.{Refusal}
use Rattle.f77_program.specs.declared.refusal.Refusal.TheVariants.{Statement, BadSetting, NoMemory}
use Rattle.f77_program.specs.Refusals.{fault_of}

-- The refusal names the first fault, unless memory ran out.
abbrev pub Refuses : Option scene.Refusal → Refusal → Type 0
Refuses first (Statement fault line) = first ≡ Some (scene.bad_statement (fault_of fault) line)
Refuses first (BadSetting index) = first ≡ Some (scene.bad_setting index)
Refuses first NoMemory = Unit {0}

-- What is listed has no fault with these settings, and stands for this program.
pub record IsProgram (entries : List Entry) (settings : List (Name × ℤ)) (program : Tree) :
    Type 0 where
  pub faultless : first_fault_in entries settings ≡ None
  pub stands : program ≡ program_in entries settings
