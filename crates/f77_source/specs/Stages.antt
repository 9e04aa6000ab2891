-- What is known at a statement when all statements have been gone over: all arrays and named constants, and the loops round it.
use Rattle.std.specs.Prelude.{ℕ, true, List, None, Result, Ok, Err, ◌≡◌}
use Rattle.f77_forms.specs.declared.fault.TextFault.{TextFault}
use Rattle.f77_forms.specs.Form.{StatementForm, program, integer, dimension, parameter, do_loop}
use Rattle.f77_program.specs.Reaches.{reach_of}
use Rattle.f77_program.specs.declared.reach.Reach.TheVariants.{Within}
use Rattle.f77_scene.specs.Behind.{behind_do}
use Rattle.f77_scene.specs.Reading.{SourceStatement, fault_from, scene_from}
use Rattle.f77_scene.specs.Scene.{Given, Scene, first_scene}
use Rattle.f77_scene.specs.Tests.{affine_in, left_open}

-- statements have no fault, and this is known behind the last of them
pub record ArePassed (given : Given) (ps : List SourceStatement) (last : Scene) : Type 0 where
  pub faultless : fault_from given first_scene ps ≡ None
  pub known : last ≡ scene_from given first_scene ps

-- ---- the private functions over again

-- behind a statement: declarations say nothing new, and loops begin and end
abbrev pub stage_behind : Scene → ℕ → StatementForm → Scene
stage_behind s label (program n) = s
stage_behind s label (integer ds) = s
stage_behind s label (dimension ds) = s
stage_behind s label (parameter ds) = s
stage_behind s label (do_loop d) = behind_do s d
stage_behind s label f = record s { executes = true; opened = left_open label s.opened }

abbrev pub stage_with : Scene → ℕ → Result StatementForm TextFault → Scene
stage_with s label (Err fault) = s
stage_with s label (Ok f) = stage_behind s label f

-- the expressions of a statement that have to be affine are, within the limit
abbrev pub AreWithin : Scene → Result StatementForm TextFault → Type 0
AreWithin s (Err fault) = Unit {0}
AreWithin s (Ok f) = reach_of s (affine_in s f) ≡ Within
