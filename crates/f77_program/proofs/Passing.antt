-- What is known behind a statement.
use Rattle.std.proofs.Common.{◌≡◌, ℕ, List, [], ◌∷◌, refl}
use Rattle.f77_forms.specs.Form.{DefinitionForm, StatementForm, program, integer, dimension, parameter, do_loop, assign, logical_if, print, continue, stop, end}
use Rattle.f77_scene.specs.Behind.{behind}
use Rattle.f77_scene.specs.Scene.{Given, Scene}
use Rattle.f77_scene.specs.Statements.{with_constant, with_constants}
use Rattle.f77_program.specs.Judged.{evaluated}
use Rattle.f77_program.specs.Passed.{passed}

-- what is known behind the values of a PARAMETER statement, and then behind the statement
pub passed-evaluated : (given : Given) (s : Scene) (label : ℕ) (f : StatementForm) → passed (evaluated given s f) label f ≡ behind given s label f
passed-evaluated given s label (program n) = refl
passed-evaluated given s label (integer ds) = refl
passed-evaluated given s label (dimension ds) = refl
passed-evaluated given s label (parameter ds) = refl
passed-evaluated given s label (do_loop d) = refl
passed-evaluated given s label (assign a) = refl
passed-evaluated given s label (logical_if c a) = refl
passed-evaluated given s label (print items) = refl
passed-evaluated given s label continue = refl
passed-evaluated given s label stop = refl
passed-evaluated given s label end = refl

-- values begin no loop
loops-with_constants : (given : Given) (s : Scene) (ds : List DefinitionForm) → (with_constants given s ds).loops ≡ s.loops
loops-with_constants given s [] = refl
loops-with_constants given s (d ∷ ds) = loops-with_constants given (with_constant given s d) ds

pub loops-evaluated : (given : Given) (s : Scene) (f : StatementForm) → (evaluated given s f).loops ≡ s.loops
loops-evaluated given s (parameter ds) = loops-with_constants given s ds
loops-evaluated given s (program n) = refl
loops-evaluated given s (integer ds) = refl
loops-evaluated given s (dimension ds) = refl
loops-evaluated given s (do_loop d) = refl
loops-evaluated given s (assign a) = refl
loops-evaluated given s (logical_if c a) = refl
loops-evaluated given s (print items) = refl
loops-evaluated given s continue = refl
loops-evaluated given s stop = refl
loops-evaluated given s end = refl
