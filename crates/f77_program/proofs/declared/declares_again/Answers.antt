use Rattle.std.proofs.Common.{◌≡◌, Bool, true, false, ◌||◌, map, Result, Ok, Err, IfOk, sym, ap, ◌∙◌}
use Rattle.std.proofs.Math.Bool.{or-false}
use Rattle.f77_forms.specs.View as view
use Rattle.f77_scene.specs.Scene.{comes_again}
use Rattle.f77_scene.specs.Statements.{declarator_names, bounded}
use Rattle.f77_scene.specs.Tests as tests
use Rattle.f77_program.specs.Bases as spec
use Rattle.f77_program.specs.Bases.{base_of}
use Rattle.f77_program.specs.Pieces.{names_view}
use Rattle.f77_program.proofs.Redeclared.{declared-all}
use Rattle.f77_program.proofs.declared.declares_again.Goals as goal

same_if_ok : {E : Type 0} (r : Result Bool E) (x y : Bool) → IfOk r (λ b. b ≡ x) → x ≡ y → IfOk r (λ b. b ≡ y)
same_if_ok (Ok b) x y h e = h ∙ e
same_if_ok (Err err) x y h e = tt

pub returns-then-branch : goal.returns-then-branch
returns-then-branch c =
    let s = c.args.known.now in
    let ds = map view.declarator_of c.in-Integer.declarators.items in
    let arrays = comes_again (base_of s false) (declarator_names (bounded ds)) in
    let integers : true ≡ comes_again s.integers (declarator_names ds) =
    sym c.if-branch.true ∙ c.in_ok-comes_again-in-Integer.ensures ∙ ap (λ ns. comes_again s.integers (names_view ns)) c.deref.ensures.value
    ∙ ap (comes_again s.integers) (c.in_ok-names-in-Integer.ensures ∙ ap (λ xs. spec.names_declared false (map view.declarator_of xs)) c.as_slice.ensures.value ∙ declared-all ds) in
    ap (λ b. b || arrays || false) integers ∙ ap (λ st. tests.declares_again s (view.statement_of st)) (sym c.in-Integer.is)

pub returns-else-branch : goal.returns-else-branch
returns-else-branch c =
    let s = c.args.known.now in
    let ds = map view.declarator_of c.in-Integer.declarators.items in
    let arrays = comes_again (base_of s false) (declarator_names (bounded ds)) in
    let integers : false ≡ comes_again s.integers (declarator_names ds) =
    sym c.if-branch.false ∙ c.in_ok-comes_again-in-Integer.ensures ∙ ap (λ ns. comes_again s.integers (names_view ns)) c.deref.ensures.value
    ∙ ap (comes_again s.integers) (c.in_ok-names-in-Integer.ensures ∙ ap (λ xs. spec.names_declared false (map view.declarator_of xs)) c.as_slice.ensures.value ∙ declared-all ds) in
    same_if_ok c.declares_arrays_again.result _ _ c.declares_arrays_again.ensures
    (ap (λ xs. comes_again (base_of s false) (declarator_names (bounded (map view.declarator_of xs)))) c.as_slice-in-Integer.ensures.value ∙ sym (or-false arrays) ∙ ap (λ b. b || arrays || false) integers
    ∙ ap (λ st. tests.declares_again s (view.statement_of st)) (sym c.in-Integer.is))
