use Rattle.std.proofs.Common.{◌≡◌, ◌++◌, false, map, sym, ap, ◌∙◌}
use Rattle.f77_forms.specs.View.{declarator_of, statement_of}
use Rattle.f77_scene.specs.Behind.{arrays_of}
use Rattle.f77_scene.specs.Scene.{Scene}
use Rattle.f77_scene.specs.Statements as statements
use Rattle.f77_program.specs.Bases.{names_declared}
use Rattle.f77_program.specs.Passed.{array_of, entered}
use Rattle.f77_program.specs.Pieces.{names_view}
use Rattle.f77_program.proofs.Redeclared.{declared-all}
use Rattle.f77_program.proofs.pass.enter.Goals as goal

pub returns-in_ok-declare-in-Integer : goal.returns-in_ok-declare-in-Integer
returns-in_ok-declare-in-Integer c =
    let k = c.args.known.now in
    let ds = map declarator_of c.in-Integer.declarators.items in
    let names : names_view c.deref.result.now ≡ statements.declarator_names ds =
    ap names_view c.deref.ensures.value ∙ c.in_ok-names-in-Integer.ensures ∙ ap (λ xs. names_declared false (map declarator_of xs)) c.as_slice.ensures.value ∙ declared-all ds in
    let arrays : map array_of c.in_ok-arrays-in-Integer.arrays.items ≡ arrays_of k ds = c.in_ok-arrays-in-Integer.ensures ∙ ap (λ xs. arrays_of k (map declarator_of xs)) c.as_slice-in-Integer.ensures.value in
    let integers : c.declare_integers.new.self ≡ record k { integers = k.integers ++ statements.declarator_names ds } = c.in_ok-declare_integers-in-Integer.ensures ∙ ap (λ ns. record k { integers = k.integers ++ ns }) names in
    c.in_ok-declare-in-Integer.ensures ∙ ap (λ (s : Scene). record s { arrays = s.arrays ++ map array_of c.in_ok-arrays-in-Integer.arrays.items }) integers
    ∙ ap (λ as'. record k { integers = k.integers ++ statements.declarator_names ds; arrays = k.arrays ++ as' }) arrays ∙ ap (λ st. entered k c.args.label (statement_of st)) (sym c.in-Integer.is)
