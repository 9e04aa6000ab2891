use Rattle.std.proofs.Common.{false, map, ap, ◌∙◌}
use Rattle.f77_forms.specs.View.{declarator_of}
use Rattle.f77_scene.specs.Scene.{comes_again}
use Rattle.f77_program.specs.Bases.{base_of}
use Rattle.f77_program.specs.Pieces.{names_view}
use Rattle.f77_program.proofs.Redeclared.{declared-bounded}
use Rattle.f77_program.proofs.declared.declares_arrays_again.Goals as goal

pub returns : goal.returns
returns c =
    let base = base_of c.args.known.now false in
    c.in_ok-again.ensures ∙ ap (λ ns. comes_again base (names_view ns)) c.deref.ensures.value ∙ ap (comes_again base) (c.in_ok-names.ensures ∙ declared-bounded (map declarator_of c.args.declarators.now))
