use Rattle.std.proofs.Common.{ap, ◌∙◌}
use Rattle.std.specs.List.{flat_map}
use Rattle.f77_forms.specs.View.{statement_of}
use Rattle.f77_program.specs.Pieces.{piece_names, pieces_view}
use Rattle.f77_program.proofs.Pieced.{names-pieces}
use Rattle.f77_program.proofs.pass.statement_names.Goals as goal

pub returns : goal.returns
returns c =
    let s = c.args.known.now in
    c.in_ok-names.ensures ∙ ap (λ ps. flat_map (piece_names s) (pieces_view ps)) c.deref.ensures.value ∙ ap (flat_map (piece_names s)) c.in_ok-pieces.ensures ∙ names-pieces s (statement_of c.args.statement.now)
