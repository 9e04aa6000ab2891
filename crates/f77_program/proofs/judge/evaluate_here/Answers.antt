use Rattle.std.proofs.Common.{◌≡◌, map, ap, ◌∙◌}
use Rattle.std.specs.List.{flat_map}
use Rattle.f77_forms.specs.View.{statement_of}
use Rattle.f77_scene.specs.Statements.{expressions_in}
use Rattle.f77_program.specs.Judged.{is_print}
use Rattle.f77_program.specs.Operands.{forms_of}
use Rattle.f77_program.specs.Pieces.{piece_expressions, pieces_view}
use Rattle.f77_program.specs.Surveys.{survey_of}
use Rattle.f77_program.proofs.Pieced.{listed-pieces}
use Rattle.f77_program.proofs.judge.evaluate_here.Goals as goal

pub returns : goal.returns
returns c =
    let s = c.args.known.now in
    let f = statement_of c.args.statement.now in
    let listed : forms_of c.in_ok-expressions.expressions.items ≡ expressions_in s f =
    c.in_ok-expressions.ensures ∙ ap (λ b. flat_map (piece_expressions s b) (pieces_view c.args.pieces.now)) c.is_print.ensures ∙ ap (flat_map (piece_expressions s (is_print f))) c.requires ∙ listed-pieces s f in
    c.in_ok-survey.ensures ∙ ap (λ es. survey_of (map (λ e. (s, e)) es)) (ap forms_of c.deref.ensures.value ∙ listed)
