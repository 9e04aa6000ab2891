use Rattle.std.proofs.Common.{◌≡◌, ◌++◌, ◌∷◌, [], map, sym, ap, ◌∙◌, append_assoc}
use Rattle.std.proofs.lemmas.List.{map_push}
use Rattle.f77_forms.specs.View.{expression_of}
use Rattle.f77_program.specs.Pieces.{named, expressed, piece_of, pieces_view}
use Rattle.f77_program.specs.declared.pieces.Piece.TheVariants as declared
use Rattle.f77_program.proofs.Parted.{listed_arguments}
use Rattle.f77_program.proofs.pieces.push_assignment.Goals as goal

pub returns : goal.returns
returns c =
    let a = c.args.assignment.now in
    let old = pieces_view c.args.pieces.now.items in
    let n = named a.target.name.items in
    let v = expressed (expression_of a.value) in
    let es = map expression_of a.target.arguments.items in
    let first : pieces_view c.push.new.self.items ≡ old ++ n ∷ [] =
    ap pieces_view c.in_ok-push.ensures.items ∙ map_push piece_of c.args.pieces.now.items (declared.Name c.as_slice.result) ∙ ap (λ x. old ++ named x ∷ []) c.as_slice.ensures.value in
    let next : pieces_view c.push_expressions.new.pieces.items ≡ old ++ n ∷ map expressed es =
    c.in_ok-push_expressions.ensures ∙ ap (λ ps. ps ++ map expressed (map expression_of c.as_slice-2.result.now)) first ∙ ap (λ xs. (old ++ n ∷ []) ++ map expressed (map expression_of xs)) c.as_slice-2.ensures.value ∙ append_assoc old (n ∷ []) (map expressed es) in
    ap pieces_view c.in_ok-push-2.ensures.items ∙ map_push piece_of c.push_expressions.new.pieces.items _ ∙ ap (λ ps. ps ++ v ∷ []) next ∙ append_assoc old (n ∷ map expressed es) (v ∷ []) ∙ ap (λ xs. old ++ n ∷ (map expressed xs ++ v ∷ [])) (sym (listed_arguments es))
