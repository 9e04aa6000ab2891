use Rattle.std.proofs.Common.{◌≡◌, ◌+◌, ◌++◌, [], ◌∷◌, w64, FitsSigned, map, take, sym, ap, ◌∙◌, rules}
use Rattle.std.proofs.lemmas.Int.{to_z-of_z}
use Rattle.std.proofs.lemmas.List.{map_push, take_more}
use Rattle.f77_forms.specs.View.{expression_of, definition_of}
use Rattle.f77_scene.specs.Expressions as expressions
use Rattle.f77_scene.specs.Statements.{definition_spots, with_constant, with_constants, value_set}
use Rattle.f77_program.specs.Surveys.{survey_of}
use Rattle.f77_program.specs.Wholes.{given_of}
use Rattle.f77_program.proofs.Defined.{with_constants-more, definition_spots-more}
use Rattle.f77_program.proofs.survey.define.Goals as goal

pub loop-definition-preserved : goal.loop-definition-preserved
loop-definition-preserved c =
    let given = given_of c.args.whole.now in
    let first = c.args.known.now in
    let s = c.loop-definition.known in
    let ds = c.args.definitions.now in
    let i = c.loop-definition.definition-index in
    let d = c.definition-item.result in
    let front = map definition_of (take i ds) in
    let next : map definition_of (take (i + 1) ds) ≡ front ++ definition_of d ∷ [] =
    ap (map definition_of) (take_more ds i d c.loop-definition-test.true) ∙ map_push definition_of (take i ds) _ ∙ ap (λ x. front ++ definition_of x ∷ []) (sym c.definition-item.is) in
    let w : FitsSigned w64 c.in_ok-written.written = search rules in
    let v : FitsSigned w64 c.value_set-value.result = search rules in
    let written : c.in_ok-written.written ≡ expressions.value_of s (expression_of d.value) = c.in_ok-written.ensures in
    let set : c.value_set-value.result ≡ value_set given.settings d.name.items (expressions.value_of s (expression_of d.value)) =
    c.value_set-value.ensures ∙ ap (λ z. value_set given.settings c.deref.result.now z) (to_z-of_z w64 c.in_ok-written.written w ∙ written)
    ∙ ap (λ n. value_set given.settings n (expressions.value_of s (expression_of d.value))) c.deref.ensures.value in
    let known : c.define.new.self ≡ with_constant given s (definition_of d) =
    c.in_ok-define.ensures ∙ ap (λ z. record s { constants = s.constants ++ record { name = c.deref-in-loop-definition.result.now; value = z } ∷ [] }) (to_z-of_z w64 c.value_set-value.result v ∙ set)
    ∙ ap (λ n. record s { constants = s.constants ++ record { name = n; value = value_set given.settings d.name.items (expressions.value_of s (expression_of d.value)) } ∷ [] }) c.deref-in-loop-definition.ensures.value in
    record {
      survey = c.in_ok-add.ensures (definition_spots given first front) c.loop-definition.invariant.survey ∙ ap (λ x. survey_of (definition_spots given first front ++ (x, expression_of d.value) ∷ [])) c.loop-definition.invariant.known
          ∙ ap survey_of (sym (definition_spots-more given first front (definition_of d))) ∙ ap (λ ds. survey_of (definition_spots given first ds)) (sym next);
      known = known ∙ ap (λ x. with_constant given x (definition_of d)) c.loop-definition.invariant.known ∙ sym (with_constants-more given first front (definition_of d)) ∙ ap (with_constants given first) (sym next);
    }
