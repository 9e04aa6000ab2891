-- Expressions of a statement, one more.
use Rattle.std.proofs.Common.{◌≡◌, Bool, ◌||◌, List, [], ◌∷◌, ◌++◌, map, refl, sym, ap, ◌∙◌}
use Rattle.std.proofs.Math.Bool.{or-false}
use Rattle.std.proofs.lemmas.List.{map_push}
use Rattle.std.proofs.lemmas.List.Folds.{list_any-append}
use Rattle.std.specs.List.{list_any}
use Rattle.f77_forms.specs.Form.{ExpressionForm}
use Rattle.f77_scene.specs.Expressions.{parts_of}
use Rattle.f77_scene.specs.Scene.{Scene}
use Rattle.f77_scene.specs.Statements.{Spot}
use Rattle.f77_scene.specs.Tests.{somewhere, is_lone_call, is_unknown_call, is_read_outside, has_wrong_subscripts}
use Rattle.f77_program.specs.declared.marks.Marks.{Marks}
use Rattle.f77_program.specs.declared.measure.Measure.{Measure}
use Rattle.f77_program.specs.Marks.{marks_of, also_marks, marks_among}
use Rattle.f77_program.specs.Measures.{measure_of}
use Rattle.f77_program.specs.Surveys.{SurveyOf, survey_of, measures_of}

somewhere-more : (test : Scene → ExpressionForm → Bool) (spots : List Spot) (s : Scene) (e : ExpressionForm) → somewhere test (spots ++ (s, e) ∷ []) ≡ (somewhere test spots || list_any (test s) (parts_of e))
somewhere-more test spots s e =
    list_any-append (λ (spot : Spot). list_any (test spot.0) (parts_of spot.1)) spots ((s, e) ∷ []) ∙ ap (λ b. somewhere test spots || b) (or-false (list_any (test s) (parts_of e)))

marks-more : (spots : List Spot) (s : Scene) (e : ExpressionForm) → marks_of (spots ++ (s, e) ∷ []) ≡ also_marks (marks_of spots) (marks_among s (parts_of e))
marks-more spots s e =
    let more = spots ++ (s, e) ∷ [] in
    let made = also_marks (marks_of spots) (marks_among s (parts_of e)) in
    ap (λ b. record (marks_of more) { lone_call = b }) (somewhere-more is_lone_call spots s e) ∙ ap (λ b. record made { unknown_call = b; read_outside = somewhere is_read_outside more; wrong_subscripts = somewhere has_wrong_subscripts more }) (somewhere-more is_unknown_call spots s e)
    ∙ ap (λ b. record made { read_outside = b; wrong_subscripts = somewhere has_wrong_subscripts more }) (somewhere-more is_read_outside spots s e) ∙ ap (λ b. record made { wrong_subscripts = b }) (somewhere-more has_wrong_subscripts spots s e)

pub survey-more : (spots : List Spot) (s : Scene) (e : ExpressionForm) (marks marks' : Marks) (ms ms' : List Measure) (m : Measure) → record { marks = marks; measures = ms } ≡ survey_of spots
    → marks' ≡ also_marks marks (marks_among s (parts_of e)) → ms' ≡ ms ++ m ∷ [] → m ≡ measure_of s e → record { marks = marks'; measures = ms' } ≡ survey_of (spots ++ (s, e) ∷ [])
survey-more spots s e marks marks' ms ms' m so_far also more measured =
    let marked : marks' ≡ marks_of (spots ++ (s, e) ∷ []) = also ∙ ap (λ (v : SurveyOf). also_marks v.marks (marks_among s (parts_of e))) so_far ∙ sym (marks-more spots s e) in
    let listed : ms' ≡ map (λ (spot : Spot). measure_of spot.0 spot.1) (spots ++ (s, e) ∷ []) =
    more ∙ ap (λ (v : SurveyOf). v.measures ++ m ∷ []) so_far ∙ ap (λ x. map (λ (spot : Spot). measure_of spot.0 spot.1) spots ++ x ∷ []) measured ∙ sym (map_push (λ (spot : Spot). measure_of spot.0 spot.1) spots (s, e)) in
    ap (λ x. record { marks = x; measures = ms' }) marked ∙ ap (λ xs. record { marks = marks_of (spots ++ (s, e) ∷ []); measures = xs }) listed

-- expressions at one place
pub here : (s : Scene) (es : List ExpressionForm) → measures_of (map (λ e. (s, e)) es) ≡ map (measure_of s) es
here s [] = refl
here s (e ∷ es) = ap (λ ms. measure_of s e ∷ ms) (here s es)
