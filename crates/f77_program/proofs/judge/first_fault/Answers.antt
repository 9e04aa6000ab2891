use Rattle.std.proofs.Common.{◌≡◌, ◌+◌, Bor, Option, Some, None, [], ◌∷◌, map, MatchOption, FitsSigned, w64, sym, ap, ◌∙◌, rules}
use Rattle.std.proofs.lemmas.Int.{to_z-of_z}
use Rattle.std.specs.List.{flat_map}
use Rattle.std.specs.Option.{option_copied}
use Rattle.f77_forms.specs.View.{statement_of}
use Rattle.f77_scene.specs.Fault.{past_limit}
use Rattle.f77_scene.specs.Limits as limits
use Rattle.f77_scene.specs.Reading as reading
use Rattle.f77_scene.specs.Scene.{Scene}
use Rattle.f77_scene.specs.Statements.{spots_in, loops_in}
use Rattle.f77_scene.specs.Tests.{is_declaration, affine_in, steps_in}
use Rattle.f77_forms.specs.Form.{StatementForm}
use Rattle.f77_program.specs.declared.measure.Measure.{Measure}
use Rattle.f77_program.specs.Faults.{named_tests, formed_tests, limit_numbers}
use Rattle.f77_program.specs.Firsts.{first_of}
use Rattle.f77_program.specs.Judged.{tested_of}
use Rattle.f77_program.specs.Measures.{measure_of}
use Rattle.f77_program.specs.Reaches.{reach_of}
use Rattle.f77_program.specs.Refusals.{fault_of}
use Rattle.f77_program.specs.Surveys.{SurveyOf, survey_view, survey_of}
use Rattle.f77_program.proofs.Faulted.{IsStep, by_named, by_formed, by_limit}
use Rattle.f77_program.proofs.judge.first_fault.Goals as goal

is_step : (s : Scene) (f : StatementForm) (o : Option (Bor Measure)) → MatchOption o (steps_in f ≡ []) (λ m. map (measure_of s) (steps_in f) ≡ m.now ∷ []) → IsStep s f (option_copied o)
is_step s f None h = h
is_step s f (Some m) h = h

pub returns-in-Some : goal.returns-in-Some
returns-in-Some c = λ given s behind label tested surveyed counted deep.
    let f = statement_of c.args.statement.now in
    by_named given s behind label f (fault_of c.in-Some.fault)
    (sym (c.in-Some.ensures ∙ ap (λ b. reading.first_of (named_tests b c.args.tested.now (survey_view c.args.survey.now))) c.is_declaration.ensures
    ∙ ap (λ t. reading.first_of (named_tests (is_declaration f) t (survey_view c.args.survey.now))) tested ∙ ap (λ v. reading.first_of (named_tests (is_declaration f) (tested_of given s behind label f) v)) surveyed))

pub returns-in-Some-first_formed : goal.returns-in-Some-first_formed
returns-in-Some-first_formed c = λ given s behind label tested surveyed counted deep.
    let f = statement_of c.args.statement.now in
    let o = option_copied c.step_in-step.result in
    let named : None ≡ reading.first_of (named_tests (is_declaration f) (tested_of given s behind label f) (survey_of (spots_in given s f))) =
    c.in_default.ensures ∙ ap (λ b. reading.first_of (named_tests b c.args.tested.now (survey_view c.args.survey.now))) c.is_declaration.ensures
    ∙ ap (λ t. reading.first_of (named_tests (is_declaration f) t (survey_view c.args.survey.now))) tested ∙ ap (λ v. reading.first_of (named_tests (is_declaration f) (tested_of given s behind label f) v)) surveyed in
    let measures = ap (λ (v : SurveyOf). v.measures) surveyed in
    let reach = c.reach_in-reach.ensures given s (c.deref.ensures.value ∙ measures) in
    let step = is_step s f c.step_in-step.result (c.step_in-step.ensures given s (c.deref-2.ensures.value ∙ measures)) in
    by_formed given s behind label f o (fault_of c.in-Some-first_formed.fault) step (sym named)
    (sym (c.in-Some-first_formed.ensures ∙ ap (λ t. reading.first_of (formed_tests t (survey_view c.args.survey.now) c.reach_in-reach.result o)) tested
    ∙ ap (λ v. reading.first_of (formed_tests (tested_of given s behind label f) v c.reach_in-reach.result o)) surveyed ∙ ap (λ r. reading.first_of (formed_tests (tested_of given s behind label f) (survey_of (spots_in given s f)) r o)) reach))

pub returns-in-Some-first_limit : goal.returns-in-Some-first_limit
returns-in-Some-first_limit c = λ given s behind label tested surveyed counted deep.
    let f = statement_of c.args.statement.now in
    let o = option_copied c.step_in-step.result in
    let t = tested_of given s behind label f in
    let v = survey_of (spots_in given s f) in
    let loops = c.loops_round.result in
    let named : None ≡ reading.first_of (named_tests (is_declaration f) t v) =
    c.in_default.ensures ∙ ap (λ b. reading.first_of (named_tests b c.args.tested.now (survey_view c.args.survey.now))) c.is_declaration.ensures
    ∙ ap (λ t. reading.first_of (named_tests (is_declaration f) t (survey_view c.args.survey.now))) tested ∙ ap (λ v. reading.first_of (named_tests (is_declaration f) t v)) surveyed in
    let measures = ap (λ (v : SurveyOf). v.measures) surveyed in
    let reach = c.reach_in-reach.ensures given s (c.deref.ensures.value ∙ measures) in
    let step = is_step s f c.step_in-step.result (c.step_in-step.ensures given s (c.deref-2.ensures.value ∙ measures)) in
    let formed : None ≡ reading.first_of (formed_tests t v (reach_of s (affine_in s f)) o) =
    c.in_default-first_formed.ensures ∙ ap (λ t. reading.first_of (formed_tests t (survey_view c.args.survey.now) c.reach_in-reach.result o)) tested
    ∙ ap (λ v. reading.first_of (formed_tests t v c.reach_in-reach.result o)) surveyed ∙ ap (λ r. reading.first_of (formed_tests t v r o)) reach in
    let number : Some c.in-Some-first_limit.number ≡ first_of (limit_numbers t s.count loops (reach_of s (affine_in s f)) o) =
    c.in-Some-first_limit.ensures ∙ ap (λ t. first_of (limit_numbers t c.args.count loops c.reach_in-reach.result o)) tested ∙ ap (λ n. first_of (limit_numbers t n loops c.reach_in-reach.result o)) counted
    ∙ ap (λ r. first_of (limit_numbers t s.count loops r o)) reach in
    let rounds = c.loops_round.ensures.loops ∙ ap (λ n. flat_map (λ d. limits.counted 6 (n + 1)) (loops_in f)) deep in
    let z : FitsSigned w64 c.in-Some-first_limit.number = search rules in
    ap (λ n. Some (past_limit n)) (to_z-of_z w64 c.in-Some-first_limit.number z) ∙ by_limit given s behind label f o loops (Some c.in-Some-first_limit.number) step (sym named) (sym formed) rounds number

pub returns-in-None : goal.returns-in-None
returns-in-None c = λ given s behind label tested surveyed counted deep.
    let f = statement_of c.args.statement.now in
    let o = option_copied c.step_in-step.result in
    let t = tested_of given s behind label f in
    let v = survey_of (spots_in given s f) in
    let loops = c.loops_round.result in
    let named : None ≡ reading.first_of (named_tests (is_declaration f) t v) =
    c.in_default.ensures ∙ ap (λ b. reading.first_of (named_tests b c.args.tested.now (survey_view c.args.survey.now))) c.is_declaration.ensures
    ∙ ap (λ t. reading.first_of (named_tests (is_declaration f) t (survey_view c.args.survey.now))) tested ∙ ap (λ v. reading.first_of (named_tests (is_declaration f) t v)) surveyed in
    let measures = ap (λ (v : SurveyOf). v.measures) surveyed in
    let reach = c.reach_in-reach.ensures given s (c.deref.ensures.value ∙ measures) in
    let step = is_step s f c.step_in-step.result (c.step_in-step.ensures given s (c.deref-2.ensures.value ∙ measures)) in
    let formed : None ≡ reading.first_of (formed_tests t v (reach_of s (affine_in s f)) o) =
    c.in_default-first_formed.ensures ∙ ap (λ t. reading.first_of (formed_tests t (survey_view c.args.survey.now) c.reach_in-reach.result o)) tested
    ∙ ap (λ v. reading.first_of (formed_tests t v c.reach_in-reach.result o)) surveyed ∙ ap (λ r. reading.first_of (formed_tests t v r o)) reach in
    let number : None ≡ first_of (limit_numbers t s.count loops (reach_of s (affine_in s f)) o) =
    c.in-None.ensures ∙ ap (λ t. first_of (limit_numbers t c.args.count loops c.reach_in-reach.result o)) tested ∙ ap (λ n. first_of (limit_numbers t n loops c.reach_in-reach.result o)) counted
    ∙ ap (λ r. first_of (limit_numbers t s.count loops r o)) reach in
    let rounds = c.loops_round.ensures.loops ∙ ap (λ n. flat_map (λ d. limits.counted 6 (n + 1)) (loops_in f)) deep in
    by_limit given s behind label f o loops (None) step (sym named) (sym formed) rounds number
