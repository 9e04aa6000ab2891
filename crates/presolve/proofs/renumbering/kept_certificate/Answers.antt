use Rattle.std.proofs.Common.{◌≡◌, ◌+◌, FitsSigned, map, rules, take, ap, sym, ◌∙◌, subst}
use Rattle.std.specs.Int.{w128}
use Rattle.std.proofs.lemmas.Int.{to_z-of_z}
use Rattle.presolve.specs.Renamed.{renamed_step, renamed_terms}
use Rattle.presolve.specs.Rows.{NamesKept, StepsNameKept, kept_number}
use Rattle.presolve.proofs.Renaming.{steps_more}
use Rattle.presolve.proofs.renumbering.kept_certificate.Goals as goal

pub loop-step-preserved : goal.loop-step-preserved
loop-step-preserved c =
    let steps = c.as_slice-given.result.now in
    let i = c.loop-step.step-index in
    let step = c.step-item.result in
    let count = c.args.count in
    let numbers = c.args.numbers.now in
    let fits : FitsSigned w128 step.divisor = search rules in
    let pushed = c.in_ok-push.ensures.items in
    λ rising.
    let made = c.in_ok-terms.ensures.kept rising in
    let terms = c.from_vec.ensures ∙ made.0 ∙ ap (renamed_terms (kept_number count numbers)) c.as_slice.ensures in
    let named = subst (λ ts. NamesKept count numbers ts) c.as_slice.ensures made.1 in
    subst (λ m. (m ≡ map (renamed_step (kept_number count numbers)) (take (i + 1) steps)) × StepsNameKept count numbers (take (i + 1) steps)) (sym pushed) (steps_more count numbers steps i step _ c.from_vec.result c.loop-step.steps.items c.loop-step-test.true c.step-item.is (to_z-of_z w128 step.divisor fits) (terms, named) (c.loop-step.invariant rising))
