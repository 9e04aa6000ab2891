use Rattle.std.proofs.Common.{◌≡◌, ◌+◌, ◌<◌, [], ◌∷◌, ◌++◌, None, List, length, length-append, get_or, ap, sym, ◌∙◌, arith}
use Rattle.farkas_cert.specs.declared.system.Row.{Row}
use Rattle.farkas_cert.specs.Combination.{made_row}
use Rattle.farkas_cert.specs.Fault.{step_fault}
use Rattle.farkas_cert.proofs.LastUses.{forgotten_on}
use Rattle.farkas_cert.proofs.Verdict.{fault_from-step}
use Rattle.farkas_cert.proofs.Units.{most_units_step}
use Rattle.farkas_cert.proofs.check.check_steps.Goals as goal

pub loop-index-preserved : goal.loop-index-preserved
loop-index-preserved g c =
    let vars = c.args.system.now.vars in
    let rows = c.args.system.now.rows in
    let made = c.loop-index.made.items in
    let steps = c.args.certificate.now.steps in
    let step = c.index-taken-index.result in
    let row = c.in_ok-row.row in
    let uses = c.in_ok-uses.uses in
    let pushed = c.push.new.self.items in
    let index = c.loop-index.index in
    let within : index < length steps = rw (← c.as_slice-taken.ensures) c.loop-index-test.true in
    let at : step ≡ get_or steps index step = rw (← c.as_slice-taken.ensures) c.index-taken-index.is in
    let good : step_fault vars (rows ++ made) (index + 1) step ≡ None = rw (← c.as_slice.ensures.value) c.in_ok-row.ensures.good in
    let is_made : row ≡ made_row vars (rows ++ made) step = rw (← c.as_slice.ensures.value) c.in_ok-row.ensures.made in
    let one_more : pushed ≡ made ++ row ∷ [] = c.in_ok-push.ensures.items in
    let long : length pushed ≡ index + 1 = omega (arith, ap (λ (rs : List Row). length rs) one_more, length-append made (row ∷ []), c.loop-index.invariant.count) in
    let taken : uses.taken.now ≡ steps = c.in_ok-uses.ensures.taken ∙ c.as_slice-taken.ensures in
    let few : length rows ≡ uses.count = sym (c.in_ok-uses.ensures.count ∙ ap (λ (rs : List Row). length rs) c.rows.ensures.rows) in
    let forgotten = forgotten_on uses.count uses.taken.now steps pushed (made ++ row ∷ []) c.forget.new.made.items (index + 1) c.forget.ensures taken one_more long vars rows (index + 1 + 1) few in
    record {
      count = c.forget.ensures.0 ∙ long;
      fault = c.loop-index.invariant.fault ∙ fault_from-step vars rows made (index + 1) index steps step row within at good is_made ∙ sym forgotten;
      counted = omega (arith, c.loop-index.invariant.counted, c.in_ok-row.ensures.all, c.loop-index.invariant.rose, most_units_step vars index steps step within at);
      rose = omega (arith, c.loop-index.invariant.rose, c.in_ok-row.ensures.all);
    }
