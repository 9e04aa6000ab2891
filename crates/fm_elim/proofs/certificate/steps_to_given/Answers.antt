use Rattle.std.proofs.Common.{◌≡◌, ◌-◌, ◌≤◌, ◌<◌, pos, [], ◌∷◌, ◌++◌, length, slice_index, ap, ◌∙◌, arith}
use Rattle.fm_elim.proofs.Endings.{good_without_steps, good_with_copy}
use Rattle.fm_elim.proofs.certificate.steps_to_given.Goals as goal
use Rattle.fm_elim.proofs.certificate.steps_to_given.Goals.{then-number-rows+in_ok-numbers+in_ok-step+in_ok-push, else-number-rows}

pub returns-clause-good : goal.returns-clause-good
returns-clause-good c =
    let r = c.requires in
    let number = c.args.number in
    elim c.if-number-rows.branch [
      | then-number-rows+in_ok-numbers+in_ok-step+in_ok-push w ↦ λ cert is.
          let own = w.in_ok-numbers.ensures in
          let below : number < length w.rows-then-number-rows.result.now = let h : number < length c.rows.result.now = w.if-number-rows.true in omega (arith, h, ap length c.rows.ensures.rows, ap length w.rows-then-number-rows.ensures.rows) in
          let low : 1 ≤ number = r.1.0 in
          let same : slice_index w.as_slice.result.now (number - 1) ≡ number = ap (λ xs. slice_index xs (number - 1)) w.as_slice.ensures.value ∙ own.own (number - 1) (omega arith) ∙ omega arith in
          let step : w.in_ok-step.step ≡ record { divisor = pos 1; terms = (number, pos 1) ∷ [] } = w.in_ok-step.ensures ∙ ap (λ n. record { divisor = pos 1; terms = (n, pos 1) ∷ [] }) same in
          let items : c.if-number-rows.steps.items ≡ w.in_ok-step.step ∷ [] = ap (λ v. v.items) w.steps-is ∙ w.in_ok-push.ensures.items ∙ ap (λ xs. xs ++ w.in_ok-step.step ∷ []) c.new-steps.ensures.items in
          good_with_copy c.args.system.now number r.0 cert r.1 r.2 r.3 (is ∙ items ∙ ap (λ s. s ∷ []) step)
      | else-number-rows w ↦ λ cert is.
          let last : length c.rows.result.now ≤ number = w.if-number-rows.false in
          good_without_steps c.args.system.now number r.0 cert r.1 (omega (arith, last, ap length c.rows.ensures.rows)) r.3 (is ∙ ap (λ v. v.items) w.steps-is ∙ c.new-steps.ensures.items)
    ]
