use Rattle.std.proofs.Common.{◌≡◌, ℕ, suc, ◌+◌, ◌<◌, Bool, ◌++◌, ◌∷◌, [], length, length-append, ap, sym, ◌∙◌, refl, arith}
use Rattle.std.specs.List.{filter, range_with_len}
use Rattle.nest_tree.specs.View.{statements_from}
use Rattle.own_scalars.specs.OwnScalars.{is_sum, last_stored, sum_scalars}
use Rattle.own_scalars.proofs.Ranges.{front_of, has_room, is_filled, kept_left, kept_passed, too_many}
use Rattle.own_scalars.proofs.scalars.sum_scalars.Goals as goal
use Rattle.own_scalars.proofs.scalars.sum_scalars.Goals.{then-is_sum+else-is_full, else-is_sum}

pub loop-number-preserved : goal.loop-number-preserved
loop-number-preserved c =
    let p : ℕ → Bool = λ v. is_sum v (statements_from c.as_slice-body.result.now) in
    elim c.if-is_sum.branch [
      | then-is_sum+else-is_full w ↦
          let pushed = w.push.ensures.items ∙ ap (λ xs. xs ++ c.loop-number.number ∷ []) c.loop-number.invariant.found ∙ sym (kept_passed p c.loop-number.number (sym c.is_sum.ensures ∙ w.if-is_sum.true)) in
          let room = has_room (length c.loop-number.found.items) w.is_full.result c.loop-number.invariant.few w.is_full.ensures.value w.if-is_full.false in
          rw w.found-is (record { found = pushed; few = omega (arith, ap length w.push.ensures.items, length-append {A = ℕ}, room) })
      | else-is_sum w ↦
          let kept = c.loop-number.invariant.found ∙ sym (kept_left p c.loop-number.number (sym c.is_sum.ensures ∙ w.if-is_sum.false)) in
          rw w.found-is (record { found = kept; few = c.loop-number.invariant.few })
    ]

pub returns-then-is_full-clause-few : goal.returns-then-is_full-clause-few
returns-then-is_full-clause-few c =
    let items = c.as_slice-body.result.now in
    let p : ℕ → Bool = λ v. is_sum v (statements_from items) in
    let last = last_stored (statements_from items) in
    let below : c.loop-number.number < suc last = omega (arith, c.last_stored.ensures, c.from-number-end.ensures, c.loop-number-test.true) in
    let front = front_of p c.loop-number.number (suc last) below in
    let full = is_filled (length c.loop-number.found.items) c.is_full.result c.is_full.ensures.value c.if-is_full.true in
    let long = ap length front.all ∙ length-append (filter p (range_with_len 0 c.loop-number.number)) front.behind ∙ ap (λ xs. length xs + length front.behind) (sym c.loop-number.invariant.found) in
    let same = ap (λ xs. length (sum_scalars (statements_from xs))) (sym c.as_slice-body.ensures.value) in
    ((λ h. absurd (cc)), too_many _ _ (length c.loop-number.found.items) (length front.behind) same long full (front.one (sym c.is_sum.ensures ∙ c.if-is_sum.true)))

pub returns-clause-found : goal.returns-clause-found
returns-clause-found c =
    let items = c.as_slice-body.result.now in
    let p : ℕ → Bool = λ v. is_sum v (statements_from items) in
    let end : c.loop-number.number ≡ suc (last_stored (statements_from items)) = omega (arith, c.last_stored.ensures, c.from-number-end.ensures) in
    c.loop-number.invariant.found ∙ ap (λ n. filter p (range_with_len 0 n)) end ∙ ap (λ xs. sum_scalars (statements_from xs)) c.as_slice-body.ensures.value

pub returns-clause-few : goal.returns-clause-few
returns-clause-few c =
    let items = c.as_slice-body.result.now in
    let p : ℕ → Bool = λ v. is_sum v (statements_from items) in
    let end : c.loop-number.number ≡ suc (last_stored (statements_from items)) = omega (arith, c.last_stored.ensures, c.from-number-end.ensures) in
    let whole = c.loop-number.invariant.found ∙ ap (λ n. filter p (range_with_len 0 n)) end ∙ ap (λ xs. sum_scalars (statements_from xs)) c.as_slice-body.ensures.value in
    let few = rw whole at c.loop-number.invariant.few in
    ((λ h. few), (λ h. refl))
