use Rattle.std.proofs.Common.{◌≡◌, ℕ, suc, ◌<◌, Bool, ◌++◌, ◌∷◌, [], length, length-append, take, take_all, ap, sym, ◌∙◌, arith}
use Rattle.std.specs.List.{filter, range_with_len}
use Rattle.std.proofs.Math.Seq.{take-append_seam}
use Rattle.nest_tree.specs.View.{statements_from}
use Rattle.own_scalars.specs.OwnScalars.{is_private, last_stored, private_scalars}
use Rattle.own_scalars.proofs.Ranges.{front_of, has_room, is_filled, kept_left, kept_passed}
use Rattle.own_scalars.proofs.scalars.private_scalars.Goals as goal
use Rattle.own_scalars.proofs.scalars.private_scalars.Goals.{then-is_private+else-is_full, else-is_private}

pub loop-number-preserved : goal.loop-number-preserved
loop-number-preserved c =
    let p : ℕ → Bool = λ v. is_private v (statements_from c.as_slice-body.result.now) in
    elim c.if-is_private.branch [
      | then-is_private+else-is_full w ↦
          let pushed = w.push.ensures.items ∙ ap (λ xs. xs ++ c.loop-number.number ∷ []) c.loop-number.invariant.found ∙ sym (kept_passed p c.loop-number.number (sym c.is_private.ensures ∙ w.if-is_private.true)) in
          let room = has_room (length c.loop-number.found.items) w.is_full.result c.loop-number.invariant.few w.is_full.ensures.value w.if-is_full.false in
          rw w.found-is (record { found = pushed; few = omega (arith, ap length w.push.ensures.items, length-append {A = ℕ}, room) })
      | else-is_private w ↦
          let kept = c.loop-number.invariant.found ∙ sym (kept_left p c.loop-number.number (sym c.is_private.ensures ∙ w.if-is_private.false)) in
          rw w.found-is (record { found = kept; few = c.loop-number.invariant.few })
    ]

pub returns-then-is_full : goal.returns-then-is_full
returns-then-is_full c =
    let items = c.as_slice-body.result.now in
    let p : ℕ → Bool = λ v. is_private v (statements_from items) in
    let last = last_stored (statements_from items) in
    let below : c.loop-number.number < suc last = omega (arith, c.last_stored.ensures, c.from-number-end.ensures, c.loop-number-test.true) in
    let front = front_of p c.loop-number.number (suc last) below in
    let full = is_filled (length c.loop-number.found.items) c.is_full.result c.is_full.ensures.value c.if-is_full.true in
    sym (take-append_seam c.loop-number.found.items front.behind) ∙ ap (λ n. take n (c.loop-number.found.items ++ front.behind)) full
    ∙ ap (λ xs. take 16 (xs ++ front.behind)) c.loop-number.invariant.found ∙ ap (take 16) (sym front.all)
    ∙ ap (λ xs. take 16 (private_scalars (statements_from xs))) c.as_slice-body.ensures.value

pub returns : goal.returns
returns c =
    let items = c.as_slice-body.result.now in
    let p : ℕ → Bool = λ v. is_private v (statements_from items) in
    let end : c.loop-number.number ≡ suc (last_stored (statements_from items)) = omega (arith, c.last_stored.ensures, c.from-number-end.ensures) in
    let whole = c.loop-number.invariant.found ∙ ap (λ n. filter p (range_with_len 0 n)) end ∙ ap (λ xs. private_scalars (statements_from xs)) c.as_slice-body.ensures.value in
    sym (take_all 16 c.loop-number.found.items c.loop-number.invariant.few) ∙ ap (take 16) whole
