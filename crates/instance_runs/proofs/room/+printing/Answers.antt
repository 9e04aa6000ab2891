use Rattle.std.proofs.Common.{◌≡◌, ◌==◌, ◌||◌, ◌&&◌, ◌+◌, ◌-◌, ℕ, Bool, true, false, drop, true≢false, refl, inl, inr, ap, sym, ◌∙◌, subst, arith}
use Rattle.std.proofs.lemmas.Bool.{and_from, cases_Bool}
use Rattle.nest_tree.specs.View.{statement_of, statements_from}
use Rattle.nest_tree.proofs.Rows.{statements_more}
use Rattle.nest_walk.proofs.Trees.{statement_of-Loop}
use Rattle.sync_plan.specs.Fit.{has_print, have_print}
use Rattle.instance_runs.specs.Rooms.{AreSilent, IsSilent, is_closed, is_printing_among, is_printing_in}
use Rattle.instance_runs.proofs.Silent.{silent_all_stay, silent_stays}
use Rattle.instance_runs.proofs.room.+printing.Goals as goal
use Rattle.instance_runs.proofs.room.+printing.Goals.{open_printing-then-opens, open_printing-else-opens}

-- one more statement
prints_then : (old has rest all new : Bool) → (old || (has || rest)) ≡ all → has ≡ true → new ≡ true → (new || rest) ≡ all
prints_then true has rest all new h e f = ap (λ b. b || rest) f ∙ h
prints_then false has rest all new h e f = ap (λ b. b || rest) (f ∙ sym e) ∙ h

prints_else : (old has rest all new : Bool) → (old || (has || rest)) ≡ all → has ≡ false → new ≡ old → (new || rest) ≡ all
prints_else old has rest all new h e f = ap (λ b. b || rest) f ∙ ap (λ b. old || (b || rest)) (sym e) ∙ h

same_test : (n : ℕ) → (n == n) ≡ true
same_test n = grind arith

or_right : (a b : Bool) → b ≡ true → (a || b) ≡ true
or_right true b h = refl
or_right false b h = h

pub open_printing-loop-item-preserved : goal.open_printing-loop-item-preserved
open_printing-loop-item-preserved t c =
    let items = c.args.items.now in
    let i = c.loop-item.item-index in
    let more = statements_more items i c.item-item.result c.loop-item-test.true c.item-item.is in
    let inv = c.loop-item.invariant in
    let before = ap (λ ss. c.loop-item.prints || have_print ss) (sym more) ∙ inv.prints in
    record {
      prints = elim c.if-opens.branch [
        | open_printing-then-opens w ↦ prints_then c.loop-item.prints (has_print (statement_of c.item-item.result)) (have_print (statements_from (drop (i + 1) items))) _ _ before (sym c.opens.ensures.prints ∙ w.if-opens.true) w.prints-is
        | open_printing-else-opens w ↦ prints_else c.loop-item.prints (has_print (statement_of c.item-item.result)) (have_print (statements_from (drop (i + 1) items))) _ _ before (sym c.opens.ensures.prints ∙ w.if-opens.false) w.prints-is
      ];
      kept = λ n h. c.opens.ensures.kept n (inv.kept n h);
      within = λ k h. inv.within k (ap (is_printing_among k) more ∙ or_right (is_printing_in k (statement_of c.item-item.result)) (is_printing_among k (statements_from (drop (i + 1) items))) h);
      only = λ n was now. elim (cases_Bool (is_closed c.loop-item.closed n)) [
        | inl still ↦ inv.within (n - 1) (ap (is_printing_among (n - 1)) more ∙ ap (λ b. b || is_printing_among (n - 1) (statements_from (drop (i + 1) items))) (c.opens.ensures.only n still now))
        | inr gone ↦ inv.only n was gone
      ];
      silent = λ marks stay rest.
          inv.silent marks (λ n h. stay n (c.opens.ensures.kept n h)) (subst (AreSilent marks) (sym more) (silent_stays c.opens.new.closed marks stay (statement_of c.item-item.result) c.opens.ensures.silent, rest));
    }

pub opens-returns-then-prints-clause-prints : goal.opens-returns-then-prints-clause-prints
opens-returns-then-prints-clause-prints t c =
    c.open_printing-prints.ensures.prints ∙ ap (λ xs. have_print (statements_from xs)) c.deref.ensures.value ∙ sym (ap (λ x. has_print (statement_of x)) c.in-Loop.is ∙ ap has_print (statement_of-Loop c.in-Loop.nest))

pub opens-returns-else-prints-clause-prints : goal.opens-returns-else-prints-clause-prints
opens-returns-else-prints-clause-prints t c =
    c.open_printing-prints.ensures.prints ∙ ap (λ xs. have_print (statements_from xs)) c.deref.ensures.value ∙ sym (ap (λ x. has_print (statement_of x)) c.in-Loop.is ∙ ap has_print (statement_of-Loop c.in-Loop.nest))

pub opens-returns-then-prints-clause-silent : goal.opens-returns-then-prints-clause-silent
opens-returns-then-prints-clause-silent t c =
    let body = statements_from c.in-Loop.nest.items.items in
    let inside = subst (λ xs. AreSilent c.open_printing-prints.new.closed (statements_from xs)) c.deref.ensures.value c.open_printing-prints.ensures.silent in
    subst (IsSilent c.unmark.new.closed) (sym (ap statement_of c.in-Loop.is ∙ statement_of-Loop c.in-Loop.nest))
    (λ closed. absurd (true≢false (sym closed ∙ c.unmark.ensures.gone)), silent_all_stay c.open_printing-prints.new.closed c.unmark.new.closed c.unmark.ensures.kept body inside)

pub opens-returns-else-prints-clause-silent : goal.opens-returns-else-prints-clause-silent
opens-returns-else-prints-clause-silent t c =
    let inside = subst (λ xs. AreSilent c.open_printing-prints.new.closed (statements_from xs)) c.deref.ensures.value c.open_printing-prints.ensures.silent in
    let quiet = sym (c.open_printing-prints.ensures.prints ∙ ap (λ xs. have_print (statements_from xs)) c.deref.ensures.value) ∙ c.if-prints.false in
    subst (IsSilent c.open_printing-prints.new.closed) (sym (ap statement_of c.in-Loop.is ∙ statement_of-Loop c.in-Loop.nest)) (λ closed. quiet, inside)

pub opens-returns-then-prints-clause-only : goal.opens-returns-then-prints-clause-only
opens-returns-then-prints-clause-only t c = λ n was now.
    let body = statements_from c.in-Loop.nest.items.items in
    let number = c.in-Loop.nest.number in
    let is = ap statement_of c.in-Loop.is ∙ statement_of-Loop c.in-Loop.nest in
    let prints = sym (c.open_printing-prints.ensures.prints ∙ ap (λ xs. have_print (statements_from xs)) c.deref.ensures.value) ∙ c.if-prints.true in
    ap (is_printing_in (n - 1)) is ∙ elim (cases_Bool (is_closed c.open_printing-prints.new.closed n)) [
      | inl still ↦
          let same = c.unmark.ensures.only n still now in
          ap (λ b. b || is_printing_among (n - 1) body) (and_from (number - 1 == n - 1) (have_print body) (ap (λ k. number - 1 == k) same ∙ same_test (number - 1)) prints)
      | inr gone ↦ or_right (number - 1 == n - 1 && have_print body) (is_printing_among (n - 1) body) (ap (λ xs. is_printing_among (n - 1) (statements_from xs)) (sym c.deref.ensures.value) ∙ c.open_printing-prints.ensures.only n was gone)
    ]

pub opens-returns-else-prints-clause-only : goal.opens-returns-else-prints-clause-only
opens-returns-else-prints-clause-only t c = λ n was now.
    let body = statements_from c.in-Loop.nest.items.items in
    let number = c.in-Loop.nest.number in
    ap (is_printing_in (n - 1)) (ap statement_of c.in-Loop.is ∙ statement_of-Loop c.in-Loop.nest)
    ∙ or_right (number - 1 == n - 1 && have_print body) (is_printing_among (n - 1) body) (ap (λ xs. is_printing_among (n - 1) (statements_from xs)) (sym c.deref.ensures.value) ∙ c.open_printing-prints.ensures.only n was now)
