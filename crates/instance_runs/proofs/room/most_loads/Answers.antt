use Rattle.std.proofs.Common.{◌≡◌, ◌+◌, ◌-◌, ◌<◌, ◌≤◌, ◌⊎◌, ℕ, Less, Equal, Greater, Some, cond, inl, inr, sym, ap, ◌∙◌, subst, arith}
use Rattle.std.specs.Cmp.{nat_cmp_is}
use Rattle.std.specs.Ordering.{is_lt, nat_cmp, ord_max}
use Rattle.std.specs.Prelude.{slice_get}
use Rattle.std.proofs.lemmas.Bool.{cases_lt}
use Rattle.std.proofs.lemmas.Option.{slice_get_within}
use Rattle.nest_tree.specs.View.{statements_from, tree_of}
use Rattle.nest_model.specs.Instances.{works_of}
use Rattle.nest_walk.specs.Tables.{entries}
use Rattle.nest_walk.specs.declared.table.WorkCells.{WorkCells}
use Rattle.instance_runs.specs.Loads.{widths}
use Rattle.instance_runs.specs.Rooms.{IsReached}
use Rattle.instance_runs.proofs.TableLoads.{table_long}
use Rattle.instance_runs.proofs.room.most_loads.Goals as goal

pub work-requires-clause-high : goal.work-requires-clause-high
work-requires-clause-high c =
    let all = c.in_ok-number-end.ensures ∙ ap (λ xs. works_of (statements_from xs)) c.deref.ensures.value in
    omega (arith, all, table_long (tree_of c.args.program.now) c.args.table.now c.requires, c.loop-number-test.true)

pub returns-clause-most : goal.returns-clause-most
returns-clause-most c = λ k cells at.
    let all = c.in_ok-number-end.ensures ∙ ap (λ xs. works_of (statements_from xs)) c.deref.ensures.value in
    let below : k < c.loop-number.number = omega (arith, all, table_long (tree_of c.args.program.now) c.args.table.now c.requires, slice_get_within (entries c.args.table.now) k cells at, c.loop-number-test.false) in
    c.loop-number.invariant.most k cells below at

-- the greater of two numbers is one of them
max_first : (a b r : ℕ) → r ≡ ord_max nat_cmp a b → b < a → r ≡ a
max_first a b r is lt = is ∙ ap (λ o. cond (is_lt o) a b) (sym (nat_cmp_is b a Less lt))

max_second : (a b r : ℕ) → r ≡ ord_max nat_cmp a b → a ≤ b → r ≡ b
max_second a b r is le = elim (cases_lt a b) [
  | inl lt ↦ is ∙ ap (λ o. cond (is_lt o) a b) (sym (nat_cmp_is b a Greater lt))
  | inr ge ↦ let same : b ≡ a = omega (arith, le, ge) in is ∙ ap (λ o. cond (is_lt o) a b) (sym (nat_cmp_is b a Equal same))
]

pub loop-number-preserved : goal.loop-number-preserved
loop-number-preserved c =
    let table = entries c.args.table.now in
    let number = c.loop-number.number in
    let most = c.loop-number.most in
    let v = c.in_ok-values_of.field-0 in
    let here = c.work.result.now in
    let inv = c.loop-number.invariant in
    let place : number ≡ number + 1 - 1 = omega arith in
    let at : slice_get table number ≡ Some here = ap (slice_get table) place ∙ c.work.ensures in
    let wide : v ≡ widths here.loads.items = c.in_ok-values_of.ensures ∙ ap widths c.deref-in-loop-number.ensures.value in
    let from : (k : ℕ) (cells : WorkCells) → k < number + 1 → slice_get table k ≡ Some cells → (k < number) ⊎ (cells ≡ here) =
    λ k cells lt there. elim (cases_lt k number) [
      | inl below ↦ inl below
      | inr past ↦
          let same : k ≡ number = omega (arith, lt, past) in
          let both : Some cells ≡ Some here = sym there ∙ ap (slice_get table) same ∙ at in
          let is : cells ≡ here = cc in
          inr is
    ] in
    elim (cases_lt v most) [
      | inl less ↦
          let max_is = max_first most v c.max-most.result c.max-most.ensures less in
          record {
            most = λ k cells lt there. elim (from k cells lt there) [
              | inl below ↦ omega (arith, inv.most k cells below there, max_is)
              | inr is ↦ omega (arith, ap (λ (w : WorkCells). widths w.loads.items) is, wide, less, max_is)
            ];
            reached = subst (IsReached table) (sym max_is) inv.reached;
          }
      | inr more ↦
          let max_is = max_second most v c.max-most.result c.max-most.ensures more in
          record {
            most = λ k cells lt there. elim (from k cells lt there) [
              | inl below ↦ omega (arith, inv.most k cells below there, more, max_is)
              | inr is ↦ omega (arith, ap (λ (w : WorkCells). widths w.loads.items) is, wide, max_is)
            ];
            reached = inr (number, here, at, omega (arith, wide, max_is));
          }
    ]
