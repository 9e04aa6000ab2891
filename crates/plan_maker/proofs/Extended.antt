-- Systems that a level goes on to.
use Rattle.std.proofs.Common.{◌≡◌, ℕ, ◌+◌, ◌≤◌, ◌<◌, ◌++◌, List, drop, length, pos, take, ap, sym, ◌∙◌, subst, arith}
use Rattle.std.specs.Prelude.{slice_index}
use Rattle.std.specs.List.{All}
use Rattle.std.proofs.lemmas.List.{get_or-take, length-take-le}
use Rattle.std.proofs.lemmas.List.Elements.{All-get_or, All-weaker}
use Rattle.farkas_cert.specs.Inequalities.{Inequalities}
use Rattle.farkas_cert.specs.declared.system.Row.{Row}
use Rattle.fm_elim.specs.Advances.{IsExtension, gone_of, most_of, order_of, system_of}
use Rattle.fm_elim.specs.Pairs.{coef_of}
use Rattle.fm_elim.specs.declared.elimination.Level.{Level}
use Rattle.plan_maker.specs.Beginnings.{IsWithout}

without-one : (order : List ℕ) (gone j : ℕ) (row : Row) → gone ≤ length order → j < gone → IsWithout (take gone order) row → coef_of (slice_index order j) row ≡ pos 0
without-one order gone j row low lt h =
    let size : length (take gone order) ≡ gone = length-take-le gone order low in
    subst (λ v. coef_of v row ≡ pos 0) (get_or-take gone order j 0 lt) (All-get_or (λ v. coef_of v row ≡ pos 0) (take gone order) j 0 (omega (arith, size, lt)) h)

-- from this level, which is of these rows in this order
module _ (level : Level) (first whole : Inequalities) (order : List ℕ) (gone : ℕ) (is_system : system_of level ≡ first) (is_order : order_of level ≡ order) (is_gone : gone_of level ≡ gone) where
  pub extends : whole.vars ≡ first.vars → whole.rows ≡ first.rows ++ drop (length first.rows) whole.rows → gone ≤ length order → All (IsWithout (take gone order)) (drop (length first.rows) whole.rows) → most_of level + length (drop (length first.rows) whole.rows) ≤ 20000 → IsExtension level whole order
  extends vars rows low none few = record {
    further = drop (length first.rows) whole.rows;
    vars = vars ∙ ap (λ (s : Inequalities). s.vars) (sym is_system);
    rows = rows ∙ ap (λ (s : Inequalities). s.rows ++ drop (length first.rows) whole.rows) (sym is_system);
    begins = λ j lt. ap (λ xs. slice_index xs j) is_order;
    without = λ j lt. All-weaker (IsWithout (take gone order)) (λ r. coef_of (slice_index order j) r ≡ pos 0) (λ r h. without-one order gone j r low (omega (arith, lt, is_gone)) h) (drop (length first.rows) whole.rows) none;
    few = few;
  }
