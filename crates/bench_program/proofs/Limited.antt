-- The tree of `bench`'s program is within the limits.
use Rattle.std.proofs.Common.{◌≡◌, ℕ, zero, suc, ◌+◌, ◌*◌, ◌≤◌, pos, negsuc, ◌+ℤ◌, ◌-ℤ◌, Bool, true, false, Option, Some, None, refl, ap, ◌∙◌, arith}
use Rattle.std.specs.Prelude.{if◌then◌else◌, nat_lt}
use Rattle.std.specs.Option.{option_or}
use Rattle.std.proofs.Math.Nat.{mul-le-mul_left}
use Rattle.std.proofs.lemmas.Bool.Decides.{nat_tests}
use Rattle.std.proofs.lemmas.Int.{ints}
use Rattle.nest_tree.specs.declared.limits.Limit.{Limit}
use Rattle.nest_tree.specs.declared.limits.Limit.TheVariants.{TooManyCells, TooMuchWork}
use Rattle.nest_tree.specs.Form.{is_small}
use Rattle.nest_tree.specs.Layout.{cell_count, count_of, extent}
use Rattle.nest_tree.specs.Limits.{capped, first_limit, most_cells, most_work, no_ends, too_many_cells, too_much_work, too_wide, work_estimate}
use Rattle.bench_program.proofs.Faultless.{tree}

-- how many trips a loop from 1 to n makes
from_one : (n : ℕ) → extent (pos 1, pos n) ≡ n
from_one n = (let same : pos n -ℤ pos 1 +ℤ pos 1 ≡ pos n = omega (arith, ints) in ap count_of same)

small : (n : ℕ) → n ≤ 1000000 → is_small (pos n) ≡ true
small n few = grind (arith, nat_tests)

small-less : (n : ℕ) → n ≤ 1000000 → is_small (negsuc 0 +ℤ pos n) ≡ true
small-less zero few = refl
small-less (suc n) few = (let same : negsuc 0 +ℤ pos (suc n) ≡ pos n = omega (arith, ints) in rw same (small n (omega (arith, few))))

-- an empty loop has no form past the limit, either
either : (b : Bool) (o : Option Limit) → (if b then o else o) ≡ o
either true o = refl
either false o = refl

module _ (points sweeps : ℕ) (few : points ≤ 500000) (fewer : sweeps ≤ 1000000) where
  its_work : work_estimate (tree points sweeps (pos (points + 1))) ≤ most_work
  unfolding no_ends
  its_work =
      let most : sweeps * points ≤ sweeps * 500000 = mul-le-mul_left sweeps few in
      rw (from_one (0 + (1 * sweeps + 0) + 0), from_one (0 + (1 * points + 0) + 0)) (omega (arith, few, fewer, most))

  its_cells : cell_count (tree points sweeps (pos (points + 1))) ≤ most_cells
  its_cells = omega (arith, few)

  none_wide : too_wide (tree points sweeps (pos (points + 1))) ≡ None
  unfolding no_ends
  none_wide =
      let last = small (1 + (1 * points + 0) + 0) (omega (arith, few)) in
      let filled = small (0 + (1 * (1 + (1 * points + 0) + 0) + 0)) (omega (arith, few)) in
      let sweep = small (0 + (1 * sweeps + 0) + 0) (omega (arith, fewer)) in
      let point = small (0 + (1 * points + 0) + 0) (omega (arith, few)) in
      let here = small (0 + (1 * (0 + (1 * points + 0) + 0) + 0)) (omega (arith, few)) in
      let before = small-less (1 * (0 + (1 * points + 0) + 0) + 0) (omega (arith, few)) in
      let behind = small (1 + (1 * (0 + (1 * points + 0) + 0) + 0)) (omega (arith, few)) in
      simp (last, filled, sweep, point, here, before, behind, either)

  pub no_limit_passed : first_limit (tree points sweeps (pos (points + 1))) ≡ None
  no_limit_passed =
      let work : nat_lt most_work (work_estimate (tree points sweeps (pos (points + 1)))) ≡ false = (let most = its_work in grind (arith, nat_tests)) in
      let cells : nat_lt most_cells (cell_count (tree points sweeps (pos (points + 1)))) ≡ false = (let most = its_cells in grind (arith, nat_tests)) in
      ap (λ o. option_or o (option_or (too_much_work (tree points sweeps (pos (points + 1)))) (too_many_cells (tree points sweeps (pos (points + 1)))))) none_wide
      ∙ ap (λ b. option_or (if b then Some (TooMuchWork (capped (work_estimate (tree points sweeps (pos (points + 1)))))) else None) (too_many_cells (tree points sweeps (pos (points + 1))))) work
      ∙ ap (λ b. if b then Some (TooManyCells (capped (cell_count (tree points sweeps (pos (points + 1)))))) else None) cells
