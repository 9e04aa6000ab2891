-- The systems of two phases, level by level.
use Rattle.std.proofs.Common.{◌≡◌, ℕ, zero, suc, ◌+◌, ◌-◌, ◌<◌, ◌≤◌, Bool, true, false, nat_lt, [], ◌∷◌, if◌then◌else◌, ap, ◌∙◌, arith}
use Rattle.std.specs.Prelude.{sum_by}
use Rattle.std.specs.List.{range_with_len}
use Rattle.std.proofs.lemmas.List.Sums.{sum_by-append, sum_by-cons}
use Rattle.comm_system.specs.Levels.{levels}

-- the last levels, so many: the first of them, and the others
pub next_level : (f : ℕ → ℕ) (loops left : ℕ) → 0 < left → left ≤ loops →
    sum_by f (range_with_len (loops - left + 1) left) ≡ f (loops - left + 1) + sum_by f (range_with_len (loops - (left - 1) + 1) (left - 1))
next_level f loops zero some le = absurd (omega (arith, some))
next_level f loops (suc n) some le =
    let first = loops - suc n + 1 in
    let later : first + 1 ≡ loops - (suc n - 1) + 1 = omega (arith, le) in
    let fewer : n ≡ suc n - 1 = omega arith in
    sum_by-cons f first (range_with_len (first + 1) n) ∙ ap (λ k. f first + sum_by f (range_with_len k n)) later ∙ ap (λ m. f first + sum_by f (range_with_len (loops - (suc n - 1) + 1) m)) fewer

-- the carried ones, and the one at which all loops are equal
pub all_levels : (f : ℕ → ℕ) (loops s t : ℕ) → sum_by f (levels loops s t) ≡ sum_by f (range_with_len 1 loops) + (if nat_lt s t then f 0 else 0)
all_levels f loops s t = sum_by-append f (range_with_len 1 loops) (if nat_lt s t then 0 ∷ [] else []) ∙ ap (λ n. sum_by f (range_with_len 1 loops) + n) (by (nat_lt s t))
  where
    by : (b : Bool) → sum_by f (if b then 0 ∷ [] else []) ≡ (if b then f 0 else 0)
    by true = let one = sum_by-cons f 0 [] in omega (arith, one)
    by false = omega arith
