-- The sums of a step, entry by entry.
use Rattle.std.proofs.Common.{◌≡◌, ℕ, ◌+◌, ℤ, pos, Bool, true, false, if◌then◌else◌, Some, None, List, add-one, refl, sym}
use Rattle.std.specs.List.{range_with_len}
use Rattle.std.proofs.lemmas.Option.{cond_some}
use Rattle.farkas_cert.specs.declared.system.Row.{Row}
use Rattle.farkas_cert.specs.Combination.{products_at, sum_at, stays_narrow}
use Rattle.farkas_cert.specs.Fault.{first_wide}

fails_where_none : {X : Type 0} (b : Bool) (x : X) → None ≡ (if b then Some x else None) → b ≡ false
fails_where_none true x h = absurd (cc)
fails_where_none false x h = refl

-- what the answer at entry k says, where n entries are left from there on, and m behind it
module _ (vars : ℕ) (rows : List Row) (terms : List (ℕ × ℤ)) (k n m : ℕ) (left : n ≡ m + 1) where
  -- the entry passes the limit
  pub first_wide_where_none : None ≡ (if stays_narrow (pos 0) (products_at vars rows terms k) then Some (sum_at vars rows terms k) else None) → first_wide vars rows terms (range_with_len k n) ≡ Some k
  first_wide_where_none h = rw (left, add-one m, fails_where_none (stays_narrow (pos 0) (products_at vars rows terms k)) (sum_at vars rows terms k) h) refl

  -- it doesn't
  pub first_wide_where_some : (sum : ℤ) → Some sum ≡ (if stays_narrow (pos 0) (products_at vars rows terms k) then Some (sum_at vars rows terms k) else None) → (first_wide vars rows terms (range_with_len k n) ≡ first_wide vars rows terms (range_with_len (k + 1) m)) × (sum_at vars rows terms k ≡ sum)
  first_wide_where_some sum h =
      let parts = cond_some (stays_narrow (pos 0) (products_at vars rows terms k)) (sum_at vars rows terms k) sum (sym h) in
      (rw (left, add-one m, parts.0) refl, parts.1)
