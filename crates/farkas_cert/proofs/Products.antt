-- The terms of a step, one after another.
use Rattle.std.proofs.Common.{◌≡◌, ℕ, ◌+◌, ◌≤◌, ◌<◌, ℤ, ◌+ℤ◌, ◌*ℤ◌, Bool, true, false, ◌&&◌, if◌then◌else◌, Some, None, List, ◌∷◌, length, get_or, drop, add-one, refl, arith}
use Rattle.std.specs.List.{list_any}
use Rattle.std.proofs.Math.Seq.{drop-cons}
use Rattle.std.proofs.lemmas.Int.{ints}
use Rattle.std.proofs.lemmas.Option.{cond_some}
use Rattle.std.proofs.lemmas.Bool.Decides.{nat_tests}
use Rattle.std.proofs.lemmas.List.Folds.{list_any_at}
use Rattle.farkas_cert.specs.declared.system.Row.{Row}
use Rattle.farkas_cert.specs.Combination.{row_at, entry_at, products_at, is_narrow, stays_narrow, total}
use Rattle.farkas_cert.specs.Fault.{names_bad_row}

-- no element passes a test that none passes
pub list_any-false : {X : Type 0} (p : X → Bool) (xs : List X) (i : ℕ) (d : X) → list_any p xs ≡ false → i < length xs → p (get_or xs i d) ≡ false
list_any-false p xs i d none h =
    elim (p (get_or xs i d)) as (λ b. p (get_or xs i d) ≡ b → p (get_or xs i d) ≡ false) [ true ↦ λ e. absurd (let clash = list_any_at p xs i d h e in cc) | false ↦ λ e. e ] refl

-- each term names a row that stands where none names a bad one
pub named-at : (count : ℕ) (terms : List (ℕ × ℤ)) (i : ℕ) (d : ℕ × ℤ) → names_bad_row count terms ≡ false → i < length terms → (1 ≤ (get_or terms i d).0) × ((get_or terms i d).0 ≤ count)
named-at count terms i d none h = grind (arith, nat_tests, list_any-false _ terms i d none h)

-- the products from a term on
pub products-from : (vars : ℕ) (rows : List Row) (terms : List (ℕ × ℤ)) (k i : ℕ) (d : ℕ × ℤ) → i < length terms → products_at vars rows (drop i terms) k ≡ ((get_or terms i d).1 *ℤ entry_at vars (row_at rows (get_or terms i d).0) k) ∷ products_at vars rows (drop (i + 1) terms) k
products-from vars rows terms k i d h = rw (add-one, drop-cons terms i d h) refl

stays_narrow-cons : (sum product : ℤ) (products : List ℤ) → (is_narrow product && is_narrow (sum +ℤ product)) ≡ true → stays_narrow sum (product ∷ products) ≡ stays_narrow (sum +ℤ product) products
stays_narrow-cons sum product products h = rw h refl

total-cons : (sum product : ℤ) (products : List ℤ) → sum +ℤ total (product ∷ products) ≡ sum +ℤ product +ℤ total products
total-cons sum product products = omega (arith, ints)

-- what adding the product at place i answers, and what it says of the products from there on
module _ (vars : ℕ) (rows : List Row) (terms : List (ℕ × ℤ)) (k i : ℕ) (d : ℕ × ℤ) (sum product : ℤ) (within : i < length terms) (e : product ≡ (get_or terms i d).1 *ℤ entry_at vars (row_at rows (get_or terms i d).0) k) where
  -- the next product or the next sum passes the limit
  pub wide_where_none : (if is_narrow product && is_narrow (sum +ℤ product) then Some (sum +ℤ product) else None) ≡ None → stays_narrow sum (products_at vars rows (drop i terms) k) ≡ false
  wide_where_none h = rw (products-from vars rows terms k i d within, ← e) (grind arith)

  -- neither does
  pub narrow_where_some : (next : ℤ) → (if is_narrow product && is_narrow (sum +ℤ product) then Some (sum +ℤ product) else None) ≡ Some next → (stays_narrow sum (products_at vars rows (drop i terms) k) ≡ stays_narrow next (products_at vars rows (drop (i + 1) terms) k)) × (sum +ℤ total (products_at vars rows (drop i terms) k) ≡ next +ℤ total (products_at vars rows (drop (i + 1) terms) k))
  narrow_where_some next h =
      let parts : ((is_narrow product && is_narrow (sum +ℤ product)) ≡ true) × (sum +ℤ product ≡ next) = cond_some (is_narrow product && is_narrow (sum +ℤ product)) (sum +ℤ product) next h in
      let left = products_at vars rows (drop (i + 1) terms) k in
      rw (products-from vars rows terms k i d within, ← e, ← parts.1) (stays_narrow-cons sum product left parts.0, total-cons sum product left)
