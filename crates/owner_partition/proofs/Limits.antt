-- Trips in equal steps up to a limit, and those in a block.
use Rattle.std.proofs.Common.{◌≡◌, ◌≢◌, ◌↔◌, ℕ, zero, suc, ◌+◌, ◌*◌, ◌/◌, ◌^◌, ◌<◌, ◌≤◌, ℤ, pos, negsuc, ◌+ℤ◌, ◌-ℤ◌, ◌*ℤ◌, ◌≤ℤ◌, FitsSigned, unsigned_abs, int_div, int_lt, false, IsTrue, ◌==◌, refl, ap, sym, subst, ◌∙◌, arith}
use Rattle.std.specs.Int.{int_div_euclid, w128}
use Rattle.std.proofs.Math.Nat.{div-lt_iff_lt-mul, le-div_iff_mul-le}
use Rattle.std.proofs.lemmas.Bool.{eqb-true, eq-eqb}
use Rattle.std.proofs.Math.IntN.{*ℤ-zero}
use Rattle.std.proofs.lemmas.Nat.{mul-le}
use Rattle.std.proofs.lemmas.Int.{ints, fits_signed_from_abs, unsigned_abs-mul}
use Rattle.nest_walk.proofs.Products.{mul-less}
use Rattle.nest_walk.proofs.Steps.{abs-int_div}
use Rattle.nest_tree.specs.Layout.{count_of}
use Rattle.owner_partition.specs.declared.anchor.Dist.TheVariants.{Block}
use Rattle.owner_partition.specs.OwnTrips.{trip_owner}

-- how many trips of a positive rise lie up to a limit that the first one keeps
up_to : (d r n : ℕ) → 0 < r → (n < d / r + 1) ↔ (n * r ≤ d)
up_to d r n some =
    let quotient = le-div_iff_mul-le {k = r} {x = n} {y = d} some in
    ((λ h. quotient.0 (omega (arith, h))), λ h. let le = quotient.1 h in omega (arith, le))

pub up_to_limit : (start rise limit : ℤ) (n : ℕ) → pos 0 ≤ℤ rise → rise ≢ pos 0 → start ≤ℤ limit → (n < unsigned_abs (int_div (limit -ℤ start) rise) + 1) ↔ ((start +ℤ (pos n *ℤ rise)) ≤ℤ limit)
up_to_limit start (negsuc r) limit n low some le = absurd (omega (arith, ints, low))
up_to_limit start (pos zero) limit n low some le = absurd (some refl)
up_to_limit start (pos (suc r)) limit n low some le = gap (limit -ℤ start) refl
  where
    gap : (d : ℤ) → limit -ℤ start ≡ d → (n < unsigned_abs (int_div d (pos (suc r))) + 1) ↔ ((start +ℤ (pos n *ℤ pos (suc r))) ≤ℤ limit)
    gap (pos d) e = ((λ h. let le = (up_to d (suc r) n (omega arith)).0 h in omega (arith, ints, le, e)), λ h. (up_to d (suc r) n (omega arith)).1 (omega (arith, ints, h, e)))
    gap (negsuc d) e = absurd (omega (arith, ints, e, le))

pub difference_fits : (start limit : ℤ) → unsigned_abs start ≤ 2 ^ 125 → unsigned_abs limit ≤ 2 ^ 126 → FitsSigned w128 (limit -ℤ start)
difference_fits start limit a b = fits_signed_from_abs w128 (limit -ℤ start) (omega (arith, ints, a, b))

pub quotient_fits : (start rise limit : ℤ) → unsigned_abs start ≤ 2 ^ 125 → unsigned_abs limit ≤ 2 ^ 126 → FitsSigned w128 (int_div (limit -ℤ start) rise)
quotient_fits start rise limit a b =
    let near : unsigned_abs (limit -ℤ start) < 2 ^ 127 = omega (arith, ints, a, b) in
    fits_signed_from_abs w128 (int_div (limit -ℤ start) rise) (omega (arith, near, abs-int_div (limit -ℤ start) rise))

-- ---- blocks

-- a place is in the block of processor p exactly where it lies between the block's ends; processor 0 also has what lies below its block
pub block_is : (b p : ℕ) (w : ℤ) → 0 < b → (count_of (int_div_euclid w (pos b)) ≡ p) ↔ ((p ≢ 0 → pos (b * p) ≤ℤ w) × (w ≤ℤ (pos (b * p + b) -ℤ pos 1)))
block_is b p (pos a) some =
    let low : b * (a / b) ≤ a = omega (arith, some) in
    let high : a < b * (a / b) + b = omega (arith, some) in (
      (λ e. let s : b * (a / b) ≡ b * p = ap (λ q. b * q) e in ((λ h. omega (arith, ints, low, s)), omega (arith, ints, high, s))),
      λ (from, to).
          let less : a / b < p + 1 = (div-lt_iff_lt-mul some).1 (omega (arith, ints, to, some)) in
          let reached : p ≤ a / b = reaches p from in
          omega (arith, less, reached),
    )
  where
    reaches : (q : ℕ) → (q ≢ 0 → pos (b * q) ≤ℤ pos a) → q ≤ a / b
    reaches zero from = omega arith
    reaches (suc q) from = let h = from (λ e. absurd (omega (arith, e))) in (le-div_iff_mul-le some).1 (omega (arith, ints, h))
block_is b zero (negsuc a) some = (λ e. ((λ h. absurd (h refl)), omega (arith, ints, some)), λ h. refl)
block_is b (suc p) (negsuc a) some = (λ e. absurd (omega (arith, e)), λ (from, to). let h = from (λ e. absurd (omega (arith, e))) in absurd (omega (arith, ints, h)))

pub not_past : (a b : ℤ) → int_lt a b ≡ false → b ≤ℤ a
not_past a b h = grind (arith, ints, h)

pub not_below : (q : ℤ) (n : ℕ) → pos n ≤ℤ q → n < unsigned_abs q + 1
not_below (pos m) n h = omega (arith, ints, h)
not_below (negsuc m) n h = absurd (omega (arith, ints, h))

-- the trips up to a limit, without those below another
pub between_limits : (start rise low high : ℤ) (n first end : ℕ) → (n < first) ↔ ((start +ℤ (pos n *ℤ rise)) ≤ℤ (low -ℤ pos 1)) → (n < end) ↔ ((start +ℤ (pos n *ℤ rise)) ≤ℤ high) →
    ((low ≤ℤ (start +ℤ (pos n *ℤ rise))) × ((start +ℤ (pos n *ℤ rise)) ≤ℤ high)) ↔ ((first ≤ n) × (n < end))
between_limits start rise low high n first end lower upper = by_place (start +ℤ (pos n *ℤ rise)) lower upper
  where
    by_place : (w : ℤ) → (n < first) ↔ (w ≤ℤ (low -ℤ pos 1)) → (n < end) ↔ (w ≤ℤ high) → ((low ≤ℤ w) × (w ≤ℤ high)) ↔ ((first ≤ n) × (n < end))
    by_place w lower upper =
        let before = lower.0 in
        let past = lower.1 in
        ((λ (from, to). (grind (arith, ints, from, before), upper.1 to)), λ (from, to). (grind (arith, ints, from, past), upper.0 to))

-- the place of a trip is small
pub place_small : (start rise : ℤ) (count n : ℕ) → unsigned_abs start ≤ 2 ^ 125 → unsigned_abs rise ≤ 2 ^ 62 → count ≤ 2 ^ 32 → n < count → unsigned_abs (start +ℤ (pos n *ℤ rise)) < 2 ^ 126
place_small start rise count n a b c lt =
    let size = mul-le n (unsigned_abs rise) (2 ^ 32) (2 ^ 62) (omega (arith, c, lt)) b in
    let product : unsigned_abs (pos n *ℤ rise) ≡ n * unsigned_abs rise = unsigned_abs-mul (pos n) rise in
    let near : unsigned_abs (pos n *ℤ rise) ≤ 2 ^ 94 = omega (arith, product, size) in
    sum_small start (pos n *ℤ rise) a near
  where
    sum_small : (x y : ℤ) → unsigned_abs x ≤ 2 ^ 125 → unsigned_abs y ≤ 2 ^ 94 → unsigned_abs (x +ℤ y) < 2 ^ 126
    sum_small x y a b = omega (arith, ints, a, b)

-- a trip is a processor's exactly where its place lies between the ends of its block
pub block_trip : (b workers p : ℕ) (start rise low high : ℤ) (n first end : ℕ) → 0 < b → (low ≤ℤ (start +ℤ (pos n *ℤ rise))) ↔ (p ≢ 0 → pos (b * p) ≤ℤ (start +ℤ (pos n *ℤ rise))) → high ≡ pos (b * p + b) -ℤ pos 1 →
    ((low ≤ℤ (start +ℤ (pos n *ℤ rise))) × ((start +ℤ (pos n *ℤ rise)) ≤ℤ high)) ↔ ((first ≤ n) × (n < end)) → IsTrue (trip_owner (Block b) workers start rise n == p) ↔ ((first ≤ n) × (n < end))
block_trip b workers p start rise low high n first end some lower top reached =
    let w = start +ℤ (pos n *ℤ rise) in
    let block = block_is b p w some in (
      (λ h. let parts = block.0 (eqb-true _ _ h) in reached.0 (lower.1 parts.0, subst (λ z. w ≤ℤ z) (sym top) parts.1)),
      λ h. let parts = reached.1 h in eq-eqb _ _ (block.1 (lower.0 parts.0, subst (λ z. w ≤ℤ z) top parts.1)),
    )

-- the same by the places with the other sign
pub turned_round : (start rise low high : ℤ) (n first end : ℕ) → (((pos 0 -ℤ high) ≤ℤ ((pos 0 -ℤ start) +ℤ (pos n *ℤ (pos 0 -ℤ rise)))) × (((pos 0 -ℤ start) +ℤ (pos n *ℤ (pos 0 -ℤ rise))) ≤ℤ (pos 0 -ℤ low))) ↔ ((first ≤ n) × (n < end)) →
    ((low ≤ℤ (start +ℤ (pos n *ℤ rise))) × ((start +ℤ (pos n *ℤ rise)) ≤ℤ high)) ↔ ((first ≤ n) × (n < end))
turned_round start rise low high n first end turned =
    let product : pos n *ℤ (pos 0 -ℤ rise) ≡ pos 0 -ℤ pos n *ℤ rise = mul-less (pos n) (pos 0) rise ∙ ap (λ z. z -ℤ pos n *ℤ rise) (*ℤ-zero (pos n)) in (
      (λ (from, to). turned.0 (omega (arith, ints, product, to), omega (arith, ints, product, from))),
      λ h. let parts = turned.1 h in (omega (arith, ints, product, parts.1), omega (arith, ints, product, parts.0)),
    )
