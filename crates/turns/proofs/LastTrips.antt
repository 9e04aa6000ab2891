-- A loop is in its last trip exactly where its value with one step more is past the last bound.
use Rattle.std.proofs.Common.{◌≡◌, ℕ, zero, suc, ◌+◌, ◌*◌, ◌/◌, ◌<◌, ◌≤◌, ℤ, pos, negsuc, ◌+ℤ◌, ◌-ℤ◌, ◌*ℤ◌, ◌≤ℤ◌, ◌<ℤ◌, true, false, if◌then◌else◌, refl, ap, ◌∙◌, arith}
use Rattle.std.specs.Prelude.{int_div}
use Rattle.std.specs.Int.Signed.{lt_z}
use Rattle.std.proofs.lemmas.Int.{ints}
use Rattle.std.proofs.Math.Nat.{lt-mul-div-succ, mul-le-mul_left}
use Rattle.nest_tree.specs.Layout.{count_of}
use Rattle.nest_model.specs.Instances.{trip_count}
use Rattle.nest_model.proofs.Spans.{down, up}
use Rattle.own_cells.specs.FinalTrips.{is_past}

-- ---- a trip that isn't made is past the last bound

past_quotient : (n d k : ℕ) → d / suc k ≤ n → d < suc k * n + suc k
past_quotient n d k le =
    let whole : d < suc k * (d / suc k + 1) = lt-mul-div-succ d (omega arith) in
    let step : suc k * (d / suc k + 1) ≤ suc k * (n + 1) = mul-le-mul_left (suc k) (omega (arith, le)) in
    let sum : suc k * (n + 1) ≡ suc k * n + suc k = omega arith in
    omega (arith, whole, step, sum)

up_past : (n k : ℕ) (m1 m2 span : ℤ) → span ≡ m2 -ℤ m1 +ℤ pos (suc k) → count_of (int_div span (pos (suc k))) ≤ n → m2 <ℤ (m1 +ℤ (pos n *ℤ pos (suc k)))
up_past n k m1 m2 (pos d) e le = let high = past_quotient n d k le in omega (arith, ints, e, high)
up_past n k m1 m2 (negsuc d) e le = omega (arith, ints, e)

down_past : (n k : ℕ) (m1 m2 span : ℤ) → span ≡ m2 -ℤ m1 +ℤ negsuc k → count_of (int_div span (negsuc k)) ≤ n → (m1 +ℤ (pos n *ℤ negsuc k)) <ℤ m2
down_past n k m1 m2 (pos d) e le = omega (arith, ints, e)
down_past n k m1 m2 (negsuc d) e le = let high = past_quotient n (suc d) k le in omega (arith, ints, e, high)

lt_true : (a b : ℤ) → a <ℤ b → lt_z a b ≡ true
lt_true a b h = grind (arith, ints)

lt_false : (a b : ℤ) → b ≤ℤ a → lt_z a b ≡ false
lt_false a b h = grind (arith, ints)

-- ---- one step more

up_is : (value last : ℤ) (k : ℕ) → is_past value (pos (suc k)) last ≡ lt_z last (value +ℤ pos (suc k))
up_is value last k = ap (λ b. if b then lt_z last (value +ℤ pos (suc k)) else lt_z (value +ℤ pos (suc k)) last) (lt_true (pos 0) (pos (suc k)) (omega (arith, ints)))

down_is : (value last : ℤ) (k : ℕ) → is_past value (negsuc k) last ≡ lt_z (value +ℤ negsuc k) last
down_is value last k = ap (λ b. if b then lt_z last (value +ℤ negsuc k) else lt_z (value +ℤ negsuc k) last) (lt_false (pos 0) (negsuc k) (omega (arith, ints)))

pub past_last : (m1 m2 m3 : ℤ) (n : ℕ) → trip_count m1 m2 m3 ≤ suc n → (m3 ≡ pos 0 → ⊥) → is_past (m1 +ℤ (pos n *ℤ m3)) m3 m2 ≡ true
past_last m1 m2 (pos zero) n le moves = absurd (moves refl)
past_last m1 m2 (pos (suc k)) n le moves =
    let far = up_past (suc n) k m1 m2 (m2 -ℤ m1 +ℤ pos (suc k)) refl le in
    up_is (m1 +ℤ (pos n *ℤ pos (suc k))) m2 k ∙ lt_true m2 (m1 +ℤ (pos n *ℤ pos (suc k)) +ℤ pos (suc k)) (omega (arith, ints, far))
past_last m1 m2 (negsuc k) n le moves =
    let far = down_past (suc n) k m1 m2 (m2 -ℤ m1 +ℤ negsuc k) refl le in
    down_is (m1 +ℤ (pos n *ℤ negsuc k)) m2 k ∙ lt_true (m1 +ℤ (pos n *ℤ negsuc k) +ℤ negsuc k) m2 (omega (arith, ints, far))

pub not_past : (m1 m2 m3 : ℤ) (n : ℕ) → suc n < trip_count m1 m2 m3 → (m3 ≡ pos 0 → ⊥) → is_past (m1 +ℤ (pos n *ℤ m3)) m3 m2 ≡ false
not_past m1 m2 (pos zero) n lt moves = absurd (moves refl)
not_past m1 m2 (pos (suc k)) n lt moves =
    let near = (up (suc n) k m1 m2 lt).1 in
    up_is (m1 +ℤ (pos n *ℤ pos (suc k))) m2 k ∙ lt_false m2 (m1 +ℤ (pos n *ℤ pos (suc k)) +ℤ pos (suc k)) (omega (arith, ints, near))
not_past m1 m2 (negsuc k) n lt moves =
    let near = (down (suc n) k m1 m2 lt).0 in
    down_is (m1 +ℤ (pos n *ℤ negsuc k)) m2 k ∙ lt_false (m1 +ℤ (pos n *ℤ negsuc k) +ℤ negsuc k) m2 (omega (arith, ints, near))
