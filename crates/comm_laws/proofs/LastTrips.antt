-- A loop is in its last trip where its value with one step more is past its end.
use Rattle.std.proofs.Common.{◌≡◌, ℕ, zero, suc, ◌+◌, ◌*◌, ◌/◌, ◌%◌, ◌<◌, ℤ, pos, negsuc, neg_ℤ, ◌+ℤ◌, ◌-ℤ◌, ◌*ℤ◌, ◌≤ℤ◌, true, true≢false, Some, map, unsigned_abs, refl, ap, sym, ◌∙◌, subst, arith}
use Rattle.std.specs.Prelude.{int_div}
use Rattle.std.specs.List.{range_with_len}
use Rattle.std.proofs.lemmas.Bool.{le-leb}
use Rattle.std.proofs.lemmas.Bool.Decides.{Decides-int_eq}
use Rattle.std.proofs.lemmas.Int.{ints}
use Rattle.nest_tree.specs.Layout.{count_of}
use Rattle.nest_model.specs.Instances.{trip_count, trips}
use Rattle.nest_model.proofs.Spans.{down, up}
use Rattle.sync_plan.specs.Conflicts.{is_value, last_value}
use Rattle.comm_system.specs.Meetings.{IsBehind, IsPast}

-- ---- one trip more is past the end

pub over_quotient : (d m : ℕ) → 0 < m → d < m * (d / m) + m
over_quotient d m some =
    let rem : d % m < m = omega (arith, some) in
    let whole : m * (d / m) + d % m ≡ d = omega (arith, some) in
    omega (arith, rem, whole)

none_below : (q : ℕ) → count_of (neg_ℤ (pos q)) ≡ 0
none_below zero = refl
none_below (suc q) = refl

up_past : (n k d : ℕ) (m1 m2 : ℤ) → pos d ≡ m2 -ℤ m1 +ℤ pos (suc k) → d < suc k * n + suc k → (m2 +ℤ pos 1) ≤ℤ (m1 +ℤ (pos n *ℤ pos (suc k)))
up_past n k d m1 m2 e over = omega (arith, ints, e, over)

past_up : (n k : ℕ) (m1 m2 span : ℤ) → span ≡ m2 -ℤ m1 +ℤ pos (suc k) → count_of (int_div span (pos (suc k))) ≡ suc n → (m2 +ℤ pos 1) ≤ℤ (m1 +ℤ (pos (suc n) *ℤ pos (suc k)))
past_up n k m1 m2 (pos d) e is = up_past (suc n) k d m1 m2 e (subst (λ q. d < suc k * q + suc k) is (over_quotient d (suc k) (omega arith)))
past_up n k m1 m2 (negsuc d) e is = absurd (omega (arith, is, none_below (suc d / suc k)))

down_past : (n k d : ℕ) (m1 m2 : ℤ) → negsuc d ≡ m2 -ℤ m1 +ℤ negsuc k → suc d < suc k * n + suc k → ((m1 +ℤ (pos n *ℤ negsuc k)) +ℤ pos 1) ≤ℤ m2
down_past n k d m1 m2 e over = omega (arith, ints, e, over)

past_down : (n k : ℕ) (m1 m2 span : ℤ) → span ≡ m2 -ℤ m1 +ℤ negsuc k → count_of (int_div span (negsuc k)) ≡ suc n → ((m1 +ℤ (pos (suc n) *ℤ negsuc k)) +ℤ pos 1) ≤ℤ m2
past_down n k m1 m2 (pos d) e is = absurd (omega (arith, is, none_below (d / suc k)))
past_down n k m1 m2 (negsuc d) e is = down_past (suc n) k d m1 m2 e (subst (λ q. suc d < suc k * q + suc k) is (over_quotient (suc d) (suc k) (omega arith)))

-- ---- the last of a loop's values

last_range : (f : ℕ → ℤ) (a n : ℕ) → last_value (map f (range_with_len a (suc n))) ≡ Some (f (a + n))
last_range f a zero = let same : a ≡ a + 0 = omega arith in ap (λ k. Some (f k)) same
last_range f a (suc n) = let same : a + 1 + n ≡ a + suc n = omega arith in last_range f (a + 1) n ∙ ap (λ k. Some (f k)) same

-- it is that of the trip behind which there is none
pub record IsLastTrip (m1 m2 step value : ℤ) : Type 0 where
  pub trip : ℕ
  pub count : trip_count m1 m2 step ≡ suc trip
  pub is : m1 +ℤ (pos trip *ℤ step) ≡ value

last_trip : (m1 m2 step value : ℤ) → is_value (last_value (trips m1 m2 step)) value ≡ true → IsLastTrip m1 m2 step value
last_trip m1 m2 step value is = by (trip_count m1 m2 step) refl
  where
    by : (n : ℕ) → trip_count m1 m2 step ≡ n → IsLastTrip m1 m2 step value
    by zero e = absurd (true≢false (sym is ∙ ap (λ n. is_value (last_value (map (λ k. m1 +ℤ (pos k *ℤ step)) (range_with_len 0 n))) value) e))
    by (suc n) e =
        let front : 0 + n ≡ n = omega arith in
        let last : last_value (trips m1 m2 step) ≡ Some (m1 +ℤ (pos n *ℤ step)) = ap (λ n. last_value (map (λ k. m1 +ℤ (pos k *ℤ step)) (range_with_len 0 n))) e ∙ last_range (λ k. m1 +ℤ (pos k *ℤ step)) 0 n ∙ ap (λ k. Some (m1 +ℤ (pos k *ℤ step))) front in
        record { trip = n; count = e; is = (Decides-int_eq (m1 +ℤ (pos n *ℤ step)) value).0 (sym (ap (λ o. is_value o value) last) ∙ is) }

pub last_past : (m1 m2 step value : ℤ) → 0 < unsigned_abs step → is_value (last_value (trips m1 m2 step)) value ≡ true → IsPast step (value +ℤ step) m2
last_past m1 m2 (pos zero) value moves is = absurd (omega (arith, moves))
last_past m1 m2 (pos (suc k)) value moves is =
    let l = last_trip m1 m2 (pos (suc k)) value is in
    let over = past_up l.trip k m1 m2 (m2 -ℤ m1 +ℤ pos (suc k)) refl l.count in
    let past : (m2 +ℤ pos 1) ≤ℤ (value +ℤ pos (suc k)) = omega (arith, ints, over, l.is) in
    subst (λ b. IsBehind b (value +ℤ pos (suc k)) m2) (sym (le-leb 0 (suc k) (omega arith))) past
last_past m1 m2 (negsuc k) value moves is =
    let l = last_trip m1 m2 (negsuc k) value is in
    let over = past_down l.trip k m1 m2 (m2 -ℤ m1 +ℤ negsuc k) refl l.count in
    let past : ((value +ℤ negsuc k) +ℤ pos 1) ≤ℤ m2 = omega (arith, ints, over, l.is) in
    past

-- no trip comes behind it
pub none_later : (m1 m2 step value : ℤ) (n k : ℕ) → 0 < unsigned_abs step → IsPast step (value +ℤ step) m2 → value ≡ m1 +ℤ (pos n *ℤ step) → n < k → k < trip_count m1 m2 step → ⊥
none_later m1 m2 (pos zero) value n k moves past at less within = omega (arith, moves)
none_later m1 m2 (pos (suc s)) value n k moves past at less within =
    let over : (m2 +ℤ pos 1) ≤ℤ (value +ℤ pos (suc s)) = subst (λ b. IsBehind b (value +ℤ pos (suc s)) m2) (le-leb 0 (suc s) (omega arith)) past in
    let end = (up (suc n) s m1 m2 (omega (arith, less, within))).1 in
    omega (arith, ints, over, end, at)
none_later m1 m2 (negsuc s) value n k moves past at less within =
    let over : ((value +ℤ negsuc s) +ℤ pos 1) ≤ℤ m2 = past in
    let end = (down (suc n) s m1 m2 (omega (arith, less, within))).0 in
    omega (arith, ints, over, end, at)
