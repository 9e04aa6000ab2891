-- The last trip of a loop.
use Rattle.std.proofs.Common.{◌≡◌, ◌≢◌, ◌↔◌, ℕ, zero, suc, ◌+◌, ◌/◌, ◌<◌, ℤ, pos, negsuc, ◌+ℤ◌, ◌-ℤ◌, ◌*ℤ◌, ◌≤ℤ◌, int_div, Bool, true, false, map, Some, None, if◌then◌else◌, refl, ap, sym, ◌∙◌, arith}
use Rattle.std.specs.List.{range_with_len}
use Rattle.std.proofs.Math.Nat.{le-div_iff_mul-le}
use Rattle.std.proofs.lemmas.Int.{ints}
use Rattle.std.proofs.lemmas.List.FromFn.{map-range_with_len_more}
use Rattle.nest_model.specs.Instances.{trip_count, trips}
use Rattle.sync_plan.specs.Conflicts.{last_value}
use Rattle.spmd_model.proofs.LastStores.{last_there}
use Rattle.thread_code.proofs.TripCounts.{counts_down, counts_up, same_count}
use Rattle.thread_acts.specs.ThreadDeeds.{has_trips, last_trip}

-- of so many
last_of : (f : ℕ → ℤ) (n : ℕ) → last_value (map f (range_with_len 0 (suc n))) ≡ Some (f n)
last_of f n =
    let more : suc n ≡ n + 1 = omega arith in
    ap (λ k. last_value (map f (range_with_len 0 k))) more ∙ ap last_value (map-range_with_len_more f 0 n n (omega arith)) ∙ last_there (map f (range_with_len 0 n)) (f n)

-- a loop that has trips makes one more than its last one has in front of it
many : (m1 m2 s : ℤ) → s ≢ pos 0 → has_trips m1 m2 s ≡ true → (q : ℕ) × (trip_count m1 m2 s ≡ suc q) × (int_div (m2 -ℤ m1) s ≡ pos q)
many m1 m2 (pos zero) moves some = absurd (moves refl)
many m1 m2 (pos (suc j)) moves some = by (m2 -ℤ m1) refl
  where
    up : m1 ≤ℤ m2
    up = grind (arith, ints, some)

    by : (d : ℤ) → m2 -ℤ m1 ≡ d → (q : ℕ) × (trip_count m1 m2 (pos (suc j)) ≡ suc q) × (int_div d (pos (suc j)) ≡ pos q)
    by (negsuc d) e = absurd (omega (arith, ints, e, up))
    by (pos d) e =
        let each : (k : ℕ) → (k < trip_count m1 m2 (pos (suc j))) ↔ (k < suc (d / suc j)) = λ k.
        let counted = counts_up k j m1 m2 in
        let quotient = le-div_iff_mul-le {k = suc j} {x = k} {y = d} (omega arith) in (
          (λ h. let at = counted.0 h in let le = quotient.1 (omega (arith, ints, at, e)) in omega (arith, le)),
          λ h. let le = quotient.0 (omega (arith, h)) in counted.1 (omega (arith, ints, le, e)),
        ) in
        (d / suc j, same_count (trip_count m1 m2 (pos (suc j))) (suc (d / suc j)) each, refl)
many m1 m2 (negsuc j) moves some = by (m2 -ℤ m1) refl
  where
    down : m2 ≤ℤ m1
    down = grind (arith, ints, some)

    counts : (d : ℕ) → m1 -ℤ m2 ≡ pos d → trip_count m1 m2 (negsuc j) ≡ suc (d / suc j)
    counts d e =
        same_count (trip_count m1 m2 (negsuc j)) (suc (d / suc j)) (λ k.
        let counted = counts_down k j m1 m2 in
        let quotient = le-div_iff_mul-le {k = suc j} {x = k} {y = d} (omega arith) in (
          (λ h. let at = counted.0 h in let le = quotient.1 (omega (arith, ints, at, e)) in omega (arith, le)),
          λ h. let le = quotient.0 (omega (arith, h)) in counted.1 (omega (arith, ints, le, e)),
        ))

    by : (d : ℤ) → m2 -ℤ m1 ≡ d → (q : ℕ) × (trip_count m1 m2 (negsuc j) ≡ suc q) × (int_div d (negsuc j) ≡ pos q)
    by (pos zero) e = (0 / suc j, counts 0 (omega (arith, ints, e)), omega (arith, ints))
    by (pos (suc d)) e = absurd (omega (arith, ints, e, down))
    by (negsuc d) e = (suc d / suc j, counts (suc d) (omega (arith, ints, e)), refl)

-- one that has none makes none
none : (m1 m2 s : ℤ) → s ≢ pos 0 → has_trips m1 m2 s ≡ false → trip_count m1 m2 s ≡ 0
none m1 m2 (pos zero) moves lacks = absurd (moves refl)
none m1 m2 (pos (suc j)) moves lacks =
    let past : (m1 ≤ℤ m2) → ⊥ = λ le. grind (arith, ints, lacks, le) in
    same_count (trip_count m1 m2 (pos (suc j))) 0 (λ k. ((λ h. absurd (past (let at = (counts_up k j m1 m2).0 h in omega (arith, ints, at)))), λ h. absurd (omega (arith, h))))
none m1 m2 (negsuc j) moves lacks =
    let past : (m2 ≤ℤ m1) → ⊥ = λ le. grind (arith, ints, lacks, le) in
    same_count (trip_count m1 m2 (negsuc j)) 0 (λ k. ((λ h. absurd (past (let at = (counts_down k j m1 m2).0 h in omega (arith, ints, at)))), λ h. absurd (omega (arith, h))))

pub last_is : (m1 m2 s : ℤ) → s ≢ pos 0 → (b : Bool) → has_trips m1 m2 s ≡ b → last_value (trips m1 m2 s) ≡ (if b then Some (last_trip m1 m2 s) else None)
last_is m1 m2 s moves true some =
    let f : ℕ → ℤ = λ n. m1 +ℤ (pos n *ℤ s) in
    let found = many m1 m2 s moves some in
    ap (λ n. last_value (map f (range_with_len 0 n))) found.1 ∙ last_of f found.0 ∙ ap (λ z. Some (m1 +ℤ (z *ℤ s))) (sym found.2)
last_is m1 m2 s moves false lacks = ap (λ n. last_value (map (λ k. m1 +ℤ (pos k *ℤ s)) (range_with_len 0 n))) (none m1 m2 s moves lacks)
