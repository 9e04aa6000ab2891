-- What is made pair by pair, and turning by turning.
use Rattle.std.proofs.Common.{◌≡◌, ℕ, ◌+◌, ◌<◌, ◌==◌, not, ℤ, pos, ◌*ℤ◌, Bool, true, false, List, [], ◌∷◌, ◌++◌, length, drop, get_or, below_more, if◌then◌else◌, append_assoc, refl, ap, sym, subst, ◌∙◌, arith}
use Rattle.std.specs.Prelude.{slice_get}
use Rattle.std.specs.Int.{int_rem_euclid}
use Rattle.std.specs.List.{filter}
use Rattle.std.proofs.lemmas.Int.{ints}
use Rattle.std.proofs.lemmas.List.{drop_more, map-append}
use Rattle.list_lemmas.proofs.Gets.{get-front, get-behind}
use Rattle.owner_partition.specs.OwnInstances.{coefficient_of}
use Rattle.thread_code.specs.Closed.{IsTurningOf}
use Rattle.thread_code.specs.Code.{reduced_pairs, times_pairs}
use Rattle.thread_code.specs.Tables.{lone, table_of}
use Rattle.thread_code.specs.declared.turnings.Turning.{Turning}
use Rattle.std.specs.Prelude.{unwrap_or}

-- ---- pairs

pub pairs-more : (pairs : List (ℕ × ℤ)) (i : ℕ) (p : ℕ × ℤ) → i < length pairs → p ≡ get_or pairs i p → drop i pairs ≡ p ∷ drop (i + 1) pairs
pairs-more pairs i p lt is = drop_more pairs i p lt ∙ ap (λ q. q ∷ drop (i + 1) pairs) (sym is)

pub coefficient-here : (pairs : List (ℕ × ℤ)) (n m : ℕ) (c : ℤ) → (m == n) ≡ true → coefficient_of ((m, c) ∷ pairs) n ≡ c
coefficient-here pairs n m c e = ap (λ (b : Bool). if b then c else coefficient_of pairs n) e

pub coefficient-behind : (pairs : List (ℕ × ℤ)) (n m : ℕ) (c : ℤ) → (m == n) ≡ false → coefficient_of ((m, c) ∷ pairs) n ≡ coefficient_of pairs n
coefficient-behind pairs n m c e = ap (λ (b : Bool). if b then c else coefficient_of pairs n) e

pub others-more : (found pairs : List (ℕ × ℤ)) (n : ℕ) (p : ℕ × ℤ) → (p.0 == n) ≡ false → (found ++ p ∷ []) ++ filter (λ (q : ℕ × ℤ). not (q.0 == n)) pairs ≡ found ++ filter (λ (q : ℕ × ℤ). not (q.0 == n)) (p ∷ pairs)
others-more found pairs n p e =
    let rest = filter (λ (q : ℕ × ℤ). not (q.0 == n)) pairs in
    append_assoc found (p ∷ []) rest ∙ sym (ap (λ (b : Bool). found ++ (if not b then p ∷ rest else rest)) e)

pub others-same : (found pairs : List (ℕ × ℤ)) (n : ℕ) (p : ℕ × ℤ) → (p.0 == n) ≡ true → found ++ filter (λ (q : ℕ × ℤ). not (q.0 == n)) pairs ≡ found ++ filter (λ (q : ℕ × ℤ). not (q.0 == n)) (p ∷ pairs)
others-same found pairs n p e =
    let rest = filter (λ (q : ℕ × ℤ). not (q.0 == n)) pairs in
    sym (ap (λ (b : Bool). found ++ (if not b then p ∷ rest else rest)) e)

pub reduced-more : (workers : ℕ) (factor : ℤ) (found pairs : List (ℕ × ℤ)) (p : ℕ × ℤ) (z : ℤ) → z ≡ int_rem_euclid (factor *ℤ p.1) (pos workers) →
    (found ++ (p.0, z) ∷ []) ++ reduced_pairs workers (times_pairs factor pairs) ≡ found ++ reduced_pairs workers (times_pairs factor (p ∷ pairs))
reduced-more workers factor found pairs p z is =
    let rest = reduced_pairs workers (times_pairs factor pairs) in
    append_assoc found ((p.0, z) ∷ []) rest ∙ ap (λ x. found ++ (p.0, x) ∷ rest) is

-- once is the same
pub times-one : (pairs : List (ℕ × ℤ)) → times_pairs (pos 1) pairs ≡ pairs
times-one [] = refl
times-one (p ∷ pairs) = let one : pos 1 *ℤ p.1 ≡ p.1 = omega (arith, ints) in ap (λ z. (p.0, z) ∷ times_pairs (pos 1) pairs) one ∙ ap (λ ps. p ∷ ps) (times-one pairs)

-- two lists of them, one behind the other
pub reduced-both : (workers : ℕ) (factor : ℤ) (one two : List (ℕ × ℤ)) → reduced_pairs workers (times_pairs (pos 1) one) ++ reduced_pairs workers (times_pairs factor two) ≡ reduced_pairs workers (one ++ times_pairs factor two)
reduced-both workers factor one two =
    ap (λ ps. reduced_pairs workers ps ++ reduced_pairs workers (times_pairs factor two)) (times-one one)
    ∙ sym (map-append (λ (p : ℕ × ℤ). (p.0, int_rem_euclid p.1 (pos workers))) one (times_pairs factor two))

-- ---- turnings

pub more_turnings : (workers n : ℕ) (made : List Turning) (t : Turning) → length made ≡ n → ((r : ℕ) → r < n → IsTurningOf workers r (table_of made r)) → IsTurningOf workers n t → (r : ℕ) → r < n + 1 → IsTurningOf workers r (table_of (made ++ t ∷ []) r)
more_turnings workers n made t long each here =
    below_more _ _ (λ r lt. subst (IsTurningOf workers r) (sym (ap (λ o. unwrap_or o lone) (get-front made (t ∷ []) r (omega (arith, long, lt))))) (each r lt))
    (let last : length made + 0 ≡ n = omega (arith, long) in
    subst (IsTurningOf workers n) (sym (ap (λ k. unwrap_or (slice_get (made ++ t ∷ []) k) lone) (sym last) ∙ ap (λ o. unwrap_or o lone) (get-behind made (t ∷ []) 0))) here)
