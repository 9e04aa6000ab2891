-- The order of elimination names each unknown once.
use Rattle.std.proofs.Common.{◌≡◌, ℕ, zero, suc, ◌+◌, ◌-◌, ◌*◌, ◌/◌, ◌≤◌, min, List, [], ◌∷◌, ◌++◌, length, append_assoc, map, refl, ap, sym, ◌∙◌, subst, arith}
use Rattle.std.specs.List.{range_with_len}
use Rattle.std.specs.List.Sorted.{IsPermutation}
use Rattle.std.proofs.lemmas.List.FromFn.{map-range_with_len_more}
use Rattle.std.proofs.lemmas.List.Sorted.{IsPermutation-append_left, IsPermutation-append_right, IsPermutation-refl, IsPermutation-to_front, IsPermutation-trans}
use Rattle.list_lemmas.proofs.Ranges.{range_split}
use Rattle.fm_elim.specs.Answers.{NamesEachOnce}
use Rattle.range_check.specs.RangeSystems.{elimination_order, in_steps, order_over}
use Rattle.presolve.specs.Columns.{AreRising}

-- one loop more: its value behind the other values, and its trip behind the other trips
one-more : (vs ts : List ℕ) (x y : ℕ) → IsPermutation ((vs ++ ts) ++ (x ∷ y ∷ [])) ((vs ++ x ∷ []) ++ (ts ++ y ∷ []))
one-more vs ts x y =
    let inner = IsPermutation-append_left (y ∷ []) (ts ++ x ∷ []) (x ∷ ts) (IsPermutation-to_front ts x) in
    let whole = IsPermutation-append_right vs ((ts ++ x ∷ []) ++ y ∷ []) ((x ∷ ts) ++ y ∷ []) inner in
    let left : vs ++ ((ts ++ x ∷ []) ++ y ∷ []) ≡ (vs ++ ts) ++ (x ∷ y ∷ []) = ap (λ zs. vs ++ zs) (append_assoc ts (x ∷ []) (y ∷ [])) ∙ sym (append_assoc vs ts (x ∷ y ∷ [])) in
    let right : vs ++ ((x ∷ ts) ++ y ∷ []) ≡ (vs ++ x ∷ []) ++ (ts ++ y ∷ []) = sym (append_assoc vs (x ∷ []) (ts ++ y ∷ [])) in
    subst (λ zs. IsPermutation zs ((vs ++ x ∷ []) ++ (ts ++ y ∷ []))) left (subst (IsPermutation (vs ++ ((ts ++ x ∷ []) ++ y ∷ []))) right whole)

loops-once : (c d : ℕ) → IsPermutation (range_with_len (1 + c) (2 * d)) (map (λ k. c + 1 + 2 * k) (range_with_len 0 d) ++ map (λ k. c + 2 + 2 * k) (range_with_len 0 d))
loops-once c zero = IsPermutation-refl []
loops-once c (suc d) =
    let vs = map (λ k. c + 1 + 2 * k) (range_with_len 0 d) in
    let ts = map (λ k. c + 2 + 2 * k) (range_with_len 0 d) in
    let x = c + 1 + 2 * d in
    let y = c + 2 + 2 * d in
    let size : 2 * suc d ≡ 2 * d + 2 = omega arith in
    let next : suc d ≡ d + 1 = omega arith in
    let at : 1 + c + 2 * d ≡ x = omega arith in
    let after : x + 1 ≡ y = omega arith in
    let split : range_with_len (1 + c) (2 * suc d) ≡ range_with_len (1 + c) (2 * d) ++ (x ∷ y ∷ []) =
    ap (range_with_len (1 + c)) size ∙ range_split (1 + c) (2 * d) 2 ∙ ap (λ n. range_with_len (1 + c) (2 * d) ++ (n ∷ (n + 1) ∷ [])) at ∙ ap (λ n. range_with_len (1 + c) (2 * d) ++ (x ∷ n ∷ [])) after in
    let values : map (λ k. c + 1 + 2 * k) (range_with_len 0 (suc d)) ≡ vs ++ x ∷ [] = ap (λ n. map (λ k. c + 1 + 2 * k) (range_with_len 0 n)) next ∙ map-range_with_len_more (λ k. c + 1 + 2 * k) 0 d d (omega arith) in
    let trips : map (λ k. c + 2 + 2 * k) (range_with_len 0 (suc d)) ≡ ts ++ y ∷ [] = ap (λ n. map (λ k. c + 2 + 2 * k) (range_with_len 0 n)) next ∙ map-range_with_len_more (λ k. c + 2 + 2 * k) 0 d d (omega arith) in
    let before = IsPermutation-append_left (x ∷ y ∷ []) (range_with_len (1 + c) (2 * d)) (vs ++ ts) (loops-once c d) in
    let moved = IsPermutation-trans (range_with_len (1 + c) (2 * d) ++ (x ∷ y ∷ [])) ((vs ++ ts) ++ (x ∷ y ∷ [])) ((vs ++ x ∷ []) ++ (ts ++ y ∷ [])) before (one-more vs ts x y) in
    subst (λ zs. IsPermutation zs (map (λ k. c + 1 + 2 * k) (range_with_len 0 (suc d)) ++ map (λ k. c + 2 + 2 * k) (range_with_len 0 (suc d)))) (sym split)
    (subst (λ zs. IsPermutation (range_with_len (1 + c) (2 * d) ++ (x ∷ y ∷ [])) (zs ++ map (λ k. c + 2 + 2 * k) (range_with_len 0 (suc d)))) (sym values)
    (subst (λ zs. IsPermutation (range_with_len (1 + c) (2 * d) ++ (x ∷ y ∷ [])) ((vs ++ x ∷ []) ++ zs)) (sym trips) moved))

-- numbers one by one
ones : (a n k : ℕ) → map (λ j. a + 1 * j) (range_with_len k n) ≡ range_with_len (a + k) n
ones a zero k = refl
ones a (suc n) k =
    let here : a + 1 * k ≡ a + k = omega arith in
    let next : a + (k + 1) ≡ a + k + 1 = omega arith in
    ap (λ x. x ∷ map (λ j. a + 1 * j) (range_with_len (k + 1) n)) here ∙ ap (λ xs. (a + k) ∷ xs) (ones a n (k + 1) ∙ ap (λ b. range_with_len b n) next)

pub order-once : (c d : ℕ) → NamesEachOnce (c + 2 * d) (elimination_order c d)
order-once c d =
    let front : range_with_len 1 c ≡ in_steps 1 1 c = sym (ones 1 c 0) in
    let whole = IsPermutation-append_right (range_with_len 1 c) (range_with_len (1 + c) (2 * d)) (in_steps (c + 1) 2 d ++ in_steps (c + 2) 2 d) (loops-once c d) in
    subst (λ zs. IsPermutation zs (elimination_order c d)) (sym (range_split 1 c (2 * d)))
    (subst (λ zs. IsPermutation (range_with_len 1 c ++ range_with_len (1 + c) (2 * d)) (zs ++ (in_steps (c + 1) 2 d ++ in_steps (c + 2) 2 d))) front whole)

pub order_over-once : (vars loops : ℕ) → NamesEachOnce vars (order_over vars loops)
order_over-once vars loops =
    let l = min loops (vars / 2) in
    let all : vars - 2 * l + 2 * l ≡ vars = omega arith in
    subst (λ k. NamesEachOnce k (elimination_order (vars - 2 * l) l)) all (order-once (vars - 2 * l) l)

-- columns that rise are no more than there are
pub rising_few : (from vars : ℕ) (keep : List ℕ) → AreRising from vars keep → from ≤ vars → from + length keep ≤ vars
rising_few from vars [] rising le = omega arith
rising_few from vars (k ∷ keep) rising le = omega (arith, rising.0, rising_few (k + 1) vars keep rising.2 (omega (arith, rising.1)))
