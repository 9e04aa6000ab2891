-- The loops of a path, by depth.
use Rattle.std.proofs.Common.{◌≡◌, ℕ, zero, suc, ◌+◌, ◌-◌, ◌<◌, ◌≤◌, ◌==◌, ℤ, pos, true, List, [], ◌∷◌, ◌++◌, map, length, reverse, replicate, take, drop, set, get_or, add-one, if◌then◌else◌, refl, ap, sym, ◌∙◌, arith}
use Rattle.std.specs.List.{list_all}
use Rattle.std.proofs.lemmas.Bool.{and_parts}
use Rattle.std.proofs.lemmas.Bool.Decides.{Decides-int_eq}
use Rattle.std.proofs.lemmas.List.{drop-replicate, drop-set-lt, get_or-drop, get_or-set_same, get_or-set_other, reverse-append, take_more, take-append-drop, length-drop}
use Rattle.nest_tree.proofs.FirstLimits.{at_replicate}
use Rattle.nest_walk.specs.Places.{numbers_of}
use Rattle.nest_walk.specs.Paths.{Round, rounds_to, by_depth, origin, value_among, is_zero}

pub rounds_to-length : (ns : List ℕ) (vs : List ℤ) (k : ℕ) → length (rounds_to ns vs k) ≡ k
rounds_to-length ns vs zero = refl
rounds_to-length ns vs (suc k) = ap suc (rounds_to-length ns vs k)

-- a value behind the first k
rounds_to-set : (ns : List ℕ) (vs : List ℤ) (j k : ℕ) (v : ℤ) → k ≤ j → rounds_to ns (set vs j v) k ≡ rounds_to ns vs k
rounds_to-set ns vs j zero v h = refl
rounds_to-set ns vs j (suc k) v h =
    let ne : k ≡ j → ⊥ = λ (e : k ≡ j). omega arith in
    let le : k ≤ j = omega arith in
    ap (λ x. record { number = get_or ns k 0; value = x } ∷ rounds_to ns (set vs j v) k) (get_or-set_other vs j k v (pos 0) ne)
    ∙ ap (λ xs. record { number = get_or ns k 0; value = get_or vs k (pos 0) } ∷ xs) (rounds_to-set ns vs j k v le)

-- the last of them has another value
set_at_last : (ns : List ℕ) (vs : List ℤ) (k : ℕ) (v : ℤ) (r : Round) (rounds : List Round) → k < length vs → rounds_to ns vs (suc k) ≡ r ∷ rounds →
    rounds_to ns (set vs k v) (suc k) ≡ record { number = r.number; value = v } ∷ rounds
set_at_last ns vs k v r rounds lt e =
    let number : get_or ns k 0 ≡ r.number = cc in
    let rest : rounds_to ns vs k ≡ rounds = cc in
    ap (λ x. record { number = get_or ns k 0; value = x } ∷ rounds_to ns (set vs k v) k) (get_or-set_same vs k v (pos 0) lt)
    ∙ ap (λ xs. record { number = get_or ns k 0; value = v } ∷ xs) (rounds_to-set ns vs k k v (omega arith) ∙ rest)
    ∙ ap (λ n. record { number = n; value = v } ∷ rounds) number

pub set_last : (ns : List ℕ) (vs : List ℤ) (depth : ℕ) (v : ℤ) (r : Round) (rounds : List Round) → depth ≤ length vs → rounds_to ns vs depth ≡ r ∷ rounds →
    rounds_to ns (set vs (depth - 1) v) depth ≡ record { number = r.number; value = v } ∷ rounds
set_last ns vs zero v r rounds le e = cc
set_last ns vs (suc k) v r rounds le e =
    let before : suc k - 1 ≡ k = omega arith in
    ap (λ j. rounds_to ns (set vs j v) (suc k)) before ∙ set_at_last ns vs k v r rounds (omega arith) e

reverse_values : (ns : List ℕ) (vs : List ℤ) (k : ℕ) → k ≤ length vs → reverse (map (λ (r : Round). r.value) (rounds_to ns vs k)) ≡ take k vs
reverse_values ns vs zero h = refl
reverse_values ns vs (suc k) h =
    let lt : k < length vs = omega arith in
    let le : k ≤ length vs = omega arith in
    reverse-append (get_or vs k (pos 0) ∷ []) (map (λ (r : Round). r.value) (rounds_to ns vs k))
    ∙ ap (λ xs. xs ++ get_or vs k (pos 0) ∷ []) (reverse_values ns vs k le) ∙ sym (take_more vs k (pos 0) lt) ∙ ap (λ n. take n vs) (add-one k)

zeros : (xs : List ℤ) → list_all is_zero xs ≡ true → xs ≡ replicate (length xs) (pos 0)
zeros [] h = refl
zeros (x ∷ xs) h =
    let parts = and_parts (is_zero x) (list_all is_zero xs) h in
    let first : x ≡ pos 0 = (Decides-int_eq x (pos 0)).0 parts.0 in
    ap (λ y. y ∷ xs) first ∙ ap (λ ys. pos 0 ∷ ys) (zeros xs parts.1)

pub by_depth-all : (ns : List ℕ) (vs : List ℤ) (depth : ℕ) → length vs ≡ 6 → depth ≤ 6 → list_all is_zero (drop depth vs) ≡ true → vs ≡ by_depth (rounds_to ns vs depth)
by_depth-all ns vs depth six le zero_rest =
    let front = reverse_values ns vs depth (omega arith) in
    let count : length (drop depth vs) ≡ 6 - length (rounds_to ns vs depth) = omega (arith, length-drop depth vs, rounds_to-length ns vs depth) in
    sym (take-append-drop depth vs) ∙ ap (λ xs. xs ++ drop depth vs) (sym front)
    ∙ ap (λ ys. reverse (map (λ (r : Round). r.value) (rounds_to ns vs depth)) ++ ys) (zeros (drop depth vs) zero_rest ∙ ap (λ n. replicate n (pos 0)) count)

-- the value of a loop, from the innermost on
pub value_among-last : (ns : List ℕ) (vs : List ℤ) (depth n : ℕ) → 0 < depth →
    value_among (rounds_to ns vs depth) n ≡ (if get_or ns (depth - 1) 0 == n then get_or vs (depth - 1) (pos 0) else value_among (rounds_to ns vs (depth - 1)) n)
value_among-last ns vs zero n h = absurd (omega arith)
value_among-last ns vs (suc k) n h =
    let before : k ≡ suc k - 1 = omega arith in
    ap (λ j. if get_or ns j 0 == n then get_or vs j (pos 0) else value_among (rounds_to ns vs j) n) before

-- behind the depth all is 0, also where a value before it is not
all_zeros : (n : ℕ) → list_all is_zero (replicate n (pos 0)) ≡ true
all_zeros zero = refl
all_zeros (suc n) = all_zeros n

pub zero_behind : (depth : ℕ) → list_all is_zero (drop depth origin) ≡ true
zero_behind depth = ap (list_all is_zero) (drop-replicate depth 6 (pos 0)) ∙ all_zeros (6 - depth)

pub zero_past : (depth k : ℕ) (v : ℤ) → k < depth → list_all is_zero (drop depth (set origin k v)) ≡ true
zero_past depth k v h = ap (list_all is_zero) (drop-set-lt depth origin k v h) ∙ zero_behind depth

-- loops with the same numbers
pub same_numbers : (ns ns' : List ℕ) (vs vs' : List ℤ) (k : ℕ) → numbers_of (rounds_to ns' vs' k) ≡ numbers_of (rounds_to ns vs k) → rounds_to ns' vs' k ≡ rounds_to ns vs' k
same_numbers ns ns' vs vs' zero h = refl
same_numbers ns ns' vs vs' (suc k) h =
    let first : get_or ns' k 0 ≡ get_or ns k 0 = cc in
    let rest : numbers_of (rounds_to ns' vs' k) ≡ numbers_of (rounds_to ns vs k) = cc in
    ap (λ n. record { number = n; value = get_or vs' k (pos 0) } ∷ rounds_to ns' vs' k) first
    ∙ ap (λ xs. record { number = get_or ns k 0; value = get_or vs' k (pos 0) } ∷ xs) (same_numbers ns ns' vs vs' k rest)

-- a value in a place left over
pub left_over-at : (vs : List ℤ) (depth d : ℕ) → list_all is_zero (drop depth vs) ≡ true → depth ≤ d → get_or vs d (pos 0) ≡ pos 0
left_over-at vs depth d h le =
    let at : d ≡ depth + (d - depth) = omega (arith, le) in
    ap (λ n. get_or vs n (pos 0)) at ∙ sym (get_or-drop depth vs (d - depth) (pos 0)) ∙ ap (λ xs. get_or xs (d - depth) (pos 0)) (zeros (drop depth vs) h) ∙ at_replicate (length (drop depth vs)) (d - depth) (pos 0)
