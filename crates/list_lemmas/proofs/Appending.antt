-- Lists one behind another, and their first elements.
use Rattle.std.proofs.Common.{◌≡◌, ℕ, suc, ◌+◌, ◌<◌, ◌≤◌, List, [], ◌∷◌, ◌++◌, length, length-append, get_or, take, ap, sym, ◌∙◌, subst, inl, inr, add-one, zero-add, append_assoc, take_all, arith}
use Rattle.std.proofs.lemmas.Bool.{cases_lt}
use Rattle.std.proofs.lemmas.List.{get_or_append_left, get_or_at}

-- four lists behind one another, from the left or from the right
pub append_assoc_four : {X : Type 0} (a b c d : List X) → ((a ++ b) ++ c) ++ d ≡ a ++ (b ++ (c ++ d))
append_assoc_four a b c d = simp append_assoc

-- five of them
pub append_assoc_five : {X : Type 0} (a b c d e : List X) → (((a ++ b) ++ c) ++ d) ++ e ≡ a ++ (b ++ (c ++ (d ++ e)))
append_assoc_five a b c d e = simp append_assoc

-- what was appended in two steps
pub append_two : {X : Type 0} (old middle new a b : List X) → middle ≡ old ++ a → new ≡ middle ++ b → new ≡ old ++ (a ++ b)
append_two old middle new a b first second = second ∙ ap (λ t. t ++ b) first ∙ append_assoc old a b

-- the front of a list with a first element
pub take-cons : {X : Type 0} (xs rest : List X) (first : X) (i : ℕ) → xs ≡ first ∷ rest → take (i + 1) xs ≡ first ∷ take i rest
take-cons xs rest first i is = ap (take (i + 1)) is ∙ ap (λ n. take n (first ∷ rest)) (add-one i)

-- the front is the whole list, where it is long enough for the rest
pub take-cons_all : {X : Type 0} (xs rest : List X) (first : X) (i : ℕ) → xs ≡ first ∷ rest → length rest ≤ i → take (i + 1) xs ≡ xs
take-cons_all xs rest first i is le = let n = ap length is in take_all (i + 1) xs (omega (arith, n, le))

-- the front is the whole first list and some of the second
pub take-behind : {X : Type 0} (xs ys : List X) (k : ℕ) → take (length xs + k) (xs ++ ys) ≡ xs ++ take k ys
take-behind [] ys k = ap (λ n. take n ys) (zero-add k)
take-behind (x ∷ xs) ys k = let more : length (x ∷ xs) + k ≡ suc (length xs + k) = omega arith in ap (λ n. take n (x ∷ (xs ++ ys))) more ∙ ap (λ l. x ∷ l) (take-behind xs ys k)

-- what holds of each element by its place, and of one that is pushed, holds of each of all
pub pushed_all : {X : Type 0} (P : ℕ → X → Type 0) (xs ys : List X) (x : X) (n : ℕ) → length xs ≡ n → ys ≡ xs ++ x ∷ [] → ((p : ℕ) (d : X) → p < length xs → P p (get_or xs p d)) → P n x →
    (p : ℕ) (d : X) → p < length ys → P p (get_or ys p d)
pushed_all P xs ys x n len is all here p d lt =
    let longer : p < length xs + 1 = omega (arith, ap length is, length-append xs (x ∷ [])) in
    elim (cases_lt p (length xs)) [
      | inl inside ↦ subst (P p) (sym (ap (λ l. get_or l p d) is ∙ get_or_append_left xs (x ∷ []) d p inside)) (all p d inside)
      | inr past ↦ let last : length xs ≡ p = omega arith in let number : n ≡ p = omega arith in
          subst (P p) (sym (ap (λ l. get_or l p d) is ∙ get_or_at xs x [] d p last)) (subst (λ (k : ℕ). P k x) number here)
    ]
