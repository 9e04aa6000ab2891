-- What passes a test among the numbers below one, number by number.
use Rattle.std.proofs.Common.{◌≡◌, ℕ, zero, suc, ◌+◌, ◌<◌, ◌≤◌, Bool, true, false, List, [], ◌∷◌, ◌++◌, length, cond, ◌==◌, refl, true≢false, subst, ap, sym, ◌∙◌, inl, inr, arith}
use Rattle.std.proofs.lemmas.Bool.{cases_eq, eqb-true}
use Rattle.std.specs.List.{Contains, filter, range_with_len}
use Rattle.std.proofs.lemmas.List.Elements.{Contains-append_right, filter-append}
use Rattle.list_lemmas.proofs.Ranges.{range_split}

pub kept_front : (p : ℕ → Bool) (n k : ℕ) → filter p (range_with_len 0 (n + k)) ≡ filter p (range_with_len 0 n) ++ filter p (range_with_len n k)
kept_front p n k =
    let same : 0 + n ≡ n = omega arith in
    ap (filter p) (range_split 0 n k ∙ ap (λ b. range_with_len 0 n ++ range_with_len b k) same) ∙ filter-append p (range_with_len 0 n) (range_with_len n k)

pub kept_passed : (p : ℕ → Bool) (n : ℕ) → p n ≡ true → filter p (range_with_len 0 (n + 1)) ≡ filter p (range_with_len 0 n) ++ n ∷ []
kept_passed p n is = kept_front p n 1 ∙ ap (λ b. filter p (range_with_len 0 n) ++ cond b (n ∷ []) []) is

pub kept_left : (p : ℕ → Bool) (n : ℕ) → p n ≡ false → filter p (range_with_len 0 (n + 1)) ≡ filter p (range_with_len 0 n)
kept_left p n is = kept_front p n 1 ∙ ap (λ b. filter p (range_with_len 0 n) ++ cond b (n ∷ []) []) is ∙ append_nil (filter p (range_with_len 0 n))
  where
    append_nil : (xs : List ℕ) → xs ++ [] ≡ xs
    append_nil [] = refl
    append_nil (x ∷ xs) = ap (λ l. x ∷ l) (append_nil xs)

-- those below a number begin with those below one before it
pub record Front (p : ℕ → Bool) (n m : ℕ) : Type 0 where
  pub behind : List ℕ
  pub all : filter p (range_with_len 0 m) ≡ filter p (range_with_len 0 n) ++ behind
  pub one : p n ≡ true → 1 ≤ length behind
  pub first : p n ≡ true → Contains behind n

pub front_of : (p : ℕ → Bool) (n m : ℕ) → n < m → Front p n m
front_of p n m lt =
    let (k, is) = rest n m lt in
    record {
      behind = filter p (range_with_len n (suc k));
      all = ap (λ x. filter p (range_with_len 0 x)) is ∙ kept_front p n (suc k);
      one = λ passed. let first = ap (λ b. length (cond b (n ∷ filter p (range_with_len (n + 1) k)) (filter p (range_with_len (n + 1) k)))) passed in omega (arith, first);
      first = λ passed. subst (λ b. Contains (cond b (n ∷ filter p (range_with_len (n + 1) k)) (filter p (range_with_len (n + 1) k))) n) (sym passed) (0, omega arith, refl);
    }
  where
    rest : (n m : ℕ) → n < m → (k : ℕ) × (m ≡ n + suc k)
    rest n zero lt = absurd (omega (arith, lt))
    rest zero (suc m) lt = (m, omega arith)
    rest (suc n) (suc m) lt = let (k, is) = rest n m (omega (arith, lt)) in (k, omega (arith, is))

-- room in a list of at most 16, none in a full one
pub has_room : (n : ℕ) (full : Bool) → n ≤ 16 → full ≡ (n == 16) → full ≡ false → n < 16
has_room n full few is free = elim (cases_eq n 16) [
  | inl same ↦ absurd (true≢false (sym (ap (λ k. k == 16) same) ∙ sym is ∙ free))
  | inr other ↦ omega (arith, other)
]

pub is_filled : (n : ℕ) (full : Bool) → full ≡ (n == 16) → full ≡ true → n ≡ 16
is_filled n full is filled = eqb-true n 16 (sym is ∙ filled)

pub too_many : (n m k l : ℕ) → n ≡ m → m ≡ k + l → k ≡ 16 → 1 ≤ l → n ≤ 16 → false ≡ true
too_many n m k l same sum full one few = absurd (omega arith)

-- what passes below a number is there
pub there : (p : ℕ → Bool) (n m : ℕ) → n < m → p n ≡ true → Contains (filter p (range_with_len 0 m)) n
there p n m lt passes =
    let front = front_of p n m lt in
    subst (λ xs. Contains xs n) (sym front.all) (Contains-append_right (filter p (range_with_len 0 n)) front.behind n (front.first passes))
