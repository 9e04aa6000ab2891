-- Elements of lists, and what holds of all of them.
use Rattle.std.proofs.Common.{◌≡◌, ℕ, zero, suc, ◌+◌, ◌<◌, ◌≤◌, ◌⊎◌, Some, None, List, [], ◌∷◌, drop, length, map, refl, ap, inl, inr, arith}
use Rattle.std.specs.List.{AllByRecursion, Contains, flat_map, range_with_len, slice_get}
use Rattle.nest_rows.proofs.Nesting.{all-append}

pub contains_here : {X : Type 0} (x : X) (xs : List X) → Contains (x ∷ xs) x
contains_here x xs = (0, omega arith, refl)

pub contains_later : {X : Type 0} (x y : X) (xs : List X) → Contains xs y → Contains (x ∷ xs) y
contains_later x y xs (k, lt, is) = (suc k, omega (arith, lt), is)

pub contains_cases : {X : Type 0} (x y : X) (xs : List X) → Contains (x ∷ xs) y → (x ≡ y) ⊎ Contains xs y
contains_cases x y xs (zero, lt, is) = inl is
contains_cases x y xs (suc k, lt, is) = inr (k, omega (arith, lt), is)

pub contains_nothing : {X : Type 0} (y : X) → Contains [] y → ⊥
contains_nothing y (k, lt, is) = omega (arith, lt)

pub range_contains : (a n c : ℕ) → Contains (range_with_len a n) c → (a ≤ c) × (c < a + n)
range_contains a zero c h = absurd (contains_nothing c h)
range_contains a (suc n) c h = elim (contains_cases a c (range_with_len (a + 1) n) h) [
  | inl same ↦ (omega (arith, same), omega (arith, same))
  | inr later ↦ let r = range_contains (a + 1) n c later in (omega (arith, r.0), omega (arith, r.1))
]

pub some_there : {X : Type 0} (xs : List X) (k : ℕ) → k < length xs → (x : X) × (slice_get xs k ≡ Some x)
some_there [] k lt = absurd (omega (arith, lt))
some_there (x ∷ xs) zero lt = (x, refl)
some_there (x ∷ xs) (suc k) lt = some_there xs k (omega (arith, lt))

pub mapped_get : {X Y : Type 0} (f : X → Y) (xs : List X) (k : ℕ) (x : X) → slice_get xs k ≡ Some x → slice_get (map f xs) k ≡ Some (f x)
mapped_get f [] k x at = absurd (let no : None ≡ Some x = at in cc)
mapped_get f (y ∷ xs) zero x at = let same : y ≡ x = cc in ap (λ z. Some (f z)) same
mapped_get f (y ∷ xs) (suc k) x at = mapped_get f xs k x at

pub all_in_range : {X : Type 0} (P : X → Type 0) (f : ℕ → List X) (a n : ℕ) → ((i : ℕ) → i < a + n → AllByRecursion P (f i)) → AllByRecursion P (flat_map f (range_with_len a n))
all_in_range P f a zero h = tt
all_in_range P f a (suc n) h = all-append P (f a) (flat_map f (range_with_len (a + 1) n)) (h a (omega arith)) (all_in_range P f (a + 1) n (λ i lt. h i (omega (arith, lt))))

pub all_mapped : {X Y : Type 0} (P : X → Type 0) (Q : Y → Type 0) (f : X → Y) (xs : List X) → ((x : X) → P x → Q (f x)) → AllByRecursion P xs → AllByRecursion Q (map f xs)
all_mapped P Q f [] each all = tt
all_mapped P Q f (x ∷ xs) each all = (each x all.0, all_mapped P Q f xs each all.1)

pub all_dropped : {X : Type 0} (P : X → Type 0) (n : ℕ) (xs : List X) → AllByRecursion P xs → AllByRecursion P (drop n xs)
all_dropped P zero xs h = h
all_dropped P (suc n) [] h = tt
all_dropped P (suc n) (x ∷ xs) h = all_dropped P n xs h.1
