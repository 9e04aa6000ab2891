-- Lists, and two of them side by side.
use Rattle.std.proofs.Common.{◌≡◌, ℕ, zero, suc, ◌+◌, ◌<◌, List, [], ◌∷◌, ◌++◌, length, get_or, set, Some, None, refl, ap, sym, subst, inl, inr, ◌⊎◌, arith, length-append}
use Rattle.std.specs.Prelude.{slice_get}
use Rattle.std.proofs.lemmas.List.{get_or_append_left, get_or_push}
use Rattle.std.specs.List.{All, AllZip}

-- of things side by side
pub zip_at : {A B : Type 0} (R : A → B → Type 0) (xs : List A) (ys : List B) (k : ℕ) (x : A) (y : B) → AllZip R xs ys → slice_get xs k ≡ Some x → slice_get ys k ≡ Some y → R x y
zip_at R [] [] k x y h at at' = absurd (let no : None ≡ Some x = at in cc)
zip_at R [] (b ∷ ys) k x y h at at' = absurd h
zip_at R (a ∷ xs) [] k x y h at at' = absurd h
zip_at R (a ∷ xs) (b ∷ ys) zero x y h at at' = let same : a ≡ x = cc in let same' : b ≡ y = cc in subst (λ z. R z y) same (subst (R a) same' h.0)
zip_at R (a ∷ xs) (b ∷ ys) (suc k) x y h at at' = zip_at R xs ys k x y h.1 at at'

-- one of them changed
pub zip_set : {A B : Type 0} (R : A → B → Type 0) (xs : List A) (ys : List B) (k : ℕ) (x : A) (y : B) → AllZip R xs ys → slice_get xs k ≡ Some x → R x y → AllZip R xs (set ys k y)
zip_set R [] [] k x y h at new = absurd (let no : None ≡ Some x = at in cc)
zip_set R [] (b ∷ ys) k x y h at new = absurd h
zip_set R (a ∷ xs) [] k x y h at new = absurd h
zip_set R (a ∷ xs) (b ∷ ys) zero x y h at new = let same : a ≡ x = cc in (subst (λ z. R z y) (sym same) new, h.1)
zip_set R (a ∷ xs) (b ∷ ys) (suc k) x y h at new = (h.0, zip_set R xs ys k x y h.1 at new)

pub get_pushed : {X : Type 0} (xs : List X) (x : X) (k : ℕ) (y : X) → slice_get (xs ++ x ∷ []) k ≡ Some y → (slice_get xs k ≡ Some y) ⊎ ((k ≡ length xs) × (x ≡ y))
get_pushed [] x zero y at = inr (refl, cc)
get_pushed [] x (suc k) y at = absurd (let no : None ≡ Some y = at in cc)
get_pushed (z ∷ xs) x zero y at = inl at
get_pushed (z ∷ xs) x (suc k) y at = elim (get_pushed xs x k y at) [ inl h ↦ inl h | inr h ↦ inr (ap suc h.0, h.1) ]

-- of a list and one more
pub front_of : {X : Type 0} (P : X → Type 0) (xs ys : List X) (x : X) → ys ≡ xs ++ x ∷ [] → All P ys → All P xs
front_of P xs ys x e all k d lt =
    let within : k < length (xs ++ x ∷ []) = simp length-append (omega (arith, lt)) in
    subst P (get_or_append_left xs (x ∷ []) d k lt) (subst (All P) e all k d within)

pub last_of : {X : Type 0} (P : X → Type 0) (xs ys : List X) (x : X) → ys ≡ xs ++ x ∷ [] → All P ys → P x
last_of P xs ys x e all =
    let within : length xs < length (xs ++ x ∷ []) = simp length-append (omega arith) in
    subst P (get_or_push xs x x (length xs) refl) (subst (All P) e all (length xs) x within)

pub same_read : {X : Type 0} (xs : List X) (k : ℕ) (d e : X) → k < length xs → get_or xs k d ≡ get_or xs k e
same_read [] k d e lt = absurd (omega (arith, lt))
same_read (x ∷ xs) zero d e lt = refl
same_read (x ∷ xs) (suc k) d e lt = same_read xs k d e (omega (arith, lt))

pub all_one : {X : Type 0} (P : X → Type 0) (x : X) → P x → All P (x ∷ [])
all_one P x p zero d lt = p
all_one P x p (suc k) d lt = absurd (omega (arith, lt))
