-- What is among the elements of a list.
use Rattle.std.proofs.Common.{◌≡◌, ℕ, zero, suc, ◌<◌, Bool, true, false, cond, Some, List, [], ◌∷◌, length, get_or, map, take, refl, ap, sym, ◌∙◌, subst, inl, inr, arith}
use Rattle.std.specs.List.{Contains, filter, flat_map, slice_get}
use Rattle.std.proofs.lemmas.List.{length-map, get_or-map}
use Rattle.std.proofs.lemmas.List.Elements.{All-filter, All-contains, All-contains_itself, All-take, Contains-append_cases, Contains-append_left, Contains-append_right, filter_passes}
use Rattle.std.proofs.lemmas.Option.{get_or_from_slice_get, slice_get_within}

-- what stands at a place
pub contains_at : {X : Type 0} (xs : List X) (k : ℕ) (x : X) → slice_get xs k ≡ Some x → Contains xs x
contains_at xs k x e = (k, slice_get_within xs k x e, get_or_from_slice_get xs k x x e)

-- an element's image, among the images
pub Contains-map : {X Y : Type 0} (f : X → Y) (xs : List X) (x : X) → Contains xs x → Contains (map f xs) (f x)
Contains-map f xs x h = (h.0, omega (arith, h.1, length-map xs f), get_or-map f xs h.0 x (f x) h.1 ∙ ap f h.2)

-- an element of a list that one of the elements gives
pub Contains-flat_map : {X Y : Type 0} (f : X → List Y) (xs : List X) (x : X) (y : Y) → Contains xs x → Contains (f x) y → Contains (flat_map f xs) y
Contains-flat_map f [] x y (k, lt, e) there = absurd (omega (arith, lt))
Contains-flat_map f (z ∷ xs) x y (zero, lt, e) there = Contains-append_left (f z) (flat_map f xs) y (subst (λ w. Contains (f w) y) (sym e) there)
Contains-flat_map f (z ∷ xs) x y (suc k, lt, e) there = Contains-append_right (f z) (flat_map f xs) y (Contains-flat_map f xs x y (k, omega (arith, lt), e) there)

-- an element of what the elements give is of what one of them gives
pub Contains-flat_map_cases : {X Y : Type 0} (f : X → List Y) (xs : List X) (y : Y) → Contains (flat_map f xs) y → (x : X) × Contains xs x × Contains (f x) y
Contains-flat_map_cases f [] y (k, lt, e) = absurd (omega (arith, lt))
Contains-flat_map_cases f (x ∷ xs) y among = elim (Contains-append_cases (f x) (flat_map f xs) y among) [
  | inl here ↦ (x, (0, omega arith, refl), here)
  | inr later ↦ let r = Contains-flat_map_cases f xs y later in (r.0, (suc r.1.0, omega (arith, r.1.1), r.1.2), r.2)
]

-- the element of a list of one
pub Contains-one : {X : Type 0} (x y : X) → Contains (x ∷ []) y → x ≡ y
Contains-one x y (zero, lt, e) = e
Contains-one x y (suc k, lt, e) = absurd (omega (arith, lt))

-- an element of the front
pub Contains-take : {X : Type 0} (n : ℕ) (xs : List X) (x : X) → Contains (take n xs) x → Contains xs x
Contains-take n xs x h = All-contains (Contains xs) (take n xs) x (All-take (Contains xs) n xs (All-contains_itself xs)) h

-- an element that passes is in the filtered list
pub Contains-filter : {X : Type 0} (test : X → Bool) (xs : List X) (x : X) → Contains xs x → test x ≡ true → Contains (filter test xs) x
Contains-filter {X} test xs x h pass = at xs h.0 h.1 h.2
  where
    first : (y : X) (ys : List X) → y ≡ x → Contains (cond (test y) (y ∷ filter test ys) (filter test ys)) x
    first y ys e = subst (λ b. Contains (cond b (y ∷ filter test ys) (filter test ys)) x) (sym (ap test e ∙ pass)) (0, omega arith, e)

    later : (b : Bool) (y : X) (ys : List X) → Contains ys x → Contains (cond b (y ∷ ys) ys) x
    later true y ys there = Contains-append_right (y ∷ []) ys x there
    later false y ys there = there

    at : (ys : List X) (k : ℕ) → k < length ys → get_or ys k x ≡ x → Contains (filter test ys) x
    at [] k lt e = absurd (omega arith)
    at (y ∷ ys) zero lt e = first y ys e
    at (y ∷ ys) (suc k) lt e = later (test y) y (filter test ys) (at ys k (omega arith) e)

-- what a filtered list has, passes and was in the list
pub filter_has : {X : Type 0} (test : X → Bool) (xs : List X) (x : X) → Contains (filter test xs) x → Contains xs x × (test x ≡ true)
filter_has {X} test xs x h =
    (All-contains (Contains xs) (filter test xs) x (All-filter test (Contains xs) xs (All-contains_itself xs)) h, All-contains (λ y. test y ≡ true) (filter test xs) x (filter_passes test xs) h)
