-- Different elements of a list are at most as many as the list is long.
use Rattle.std.proofs.Common.{◌≡◌, ℕ, zero, suc, ◌<◌, ◌≤◌, List, [], ◌∷◌, length, get_or, refl, sym, ◌∙◌, ap, arith}
use Rattle.std.specs.List.{All, AllPairs, Contains}
use Rattle.std.proofs.Math.Dec.{eqb}
use Rattle.std.proofs.lemmas.Bool.Decides.{Decides-eqb}
use Rattle.std.proofs.lemmas.List.{get_or_default}
use Rattle.std.proofs.lemmas.List.Elements.{All-head, All-tail}
use Rattle.std.proofs.lemmas.Map.Views.{Contains-from_any}
use Rattle.std.proofs.lemmas.Map.Made.{IsDistinct-from_AllPairs}
use Rattle.std.proofs.lemmas.Map.Steps.{length-le_from_distinct_below}

-- where the elements stand in the other list
record ArePlaces {X : Type 0} (xs ys : List X) (places : List ℕ) : Type 0 where
  count : length places ≡ length xs
  below : (k : ℕ) → k < length xs → get_or places k 0 < length ys
  there : (k : ℕ) (d : X) → k < length xs → get_or ys (get_or places k 0) d ≡ get_or xs k d

places_of : {X : Type 0} (xs ys : List X) → All (Contains ys) xs → (places : List ℕ) × ArePlaces xs ys places
places_of [] ys all = ([], record { count = refl; below = λ k h. absurd (omega arith); there = λ k d h. absurd (omega arith) })
places_of {X} (x ∷ xs) ys all =
    let first = All-head (Contains ys) x xs all in
    let rest = places_of xs ys (All-tail (Contains ys) x xs all) in
    (first.0 ∷ rest.0, record { count = ap suc rest.1.count; below = below first rest.0 rest.1; there = there first rest.0 rest.1 })
  where
    below : (first : Contains ys x) (places : List ℕ) → ArePlaces xs ys places → (k : ℕ) → k < length (x ∷ xs) → get_or (first.0 ∷ places) k 0 < length ys
    below first places rest zero h = first.1
    below first places rest (suc k) h = rest.below k (omega arith)

    there : (first : Contains ys x) (places : List ℕ) → ArePlaces xs ys places → (k : ℕ) (d : X) → k < length (x ∷ xs) → get_or ys (get_or (first.0 ∷ places) k 0) d ≡ get_or (x ∷ xs) k d
    there first places rest zero d h = get_or_default ys first.0 d x first.1 ∙ first.2
    there first places rest (suc k) d h = rest.there k d (omega arith)

pub at_most : {X : Type 0} (xs ys : List X) → AllPairs (λ a b. a ≡ b → ⊥) xs → All (Contains ys) xs → length xs ≤ length ys
at_most [] ys apart all = omega arith
at_most (x ∷ xs) ys apart all =
    let found = places_of (x ∷ xs) ys all in
    let places = found.0 in
    let here = found.1 in
    let distinct = IsDistinct-from_AllPairs {eq = eqb} Decides-eqb places (λ i j d lt h e.
    let within : j < length (x ∷ xs) = omega (arith, h, here.count) in
    let same : get_or places i 0 ≡ get_or places j 0 = sym (get_or_default places i d 0 (omega arith)) ∙ e ∙ get_or_default places j d 0 h in
    apart i j x lt within (sym (here.there i x (omega arith)) ∙ ap (λ k. get_or ys k x) same ∙ here.there j x within)) in
    let few = length-le_from_distinct_below places (length ys) distinct (λ q h.
    let has = Contains-from_any {eq = eqb} (λ a b e. (Decides-eqb a b).0 e) q places h in
    let at : get_or places has.0 0 ≡ q = get_or_default places has.0 0 q has.1 ∙ has.2 in
    omega (arith, at, here.below has.0 (omega (arith, has.1, here.count)))) in
    omega (arith, here.count, few)
