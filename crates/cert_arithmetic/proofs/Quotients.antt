-- A list whose front is mapped in place.
use Rattle.std.proofs.Common.{◌≡◌, ℕ, zero, suc, ◌+◌, ◌<◌, ℤ, Bool, true, false, List, [], ◌∷◌, ◌++◌, map, length, get_or, take, drop, set, if◌then◌else◌, Some, None, refl, ap, sym, ◌∙◌, arith}
use Rattle.std.specs.List.{list_all}
use Rattle.std.proofs.lemmas.Option.{cond_some}
use Rattle.std.proofs.lemmas.List.{get_or_default}
use Rattle.std.proofs.lemmas.List.Edits.{map_over_more}
use Rattle.std.proofs.lemmas.List.Folds.{list_all_at, list_all_more}

-- the first element that is not mapped yet is as it was
pub get_or-mapped_front : {X : Type 0} (f : X → X) (xs : List X) (i : ℕ) (d : X) → i < length xs → get_or (map f (take i xs) ++ drop i xs) i d ≡ get_or xs i d
get_or-mapped_front f [] i d h = absurd (omega arith)
get_or-mapped_front f (x ∷ xs) zero d h = refl
get_or-mapped_front f (x ∷ xs) (suc i) d h = get_or-mapped_front f xs i d (omega arith)

-- a step of the loop: the answer at an element, Some of its image where it passes
module _ (p : ℤ → Bool) (f : ℤ → ℤ) (xs ys : List ℤ) (i : ℕ) (d : ℤ) (within : i < length xs) (same : length ys ≡ length xs) (front : ys ≡ map f (take i xs) ++ drop i xs) where
  read : get_or ys i d ≡ get_or xs i d
  read = ap (λ zs. get_or zs i d) front ∙ get_or-mapped_front f xs i d within

  pub list_all_where_none : (x : ℤ) → x ≡ get_or ys i d → None ≡ (if p x then Some (f x) else None) → list_all p xs ≡ false
  list_all_where_none x at none =
      let fails : p x ≡ false = grind arith in
      list_all_at p xs i d within (ap p (sym (at ∙ read)) ∙ fails)

  pub mapped_where_some : (x next : ℤ) → x ≡ get_or ys i d → Some next ≡ (if p x then Some (f x) else None) → list_all p (take i xs) ≡ true → (list_all p (take (i + 1) xs) ≡ true) × (set ys i next ≡ map f (take (i + 1) xs) ++ drop (i + 1) xs)
  mapped_where_some x next at some all =
      let parts : (p x ≡ true) × (f x ≡ next) = cond_some (p x) (f x) next (sym some) in
      (list_all_more p xs i d within ∙ grind (arith, all, ap p (sym (at ∙ read)) ∙ parts.0), rw (← parts.1) (map_over_more f xs ys i x within front (at ∙ get_or_default ys i d x (omega (arith, within, same)))))
