-- Lists that end with another.
use Rattle.std.proofs.Common.{◌≡◌, ℕ, zero, suc, ◌+◌, ◌-◌, List, [], ◌∷◌, ◌++◌, length, map, Option, Some, None, refl, sym, ◌∙◌, ap, append_assoc, length-append, arith}
use Rattle.std.specs.Prelude.{slice_get}
use Rattle.spmd_machine.specs.Processors.{Suffix}

-- the first of a list
pub head : {X : Type 0} → List X → Option X
head [] = None
head (x ∷ xs) = Some x

pub head-cons : {X : Type 0} (xs rest : List X) (x : X) → xs ≡ x ∷ rest → head xs ≡ Some x
unfolding head
head-cons xs rest x e = ap head e

pub head-nil : {X : Type 0} (xs : List X) → xs ≡ [] → head xs ≡ None
unfolding head
head-nil xs e = ap head e

module _ {X : Type 0} where
  slice_get-front : (front left : List X) → slice_get (front ++ left) (length front) ≡ head left
  unfolding head
  slice_get-front [] [] = refl
  slice_get-front [] (x ∷ left) = refl
  slice_get-front (f ∷ front) left = slice_get-front front left

  pub slice_get-left : (all left : List X) → Suffix all left → slice_get all (length all - length left) ≡ head left
  slice_get-left all left s =
      let front : length all - length left ≡ length s.front = omega (arith, ap length s.is, length-append s.front left) in
      ap (slice_get all) front ∙ ap (λ l. slice_get l (length s.front)) s.is ∙ slice_get-front s.front left

  -- one more is done
  pub place_more : (all left rest : List X) (x : X) → Suffix all left → left ≡ x ∷ rest → length all - length rest ≡ length all - length left + 1
  place_more all left rest x s e = omega (arith, ap length s.is, length-append s.front left, ap length e)

  pub suffix_rest : (all left rest : List X) (x : X) → Suffix all left → left ≡ x ∷ rest → Suffix all rest
  suffix_rest all left rest x s e = record { front = s.front ++ x ∷ []; is = s.is ∙ ap (λ l. s.front ++ l) e ∙ sym (append_assoc s.front (x ∷ []) rest) }

  pub suffix_at : (all left left' : List X) → left' ≡ left → Suffix all left → Suffix all left'
  suffix_at all left left' e s = record { front = s.front; is = s.is ∙ ap (λ l. s.front ++ l) (sym e) }

-- where the image of a list has an element, the list has one
pub record MappedFrom {X Y : Type 0} (f : X → Y) (o : Option X) (y : Y) : Type 0 where
  pub element : X
  pub there : o ≡ Some element
  pub is : f element ≡ y

pub mapped_from : {X Y : Type 0} (f : X → Y) (xs : List X) (k : ℕ) (y : Y) → slice_get (map f xs) k ≡ Some y → MappedFrom f (slice_get xs k) y
mapped_from f [] k y h = absurd (let no : None ≡ Some y = h in cc)
mapped_from f (x ∷ xs) zero y h = record { element = x; there = refl; is = cc }
mapped_from f (x ∷ xs) (suc k) y h = mapped_from f xs k y h

pub mapped_none : {X Y : Type 0} (f : X → Y) (xs : List X) (k : ℕ) → slice_get (map f xs) k ≡ None → slice_get xs k ≡ None
mapped_none f [] k h = refl
mapped_none f (x ∷ xs) zero h = absurd (let no : Some (f x) ≡ None = h in cc)
mapped_none f (x ∷ xs) (suc k) h = mapped_none f xs k h
