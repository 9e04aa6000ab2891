-- Lists cut at the first element that passes a test, also where the elements are seen through a function.
use Rattle.std.proofs.Common.{◌≡◌, ℕ, ◌+◌, ◌-◌, ◌≤◌, Bool, not, cond, List, [], ◌∷◌, Some, None, length, map, take, drop, refl, sym, ap, ◌∙◌, inl, inr, arith}
use Rattle.std.specs.List.{after_first, before_first, position, position_or_len, prefix_len}
use Rattle.std.proofs.lemmas.Bool.{cases_lt, le-ltb, lt-ltb}
use Rattle.std.proofs.lemmas.List.{drop-map, drop_all, take-map, take_all, take_rest, length-map}
use Rattle.std.proofs.Math.Seq.{drop-length}

prefix_len-map : {X Y : Type 0} (q : Y → Bool) (f : X → Y) (xs : List X) → prefix_len q (map f xs) ≡ prefix_len (λ x. q (f x)) xs
prefix_len-map q f [] = refl
prefix_len-map q f (x ∷ xs) = ap (λ n. cond (q (f x)) (1 + n) 0) (prefix_len-map q f xs)

pub place-is : {X Y : Type 0} (q : Y → Bool) (f : X → Y) (xs : List X) (place : ℕ) → position (λ x. q (f x)) xs ≡ Some place → position_or_len q (map f xs) ≡ place
place-is q f xs place is = prefix_len-map (λ y. not (q y)) f xs ∙ elim (cases_lt (position_or_len (λ x. q (f x)) xs) (length xs)) [
  | inl lt ↦ (let e = sym (ap (λ b. cond b (Some (position_or_len (λ x. q (f x)) xs)) None) (lt-ltb (position_or_len (λ x. q (f x)) xs) (length xs) lt)) ∙ is in cc)
  | inr ge ↦ (let e = sym (ap (λ b. cond b (Some (position_or_len (λ x. q (f x)) xs)) None) (le-ltb (position_or_len (λ x. q (f x)) xs) (length xs) ge)) ∙ is in absurd (cc))
]

pub before-place : {X Y : Type 0} (q : Y → Bool) (f : X → Y) (xs : List X) (place : ℕ) → position (λ x. q (f x)) xs ≡ Some place → map f (take place xs) ≡ before_first q (map f xs)
before-place q f xs place is = sym (take-map f place xs) ∙ ap (λ n. take n (map f xs)) (sym (place-is q f xs place is))

pub after-place : {X Y : Type 0} (q : Y → Bool) (f : X → Y) (xs : List X) (place : ℕ) → position (λ x. q (f x)) xs ≡ Some place → map f (take (length xs - (place + 1)) (drop (place + 1) xs)) ≡ after_first q (map f xs)
after-place q f xs place is = ap (map f) (take_rest xs (place + 1)) ∙ sym (drop-map f (place + 1) xs) ∙ ap (λ n. drop (n + 1) (map f xs)) (sym (place-is q f xs place is))

-- where no element passes
place-none : {X Y : Type 0} (q : Y → Bool) (f : X → Y) (xs : List X) → position (λ x. q (f x)) xs ≡ None → length (map f xs) ≤ position_or_len q (map f xs)
place-none q f xs is = elim (cases_lt (position_or_len (λ x. q (f x)) xs) (length xs)) [
  | inl lt ↦ (let e = sym (ap (λ b. cond b (Some (position_or_len (λ x. q (f x)) xs)) None) (lt-ltb (position_or_len (λ x. q (f x)) xs) (length xs) lt)) ∙ is in absurd (cc))
  | inr ge ↦ omega (arith, ge, length-map xs f, prefix_len-map (λ y. not (q y)) f xs)
]

pub before-none : {X Y : Type 0} (q : Y → Bool) (f : X → Y) (xs : List X) → position (λ x. q (f x)) xs ≡ None → map f xs ≡ before_first q (map f xs)
before-none q f xs is = sym (take_all (position_or_len q (map f xs)) (map f xs) (place-none q f xs is))

pub after-none : {X Y : Type 0} (q : Y → Bool) (f : X → Y) (xs : List X) → position (λ x. q (f x)) xs ≡ None → map f (take (length xs - length xs) (drop (length xs) xs)) ≡ after_first q (map f xs)
after-none q f xs is =
    let past : length (map f xs) ≤ position_or_len q (map f xs) + 1 = omega (arith, place-none q f xs is) in
    ap (map f) (take_rest xs (length xs) ∙ drop-length xs) ∙ sym (drop_all (position_or_len q (map f xs) + 1) (map f xs) past)
