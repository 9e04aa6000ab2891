-- Two lists, element by element.
use Rattle.std.proofs.Common.{◌≡◌, ℕ, zero, suc, ◌+◌, ◌<◌, ◌≤◌, Bool, true, false, ◌&&◌, nat_le, List, [], ◌∷◌, length, drop, get_or, map, refl, ap, sym, ◌∙◌, arith}
use Rattle.std.proofs.lemmas.Bool.{le-leb, leb-true, and_parts}
use Rattle.std.proofs.lemmas.Bool.Decides.{nat_tests}
use Rattle.std.proofs.lemmas.List.{drop_more, drop_all}
use Rattle.nest_tree.specs.declared.tree.Expr.{Expr}
use Rattle.nest_tree.specs.declared.tree.Item.{Item}
use Rattle.nest_tree.specs.View.{expression_of, expressions_from, statement_of, statements_from}
use Rattle.nest_agree.specs.Same.{same, same_all, same_list, same_statement, same_statements}

-- two tests that pass at once
pub both_ways : (a b : Bool) → (a ≡ true → b ≡ true) → (b ≡ true → a ≡ true) → a ≡ b
both_ways true b f g = sym (f refl)
both_ways false true f g = g refl
both_ways false false f g = refl

nat_le-suc : (m n : ℕ) → nat_le m n ≡ nat_le (suc m) (suc n)
nat_le-suc m n = both_ways (nat_le m n) (nat_le (suc m) (suc n)) (λ e. le-leb (suc m) (suc n) (omega (arith, leb-true m n e))) (λ e. le-leb m n (omega (arith, leb-true (suc m) (suc n) e)))

module _ {X : Type 0} (test : X → X → Bool) where
  pub list_step : (xs ys : List X) (i : ℕ) (x y : X) → i < length xs → i < length ys → x ≡ get_or xs i x → y ≡ get_or ys i y →
      same_list test (drop i xs) (drop i ys) ≡ (test x y && same_list test (drop (i + 1) xs) (drop (i + 1) ys))
  list_step xs ys i x y lt lt' is is' =
      ap (λ l. same_list test l (drop i ys)) (drop_more xs i x lt ∙ ap (λ z. z ∷ drop (i + 1) xs) (sym is))
      ∙ ap (λ l. same_list test (x ∷ drop (i + 1) xs) l) (drop_more ys i y lt' ∙ ap (λ z. z ∷ drop (i + 1) ys) (sym is'))

  pub list_past : (xs ys : List X) (i : ℕ) (x : X) → i < length xs → length ys ≤ i → same_list test (drop i xs) (drop i ys) ≡ false
  list_past xs ys i x lt past =
      ap (λ l. same_list test l (drop i ys)) (drop_more xs i x lt) ∙ ap (λ l. same_list test (get_or xs i x ∷ drop (i + 1) xs) l) (drop_all i ys past)

  left : (ys : List X) (i : ℕ) → same_list test [] (drop i ys) ≡ nat_le (length ys) i
  left [] zero = refl
  left [] (suc i) = sym (le-leb 0 (suc i) (omega arith))
  left (y ∷ ys) zero = grind (arith, nat_tests)
  left (y ∷ ys) (suc i) = left ys i ∙ nat_le-suc (length ys) i

  pub list_end : (xs ys : List X) (i : ℕ) → length xs ≤ i → i ≤ length xs → same_list test (drop i xs) (drop i ys) ≡ nat_le (length ys) (length xs)
  list_end xs ys i low high =
      let all : i ≡ length xs = omega arith in
      ap (λ l. same_list test l (drop i ys)) (drop_all i xs low) ∙ left ys i ∙ ap (nat_le (length ys)) all

-- arguments, and statements, as lists
pub arguments_listed : (es fs : List Expr) → same_all (expressions_from es) (expressions_from fs) ≡ same_list (λ e f. same (expression_of e) (expression_of f)) es fs
arguments_listed [] [] = refl
arguments_listed [] (f ∷ fs) = refl
arguments_listed (e ∷ es) [] = refl
arguments_listed (e ∷ es) (f ∷ fs) = ap (λ b. same (expression_of e) (expression_of f) && b) (arguments_listed es fs)

pub statements_listed : (ss ts : List Item) → same_statements (statements_from ss) (statements_from ts) ≡ same_list (λ s t. same_statement (statement_of s) (statement_of t)) ss ts
statements_listed [] [] = refl
statements_listed [] (t ∷ ts) = refl
statements_listed (s ∷ ss) [] = refl
statements_listed (s ∷ ss) (t ∷ ts) = ap (λ b. same_statement (statement_of s) (statement_of t) && b) (statements_listed ss ts)

pub mapped_listed : {X Y : Type 0} (test : Y → Y → Bool) (f : X → Y) (xs ys : List X) → same_list test (map f xs) (map f ys) ≡ same_list (λ x y. test (f x) (f y)) xs ys
mapped_listed test f [] [] = refl
mapped_listed test f [] (y ∷ ys) = refl
mapped_listed test f (x ∷ xs) [] = refl
mapped_listed test f (x ∷ xs) (y ∷ ys) = ap (λ b. test (f x) (f y) && b) (mapped_listed test f xs ys)

-- equal lists, where the test says which elements are equal
module _ {X : Type 0} (test : X → X → Bool) where
  pub list_is : ((x y : X) → test x y ≡ true → x ≡ y) → (xs ys : List X) → same_list test xs ys ≡ true → xs ≡ ys
  list_is each [] [] e = refl
  list_is each [] (y ∷ ys) e = absurd (cc)
  list_is each (x ∷ xs) [] e = absurd (cc)
  list_is each (x ∷ xs) (y ∷ ys) e =
      let both = and_parts (test x y) (same_list test xs ys) e in
      ap (λ z. z ∷ xs) (each x y both.0) ∙ ap (λ zs. y ∷ zs) (list_is each xs ys both.1)

  pub list_self : ((x : X) → test x x ≡ true) → (xs : List X) → same_list test xs xs ≡ true
  list_self each [] = refl
  list_self each (x ∷ xs) = ap (λ b. b && same_list test xs xs) (each x) ∙ list_self each xs
