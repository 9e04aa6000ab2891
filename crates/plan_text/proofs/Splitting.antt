-- Words, and lines cut into them.
use Rattle.std.proofs.Common.{◌≡◌, ℕ, suc, ◌+◌, ◌<◌, ◌^◌, ℤ, pos, negsuc, Bool, true, false, ◌==◌, not, cond, List, [], ◌∷◌, ◌++◌, length, take, drop, refl, sym, ap, ◌∙◌, append-nil, arith}
use Rattle.std.specs.Fmt.{decimal, signed_decimal}
use Rattle.std.specs.List.{All, after_first, before_first, list_all, position_or_len}
use Rattle.std.proofs.Math.ListN.{drop_of_length-le}
use Rattle.std.proofs.Math.Seq.{drop-append-add, take-append_seam}
use Rattle.std.proofs.lemmas.Bool.{and_from, and_parts}
use Rattle.std.proofs.lemmas.Bool.Decides.{nat_tests}
use Rattle.std.proofs.lemmas.List.Folds.{list_all-append}
use Rattle.std.proofs.lemmas.List.Sums.{AllPass-from_list_all}
use Rattle.std.proofs.lemmas.List.Splits.{slice_split_at, slice_split_none}
use Rattle.plan_text.specs.Loose.{after_star, words_of}
use Rattle.plan_text.specs.PlanText.{is_128}
use Rattle.plan_text.specs.Unbroken.{is_glyph, is_unbroken}
use Rattle.plan_text.specs.Words.{line_of, spaced}
use Rattle.plan_text.proofs.Numbers.{is_digit, digits-decimal}

abbrev pub is_word : List ℕ → Bool
is_word w = list_all is_glyph w

-- a word without an asterisk
abbrev pub is_plain : List ℕ → Bool
is_plain w = list_all (λ b. not (b == 42)) w

pub weaken : {X : Type 0} (p q : X → Bool) → ((x : X) → p x ≡ true → q x ≡ true) → (xs : List X) → list_all p xs ≡ true → list_all q xs ≡ true
weaken p q h [] all = refl
weaken p q h (x ∷ xs) all =
    let parts = and_parts (p x) (list_all p xs) all in
    and_from (q x) (list_all q xs) (h x parts.0) (weaken p q h xs parts.1)

digit-glyph : (b : ℕ) → is_digit b ≡ true → is_glyph b ≡ true
digit-glyph b h = grind (arith, nat_tests)

digit-plain : (b : ℕ) → is_digit b ≡ true → not (b == 42) ≡ true
digit-plain b h = grind (arith, nat_tests)

pub word-decimal : (n : ℕ) → n < 10 ^ 64 → is_word (decimal n) ≡ true
word-decimal n h = weaken is_digit is_glyph digit-glyph (decimal n) (digits-decimal n h)

pub plain-decimal : (n : ℕ) → n < 10 ^ 64 → is_plain (decimal n) ≡ true
plain-decimal n h = weaken is_digit (λ b. not (b == 42)) digit-plain (decimal n) (digits-decimal n h)

pub word-signed : (z : ℤ) → is_128 z ≡ true → is_word (signed_decimal z) ≡ true
word-signed (pos n) h = (let low : n < 10 ^ 64 = grind (arith, nat_tests) in word-decimal n low)
word-signed (negsuc n) h = (let low : suc n < 10 ^ 64 = grind (arith, nat_tests) in word-decimal (suc n) low)

pub plain-signed : (z : ℤ) → is_128 z ≡ true → is_plain (signed_decimal z) ≡ true
plain-signed (pos n) h = (let low : n < 10 ^ 64 = grind (arith, nat_tests) in plain-decimal n low)
plain-signed (negsuc n) h = (let low : suc n < 10 ^ 64 = grind (arith, nat_tests) in plain-decimal (suc n) low)

glyph-blank : (b : ℕ) → is_glyph b ≡ true → not (b == 32) ≡ true
glyph-blank b h = grind (arith, nat_tests)

un_not : (b : Bool) → not b ≡ true → b ≡ false
un_not true e = sym e
un_not false e = refl

no_blank : (w : List ℕ) → is_word w ≡ true → All (λ b. (b == 32) ≡ false) w
no_blank w h = λ k d lt. un_not _ (AllPass-from_list_all (λ b. not (b == 32)) w (weaken is_glyph (λ b. not (b == 32)) glyph-blank w h) k d lt)

-- a line's words are those that it is made of
pub words_of-line : (w : List ℕ) (words : List (List ℕ)) → list_all is_word (w ∷ words) ≡ true → words_of (line_of (w ∷ words)) ≡ w ∷ words
words_of-line w [] h =
    let parts = and_parts (is_word w) true h in
    ap words_of (append-nil w) ∙ slice_split_none (λ b. b == 32) w (no_blank w parts.0)
words_of-line w (v ∷ words) h =
    let parts = and_parts (is_word w) (list_all is_word (v ∷ words)) h in
    slice_split_at (λ b. b == 32) w 32 (line_of (v ∷ words)) (no_blank w parts.0) refl ∙ ap (λ ws. w ∷ ws) (words_of-line v words parts.1)

-- no line feed in a line
glyph-unbroken : (b : ℕ) → is_glyph b ≡ true → not (b == 10) ≡ true
glyph-unbroken b h = grind (arith, nat_tests)

spaced-unbroken : (words : List (List ℕ)) → list_all is_word words ≡ true → is_unbroken (spaced words) ≡ true
spaced-unbroken [] h = refl
spaced-unbroken (w ∷ words) h =
    let parts = and_parts (is_word w) (list_all is_word words) h in
    list_all-append (λ b. not (b == 10)) w (spaced words) ∙ and_from (is_unbroken w) (is_unbroken (spaced words)) (weaken is_glyph (λ b. not (b == 10)) glyph-unbroken w parts.0) (spaced-unbroken words parts.1)

pub line-unbroken : (w : List ℕ) (words : List (List ℕ)) → list_all is_word (w ∷ words) ≡ true → is_unbroken (line_of (w ∷ words)) ≡ true
line-unbroken w words h =
    let parts = and_parts (is_word w) (list_all is_word words) h in
    list_all-append (λ b. not (b == 10)) w (spaced words) ∙ and_from (is_unbroken w) (is_unbroken (spaced words)) (weaken is_glyph (λ b. not (b == 10)) glyph-unbroken w parts.0) (spaced-unbroken words parts.1)

-- the first element that passes, behind ones that don't
pub place-behind : {X : Type 0} (p : X → Bool) (front : List X) (y : X) (rest : List X) → list_all (λ x. not (p x)) front ≡ true → p y ≡ true → position_or_len p (front ++ y ∷ rest) ≡ length front
place-behind p [] y rest h here = ap (λ b. cond (not b) (1 + position_or_len p rest) 0) here
place-behind p (x ∷ front) y rest h here =
    let parts = and_parts (not (p x)) (list_all (λ z. not (p z)) front) h in
    ap (λ b. cond b (1 + position_or_len p (front ++ y ∷ rest)) 0) parts.0 ∙ ap (λ n. 1 + n) (place-behind p front y rest parts.1 here) ∙ omega arith

pub place-nowhere : {X : Type 0} (p : X → Bool) (xs : List X) → list_all (λ x. not (p x)) xs ≡ true → position_or_len p xs ≡ length xs
place-nowhere p [] h = refl
place-nowhere p (x ∷ xs) h =
    let parts = and_parts (not (p x)) (list_all (λ z. not (p z)) xs) h in
    ap (λ b. cond b (1 + position_or_len p xs) 0) parts.0 ∙ ap (λ n. 1 + n) (place-nowhere p xs parts.1) ∙ omega arith

pub before-behind : {X : Type 0} (p : X → Bool) (front : List X) (y : X) (rest : List X) → list_all (λ x. not (p x)) front ≡ true → p y ≡ true → before_first p (front ++ y ∷ rest) ≡ front
before-behind p front y rest h here = ap (λ n. take n (front ++ y ∷ rest)) (place-behind p front y rest h here) ∙ take-append_seam front (y ∷ rest)

pub after-behind : {X : Type 0} (p : X → Bool) (front : List X) (y : X) (rest : List X) → list_all (λ x. not (p x)) front ≡ true → p y ≡ true → after_first p (front ++ y ∷ rest) ≡ rest
after-behind p front y rest h here = ap (λ n. drop (n + 1) (front ++ y ∷ rest)) (place-behind p front y rest h here) ∙ drop-append-add front (y ∷ rest) 1

pub after-nowhere : (word : List ℕ) → is_plain word ≡ true → after_star word ≡ []
after-nowhere word h = ap (λ n. drop (n + 1) word) (place-nowhere (λ b. b == 42) word h) ∙ drop_of_length-le word (omega arith)
