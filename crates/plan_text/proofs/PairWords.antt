-- Pairs, forms and anchors, as words and read from them.
use Rattle.std.proofs.Common.{◌≡◌, ℕ, ◌%◌, ◌<◌, ◌^◌, ℤ, pos, negsuc, Bool, true, false, ◌&&◌, ◌==◌, nat_lt, List, [], ◌∷◌, ◌++◌, map, Some, None, refl, ap, ◌∙◌, arith}
use Rattle.std.specs.Prelude.{if◌then◌else◌}
use Rattle.std.specs.Fmt.{decimal, signed_decimal}
use Rattle.std.specs.List.{cons_option, list_all}
use Rattle.std.proofs.lemmas.Bool.{and_from, and_parts}
use Rattle.std.proofs.lemmas.Bool.Decides.{nat_tests}
use Rattle.std.proofs.lemmas.List.Folds.{list_all-append}
use Rattle.nest_tree.specs.Form.{is_small}
use Rattle.nest_tree.proofs.Good.{small-value}
use Rattle.plan_text.specs.Loose.{after_star, before_star, narrow, narrow_of, number_32, number_64, pair_behind, pair_of, pairs_of, signed_of, term_of}
use Rattle.plan_text.specs.PlanText.{is_128, is_32, is_64}
use Rattle.plan_text.specs.Words.{pair_word, term_word}
use Rattle.plan_text.proofs.Numbers.{number-read, signed-read}
use Rattle.plan_text.proofs.Splitting.{after-behind, after-nowhere, before-behind, is_plain, is_word, plain-decimal, plain-signed, word-decimal, word-signed}

-- small numbers are of 64 and of 128 bits
pub small-wide : (z : ℤ) → is_small z ≡ true → is_128 z ≡ true
small-wide (pos n) h = grind (arith, nat_tests)
small-wide (negsuc n) h = grind (arith, nat_tests)

pub narrow-read : (z : ℤ) → is_small z ≡ true → narrow_of (signed_decimal z) ≡ z
narrow-read z h = ap narrow (signed-read z (small-wide z h)) ∙ ap (λ b. if b then z else pos 0) (small-value z h)

pub read-32 : (n : ℕ) → is_32 n ≡ true → number_32 (decimal n) ≡ n
read-32 n h =
    let low : n < 2 ^ 32 = grind (arith, nat_tests) in
    let e : n % 2 ^ 32 ≡ n = omega arith in
    ap (λ m. m % 2 ^ 32) (number-read n (omega arith)) ∙ e

pub read-64 : (n : ℕ) → is_64 n ≡ true → number_64 (decimal n) ≡ n
read-64 n h =
    let low : n < 2 ^ 64 = grind (arith, nat_tests) in
    let e : n % 2 ^ 64 ≡ n = omega arith in
    ap (λ m. m % 2 ^ 64) (number-read n (omega arith)) ∙ e

low-32 : (n : ℕ) → is_32 n ≡ true → n < 10 ^ 64
low-32 n h = grind (arith, nat_tests)

low-64 : (n : ℕ) → is_64 n ≡ true → n < 10 ^ 64
low-64 n h = grind (arith, nat_tests)

pub word-32 : (n : ℕ) → is_32 n ≡ true → is_word (decimal n) ≡ true
word-32 n h = word-decimal n (low-32 n h)

pub word-64 : (n : ℕ) → is_64 n ≡ true → is_word (decimal n) ≡ true
word-64 n h = word-decimal n (low-64 n h)

-- a pair, where a letter stands for its kind of variable
abbrev pub is_good_pair : ℕ × ℤ → Bool
is_good_pair p = is_32 p.0 && is_small p.1

pub pair-read : (letter other : ℕ) (p : ℕ × ℤ) → is_good_pair p ≡ true → pair_of letter (pair_word (other ∷ []) p) ≡ (if other == letter then Some p else None)
pair-read letter other (n, c) h =
    let parts = and_parts (is_32 n) (is_small c) h in
    let plain = plain-signed c (small-wide c parts.1) in
    let before : before_star (pair_word (other ∷ []) (n, c)) ≡ signed_decimal c = before-behind (λ b. b == 42) (signed_decimal c) 42 (other ∷ decimal n) plain refl in
    let after : after_star (pair_word (other ∷ []) (n, c)) ≡ other ∷ decimal n = after-behind (λ b. b == 42) (signed_decimal c) 42 (other ∷ decimal n) plain refl in
    ap (λ w. pair_behind letter (narrow_of w) (after_star (pair_word (other ∷ []) (n, c)))) before
    ∙ ap (pair_behind letter (narrow_of (signed_decimal c))) after
    ∙ ap (λ z. if other == letter then Some (number_32 (decimal n), z) else None) (narrow-read c parts.1)
    ∙ ap (λ m. if other == letter then Some (m, c) else None) (read-32 n parts.0)

pub word-pair : (letter : ℕ) (p : ℕ × ℤ) → nat_lt 32 letter ≡ true → is_good_pair p ≡ true → is_word (pair_word (letter ∷ []) p) ≡ true
word-pair letter (n, c) l h =
    let parts = and_parts (is_32 n) (is_small c) h in
    list_all-append (nat_lt 32) (signed_decimal c) (42 ∷ letter ∷ decimal n)
    ∙ and_from (is_word (signed_decimal c)) (is_word (42 ∷ letter ∷ decimal n)) (word-signed c (small-wide c parts.1)) (and_from (nat_lt 32 letter) (is_word (decimal n)) l (word-32 n parts.0))

-- pairs with the letter that is looked for, and with another one
pub pairs-read : (letter : ℕ) (ps : List (ℕ × ℤ)) (rest : List (List ℕ)) → list_all is_good_pair ps ≡ true → pairs_of letter (map (pair_word (letter ∷ [])) ps ++ rest) ≡ ps ++ pairs_of letter rest
pairs-read letter [] rest h = refl
pairs-read letter (p ∷ ps) rest h =
    let parts = and_parts (is_good_pair p) (list_all is_good_pair ps) h in
    let same : (letter == letter) ≡ true = grind (arith, nat_tests) in
    ap (λ o. cons_option o (pairs_of letter (map (pair_word (letter ∷ [])) ps ++ rest))) (pair-read letter letter p parts.0 ∙ ap (λ b. if b then Some p else None) same)
    ∙ ap (λ qs. p ∷ qs) (pairs-read letter ps rest parts.1)

pub pairs-passed : (letter other : ℕ) (ps : List (ℕ × ℤ)) (rest : List (List ℕ)) → (other == letter) ≡ false → list_all is_good_pair ps ≡ true → pairs_of letter (map (pair_word (other ∷ [])) ps ++ rest) ≡ pairs_of letter rest
pairs-passed letter other [] rest ne h = refl
pairs-passed letter other (p ∷ ps) rest ne h =
    let parts = and_parts (is_good_pair p) (list_all is_good_pair ps) h in
    ap (λ o. cons_option o (pairs_of letter (map (pair_word (other ∷ [])) ps ++ rest))) (pair-read letter other p parts.0 ∙ ap (λ b. if b then Some p else None) ne)
    ∙ pairs-passed letter other ps rest ne parts.1

-- a word without an asterisk is no pair
pub plain-passed : (letter : ℕ) (word : List ℕ) (rest : List (List ℕ)) → is_plain word ≡ true → pairs_of letter (word ∷ rest) ≡ pairs_of letter rest
plain-passed letter word rest h = ap (λ after. cons_option (pair_behind letter (narrow_of (before_star word)) after) (pairs_of letter rest)) (after-nowhere word h)

pub words-pairs : (letter : ℕ) (ps : List (ℕ × ℤ)) → nat_lt 32 letter ≡ true → list_all is_good_pair ps ≡ true → list_all is_word (map (pair_word (letter ∷ [])) ps) ≡ true
words-pairs letter [] l h = refl
words-pairs letter (p ∷ ps) l h =
    let parts = and_parts (is_good_pair p) (list_all is_good_pair ps) h in
    and_from (is_word (pair_word (letter ∷ []) p)) (list_all is_word (map (pair_word (letter ∷ [])) ps)) (word-pair letter p l parts.0) (words-pairs letter ps l parts.1)

-- terms of a step
abbrev pub is_good_term : ℕ × ℤ → Bool
is_good_term t = is_64 t.0 && is_128 t.1

pub term-read : (t : ℕ × ℤ) → is_good_term t ≡ true → term_of (term_word t) ≡ t
term-read (n, m) h =
    let parts = and_parts (is_64 n) (is_128 m) h in
    let plain = plain-decimal n (low-64 n parts.0) in
    let before : before_star (term_word (n, m)) ≡ decimal n = before-behind (λ b. b == 42) (decimal n) 42 (signed_decimal m) plain refl in
    let after : after_star (term_word (n, m)) ≡ signed_decimal m = after-behind (λ b. b == 42) (decimal n) 42 (signed_decimal m) plain refl in
    ap (λ w. (number_64 w, signed_of (after_star (term_word (n, m))))) before ∙ ap (λ w. (number_64 (decimal n), signed_of w)) after
    ∙ ap (λ k. (k, signed_of (signed_decimal m))) (read-64 n parts.0) ∙ ap (λ z. (n, z)) (signed-read m parts.1)

pub terms-read : (ts : List (ℕ × ℤ)) → list_all is_good_term ts ≡ true → map term_of (map term_word ts) ≡ ts
terms-read [] h = refl
terms-read (t ∷ ts) h =
    let parts = and_parts (is_good_term t) (list_all is_good_term ts) h in
    ap (λ x. x ∷ map term_of (map term_word ts)) (term-read t parts.0) ∙ ap (λ xs. t ∷ xs) (terms-read ts parts.1)

pub word-term : (t : ℕ × ℤ) → is_good_term t ≡ true → is_word (term_word t) ≡ true
word-term (n, m) h =
    let parts = and_parts (is_64 n) (is_128 m) h in
    list_all-append (nat_lt 32) (decimal n) (42 ∷ signed_decimal m) ∙ and_from (is_word (decimal n)) (is_word (42 ∷ signed_decimal m)) (word-64 n parts.0) (word-signed m parts.1)

pub words-terms : (ts : List (ℕ × ℤ)) → list_all is_good_term ts ≡ true → list_all is_word (map term_word ts) ≡ true
words-terms [] h = refl
words-terms (t ∷ ts) h =
    let parts = and_parts (is_good_term t) (list_all is_good_term ts) h in
    and_from (is_word (term_word t)) (list_all is_word (map term_word ts)) (word-term t parts.0) (words-terms ts parts.1)
