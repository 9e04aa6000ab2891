-- Numbers, as words and read from them.
use Rattle.std.proofs.Common.{◌≡◌, ℕ, suc, ◌+◌, ◌-◌, ◌*◌, ◌/◌, ◌%◌, ◌^◌, ◌<◌, ◌≤◌, ℤ, pos, negsuc, Bool, true, false, ◌&&◌, ◌==◌, nat_lt, nat_le, List, [], ◌∷◌, ◌++◌, refl, ap, ◌∙◌, arith}
use Rattle.std.specs.Prelude.{if◌then◌else◌}
use Rattle.std.specs.Fmt.{decimal, signed_decimal}
use Rattle.std.specs.List.{list_all}
use Rattle.std.proofs.lemmas.Bool.{and_from, and_parts}
use Rattle.std.proofs.lemmas.Bool.Decides.{nat_tests}
use Rattle.std.proofs.lemmas.Fmt.{decimal_by_steps_wide}
use Rattle.std.proofs.lemmas.List.Folds.{list_all-append}
use Rattle.std.proofs.lemmas.List.Sums.{fold-append}
use Rattle.plan_text.specs.Loose.{kept, negated, next_digit, number_of, signed_of}
use Rattle.plan_text.specs.PlanText.{is_128}

-- a digit; and what a number's word may have: digits and a minus sign
abbrev pub is_digit : ℕ → Bool
is_digit b = nat_le 48 b && nat_le b 57

pub digits-decimal : (n : ℕ) → n < 10 ^ 64 → list_all is_digit (decimal n) ≡ true
digits-decimal = decimal_by_steps_wide (λ n ds. list_all is_digit ds ≡ true) one more
  where
    one : (n : ℕ) → n < 10 → list_all is_digit ((48 + n) ∷ []) ≡ true
    one n h = grind (arith, nat_tests)

    more : (n : ℕ) (ds : List ℕ) → 10 ≤ n → list_all is_digit ds ≡ true → list_all is_digit (ds ++ ((48 + n % 10) ∷ [])) ≡ true
    more n ds h rest =
        let last : list_all is_digit ((48 + n % 10) ∷ []) ≡ true = (let low : n % 10 < 10 = omega arith in one (n % 10) low) in
        list_all-append is_digit ds ((48 + n % 10) ∷ []) ∙ and_from (list_all is_digit ds) (list_all is_digit ((48 + n % 10) ∷ [])) rest last

-- the number of its digits, modulo 2^128
number-decimal : (n : ℕ) → n < 10 ^ 64 → number_of (decimal n) ≡ n % 2 ^ 128
number-decimal = decimal_by_steps_wide (λ n ds. number_of ds ≡ n % 2 ^ 128) one more
  where
    one : (n : ℕ) → n < 10 → number_of ((48 + n) ∷ []) ≡ n % 2 ^ 128
    one n h = omega arith

    more : (n : ℕ) (ds : List ℕ) → 10 ≤ n → number_of ds ≡ n / 10 % 2 ^ 128 → number_of (ds ++ ((48 + n % 10) ∷ [])) ≡ n % 2 ^ 128
    more n ds h rest =
        let step : (n / 10 % 2 ^ 128 * 10 % 2 ^ 128 + (48 + n % 10 - 48)) % 2 ^ 128 ≡ n % 2 ^ 128 = omega arith in
        fold-append next_digit 0 ds ((48 + n % 10) ∷ []) ∙ ap (λ m. next_digit m (48 + n % 10)) rest ∙ step

pub number-read : (n : ℕ) → n < 2 ^ 128 → number_of (decimal n) ≡ n
number-read n h = let e : n % 2 ^ 128 ≡ n = omega arith in number-decimal n (omega arith) ∙ e

-- a word of digits doesn't begin with a minus sign, so it is read as it is
signed_of-digits : (word : List ℕ) → list_all is_digit word ≡ true → number_of word < 2 ^ 127 → signed_of word ≡ pos (number_of word)
signed_of-digits [] h small = refl
signed_of-digits (c ∷ cs) h small =
    let first = (and_parts (is_digit c) (list_all is_digit cs) h).0 in
    let none : (c == 45) ≡ false = grind (arith, nat_tests) in
    let low : nat_lt (number_of (c ∷ cs)) (2 ^ 127) ≡ true = grind (arith, nat_tests) in
    ap (λ b. if b then negated (number_of cs) else kept (number_of (c ∷ cs))) none ∙ ap (λ b. if b then pos (number_of (c ∷ cs)) else pos 0) low

pub signed-read : (z : ℤ) → is_128 z ≡ true → signed_of (signed_decimal z) ≡ z
signed-read (pos n) h =
    let low : n < 2 ^ 127 = grind (arith, nat_tests) in
    let read = number-read n (omega arith) in
    signed_of-digits (decimal n) (digits-decimal n (omega arith)) (omega (arith, read)) ∙ ap pos read
signed-read (negsuc n) h =
    let low : n < 2 ^ 127 = grind (arith, nat_tests) in
    let read = number-read (suc n) (omega arith) in
    let some : (nat_lt 0 (suc n) && nat_le (suc n) (2 ^ 127)) ≡ true = grind (arith, nat_tests) in
    let less : suc n - 1 ≡ n = omega arith in
    ap negated read ∙ ap (λ b. if b then negsuc (suc n - 1) else pos 0) some ∙ ap negsuc less
