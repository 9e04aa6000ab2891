-- Digits and the numbers that they stand for.
use Rattle.std.proofs.Common.{◌≡◌, ℕ, suc, ◌+◌, ◌-◌, ◌*◌, ◌/◌, ◌%◌, ◌<◌, ◌≤◌, Bool, true, false, ◌&&◌, List, [], ◌∷◌, ◌++◌, length, take, drop, get_or, drop-cons, add-one, Some, None, refl, sym, ap, ◌∙◌, arith}
use Rattle.std.specs.Prelude.{nat_le}
use Rattle.std.proofs.Math.Seq.{take-suc, drop-length}
use Rattle.std.proofs.lemmas.List.{take_all}
use Rattle.std.specs.List.{list_all}
use Rattle.std.proofs.lemmas.Bool.Decides.{nat_tests}
use Rattle.f77_forms.specs.Characters.{is_digit, is_number, decimal, decimal_from, digits_of}
use Rattle.f77_forms.specs.Reading.{number_from, number_at}

decimal_from-grows : (front : ℕ) (ds : List ℕ) → front ≤ decimal_from front ds
decimal_from-grows front [] = omega arith
decimal_from-grows front (d ∷ ds) = omega (arith, decimal_from-grows (10 * front + (d - 48)) ds)

-- the limit on each front is the limit on the whole
number_from-decimal : (front : ℕ) (ds : List ℕ) → front ≤ 9223372036854775807 → number_from front ds ≡ (list_all is_digit ds && nat_le (decimal_from front ds) 9223372036854775807)
unfolding number_from
number_from-decimal front [] h = grind (arith, nat_tests)
number_from-decimal front (d ∷ ds) h = by_case (is_digit d) (nat_le (10 * front + (d - 48)) 9223372036854775807) refl (number_from-decimal (10 * front + (d - 48)) ds)
  where
    next : ℕ
    next = 10 * front + (d - 48)

    by_case : (b t : Bool) → nat_le next 9223372036854775807 ≡ t → (next ≤ 9223372036854775807 → number_from next ds ≡ (list_all is_digit ds && nat_le (decimal_from next ds) 9223372036854775807)) → (b && t && number_from next ds) ≡ (b && list_all is_digit ds && nat_le (decimal_from next ds) 9223372036854775807)
    by_case false t e rest = refl
    by_case true true e rest = (let low : next ≤ 9223372036854775807 = grind (arith, nat_tests) in rest low)
    by_case true false e rest =
        let high : nat_le (decimal_from next ds) 9223372036854775807 ≡ false = (let grows = decimal_from-grows next ds in grind (arith, nat_tests)) in
        rw high (never (list_all is_digit ds))
      where
        never : (a : Bool) → false ≡ (a && false)
        never true = refl
        never false = refl

-- a word that is not empty is a number where its digits are read to the end
pub number_at-from : (word : List ℕ) → 0 < length word → (b : Bool) → number_from 0 word ≡ b → is_number word ≡ b
number_at-from [] h b e = absurd (omega arith)
number_at-from (d ∷ ds) h b e = sym (number_from-decimal 0 (d ∷ ds) (omega arith)) ∙ e

-- one more digit
pub digits_of-more : (count value d : ℕ) → d < 10 → digits_of (suc count) (10 * value + d) ≡ digits_of count value ++ (48 + d) ∷ []
digits_of-more count value d h =
    let quotient : (10 * value + d) / 10 ≡ value = omega arith in
    let remainder : (10 * value + d) % 10 ≡ d = omega arith in
    rw (quotient, remainder) refl

pub decimal_from-more : (front : ℕ) (ds : List ℕ) (d : ℕ) → decimal_from front (ds ++ d ∷ []) ≡ 10 * decimal_from front ds + (d - 48)
decimal_from-more front [] d = refl
decimal_from-more front (e ∷ ds) d = decimal_from-more (10 * front + (e - 48)) ds d

-- one digit further in a text
number_from-turn : (text : List ℕ) (i value : ℕ) → i < length text → number_from value (drop i text)
    ≡ (is_digit (get_or text i 0) && nat_le (10 * value + (get_or text i 0 - 48)) 9223372036854775807 && number_from (10 * value + (get_or text i 0 - 48)) (drop (i + 1) text))
unfolding number_from
number_from-turn text i value h = rw (add-one, drop-cons text i 0) refl

pub no_digit : (text : List ℕ) (i value : ℕ) → i < length text → number_from value (drop i text) ≡ number_from 0 text → is_digit (get_or text i 0) ≡ false → number_at text ≡ None
no_digit text i value h same e =
    let none : number_from 0 text ≡ false = sym same ∙ number_from-turn text i value h ∙ ap (λ b. b && nat_le (10 * value + (get_or text i 0 - 48)) 9223372036854775807 && number_from (10 * value + (get_or text i 0 - 48)) (drop (i + 1) text)) e in
    rw (number_at-from text (omega arith) false none) refl

never_between : (a b : Bool) → (a && false && b) ≡ false
never_between true b = refl
never_between false b = refl

pub past_limit : (text : List ℕ) (i value d : ℕ) → i < length text → number_from value (drop i text) ≡ number_from 0 text → d ≡ get_or text i 0 - 48 → 9223372036854775807 < 10 * value + d → number_at text ≡ None
past_limit text i value d h same is high =
    let past : nat_le (10 * value + (get_or text i 0 - 48)) 9223372036854775807 ≡ false = grind (arith, nat_tests) in
    let none : number_from 0 text ≡ false = sym same ∙ number_from-turn text i value h ∙ ap (λ b. is_digit (get_or text i 0) && b && number_from (10 * value + (get_or text i 0 - 48)) (drop (i + 1) text)) past ∙ never_between (is_digit (get_or text i 0)) (number_from (10 * value + (get_or text i 0 - 48)) (drop (i + 1) text)) in
    rw (number_at-from text (omega arith) false none) refl

-- what is known of the digits in front of a place
pub record Digits (text : List ℕ) (i value : ℕ) : Type 0 where
  pub same : number_from value (drop i text) ≡ number_from 0 text
  pub fits : value ≤ 9223372036854775807
  pub written : digits_of i value ≡ take i text
  pub valued : decimal (take i text) ≡ value

pub one_further : (text : List ℕ) (i value d : ℕ) → i < length text → Digits text i value → is_digit (get_or text i 0) ≡ true → d ≡ get_or text i 0 - 48 → 10 * value + d ≤ 9223372036854775807 → Digits text (i + 1) (10 * value + d)
one_further text i value d h so_far digit is low =
    let within : nat_le (10 * value + (get_or text i 0 - 48)) 9223372036854775807 ≡ true = grind (arith, nat_tests) in
    let small : d < 10 = grind (arith, nat_tests) in
    let code : 48 + d ≡ get_or text i 0 = grind (arith, nat_tests) in
    let more : take (i + 1) text ≡ take i text ++ get_or text i 0 ∷ [] = rw add-one (take-suc text i 0 h) in
    let turn : number_from value (drop i text) ≡ number_from (10 * value + (get_or text i 0 - 48)) (drop (i + 1) text) = number_from-turn text i value h ∙ rw (digit, within) refl in
    record {
      same = ap (λ x. number_from (10 * value + x) (drop (i + 1) text)) is ∙ sym turn ∙ so_far.same;
      fits = low;
      written = rw add-one (digits_of-more i value d small ∙ ap (λ x. x ++ (48 + d) ∷ []) so_far.written ∙ ap (λ x. take i text ++ x ∷ []) code ∙ sym (take-suc text i 0 h));
      valued = ap decimal more ∙ decimal_from-more 0 (take i text) (get_or text i 0) ∙ ap (λ x. 10 * x + (get_or text i 0 - 48)) so_far.valued ∙ ap (λ x. 10 * value + x) (sym is);
    }

pub all_digits : (text : List ℕ) (i value : ℕ) → 0 < length text → length text ≤ i → i ≤ length text → Digits text i value → number_at text ≡ Some (digits_of (length text) value)
unfolding number_from
all_digits text i value some low high so_far =
    let end : i ≡ length text = omega arith in
    let none_left : drop i text ≡ [] = ap (λ n. drop n text) end ∙ drop-length text in
    let good : number_from 0 text ≡ true = sym so_far.same ∙ ap (number_from value) none_left in
    let all : take i text ≡ text = take_all i text low in
    rw (number_at-from text some true good) (ap Some (sym (ap (λ n. digits_of n value) (sym end) ∙ so_far.written ∙ all)))
