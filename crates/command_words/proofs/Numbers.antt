-- Values and settings of words.
use Rattle.std.proofs.Common.{arith, ◌≡◌, ◌≢◌, ◌<◌, ◌∙◌, ◌&&◌, ◌+◌, ◌^◌, ℕ, ℤ, pos, Bool, true, false, refl, ap, List, [], ◌∷◌, length, Some, None, Result, Ok, Err, inl, inr, subst}
use Rattle.std.specs.Prelude.{neg_ℤ, nat_le, nat_lt, get_or, option_map, if◌then◌else◌}
use Rattle.std.specs.Int.{w64}
use Rattle.std.specs.Result.{OkIff, result_ok}
use Rattle.std.specs.Str.{all_ascii_digits}
use Rattle.std.specs.Char.{is_ascii_digit}
use Rattle.std.specs.List.{list_all}
use Rattle.std.specs.Str.Parse.{ParsesSigned, ParsesUnsigned, digits_value}
use Rattle.std.proofs.lemmas.Bool.{and_parts}
use Rattle.std.proofs.lemmas.Bool.Decides.{eqb_tells, nat_tests}
use Rattle.std.proofs.lemmas.Str.Parse.{IsNumeralModel, numerals_by_value, parse_digits, tells_all_ascii_digits, parse_signed_minus, parse_signed_plain}
use Rattle.command_words.specs.Settings.{value_of}
use Rattle.command_words.specs.Wanted.{is_numeral, size_of}

-- what a test tells of a result that is Ok exactly where something holds
chosen : {E : Type 0} (r : Result ℤ E) (P : Type 0) (b : Bool) (v : ℤ) → OkIff r P v → (P → b ≡ true) → (b ≡ true → P) → result_ok r ≡ (if b then Some v else None)
chosen (Ok x) P b v h to from = rw (to h.0) (ap Some h.1)
chosen (Err e) P true v h to from = absurd (h (from refl))
chosen (Err e) P false v h to from = refl

digits : IsNumeralModel (λ ds. all_ascii_digits ds ≡ true) (digits_value 10)
digits = numerals_by_value (λ ds. all_ascii_digits ds ≡ true) tells_all_ascii_digits

abbrev test : List ℕ → ℕ → Bool
test ds most = all_ascii_digits ds && (nat_lt 0 (length ds) && nat_lt (digits_value 10 ds) most)

passes : (ds : List ℕ) (most : ℕ) → all_ascii_digits ds ≡ true → 0 < length ds → digits_value 10 ds < most → test ds most ≡ true
passes ds most a b c = rw a (rw (nat_lt_true b) (nat_lt_true c))
  where
    nat_lt_true : {m n : ℕ} → m < n → nat_lt m n ≡ true
    nat_lt_true h = grind (arith, nat_tests)

passed : (ds : List ℕ) (most : ℕ) → test ds most ≡ true → (all_ascii_digits ds ≡ true) × (0 < length ds) × (digits_value 10 ds < most)
passed ds most h =
    let one = and_parts (all_ascii_digits ds) _ h in
    let two = and_parts (nat_lt 0 (length ds)) _ one.1 in
    (one.0, grind (arith, nat_tests), grind (arith, nat_tests))

pick_map : {X Y : Type 0} (f : X → Y) (b : Bool) (x : X) → (if b then Some (f x) else None) ≡ option_map f (if b then Some x else None)
pick_map f true x = refl
pick_map f false x = refl

no_digit : {E : Type 0} (r : Result ℤ E) (P Q : Type 0) (v : ℤ) → OkIff r (P × (0 < 0) × Q) v → result_ok r ≡ None
no_digit (Ok x) P Q v h = absurd (omega (arith, h.0.1))
no_digit (Err e) P Q v h = refl

pub value_is : {E : Type 0} (bs : List ℕ) (r : Result ℤ E) → ParsesSigned w64 10 bs r → get_or bs 0 0 ≢ 43 → result_ok r ≡ value_of bs
value_is [] r h plus = no_digit r _ _ _ (parse_signed_plain digits w64 [] r h plus (λ e. omega (arith, e)))
value_is (c ∷ ds) r h plus = elim (eqb_tells c 45) [
  | inl is ↦ rw is.0 (chosen r _ (test ds (2 ^ 63 + 1)) _ (parse_signed_minus digits w64 (c ∷ ds) r h is.1) (λ p. passes ds (2 ^ 63 + 1) p.0 p.1 (omega (arith, p.2))) (λ t. let p = passed ds (2 ^ 63 + 1) t in (p.0, p.1, omega (arith, p.2))) ∙ pick_map (λ n. neg_ℤ (pos n)) (test ds (2 ^ 63 + 1)) (digits_value 10 ds))
  | inr isnt ↦ rw isnt.0 (chosen r _ (test (c ∷ ds) (2 ^ 63)) _ (parse_signed_plain digits w64 (c ∷ ds) r h plus isnt.1) (λ p. passes (c ∷ ds) (2 ^ 63) p.0 p.1 p.2) (λ t. passed (c ∷ ds) (2 ^ 63) t) ∙ pick_map pos (test (c ∷ ds) (2 ^ 63)) (digits_value 10 (c ∷ ds)))
]

-- ---- sizes

all_digits : (ds : List ℕ) → list_all is_ascii_digit ds ≡ true → all_ascii_digits ds ≡ true
all_digits [] h = refl
all_digits (d ∷ ds) h = let parts = and_parts (is_ascii_digit d) _ h in rw parts.0 (all_digits ds parts.1)

numeral_parts : (t : List ℕ) → is_numeral t ≡ true → (all_ascii_digits t ≡ true) × (0 < length t)
numeral_parts [] h = absurd (cc)
numeral_parts (c ∷ cs) h = (all_digits (c ∷ cs) (and_parts (list_all is_ascii_digit (c ∷ cs)) _ h).0, omega arith)

-- a numeral that can't be read is past its bounds
pub size_unread : {E : Type 0} (low high : ℕ) (t : List ℕ) (r : Result ℕ E) (e : E) → ParsesUnsigned 32 10 t r → is_numeral t ≡ true → high < 2 ^ 32 → r ≡ Err e → size_of low high t ≡ None
size_unread low high t r e h numeral fits is =
    let parts = numeral_parts t numeral in
    let read = parse_digits digits 32 t r h parts.0 in
    let past : ((0 < length t) × (digits_value 10 t < 2 ^ 32)) → ⊥ = subst (λ (x : Result ℕ _). OkIff x ((0 < length t) × (digits_value 10 t < 2 ^ 32)) (digits_value 10 t)) is read in
    let above : nat_le (digits_value 10 t) high ≡ false = grind (arith, nat_tests, past, parts.1, fits) in
    rw above (no_size (is_numeral t) (nat_le low (digits_value 10 t)) (digits_value 10 t))
  where
    no_size : (a b : Bool) (v : ℕ) → (if a && (b && false) then Some v else None) ≡ None
    no_size true true v = refl
    no_size true false v = refl
    no_size false b v = refl
