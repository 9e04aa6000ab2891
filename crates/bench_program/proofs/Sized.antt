-- The digits of the sizes that `bench` takes.
use Rattle.std.proofs.Common.{◌≡◌, ℕ, ◌<◌, ◌≤◌, true, ◌&&◌, nat_le, List, [], ◌∷◌, length, refl, ap, arith}
use Rattle.std.specs.Fmt as fmt
use Rattle.std.specs.List.{list_all}
use Rattle.std.proofs.lemmas.Bool.{and_from, and_parts}
use Rattle.std.proofs.lemmas.Bool.Decides.{nat_tests}
use Rattle.std.proofs.lemmas.Fmt.{decimal_nonempty, digits_decimal, digits_value-decimal, length-decimal-le}
use Rattle.std.proofs.lemmas.Str.Parse.{IsNumeralModel, numerals_by_fold}
use Rattle.f77_forms.specs.Characters.{decimal, decimal_from, is_digit, is_number}
use Rattle.bench_program.proofs.Listed.{AreDigits}

-- digits as a statement reads them
numerals : IsNumeralModel (λ ds. list_all is_digit ds ≡ true) decimal
numerals =
    numerals_by_fold (λ ds. list_all is_digit ds ≡ true)
    (record {
      empty = refl;
      parts = λ c cs h. (let parts = and_parts (is_digit c) (list_all is_digit cs) h in (grind (arith, nat_tests), parts.1));
      more = λ c cs within rest. and_from (is_digit c) (list_all is_digit cs) (grind (arith, nat_tests)) rest;
    })
    decimal_from (record { empty = λ n. refl; more = λ n c cs within. ap (λ m. decimal_from m cs) (omega arith) })

number-from : (ds : List ℕ) → 0 < length ds → list_all is_digit ds ≡ true → decimal ds ≤ 9223372036854775807 → is_number ds ≡ true
number-from [] some digits few = absurd (omega arith)
number-from (d ∷ ds) some digits few = and_from (is_digit d && list_all is_digit ds) (nat_le (decimal (d ∷ ds)) 9223372036854775807) digits (grind (arith, nat_tests))

pub value-is : (n : ℕ) → n ≤ 1000000 → decimal (fmt.decimal n) ≡ n
value-is n few = digits_value-decimal numerals n (omega arith)

pub sizes-digits : (n : ℕ) → n ≤ 1000000 → AreDigits (fmt.decimal n)
sizes-digits n few =
    let digits = digits_decimal numerals n (omega arith) in
    let some = decimal_nonempty n (omega arith) in record {
      digits = digits;
      number = number-from (fmt.decimal n) some digits (omega (arith, value-is n few));
      few = length-decimal-le 10 n (omega arith) (omega arith) (omega arith);
    }
