-- Characters by their codes, and what is made of them: names and numbers (ANSI X3.9-1978, 2.2, 3.1 and 4.3).
use Rattle.std.specs.Prelude.{ℕ, zero, suc, ◌+◌, ◌-◌, ◌*◌, ◌/◌, ◌%◌, Bool, false, ◌&&◌, ◌||◌, nat_le, List, [], ◌∷◌, ◌++◌, length, codes, ◌≡◌, refl}
use Rattle.std.specs.List.{list_all}

-- 0 to 9
abbrev pub is_digit : ℕ → Bool
is_digit c = nat_le 48 c && nat_le c 57

-- A to Z
abbrev pub is_capital : ℕ → Bool
is_capital c = nat_le 65 c && nat_le c 90

abbrev pub is_capital_or_digit : ℕ → Bool
is_capital_or_digit c = is_capital c || is_digit c

-- a name: 1 to 6 capitals and digits that begin with a capital
abbrev pub is_name : List ℕ → Bool
is_name [] = false
is_name (c ∷ cs) = is_capital c && nat_le (length cs) 5 && list_all is_capital_or_digit cs

-- the number that digits stand for, where those in front of them stand for `front`
abbrev pub decimal_from : ℕ → List ℕ → ℕ
decimal_from front [] = front
decimal_from front (d ∷ ds) = decimal_from (10 * front + (d - 48)) ds

abbrev pub decimal : List ℕ → ℕ
decimal ds = decimal_from 0 ds

-- digits that stand for a value: at most 9223372036854775807, with any leading zeros
abbrev pub is_number : List ℕ → Bool
is_number [] = false
is_number (d ∷ ds) =
    is_digit d && list_all is_digit ds && nat_le (decimal (d ∷ ds)) 9223372036854775807

-- a value with so many digits
abbrev pub digits_of : ℕ → ℕ → List ℕ
digits_of zero value = []
digits_of (suc count) value = digits_of count (value / 10) ++ (48 + value % 10) ∷ []

-- 042 stands for 42
pub decimal-example : decimal (codes "042") ≡ 42
decimal-example = refl

-- 42 with three digits is 042
pub digits_of-example : digits_of 3 42 ≡ codes "042"
digits_of-example = refl
