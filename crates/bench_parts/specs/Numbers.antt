-- Numbers, as words in decimal digits.
use Rattle.std.specs.Prelude.{ℕ, ◌+◌, ◌-◌, ◌*◌, ◌^◌, ◌==◌, ℤ, pos, negsuc, neg_ℤ, nat_le, if◌then◌else◌, List, [], ◌∷◌, Option, Some, None, codes, ◌≡◌, refl}
use Rattle.std.specs.Char.{is_ascii_digit}
use Rattle.std.specs.Option.{option_map}

-- the number that decimal digits give behind those that gave n, None where another byte is among them
abbrev pub digits_from : ℕ → List ℕ → Option ℕ
digits_from n [] = Some n
digits_from n (c ∷ cs) = if is_ascii_digit c then digits_from (n * 10 + (c - 48)) cs else None

-- the number of a word of decimal digits, at least one
abbrev pub natural_of : List ℕ → Option ℕ
natural_of [] = None
natural_of (c ∷ cs) = digits_from 0 (c ∷ cs)

-- the number, if it is at most the limit
abbrev pub within : ℕ → Option ℕ → Option ℕ
within limit None = None
within limit (Some n) = if nat_le n limit then Some n else None

-- the whole number of a word of decimal digits, with a minus sign in front or not, if it is at most 2 ^ 126 in size
abbrev pub entry_of : List ℕ → Option ℤ
entry_of [] = None
entry_of (c ∷ cs) = if c == 45
    then option_map (λ n. neg_ℤ (pos n)) (within (2 ^ 126) (natural_of cs))
    else option_map pos (within (2 ^ 126) (natural_of (c ∷ cs)))

pub entry_of-minus : entry_of (codes "-120") ≡ Some (negsuc 119)
entry_of-minus = refl

pub entry_of-zeros : entry_of (codes "007") ≡ Some (pos 7)
entry_of-zeros = refl

-- no plus sign, and no sign alone
pub entry_of-plus : entry_of (codes "+7") ≡ None
entry_of-plus = refl

pub entry_of-sign : entry_of (codes "-") ≡ None
entry_of-sign = refl

-- 2 ^ 126 is taken, and one more is not
pub entry_of-limit : entry_of (codes "-85070591730234615865843651857942052864")
    ≡ Some (neg_ℤ (pos (2 ^ 126)))
entry_of-limit = refl

pub entry_of-past : entry_of (codes "85070591730234615865843651857942052865") ≡ None
entry_of-past = refl
