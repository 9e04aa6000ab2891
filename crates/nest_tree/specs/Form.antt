-- Affine forms as plain data.
use Rattle.std.specs.Prelude.{ℕ, ℤ, pos, negsuc, ◌+ℤ◌, ◌*ℤ◌, ◌-◌, Bool, true, ◌&&◌, nat_lt, nat_le, IsTrue, List, [], ◌∷◌, unsigned_abs, slice_index_or, ◌≡◌, refl}
use Rattle.std.specs.List.{list_all}

-- constant + coefficients * DO variables + coefficients * named constants, each by its number from 1
pub record Form : Type 0 where
  pub constant : ℤ
  pub loops : List (ℕ × ℤ)
  pub params : List (ℕ × ℤ)

-- a number alone
abbrev pub fixed : ℤ → Form
fixed z = record { constant = z; loops = []; params = [] }

-- a number as a form may have it: within plus or minus 2147483647
abbrev pub is_small : ℤ → Bool
is_small z = nat_le (unsigned_abs z) 2147483647

-- the numbers rise above least, no coefficient is 0, and each is small
abbrev pub rises_above : ℕ → List (ℕ × ℤ) → Bool
rises_above least [] = true
rises_above least ((n, c) ∷ pairs) =
    nat_lt least n && nat_lt 0 (unsigned_abs c) && is_small c && rises_above n pairs

-- what the one way to write a form asks of its parts
abbrev pub is_form : Form → Bool
is_form f = is_small f.constant && rises_above 0 f.loops && rises_above 0 f.params

abbrev pub IsForm : Form → Type 0
IsForm f = IsTrue (is_form f)

-- no number is greater than this one
abbrev pub reach_within : ℕ → List (ℕ × ℤ) → Bool
reach_within greatest pairs = list_all (λ p. nat_le p.0 greatest) pairs

-- the value of the thing with this number, from 1, in a list of values
abbrev pub numbered : List ℤ → ℕ → ℤ
numbered values n = slice_index_or values (n - 1) (pos 0)

-- coefficients times values
abbrev pub dot : List (ℕ × ℤ) → List ℤ → ℤ
dot [] values = pos 0
dot ((n, c) ∷ pairs) values = c *ℤ numbered values n +ℤ dot pairs values

-- the value of a form where the loops and the named constants, by number, have these values
abbrev pub form_value : Form → List ℤ → List ℤ → ℤ
form_value f loops params = f.constant +ℤ dot f.loops loops +ℤ dot f.params params

-- the loops and the named constants that a form names are among the first so many
abbrev pub is_given : Form → ℕ → ℕ → Bool
is_given f loops params = reach_within loops f.loops && reach_within params f.params

-- 1 + 2 * L1 - 1 * P2 at L1 = 5, P1 = 7, P2 = 3 is 8
pub form_value-example : form_value (record
    { constant = pos 1; loops = (1, pos 2) ∷ []; params = (2, negsuc 0) ∷ [] }) (pos 5 ∷ [])
    (pos 7 ∷ pos 3 ∷ []) ≡ pos 8
form_value-example = refl
