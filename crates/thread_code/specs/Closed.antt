-- A processor's own trips of a loop in closed form: what the emitted text computes, by C's operations on whole numbers, and the values that a `for` over them takes.
use Rattle.std.specs.Prelude.{ℕ, suc, ◌*◌, ◌+◌, ◌/◌, ◌%◌, ◌==◌, ◌<◌, ℤ, pos, negsuc, ◌+ℤ◌, ◌-ℤ◌, ◌*ℤ◌, int_div, int_rem, int_lt, Bool, true, false, List, [], ◌∷◌, if◌then◌else◌, ◌≡◌, refl}
use Rattle.std.specs.Int.{int_max, int_min, int_rem_euclid, ◌∣◌}
use Rattle.nest_tree.specs.Layout.{count_of}
use Rattle.nest_model.specs.Instances.{trips}
use Rattle.owner_partition.specs.OwnTrips.{IsSame}
use Rattle.thread_code.specs.declared.turnings.Turning.{Turning}

-- ---- the functions of the runtime: `/` and `%` cut toward zero, and the divisor is above 0

abbrev pub one_if : Bool → ℤ
one_if true = pos 1
one_if false = pos 0

-- number floored(number a, number b) { return a / b - (a % b < 0); }
abbrev pub floored : ℤ → ℤ → ℤ
floored a b = int_div a b -ℤ one_if (int_lt (int_rem a b) (pos 0))

-- number raised(number a, number b) { return a / b + (a % b > 0); }
abbrev pub raised : ℤ → ℤ → ℤ
raised a b = int_div a b +ℤ one_if (int_lt (pos 0) (int_rem a b))

-- number modulo(number a, number b) { return a % b < 0 ? a % b + b : a % b; }
abbrev pub modulo : ℤ → ℤ → ℤ
modulo a b = if int_lt (int_rem a b) (pos 0) then int_rem a b +ℤ b else int_rem a b

-- ---- places in blocks

-- the least and the greatest value of a loop in the block of processor p, where the form is rest + rise * value
abbrev pub low_value : ℕ → ℕ → ℤ → ℤ → ℤ
low_value length p rest (pos d) = raised (pos (length * p) -ℤ rest) (pos d)
low_value length p rest (negsuc d) =
    raised (rest -ℤ (pos (length * p + length) -ℤ pos 1)) (pos (suc d))

abbrev pub high_value : ℕ → ℕ → ℤ → ℤ → ℤ
high_value length p rest (pos d) = floored (pos (length * p + length) -ℤ pos 1 -ℤ rest) (pos d)
high_value length p rest (negsuc d) = floored (rest -ℤ pos (length * p)) (pos (suc d))

-- for (i = m1 + s * larger(0, raised(low - m1, s)); i <= smaller(m2, high); i += s), and downwards where s is below 0
abbrev pub window : ℤ → ℤ → ℤ → ℤ → ℤ → List ℤ
window m1 m2 low high (pos s) =
    trips (m1 +ℤ (int_max (pos 0) (raised (low -ℤ m1) (pos s)) *ℤ pos s)) (int_min m2 high) (pos s)
window m1 m2 low high (negsuc s) = trips
    (m1 +ℤ (int_max (pos 0) (raised (m1 -ℤ high) (pos (suc s))) *ℤ negsuc s)) (int_max m2 low)
    (negsuc s)

abbrev pub block_values : ℕ → ℕ → ℤ → ℤ → ℤ → ℤ → ℤ → List ℤ
block_values length p rest rise m1 m2 s =
    window m1 m2 (low_value length p rest rise) (high_value length p rest rise) s

-- ---- places in turn

-- it is right for a rise with this remainder: its divisor divides both the workers and the remainder, and its factor takes the one to the other
pub record IsTurningOf (workers rest : ℕ) (t : Turning) : Type 0 where
  pub of_workers : t.divisor ∣ workers
  pub of_rise : t.divisor ∣ rest
  pub factor : IsSame workers (rest * t.factor) t.divisor
  pub stride : t.stride ≡ workers / t.divisor

-- it is right for a form that rises so far with each trip
abbrev pub IsTurning : ℕ → ℤ → Turning → Type 0
IsTurning workers rise t = IsTurningOf workers (count_of (int_rem_euclid rise (pos workers))) t

-- what is known of each rise, by its remainder, is right
abbrev pub AreTurnings : ℕ → (ℕ → Turning) → Type 0
AreTurnings workers table = (rest : ℕ) → rest < workers → IsTurningOf workers rest (table rest)

-- two places are of the same processor in turn
abbrev pub IsSamePlace : ℕ → ℤ → ℤ → Type 0
IsSamePlace workers a b = int_rem_euclid a (pos workers) ≡ int_rem_euclid b (pos workers)

-- y = modulo(p - start, P); if (y % g == 0) for (i = m1 + s * (y / g * factor % stride); ..; i += s * stride)
abbrev pub turn_from : Turning → ℤ → ℤ → ℤ → ℕ → List ℤ
turn_from t m1 m2 s y =
    if y % t.divisor == 0
    then trips (m1 +ℤ (pos (y / t.divisor * t.factor % t.stride) *ℤ s)) m2 (pos t.stride *ℤ s)
    else []

abbrev pub turn_values : ℕ → Turning → ℕ → ℤ → ℤ → ℤ → ℤ → List ℤ
turn_values workers t p start m1 m2 s =
    turn_from t m1 m2 s (count_of (modulo (pos p -ℤ start) (pos workers)))

-- ---- examples

-- of I = 9, 7, 5, 3 with the place 2 * I - 3 in blocks of 4 processor 2 has I = 7, whose place is 11
pub block-down : block_values 4 2 (negsuc 2) (pos 2) (pos 9) (pos 2) (negsuc 1) ≡ pos 7 ∷ []
block-down = refl

-- of I = 1 to 8 with the place 4 * I in turn among six processor 2 has I = 2, 5 and 8, and processor 3 has none: 2 divides both 4 and 6, and 4 * 2 is 2 but for 6
pub turn-some : turn_values 6 (record { divisor = 2; factor = 2; stride = 3 }) 2 (pos 4) (pos 1)
    (pos 8) (pos 1) ≡ pos 2 ∷ pos 5 ∷ pos 8 ∷ []
turn-some = refl

pub turn-none : turn_values 6 (record { divisor = 2; factor = 2; stride = 3 }) 3 (pos 4) (pos 1)
    (pos 8) (pos 1) ≡ []
turn-none = refl
