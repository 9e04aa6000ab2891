-- Greatest common divisors, and the multipliers and divisors that come of them.
use Rattle.std.proofs.Common.{◌≡◌, ℕ, zero, suc, ◌/◌, ◌%◌, ◌≤◌, ◌<◌, max, ℤ, pos, ◌<ℤ◌, unsigned_abs, List, get_or, refl, sym, subst, arith}
use Rattle.std.specs.Int.{IsGcd}
use Rattle.std.proofs.Math.Nat.{one-dvd}
use Rattle.std.proofs.lemmas.Nat.Gcd.{IsGcd-from_zero, IsGcd-from_mod}
use Rattle.farkas_cert.specs.declared.system.Row.{Row}
use Rattle.elim_rows.specs.Reduction.{DividesEach}
use Rattle.elim_rows.specs.Pairs.{coef_of, IsPair}

-- any two numbers have a greatest common divisor
gcd_within : (fuel a b : ℕ) → b ≤ fuel → (g : ℕ) × IsGcd a b g
gcd_within zero a b h = (a, IsGcd-from_zero a b (omega arith))
gcd_within (suc fuel) a zero h = (a, IsGcd-from_zero a 0 refl)
gcd_within (suc fuel) a (suc b) h =
    let rest = gcd_within fuel (suc b) (a % suc b) (omega arith) in
    (rest.0, IsGcd-from_mod a (suc b) rest.0 rest.1)

pub gcd_exists : (a b : ℕ) → (g : ℕ) × IsGcd a b g
gcd_exists a b = gcd_within b a b (omega arith)

-- a pair of opposite sign has least multipliers
pub pair_exists : (v : ℕ) (upper lower : Row) → pos 0 <ℤ coef_of v upper → coef_of v lower <ℤ pos 0 → (m : ℤ) × (n : ℤ) × IsPair v upper lower m n
pair_exists v upper lower above below =
    let found = gcd_exists (unsigned_abs (coef_of v upper)) (unsigned_abs (coef_of v lower)) in (
      pos (unsigned_abs (coef_of v lower) / found.0),
      pos (unsigned_abs (coef_of v upper) / found.0),
      record {
        above = above;
        below = below;
        divisor = found.0;
        common = found.1;
        upper_times = refl;
        lower_times = refl;
      },
    )

-- the divisor of a reduction divides each coefficient and is above 0
pub divides_max : (g : ℕ) (coefs : List ℤ) → DividesEach g coefs → DividesEach (max g 1) coefs
divides_max zero coefs each = λ k d h. one-dvd (unsigned_abs (get_or coefs k d))
divides_max (suc g) coefs each = let e : max (suc g) 1 ≡ suc g = omega arith in subst (λ n. DividesEach n coefs) (sym e) each
