-- Numbers that are equal but for multiples of a modulus, and the remainders of whole numbers.
use Rattle.std.proofs.Common.{◌≡◌, ◌≢◌, ◌↔◌, subst, ℕ, zero, suc, ◌+◌, ◌*◌, ◌-◌, ◌/◌, ◌%◌, ◌<◌, ◌≤◌, ℤ, pos, negsuc, ◌+ℤ◌, ◌*ℤ◌, false, eqb, ⊎_elim, Option, Some, None, SFits, to_z, of_z, unsigned_abs, refl, ap, sym, ◌∙◌, arith}
use Rattle.std.specs.Int.{int_rem_euclid, w128, ◌∣◌}
use Rattle.std.proofs.lemmas.Nat.Gcd.{mod-eq-zero_of_dvd}
use Rattle.std.proofs.Math.Nat.{add-mul-mod_self_right, mod-eq_of_lt, mul-div_cancel_left, pos_of_dvd_of_pos}
use Rattle.std.proofs.lemmas.Int.{ints, int_rem_euclid_is, to_z-of_z}
use Rattle.list_lemmas.proofs.Integers.{mul-add}
use Rattle.nest_tree.specs.Layout.{count_of}
use Rattle.owner_partition.specs.declared.anchor.Dist.TheVariants.{Cyclic}
use Rattle.owner_partition.specs.OwnTrips.{IsInTurn, IsSame, IsSolved, trip_owner}
use Rattle.std.proofs.lemmas.Bool.{eqb-true, eq-eqb}
use Rattle.std.proofs.lemmas.Bool.Decides.{eqb_tells}

-- one step of Euclid's algorithm with factors
pub same-step : (m a d f r n q rest : ℕ) → d ≡ q * r + rest → n ≤ m → 0 < m → IsSame m (a * f) d → IsSame m (a * n) r → IsSame m (a * ((f + (m - n) * q) % m)) rest
same-step m a d f r n q rest split small some (u0, v0, e0) (u1, v1, e1) =
    let k = m - n in
    let y = f + k * q in
    let w = y / m in
    let z = y % m in
    let whole : y ≡ w * m + z = omega arith in
    let parts : k + n ≡ m = omega arith in
    let ay : a * y ≡ a * f + a * k * q = omega arith in
    let az : a * w * m + a * z ≡ a * y = omega (arith, ap (λ t. a * t) whole) in
    let ak : a * k * q + a * n * q ≡ a * m * q = omega (arith, ap (λ t. a * t * q) parts) in
    let e2 : a * n * q + u1 * m * q ≡ r * q + v1 * m * q = omega (arith, ap (λ t. t * q) e1) in
    (u0 + v1 * q + a * w, v0 + a * q + u1 * q, omega (arith, e0, e2, az, ay, ak, split))

-- the factor 1
pub same-one : (m a : ℕ) → 0 < m → IsSame m (a * (1 % m)) a
same-one m a some =
    let whole : 1 ≡ 1 / m * m + 1 % m = omega arith in
    (a * (1 / m), 0, omega (arith, ap (λ t. a * t) whole))

-- equal numbers below a modulus, each with any multiples, leave the same remainder
pub same_mod : (m a b u v : ℕ) → 0 < m → b < m → a + u * m ≡ b + v * m → a % m ≡ b
same_mod m a b u v some below e =
    sym (add-mul-mod_self_right a u m) ∙ ap (λ t. t % m) e ∙ add-mul-mod_self_right b v m ∙ mod-eq_of_lt below

pub mod_same : (m a b : ℕ) → 0 < m → a % m ≡ b → IsSame m a b
mod_same m a b some e = let whole : a ≡ a / m * m + a % m = omega (arith, some) in (0, a / m, omega (arith, whole, e))

-- what is missing to a remainder
missing_is : (m s p t : ℕ) → s < m → t ≡ (p + m - s) % m → p + m ≡ t + s + (p + m - s) / m * m
missing_is m s p t below e =
    let whole : p + m - s ≡ (p + m - s) / m * m + (p + m - s) % m = omega (arith, below) in
    omega (arith, below, e, whole)

-- a multiple is what is missing to a remainder exactly where their sum leaves it
pub same_missing : (m s p q : ℕ) → s < m → p < m → (s + q) % m ≡ p → IsSame m q ((p + m - s) % m)
same_missing m s p q low high e =
    let t = (p + m - s) % m in
    let w = (p + m - s) / m in
    let whole : s + q ≡ (s + q) / m * m + (s + q) % m = omega (arith, low) in
    (1, (s + q) / m + w, omega (arith, missing_is m s p t low refl, whole, e))

pub missing_same : (m s p q : ℕ) → s < m → p < m → IsSame m q ((p + m - s) % m) → (s + q) % m ≡ p
missing_same m s p q low high (u, v, e) =
    let t = (p + m - s) % m in
    let w = (p + m - s) / m in
    same_mod m (s + q) p (u + w) (v + 1) (omega (arith, low)) high (omega (arith, missing_is m s p t low refl, e))

-- a common divisor of the modulus and one of two numbers that are the same divides the other
cancel : (g a b : ℕ) → 0 < g → g * a ≡ g * b → a ≡ b
cancel g a b some e = sym (mul-div_cancel_left a some) ∙ ap (λ t. t / g) e ∙ mul-div_cancel_left b some

-- where r x is the same as g, a divisor of the modulus and of r: r n is the same as g t exactly where n is the same as t x but for multiples of the modulus divided
pub divided_same : (m g c d x n t : ℕ) → 0 < g → m ≡ g * c → IsSame m (g * d * x) g → IsSame m (g * d * n) (g * t) → IsSame c n (t * x)
divided_same m g c d x n t some em (a, b, ex) (u, v, en) =
    let fx : d * x + a * c ≡ 1 + b * c = cancel g _ _ some (omega (arith, ex, ap (λ k. a * k) em, ap (λ k. b * k) em)) in
    let fn : d * n + u * c ≡ t + v * c = cancel g _ _ some (omega (arith, en, ap (λ k. u * k) em, ap (λ k. v * k) em)) in
    (b * n + u * x, v * x + a * n, omega (arith, ap (λ k. k * n) fx, ap (λ k. k * x) fn))

pub same_divided : (m g c d x n t : ℕ) → m ≡ g * c → IsSame m (g * d * x) g → IsSame c n (t * x) → IsSame m (g * d * n) (g * t)
same_divided m g c d x n t em (a, b, ex) (u, v, en) =
    (u * d + a * t, v * d + b * t, omega (arith, ap (λ k. k * t) ex, ap (λ k. g * d * k) en, ap (λ k. u * d * k) em, ap (λ k. a * t * k) em, ap (λ k. v * d * k) em, ap (λ k. b * t * k) em))

-- a divisor of the modulus and of one of two numbers that are the same divides the other
pub same_divides : (m g c a t : ℕ) → m ≡ g * c → 0 < g → IsSame m (g * a) t → t % g ≡ 0
same_divides m g c a t em some (u, v, e) =
    same_mod g t 0 (v * c) (a + u * c) some some (omega (arith, e, ap (λ k. u * k) em, ap (λ k. v * k) em))

-- what leaves a remainder is that and a multiple
pub same_strided : (c n y : ℕ) → 0 < c → IsSame c n y → n ≡ y % c + n / c * c
same_strided c n y some (u, v, e) =
    let one : n ≡ n / c * c + n % c = omega (arith, some) in
    let two : y ≡ y / c * c + y % c = omega (arith, some) in
    let below : y % c < c = omega (arith, some) in
    let equal : n % c ≡ y % c = same_mod c n (y % c) u (v + y / c) some below (omega (arith, e, two)) in
    omega (arith, one, equal)

pub strided_same : (c y k : ℕ) → 0 < c → IsSame c (y % c + k * c) y
strided_same c y k some =
    let two : y ≡ y / c * c + y % c = omega (arith, some) in
    (y / c, k, omega (arith, two))

-- the remainder of a whole number, as one of natural numbers
pub record Residue (m : ℕ) (z : ℤ) : Type 0 where
  pub residue : ℕ
  pub below : residue < m
  pub is : int_rem_euclid z (pos m) ≡ pos residue
  pub up : ℕ
  pub down : ℕ
  pub same : z +ℤ pos (up * m) ≡ pos (residue + down * m)

pub residue_of : (m : ℕ) (z : ℤ) → 0 < m → Residue m z
residue_of m (pos a) some =
    let whole : a ≡ a / m * m + a % m = omega (arith, some) in
    record { residue = a % m; below = omega (arith, some); is = refl; up = 0; down = a / m; same = ap pos (omega (arith, whole)) }
residue_of m (negsuc a) some =
    let whole : a ≡ a / m * m + a % m = omega (arith, some) in
    let below : a % m < m = omega (arith, some) in
    record { residue = m - 1 - a % m; below = omega (arith, some); is = refl; up = a / m + 1; down = 0; same = omega (arith, ints, whole, below) }

-- the remainder of the place of the n-th of places in equal steps
pub place_residue : (m : ℕ) (start rise : ℤ) (s : Residue m start) (r : Residue m rise) (n : ℕ) → 0 < m → int_rem_euclid (start +ℤ (pos n *ℤ rise)) (pos m) ≡ pos ((s.residue + r.residue * n) % m)
place_residue m start rise s r n some =
    let steps : pos n *ℤ rise +ℤ pos (n * (r.up * m)) ≡ pos (n * (r.residue + r.down * m)) =
    sym (mul-add (pos n) rise (pos (r.up * m))) ∙ ap (λ z. pos n *ℤ z) r.same in
    let sum : start +ℤ (pos n *ℤ rise) +ℤ pos ((s.up + n * r.up) * m) ≡ pos (s.residue + r.residue * n + (s.down + n * r.down) * m) = omega (arith, ints, steps, s.same) in
    int_rem_euclid_is (start +ℤ (pos n *ℤ rise)) (pos m) m (s.up + n * r.up) (s.residue + r.residue * n + (s.down + n * r.down) * m) some refl sum
    ∙ ap pos (add-mul-mod_self_right (s.residue + r.residue * n) (s.down + n * r.down) m)

-- what a divisor divides
exact : (g m : ℕ) → g ∣ m → m ≡ g * (m / g)
exact g m h = let none = mod-eq-zero_of_dvd g h in omega (arith, none)

positive : (g c m : ℕ) → m ≡ g * c → 0 < m → 0 < c
positive g zero m e some = omega (arith, e, some)
positive g (suc c) m e some = omega arith

pub no_solution : (m r w g n : ℕ) → 0 < m → g ∣ m → g ∣ r → w % g ≢ 0 → r * n % m ≢ w
no_solution m r w g n some dm dr left e =
    let gs = pos_of_dvd_of_pos dm some in
    let er = exact g r dr in
    let same : IsSame m (g * (r / g * n)) w = mod_same m (g * (r / g * n)) w some (ap (λ t. t % m) (omega (arith, ap (λ t. t * n) er)) ∙ e) in
    left (same_divides m g (m / g) (r / g * n) w (exact g m dm) gs same)

pub solutions : (m r w g x : ℕ) → 0 < m → w < m → g ∣ m → g ∣ r → IsSame m (r * x) g → w % g ≡ 0 → (0 < m / g) × ((n : ℕ) → (r * n % m ≡ w) ↔ ((k : ℕ) × (n ≡ w / g * x % (m / g) + k * (m / g))))
solutions m r w g x some below dm dr fx dw =
    let gs = pos_of_dvd_of_pos dm some in
    let c = m / g in
    let d = r / g in
    let t = w / g in
    let em : m ≡ g * c = exact g m dm in
    let er : r ≡ g * d = exact g r dr in
    let ew : w ≡ g * t = omega (arith, dw) in
    let cs : 0 < c = positive g c m em some in
    let factor : IsSame m (g * d * x) g = subst (λ y. IsSame m (y * x) g) er fx in (
      cs,
      λ n. (
        (λ e.
            let same : IsSame m (g * d * n) (g * t) = subst (λ y. IsSame m (y * n) (g * t)) er (subst (IsSame m (r * n)) ew (mod_same m (r * n) w some e)) in
            (n / c, same_strided c n (t * x) cs (divided_same m g c d x n t gs em factor same))),
        λ (k, e).
            let same : IsSame c n (t * x) = subst (λ y. IsSame c y (t * x)) (sym e) (strided_same c (t * x) k cs) in
            let (u, v, f) = same_divided m g c d x n t em factor same in
            same_mod m (r * n) w u v some below (subst (λ y. y * n + u * m ≡ w + v * m) (sym er) (subst (λ y. g * d * n + u * m ≡ y + v * m) (sym ew) f)),
      ),
    )

not_equal : (a b : ℕ) → a ≢ b → eqb a b ≡ false
not_equal a b apart = ⊎_elim (λ equal. absurd (apart equal.1)) (λ other. other.0) (eqb_tells a b)

-- the trips of a processor in turn, by the remainders of where they begin and how far they rise
pub in_turn_by : (m p : ℕ) (start rise : ℤ) (s : Residue m start) (r : Residue m rise) (found : Option (ℕ × ℕ)) → p < m → IsSolved r.residue ((p + m - s.residue) % m) m found → IsInTurn m p start rise found
in_turn_by m p start rise s r found below solved =
    let some : 0 < m = omega (arith, below) in
    let t = (p + m - s.residue) % m in
    let low : t < m = omega (arith, some) in
    let owner : (n : ℕ) → trip_owner Cyclic m start rise n ≡ (s.residue + r.residue * n) % m = λ n. ap count_of (place_residue m start rise s r n some) in
    let forward : (n : ℕ) → trip_owner Cyclic m start rise n ≡ p → r.residue * n % m ≡ t =
    λ n e. let (u, v, f) = same_missing m s.residue p (r.residue * n) s.below below (sym (owner n) ∙ e) in same_mod m (r.residue * n) t u v some low f in
    let back : (n : ℕ) → r.residue * n % m ≡ t → trip_owner Cyclic m start rise n ≡ p = λ n e. owner n ∙ missing_same m s.residue p (r.residue * n) s.below below (mod_same m (r.residue * n) t some e) in
    turned m p start rise t r.residue found forward back solved
  where
    turned : (m p : ℕ) (start rise : ℤ) (t r : ℕ) (found : Option (ℕ × ℕ)) → ((n : ℕ) → trip_owner Cyclic m start rise n ≡ p → r * n % m ≡ t) → ((n : ℕ) → r * n % m ≡ t → trip_owner Cyclic m start rise n ≡ p) → IsSolved r t m found → IsInTurn m p start rise found
    turned m p start rise t r None forward back none = λ n. not_equal (trip_owner Cyclic m start rise n) p (λ e. none n (forward n e))
    turned m p start rise t r (Some found) forward back (some, each) = (some, λ n. ((λ h. (each n).0 (forward n (eqb-true _ _ h))), λ h. eq-eqb _ _ (back n ((each n).1 h))))

-- a remainder that is computed in 128 bits
pub cast_residue : (m : ℕ) (z result modulus : ℤ) (s : Residue m z) → SFits w128 z → SFits w128 result → SFits w128 modulus → modulus ≡ pos m → result ≡ int_rem_euclid (to_z w128 (of_z w128 z)) (to_z w128 (of_z w128 modulus)) → unsigned_abs (to_z w128 (of_z w128 result)) ≡ s.residue
cast_residue m z result modulus s fz fr fm em e =
    ap unsigned_abs (to_z-of_z w128 result fr ∙ e ∙ ap (λ x. int_rem_euclid x (to_z w128 (of_z w128 modulus))) (to_z-of_z w128 z fz) ∙ ap (int_rem_euclid z) (to_z-of_z w128 modulus fm ∙ em) ∙ s.is)
