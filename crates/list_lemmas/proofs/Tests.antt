-- What an `or` of two tests says.
use Rattle.std.proofs.Common.{◌≡◌, Bool, true, false, ◌||◌, refl}

-- the first passes, so one does
pub or_left_true : (a b : Bool) → a ≡ true → (a || b) ≡ true
or_left_true true b h = refl
or_left_true false b h = absurd (cc)

-- the second passes, so one does
pub or_right_true : (a b : Bool) → b ≡ true → (a || b) ≡ true
or_right_true true b h = refl
or_right_true false b h = h

-- neither passes, so the first doesn't
pub or_left_false : (a b : Bool) → (a || b) ≡ false → a ≡ false
or_left_false true b e = absurd (cc)
or_left_false false b e = refl
