-- Which of the examples are an addition to K.
use Rattle.std.proofs.Common.{◌≡◌, true, false, refl}
use Rattle.own_scalars.specs.OwnScalars.{adds_to}
use Rattle.own_scalars.specs.Examples.{at_right, behind_sign, inside, k, multiplied, subtracted, subtracted_twice, twice, with_sign}

inside-example : adds_to 2 inside ≡ true
inside-example = refl

behind_sign-example : adds_to 2 behind_sign ≡ true
behind_sign-example = refl

at_right-example : adds_to 2 at_right ≡ true
at_right-example = refl

alone-example : adds_to 2 k ≡ false
alone-example = refl

subtracted-example : adds_to 2 subtracted ≡ false
subtracted-example = refl

subtracted_twice-example : adds_to 2 subtracted_twice ≡ false
subtracted_twice-example = refl

twice-example : adds_to 2 twice ≡ false
twice-example = refl

multiplied-example : adds_to 2 multiplied ≡ false
multiplied-example = refl

with_sign-example : adds_to 2 with_sign ≡ false
with_sign-example = refl
