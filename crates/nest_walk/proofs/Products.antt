-- Products of whole numbers.
use Rattle.std.proofs.Common.{◌≡◌, ◌+◌, ◌*◌, ℤ, ◌+ℤ◌, ◌-ℤ◌, ◌*ℤ◌, ap, sym, ◌∙◌, arith}
use Rattle.std.proofs.lemmas.Int.{ints}
use Rattle.list_lemmas.proofs.Integers.{mul-add}

less : (x y z : ℤ) → x ≡ y +ℤ z → y ≡ x -ℤ z
less x y z e = omega (arith, ints, e)

pub mul-less : (a b c : ℤ) → a *ℤ (b -ℤ c) ≡ a *ℤ b -ℤ a *ℤ c
mul-less a b c =
    let back : b -ℤ c +ℤ c ≡ b = omega (arith, ints) in
    let whole : a *ℤ b ≡ a *ℤ (b -ℤ c) +ℤ a *ℤ c = sym (ap (λ z. a *ℤ z) back) ∙ mul-add a (b -ℤ c) c in
    less (a *ℤ b) (a *ℤ (b -ℤ c)) (a *ℤ c) whole
