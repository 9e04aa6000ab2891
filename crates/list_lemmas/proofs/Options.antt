-- What stands for what is lacking.
use Rattle.std.proofs.Common.{◌≡◌, Option, None, Some, refl}
use Rattle.std.specs.Option.{option_or}

pub or_none : {X : Type 0} (a b : Option X) → a ≡ None → option_or a b ≡ b
or_none None b e = refl
or_none (Some x) b e = absurd (cc)
