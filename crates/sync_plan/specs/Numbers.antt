-- Numbers that their types hold, as the text of a plan has them.
use Rattle.std.specs.Prelude.{ℕ, ℤ, pos, negsuc, ◌^◌, Bool, true, ◌&&◌, nat_lt, length}
use Rattle.std.specs.List.{list_all}
use Rattle.farkas_cert.specs.declared.certificate.Certificate.{Certificate}
use Rattle.farkas_cert.specs.declared.certificate.Step.{Step}
use Rattle.owner_partition.specs.declared.anchor.Dist.{Dist}
use Rattle.owner_partition.specs.declared.anchor.Dist.TheVariants.{Block, Cyclic}

-- numbers of 32 and of 64 bits, and signed ones of 128 bits
abbrev pub is_32 : ℕ → Bool
is_32 n = nat_lt n (2 ^ 32)

abbrev pub is_64 : ℕ → Bool
is_64 n = nat_lt n (2 ^ 64)

abbrev pub is_128 : ℤ → Bool
is_128 (pos n) = nat_lt n (2 ^ 127)
is_128 (negsuc n) = nat_lt n (2 ^ 127)

-- how many places a block has
abbrev pub is_dist_shown : Dist → Bool
is_dist_shown (Block b) = is_32 b
is_dist_shown Cyclic = true

-- a step with its divisor and, by the numbers of rows, its multipliers
abbrev pub is_step_shown : Step → Bool
is_step_shown s = is_128 s.divisor && list_all (λ t. is_64 t.0 && is_128 t.1) s.terms

abbrev pub is_certificate_shown : Certificate → Bool
is_certificate_shown c = is_64 (length c.steps) && list_all is_step_shown c.steps
