use Rattle.std.proofs.Common.{◌≡◌, drop}
use Rattle.elim_rows.specs.Chains.{hash_from}
use Rattle.elim_rows.proofs.chains.hash_of.Given as goal

-- the hash so far, with the coefficients that are left, is that of all
abbrev pub invariant-loop-coef : goal.invariant-loop-coef
invariant-loop-coef l = hash_from l.sum (drop l.coef-index l.coefs) ≡ hash_from 0 l.coefs
