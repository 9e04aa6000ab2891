use Rattle.std.proofs.Common.{ℕ, ◌<◌, pos, IsTrue, length}
use Rattle.farkas_cert.specs.Combination.{stays_narrow}
use Rattle.elim_rows.specs.Pairs.{products_of}
use Rattle.elim_rows.proofs.combination.is_narrow_combination.Given as goal

-- none of the entries so far is wide
abbrev pub invariant-loop-k : goal.invariant-loop-k
invariant-loop-k l = (k : ℕ) → k < l.k → IsTrue (stays_narrow (pos 0) (products_of (length l.upper.coefs) l.m l.upper l.n l.lower k))
