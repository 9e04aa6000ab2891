use Rattle.std.proofs.Common.{◌≡◌, ◌++◌, drop}
use Rattle.elim_rows.specs.Pairs.{combined}
use Rattle.elim_rows.proofs.combination.combine.Given as goal

-- the entries so far, with those that are left, are the combination's
abbrev pub invariant-loop-k : goal.invariant-loop-k
invariant-loop-k l = l.coefs.items ++ combined l.m (drop l.k l.upper.coefs) l.n (drop l.k l.lower.coefs) ≡ combined l.m l.upper.coefs l.n l.lower.coefs
