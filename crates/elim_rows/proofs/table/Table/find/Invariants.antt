use Rattle.std.proofs.Common.{◌≡◌, length}
use Rattle.elim_rows.specs.Candidates.{rows_among}
use Rattle.elim_rows.proofs.Hashing.{IsLookedFor}
use Rattle.elim_rows.proofs.table.Table.find.Given as goal

-- no row from the end on has these coefficients
abbrev pub invariant-loop-end : goal.invariant-loop-end
invariant-loop-end l = IsLookedFor (λ r. r.coefs ≡ l.coefs) (rows_among l.self.rows.items) l.self.chains.links.items (length l.self.chains.latest.items) l.hash l.end

abbrev pub decreases-loop-end : goal.decreases-loop-end
decreases-loop-end l = l.end
