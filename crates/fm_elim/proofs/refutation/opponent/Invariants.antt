use Rattle.std.proofs.Common.{length, get_or}
use Rattle.farkas_cert.specs.Combination.{no_row}
use Rattle.elim_level.specs.Logs.{rows_of}
use Rattle.fm_elim.specs.Answers.{AreClashing}
use Rattle.elim_rows.proofs.Hashing.{IsLookedFor}
use Rattle.fm_elim.proofs.refutation.opponent.Given as goal

-- no row from the end on clashes with the row
abbrev pub invariant-loop-end : goal.invariant-loop-end
invariant-loop-end l = IsLookedFor (AreClashing (get_or (rows_of l.level.rows.items) l.number no_row)) (rows_of l.level.rows.items) l.level.chains.links.items (length l.level.chains.latest.items) l.hash l.end

abbrev pub decreases-loop-end : goal.decreases-loop-end
decreases-loop-end l = l.end
