use Rattle.std.proofs.Common.{ℕ, ◌<◌, get_or}
use Rattle.elim_level.specs.declared.level.Held.{Held}
use Rattle.elim_rows.specs.Candidates.{IsEmpty}
use Rattle.fm_elim.proofs.refutation.contradiction.Given as goal

-- no row so far is without coefficients
abbrev pub invariant-loop-held : goal.invariant-loop-held
invariant-loop-held l = (k : ℕ) (d : Held) → k < l.held-index → IsEmpty (get_or l.level k d).row → ⊥
