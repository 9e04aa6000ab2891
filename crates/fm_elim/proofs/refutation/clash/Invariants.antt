use Rattle.std.proofs.Common.{ℕ, ◌<◌, get_or}
use Rattle.std.specs.List.{All}
use Rattle.farkas_cert.specs.Combination.{no_row}
use Rattle.elim_level.specs.Logs.{rows_of}
use Rattle.fm_elim.specs.Answers.{AreClashing}
use Rattle.fm_elim.proofs.refutation.clash.Given as goal

-- no row so far clashes with one
abbrev pub invariant-loop-number : goal.invariant-loop-number
invariant-loop-number l = (k : ℕ) → k < l.number → All (λ r. AreClashing (get_or (rows_of l.level.rows.items) k no_row) r → ⊥) (rows_of l.level.rows.items)
