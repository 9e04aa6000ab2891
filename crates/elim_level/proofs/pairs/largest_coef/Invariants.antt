use Rattle.std.proofs.Common.{◌≤◌, unsigned_abs, take}
use Rattle.std.specs.List.{All}
use Rattle.elim_rows.specs.Pairs.{coef_of}
use Rattle.elim_level.proofs.pairs.largest_coef.Given as goal

abbrev pub invariant-loop-held : goal.invariant-loop-held
invariant-loop-held l = All (λ h. unsigned_abs (coef_of l.variable h.row) ≤ l.largest) (take l.held-index l.rows)
