use Rattle.std.proofs.Common.{◌≡◌, ◌≤◌, pos, take, length}
use Rattle.std.specs.List.{filter}
use Rattle.std.specs.Prelude.{int_lt}
use Rattle.elim_rows.specs.Pairs.{coef_of}
use Rattle.elim_level.proofs.pairs.count_pairs.Given as goal

-- those among the rows so far
abbrev pub invariant-loop-held : goal.invariant-loop-held
invariant-loop-held l = record {
  uppers : l.uppers ≡ length (filter (λ h. int_lt (pos 0) (coef_of l.variable h.row)) (take l.held-index l.rows));
  lowers : l.lowers ≡ length (filter (λ h. int_lt (coef_of l.variable h.row) (pos 0)) (take l.held-index l.rows));
  few_uppers : l.uppers ≤ l.held-index;
  few_lowers : l.lowers ≤ l.held-index;
}
