use Rattle.std.proofs.Common.{◌≡◌, ℕ, ◌≤◌, ◌<◌, pos, map, length, get_or}
use Rattle.std.specs.List.{All, filter}
use Rattle.std.specs.Prelude.{int_lt}
use Rattle.std.specs.Ordering.{int_eq}
use Rattle.elim_level.specs.declared.level.Held.{Held}
use Rattle.elim_rows.specs.Pairs.{coef_of}
use Rattle.elim_rows.specs.Candidates.{rows_among}
use Rattle.elim_rows.specs.Table.{IsTable}
use Rattle.elim_level.specs.Gathering.{candidate_of}
use Rattle.elim_level.proofs.forming.split_by_sign.Given as goal

-- the rows so far, by the sign; no later row has the coefficients of one without the variable
abbrev pub invariant-loop-held : goal.invariant-loop-held
invariant-loop-held l = record {
  count : l.index ≡ length l.yielded;
  table : IsTable (rows_among l.split.apart.rows.items) l.split.apart.chains.links.items l.split.apart.chains.latest.items;
  fresh : (k : ℕ) (d : Held) → l.index ≤ k → k < length l.fn.level.items → All (λ r. r.coefs ≡ (get_or l.fn.level.items k d).row.coefs → ⊥) (rows_among l.split.apart.rows.items);
  apart : l.split.apart.rows.items ≡ map candidate_of (filter (λ h. int_eq (coef_of l.variable h.row) (pos 0)) l.yielded);
  uppers : l.split.uppers.items ≡ filter (λ h. int_lt (pos 0) (coef_of l.variable h.row)) l.yielded;
  lowers : l.split.lowers.items ≡ filter (λ h. int_lt (coef_of l.variable h.row) (pos 0)) l.yielded;
}
