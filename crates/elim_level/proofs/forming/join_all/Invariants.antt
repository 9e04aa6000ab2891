use Rattle.std.proofs.Common.{List, [], take}
use Rattle.elim_level.specs.declared.level.Held.{Held}
use Rattle.elim_rows.specs.Candidates.{rows_among}
use Rattle.elim_rows.specs.Table.{IsTable}
use Rattle.elim_level.specs.Gathering.{IsGathered}
use Rattle.elim_level.proofs.forming.join_all.Given as goal

-- what the upper rows so far make is among the others
abbrev pub invariant-loop-upper : goal.invariant-loop-upper
invariant-loop-upper l = record {
  table : IsTable (rows_among l.table.rows.items) l.table.chains.links.items l.table.chains.latest.items;
  gathered : (apart : List Held) → IsGathered l.variable apart [] l.lowers l.fn.table.rows.items → IsGathered l.variable apart (take l.upper-index l.uppers) l.lowers l.table.rows.items;
}
