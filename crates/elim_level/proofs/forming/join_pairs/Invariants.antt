use Rattle.std.proofs.Common.{take}
use Rattle.elim_rows.specs.Candidates.{rows_among}
use Rattle.elim_rows.specs.Table.{IsTable}
use Rattle.elim_level.specs.Gathering.{IsJoined}
use Rattle.elim_level.proofs.forming.join_pairs.Given as goal

-- what the lower rows so far make is among the others
abbrev pub invariant-loop-lower : goal.invariant-loop-lower
invariant-loop-lower l = record {
  table : IsTable (rows_among l.table.rows.items) l.table.chains.links.items l.table.chains.latest.items;
  joined : IsJoined l.variable l.upper (take l.lower-index l.lowers) l.fn.table.rows.items l.table.rows.items;
}
