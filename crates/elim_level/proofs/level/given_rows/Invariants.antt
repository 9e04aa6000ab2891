use Rattle.std.proofs.Common.{take}
use Rattle.elim_rows.specs.Candidates.{rows_among}
use Rattle.elim_rows.specs.Table.{IsTable}
use Rattle.elim_level.specs.Gathering.{AreGiven}
use Rattle.elim_level.proofs.level.given_rows.Given as goal

abbrev pub invariant-loop-index : goal.invariant-loop-index
invariant-loop-index l = record {
  table : IsTable (rows_among l.table.rows.items) l.table.chains.links.items l.table.chains.latest.items;
  given : AreGiven l.system (take l.index l.system.rows) l.table.rows.items;
}
