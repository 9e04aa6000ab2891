use Rattle.std.proofs.Common.{◌++◌, drop, take}
use Rattle.elim_level.specs.Gathering.{AreTaken}
use Rattle.elim_rows.specs.Table.{IsTable}
use Rattle.elim_level.specs.Logs.{rows_of}
use Rattle.elim_rows.specs.Candidates.{rows_among}
use Rattle.fm_elim.proofs.Joining.{IsEither}
use Rattle.fm_elim.proofs.extension.extended_rows.Given as goal

-- the level's rows so far
abbrev pub invariant-loop-held : goal.invariant-loop-held
invariant-loop-held l = record {
  table : IsTable (rows_among l.table.rows.items) l.table.chains.links.items l.table.chains.latest.items;
  taken : AreTaken l.whole l.log.items (IsEither (rows_of l.rows.rows.items) (drop l.given l.whole.rows)) (rows_of (take l.held-index l.rows.rows.items)) l.table.rows.items;
}

-- all of them, and the further rows so far
abbrev pub invariant-loop-index : goal.invariant-loop-index
invariant-loop-index l = record {
  table : IsTable (rows_among l.table.rows.items) l.table.chains.links.items l.table.chains.latest.items;
  taken : AreTaken l.whole l.log.items (IsEither (rows_of l.rows.rows.items) (drop l.given l.whole.rows)) (rows_of l.rows.rows.items ++ take l.index (drop l.given l.whole.rows)) l.table.rows.items;
}
