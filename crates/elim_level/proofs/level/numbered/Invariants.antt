use Rattle.std.proofs.Common.{◌≡◌}
use Rattle.std.specs.List.{All}
use Rattle.elim_level.specs.Logs.{IsLog, IsFounded, IsHeld, rows_of}
use Rattle.elim_rows.specs.Candidates.{rows_among}
use Rattle.elim_level.proofs.level.numbered.Given as goal

-- the candidates so far are held, and all of them stay founded
abbrev pub invariant-loop-candidate : goal.invariant-loop-candidate
invariant-loop-candidate l = record {
  rows : rows_of l.level.items ≡ rows_among l.yielded;
  log : IsLog l.system l.log.items;
  founded : All (IsFounded l.system l.log.items) l.fn.candidates.items;
  held : All (IsHeld l.system l.log.items) l.level.items;
}
