use Rattle.std.proofs.Common.{take}
use Rattle.std.specs.List.{All}
use Rattle.elim_level.specs.Gathering.{IsWithin}
use Rattle.elim_level.proofs.pairs.largest_entry.Given as goal

abbrev pub invariant-loop-held : goal.invariant-loop-held
invariant-loop-held l = All (λ h. IsWithin l.largest h.row) (take l.held-index l.rows)
