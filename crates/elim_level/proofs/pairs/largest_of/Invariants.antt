use Rattle.std.proofs.Common.{◌≤◌, unsigned_abs, take}
use Rattle.std.specs.List.{All}
use Rattle.elim_level.proofs.pairs.largest_of.Given as goal

abbrev pub invariant-loop-number : goal.invariant-loop-number
invariant-loop-number l = All (λ a. unsigned_abs a ≤ l.largest) (take l.number-index l.numbers)
