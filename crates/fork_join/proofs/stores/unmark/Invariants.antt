use Rattle.std.proofs.Common.{◌≡◌}
use Rattle.std.specs.List.{range_with_len}
use Rattle.fork_join.specs.Overlays.{unmarked}
use Rattle.fork_join.proofs.stores.unmark.Given as goal

abbrev pub invariant-loop-k : goal.invariant-loop-k
invariant-loop-k l = l.stored ≡ unmarked (range_with_len l.fn.first l.k) l.fn.stored
