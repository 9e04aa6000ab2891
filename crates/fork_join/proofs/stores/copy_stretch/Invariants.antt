use Rattle.std.proofs.Common.{◌≡◌}
use Rattle.std.specs.List.{range_with_len}
use Rattle.fork_join.specs.Overlays.{laid_in, stores_to}
use Rattle.fork_join.proofs.stores.copy_stretch.Given as goal

abbrev pub invariant-loop-k : goal.invariant-loop-k
invariant-loop-k l = l.memory ≡ laid_in (stores_to (range_with_len l.fn.first l.k) l.values) l.fn.memory
