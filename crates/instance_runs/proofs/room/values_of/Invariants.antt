use Rattle.std.proofs.Common.{◌≡◌, take}
use Rattle.instance_runs.specs.Loads.{widths}
use Rattle.instance_runs.proofs.room.values_of.Given as goal

abbrev pub invariant-loop-load : goal.invariant-loop-load
invariant-loop-load l = l.count ≡ widths (take l.load-index l.loads)
