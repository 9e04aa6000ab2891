use Rattle.std.proofs.Common.{◌≡◌, replicate}
use Rattle.nest_walk.specs.Frames.{ended, levels_to}
use Rattle.nest_walk.proofs.frame.Frames.end.Given as goal

abbrev pub invariant-loop-level : goal.invariant-loop-level
invariant-loop-level l = levels_to l.self.all l.level ≡ replicate l.level (ended l.end)
