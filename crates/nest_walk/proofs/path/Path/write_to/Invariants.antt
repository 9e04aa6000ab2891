use Rattle.std.proofs.Common.{◌≡◌}
use Rattle.nest_walk.specs.ByNumber.{with_rounds}
use Rattle.nest_walk.specs.Paths.{rounds_to}
use Rattle.nest_walk.proofs.path.Path.write_to.Given as goal

abbrev pub invariant-loop-depth : goal.invariant-loop-depth
invariant-loop-depth l = l.loops ≡ with_rounds l.initial.loops (rounds_to l.self.numbers l.self.values l.depth)
