use Rattle.std.proofs.Common.{length, arith}
use Rattle.nest_walk.proofs.ByNumberLists.{rounds_to-numbered}
use Rattle.nest_walk.proofs.path.Path.write_to.Goals as goal

pub overflow_sub-self : goal.overflow_sub-self
overflow_sub-self c =
    let p = c.args.self.now in
    omega (arith, rounds_to-numbered (length c.args.loops.now) p.numbers p.values p.depth c.loop-depth.depth c.loop-depth-test.true c.requires)

pub bounds-loops-self : goal.bounds-loops-self
bounds-loops-self c =
    let p = c.args.self.now in
    omega (arith, rounds_to-numbered (length c.args.loops.now) p.numbers p.values p.depth c.loop-depth.depth c.loop-depth-test.true c.requires, c.loop-depth.auto.loops)
