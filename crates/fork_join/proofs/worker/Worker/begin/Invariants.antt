use Rattle.std.proofs.Common.{length}
use Rattle.nest_tree.specs.View.{tree_of}
use Rattle.fork_join.specs.Cursors.{cursor_left}
use Rattle.fork_join.specs.Workers.{IsBeginning}
use Rattle.fork_join.proofs.worker.Worker.begin.Given as goal

abbrev pub invariant-loop-next : goal.invariant-loop-next
invariant-loop-next l = IsBeginning (tree_of l.fn.self.program.now) l.fn.self.plan.now l.behind l.fn.self.processor l.self

abbrev pub decreases-loop-next : goal.decreases-loop-next
decreases-loop-next l = length (cursor_left l.self.turns)
