use Rattle.std.proofs.Common.{length}
use Rattle.nest_tree.specs.View.{tree_of}
use Rattle.fork_join.specs.Cursors.{cursor_turns}
use Rattle.fork_join.specs.Workers.{IsClosing}
use Rattle.fork_join.proofs.worker.Worker.lay_in.Given as goal

abbrev pub invariant-loop : goal.invariant-loop
invariant-loop l = IsClosing (tree_of l.fn.self.program.now) l.fn.self.plan.now l.behind l.fn.self.processor l.memory l.self

abbrev pub decreases-loop : goal.decreases-loop
decreases-loop l = length (cursor_turns l.self.turns)
