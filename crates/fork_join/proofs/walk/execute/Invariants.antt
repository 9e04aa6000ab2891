use Rattle.std.proofs.Common.{length}
use Rattle.nest_tree.specs.View.{tree_of}
use Rattle.fork_join.specs.Cursors.{cursor_left}
use Rattle.fork_join.specs.Workers.{IsOverlay, IsWalking}
use Rattle.fork_join.proofs.walk.execute.Given as goal

abbrev pub invariant-loop-turns : goal.invariant-loop-turns
invariant-loop-turns l =
    let o = l.fn.overlay in record {
      kept : IsOverlay (tree_of o.program.now) o.plan.now o.behind o.processor o.memory.now l.overlay;
      walks : IsWalking (tree_of o.program.now) o.plan.now o.behind o.processor l.overlay.done.done l.turns l.executor;
    }

abbrev pub decreases-loop-turns : goal.decreases-loop-turns
decreases-loop-turns l = length (cursor_left l.turns)
