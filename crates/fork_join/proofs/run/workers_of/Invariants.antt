use Rattle.std.proofs.Common.{◌≡◌, length}
use Rattle.nest_tree.specs.View.{tree_of}
use Rattle.fork_join.specs.Workers.{AreAt}
use Rattle.fork_join.proofs.run.workers_of.Given as goal

abbrev pub invariant-loop-p : goal.invariant-loop-p
invariant-loop-p l = record {
  count : length l.workers.items ≡ l.p;
  at : AreAt (tree_of l.lent.program.now) l.lent.plan.now 0 l.workers.items;
}
