use Rattle.std.proofs.Common.{◌≡◌, length}
use Rattle.nest_tree.specs.View.{tree_of}
use Rattle.spmd_machine.specs.Processors.{AreFresh}
use Rattle.spmd_machine.proofs.parts.processors_of.Given as goal

abbrev pub invariant-loop-p : goal.invariant-loop-p
invariant-loop-p l = record {
  count : length l.processors.items ≡ l.p;
  fresh : AreFresh l.style (tree_of l.program) l.plan l.room l.processors.items;
}
