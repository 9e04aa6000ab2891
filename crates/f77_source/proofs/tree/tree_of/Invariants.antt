use Rattle.std.proofs.Common.{◌≡◌, map, reverse, drop}
use Rattle.nest_tree.specs.View.{expression_of}
use Rattle.f77_program.specs.Measures.{measure_of}
use Rattle.f77_program.specs.Operands.{forms_of}
use Rattle.f77_program.specs.Stacks.{stacked}
use Rattle.f77_scene.specs.Trees as trees
use Rattle.f77_source.proofs.tree.tree_of.Given as goal

abbrev pub invariant-loop-place : goal.invariant-loop-place
invariant-loop-place l = record {
  measures : l.measures.items ≡ reverse (stacked (measure_of l.known) (drop l.place (forms_of l.parts.items)));
  trees : map expression_of l.trees.items ≡ reverse (stacked (trees.tree_of l.variables l.known) (drop l.place (forms_of l.parts.items)));
}
