use Rattle.std.proofs.Common.{drop, pos}
use Rattle.nest_tree.specs.Tree.{param_values}
use Rattle.nest_tree.specs.View.{tree_of}
use Rattle.c_expressions.specs.Sums.{place_at}
use Rattle.c_expressions.proofs.Summed.{SumsLeft}
use Rattle.c_expressions.proofs.scope.Scope.element.Given as goal

abbrev pub invariant-loop-dimension : goal.invariant-loop-dimension
invariant-loop-dimension l =
    SumsLeft l.place (place_at (param_values (tree_of l.self.program.now)) l.stride (drop l.dimension l.subscripts) (drop l.dimension l.bounds))
    (place_at (param_values (tree_of l.self.program.now)) (pos 1) l.subscripts l.bounds)
