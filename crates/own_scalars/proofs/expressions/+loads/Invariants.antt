use Rattle.std.proofs.Common.{◌≡◌, drop}
use Rattle.std.specs.List.{list_any}
use Rattle.nest_tree.specs.Loads.{loads_among}
use Rattle.nest_tree.specs.View.{expressions_from}
use Rattle.own_scalars.specs.OwnScalars.{is_of}
use Rattle.own_scalars.proofs.expressions.+loads.Given as goal

abbrev pub invariant-one_loads-loop-argument : goal.invariant-one_loads-loop-argument
invariant-one_loads-loop-argument l =
    list_any (is_of l.scalar) (loads_among (expressions_from (drop l.argument-index l.arguments))) ≡ list_any (is_of l.scalar) (loads_among (expressions_from l.arguments))
