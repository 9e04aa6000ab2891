use Rattle.std.proofs.Common.{◌+◌, map, drop}
use Rattle.nest_tree.specs.declared.tree.Parameter.{Parameter}
use Rattle.nest_rows.specs.Groups.{constants_have}
use Rattle.nest_rows.proofs.RowLists.{AreLeft}
use Rattle.nest_systems.proofs.rows.push_values.Given as goal

abbrev pub invariant-loop-index : goal.invariant-loop-index
invariant-loop-index l =
    AreLeft (constants_have 1 (map (λ (p : Parameter). p.value) l.params)) l.initial.system l.system (constants_have (l.index + 1) (map (λ (p : Parameter). p.value) (drop l.index l.params)))
