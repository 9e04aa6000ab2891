use Rattle.std.proofs.Common.{length, map, take}
use Rattle.std.specs.List.{flat_map}
use Rattle.nest_tree.specs.declared.tree.Parameter.{Parameter}
use Rattle.nest_systems.specs.Kept.{HasKept, numbers_of, value_of}
use Rattle.nest_systems.proofs.kept.KeptRows.push_values.Given as goal

abbrev pub invariant-loop-number : goal.invariant-loop-number
invariant-loop-number l =
    HasKept (flat_map (value_of (map (λ (p : Parameter). p.value) l.values)) (take l.number-index l.kept)) (flat_map (numbers_of (length l.values)) (take l.number-index l.kept)) l.initial.self l.self
