use Rattle.std.proofs.Common.{◌≡◌, ◌+◌, ◌<◌, ◌^◌, drop, map, false}
use Rattle.std.specs.Prelude.{sum_by}
use Rattle.std.specs.List.{flat_map}
use Rattle.std.specs.Io.Iter.{u64_saturate}
use Rattle.nest_tree.specs.View.{printed_of}
use Rattle.nest_walk.specs.Tables.{Loaded, loaded_in_item}
use Rattle.comm_system.specs.References.{variable_of}
use Rattle.obligation_numbers.proofs.accesses.printed_weight.Given as goal

abbrev pub invariant-loop-item : goal.invariant-loop-item
invariant-loop-item g l =
    let f = λ (x : Loaded). g.W.AccessWeight.weight l.weight (variable_of x) false in
    (l.total < 2 ^ 64) × (u64_saturate (l.total + sum_by f (flat_map loaded_in_item (map printed_of (drop l.item-index l.items)))) ≡ u64_saturate (sum_by f (flat_map loaded_in_item (map printed_of l.items))))
