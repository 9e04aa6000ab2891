use Rattle.std.proofs.Common.{◌≡◌, drop, map}
use Rattle.std.specs.List.{flat_map, list_any}
use Rattle.nest_tree.specs.Loads.{loads_in_item}
use Rattle.nest_tree.specs.View.{printed_of}
use Rattle.own_scalars.specs.OwnScalars.{is_of}
use Rattle.own_scalars.proofs.works.one_item_loads.Given as goal

abbrev pub invariant-loop-item : goal.invariant-loop-item
invariant-loop-item l =
    list_any (is_of l.scalar) (flat_map loads_in_item (map printed_of (drop l.item-index l.items))) ≡ list_any (is_of l.scalar) (flat_map loads_in_item (map printed_of l.items))
