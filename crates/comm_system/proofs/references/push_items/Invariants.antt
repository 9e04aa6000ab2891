use Rattle.std.proofs.Common.{◌≡◌, ◌++◌, drop, map, false}
use Rattle.std.specs.List.{flat_map}
use Rattle.nest_tree.specs.View.{printed_of}
use Rattle.nest_walk.specs.Tables.{loaded_in_item}
use Rattle.conflict_rules.specs.Seen.{reference_seen}
use Rattle.comm_system.specs.Seen.{referred}
use Rattle.comm_system.proofs.references.push_items.Given as goal

abbrev pub invariant-loop-item : goal.invariant-loop-item
invariant-loop-item l =
    map reference_seen l.found.items ++ map (referred l.place false) (flat_map loaded_in_item (map printed_of (drop l.item-index l.items))) ≡ map reference_seen l.initial.found.items ++ map (referred l.place false) (flat_map loaded_in_item (map printed_of l.items))
