use Rattle.std.proofs.Common.{◌≡◌, ◌++◌, drop, map}
use Rattle.std.specs.List.{flat_map}
use Rattle.nest_tree.specs.Loads.{loads_in_item}
use Rattle.nest_tree.specs.View.{printed_of}
use Rattle.range_check.specs.Seen.{accesses_seen}
use Rattle.range_check.proofs.accesses.push_items.Given as goal

abbrev pub invariant-loop-item : goal.invariant-loop-item
invariant-loop-item l =
    accesses_seen l.found.items ++ flat_map loads_in_item (map printed_of (drop l.item-index l.items)) ≡ accesses_seen l.initial.found.items ++ flat_map loads_in_item (map printed_of l.items)
