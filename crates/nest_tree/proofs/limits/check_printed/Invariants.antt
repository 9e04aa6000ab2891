use Rattle.std.proofs.Common.{◌≡◌, drop, length, map, IsTrue}
use Rattle.std.specs.List.{flat_map}
use Rattle.nest_tree.specs.declared.tree.Parameter.{Parameter}
use Rattle.nest_tree.specs.Given.{are_loads_given}
use Rattle.nest_tree.specs.Limits.{wide_loads}
use Rattle.nest_tree.specs.Loads.{loads_in_item}
use Rattle.nest_tree.specs.View.{printed_of}
use Rattle.nest_tree.proofs.limits.check_printed.Given as goal

abbrev pub invariant-loop-item : goal.invariant-loop-item
invariant-loop-item l =
    let values = map (λ (p : Parameter). p.value) l.constants in
    let left = flat_map loads_in_item (map printed_of (drop l.item-index l.items)) in
    record {
      given : IsTrue (are_loads_given (length l.ends) (length l.constants) left);
      wide : wide_loads values l.ends left ≡ wide_loads values l.ends (flat_map loads_in_item (map printed_of l.items));
    }
