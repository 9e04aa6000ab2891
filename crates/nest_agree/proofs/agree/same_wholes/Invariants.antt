use Rattle.std.proofs.Common.{◌≡◌, drop, map}
use Rattle.std.specs.List.{flat_map, list_all}
use Rattle.nest_tree.specs.View.{declaration_of, printed_of}
use Rattle.nest_agree.specs.Agree.{whole_in}
use Rattle.nest_agree.specs.Same.{same_bounds}
use Rattle.nest_agree.proofs.agree.same_wholes.Given as goal

abbrev pub invariant-loop-item : goal.invariant-loop-item
invariant-loop-item l =
    let test = same_bounds (map declaration_of l.f) (map declaration_of l.g) in
    list_all test (flat_map whole_in (map printed_of (drop l.item-index l.items))) ≡ list_all test (flat_map whole_in (map printed_of l.items))
