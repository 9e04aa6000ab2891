use Rattle.std.proofs.Common.{◌≡◌, drop, map}
use Rattle.std.specs.List.{list_all}
use Rattle.nest_tree.specs.View.{declaration_of, statements_from}
use Rattle.nest_agree.specs.Agree.{printed_whole}
use Rattle.nest_agree.specs.Same.{same_bounds}
use Rattle.nest_agree.proofs.agree.+bounds.Given as goal

abbrev pub invariant-have_same_bounds-loop-item : goal.invariant-have_same_bounds-loop-item
invariant-have_same_bounds-loop-item l =
    let test = same_bounds (map declaration_of l.f) (map declaration_of l.g) in
    list_all test (printed_whole (statements_from (drop l.item-index l.items))) ≡ list_all test (printed_whole (statements_from l.items))
