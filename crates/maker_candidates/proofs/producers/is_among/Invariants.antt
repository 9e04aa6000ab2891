use Rattle.std.proofs.Common.{◌≡◌, drop}
use Rattle.std.specs.List.{list_any}
use Rattle.nest_tree.specs.Tree.{param_values}
use Rattle.nest_tree.specs.View.{tree_of}
use Rattle.maker_candidates.specs.Same.{says_same}
use Rattle.maker_candidates.proofs.producers.is_among.Given as goal

abbrev pub invariant-loop-one : goal.invariant-loop-one
invariant-loop-one l =
    let test = says_same (param_values (tree_of l.site.program.now)) l.site.plan.now.workers l.anchor in
    list_any test (drop l.one-index l.anchors) ≡ list_any test l.anchors
