use Rattle.std.proofs.Common.{◌≡◌, ◌-◌, drop}
use Rattle.std.specs.List.{flat_map, slice_get}
use Rattle.nest_tree.specs.View.{tree_of}
use Rattle.nest_rows.specs.Nested.{nested_works}
use Rattle.range_check.specs.Sites.{sites, sites_of}
use Rattle.range_check.proofs.proof.range_proof.Given as goal

abbrev pub invariant-loop-nested : goal.invariant-loop-nested
invariant-loop-nested l = slice_get (flat_map sites_of (drop l.nested-index (nested_works (tree_of l.program)))) l.before ≡ slice_get (sites (tree_of l.program)) (l.fn.access - 1)
