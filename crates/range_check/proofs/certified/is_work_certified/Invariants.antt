use Rattle.std.proofs.Common.{map, take}
use Rattle.std.specs.List.{AllByRecursion}
use Rattle.nest_tree.specs.View.{tree_of}
use Rattle.nest_rows.specs.Nested.{Nested}
use Rattle.nest_rows.specs.Views.{IsView}
use Rattle.range_check.specs.Certified.{IsCertified}
use Rattle.range_check.specs.Seen.{accesses_seen}
use Rattle.range_check.specs.Sites.{site_of}
use Rattle.range_check.proofs.certified.is_work_certified.Given as goal

abbrev pub invariant-loop-one : goal.invariant-loop-one
invariant-loop-one l = (n : Nested) → IsView n l.nested → AllByRecursion (IsCertified (tree_of l.program)) (map (site_of n) (accesses_seen (take l.one-index l.one-items)))
