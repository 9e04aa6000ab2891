use Rattle.std.proofs.Common.{IsTrue, take}
use Rattle.std.specs.List.{AllZip}
use Rattle.nest_tree.specs.View.{tree_of}
use Rattle.nest_rows.specs.Nested.{nested_works}
use Rattle.range_check.specs.Certified.{AreCertified}
use Rattle.range_check.proofs.certified.certified_works.Given as goal

abbrev pub invariant-loop-nested : goal.invariant-loop-nested
invariant-loop-nested l = AllZip (λ n b. IsTrue b → AreCertified (tree_of l.program) n) (take l.nested-index (nested_works (tree_of l.program))) l.certified.items
