use Rattle.std.proofs.Common.{ℕ, ◌≤◌}
use Rattle.nest_tree.specs.View.{tree_of}
use Rattle.nest_rows.specs.Nested.{Nested}
use Rattle.nest_rows.specs.Views.{IsView}
use Rattle.range_check.specs.RangeSystems.{HasProof}
use Rattle.range_check.specs.Sites.{site_of}
use Rattle.range_check.proofs.certified.is_access_certified.Given as goal

abbrev pub invariant-loop-index : goal.invariant-loop-index
invariant-loop-index l = (n : Nested) → IsView n l.nested → (d : ℕ) → 1 ≤ d → d ≤ l.index → HasProof (tree_of l.program) (site_of n l.access) d
