-- Pieces of work all of whose subscripts are certified.
use Rattle.std.specs.Prelude.{ℕ, ◌≤◌, length}
use Rattle.std.specs.List.{AllByRecursion}
use Rattle.nest_tree.specs.Layout.{bounds_of}
use Rattle.nest_tree.specs.Tree.{Tree}
use Rattle.nest_rows.specs.Nested.{Nested}
use Rattle.range_check.specs.RangeSystems.{HasProof}
use Rattle.range_check.specs.Sites.{Site, sites_of}

-- each dimension has its certificates
abbrev pub IsCertified : Tree → Site → Type 0
IsCertified tree site = (dimension : ℕ) → 1 ≤ dimension
    → dimension ≤ length (bounds_of tree site.access.variable) → HasProof tree site dimension

abbrev pub AreCertified : Tree → Nested → Type 0
AreCertified tree n = AllByRecursion (IsCertified tree) (sites_of n)
