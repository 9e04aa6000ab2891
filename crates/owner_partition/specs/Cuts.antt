-- Which loops are what in a plan, as plain data.
use Rattle.std.specs.Prelude.{ℕ, ◌-◌, List, [], length, replicate, slice_index_or}
use Rattle.owner_partition.specs.declared.cut.Mark.{Mark}

-- the marks of the loops, and the private scalars of each, by numbers from 1
pub record Cutting : Type 0 where
  pub marks : List Mark
  pub privates : List (List ℕ)

-- these marks, and no private scalars
abbrev pub plain_cut : List Mark → Cutting
plain_cut marks = record { marks = marks; privates = replicate (length marks) [] }

-- the private scalars of the loop with this number, from 1; none where it has no list
abbrev pub privates_of : List (List ℕ) → ℕ → List ℕ
privates_of lists n = slice_index_or lists (n - 1) []
