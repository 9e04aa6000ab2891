-- What an act leaves in a cell of memory.
use Rattle.std.specs.Prelude.{ℕ, ℤ, ◌+ℤ◌, Bool, true, false, List, Option, Some, None, slice_set}
use Rattle.nest_tree.specs.Values.{wrapped}
use Rattle.nest_model.specs.Memory.{cell_value}

-- the sum of two values, reduced as a program's values are
abbrev pub plus : ℤ → ℤ → ℤ
plus x y = wrapped (x +ℤ y)

-- what a cell holds behind a store of a value, or an addition of it
abbrev pub changed : Bool → ℤ → ℤ → ℤ
changed false old v = v
changed true old v = plus old v

-- a memory behind a job
abbrev pub with_change : List ℤ → Option ℕ → Bool → ℤ → List ℤ
with_change memory None adds v = memory
with_change memory (Some cell) adds v =
    slice_set memory cell (changed adds (cell_value memory cell) v)
