-- The first subscript of a program that is out of range: the first instance in sequential order, in it the first access, its loads in text order and then its store, in it the first dimension.
use Rattle.std.specs.Prelude.{ℕ, ◌+◌, ℤ, pos, int_lt, Bool, ◌&&◌, Option, Some, None, List, [], ◌∷◌, if◌then◌else◌, ◌≡◌, refl}
use Rattle.std.specs.List.{list_all}
use Rattle.std.specs.Option.{option_or}
use Rattle.nest_tree.specs.Layout.{bounds_of}
use Rattle.nest_tree.specs.Limits.{line_of_work}
use Rattle.nest_tree.specs.Loads.{work_forms}
use Rattle.nest_tree.specs.Tree.{Tree, param_values}
use Rattle.nest_tree.specs.WellFormed.{is_good_access, scope_of}
use Rattle.nest_tree.specs.declared.tree.Access.{Access}
use Rattle.nest_model.specs.Accesses.{subscript_values}
use Rattle.nest_model.specs.Instances.{Instance, instances}
use Rattle.nest_model.specs.Ranges.{accesses_of}
use Rattle.nest_walk.specs.Walkable.{is_small_at}
use Rattle.range_check.specs.declared.outside.OutOfRange.{OutOfRange}

-- a subscript below the lower bound of its dimension, or above the upper one
abbrev pub subscript_outside : ℕ → ℕ → ℤ × ℤ → ℤ → Option OutOfRange
subscript_outside line dimension (low, high) v =
    if int_lt v low
    then Some (record { line = line; dimension = dimension; value = v; bound = low })
    else if int_lt high v
    then Some (record { line = line; dimension = dimension; value = v; bound = high })
    else None

-- the first of subscripts, the first of which is that of this dimension
abbrev pub first_outside : ℕ → ℕ → List (ℤ × ℤ) → List ℤ → Option OutOfRange
first_outside line dimension [] values = None
first_outside line dimension (b ∷ bounds) [] = None
first_outside line dimension (b ∷ bounds) (v ∷ values) = option_or
    (subscript_outside line dimension b v) (first_outside line (dimension + 1) bounds values)

-- of an access where the loops have these values
abbrev pub access_outside : Tree → List ℤ → ℕ → Access → Option OutOfRange
access_outside tree loops line a =
    first_outside line 1 (bounds_of tree a.variable) (subscript_values tree loops a.subscripts)

-- of accesses
abbrev pub accesses_outside : Tree → List ℤ → ℕ → List Access → Option OutOfRange
accesses_outside tree loops line [] = None
accesses_outside tree loops line (a ∷ accesses) =
    option_or (access_outside tree loops line a) (accesses_outside tree loops line accesses)

abbrev pub instance_outside : Tree → Instance → Option OutOfRange
instance_outside tree i = accesses_outside tree i.loops (line_of_work i.what) (accesses_of i.what)

-- of instances
abbrev pub instances_outside : Tree → List Instance → Option OutOfRange
instances_outside tree [] = None
instances_outside tree (i ∷ rest) =
    option_or (instance_outside tree i) (instances_outside tree rest)

-- of a program
abbrev pub outside_of : Tree → Option OutOfRange
outside_of tree = instances_outside tree (instances tree)

-- of subscripts 3 and 0 with the bounds (1, 3) and (1, 5), the second is below its lower bound
pub first_outside-example : first_outside 7 1 ((pos 1, pos 3) ∷ (pos 1, pos 5) ∷ [])
    (pos 3 ∷ pos 0 ∷ []) ≡ Some (record { line = 7; dimension = 2; value = pos 0; bound = pos 1 })
first_outside-example = refl

-- an access of a program's text inside these loops, whose subscripts are within plus or minus 2147483647 where the loops have these values
abbrev pub is_sound_access : Tree → List ℕ → List ℤ → Access → Bool
is_sound_access tree around loops a = is_good_access (scope_of tree) around a
    && list_all (is_small_at (param_values tree) loops) a.subscripts

abbrev pub are_sound_accesses : Tree → List ℕ → List ℤ → List Access → Bool
are_sound_accesses tree around loops accesses =
    list_all (is_sound_access tree around loops) accesses

-- an instance whose forms are small
abbrev pub is_small_instance : List ℤ → Instance → Bool
is_small_instance params i = list_all (is_small_at params i.loops) (work_forms i.what)
