-- Subscripts in range: what every call that runs a program asks for.
use Rattle.std.specs.Prelude.{ℤ, Bool, IsTrue, List, [], ◌∷◌, ◌++◌}
use Rattle.std.specs.List.{list_all}
use Rattle.nest_tree.specs.declared.tree.Access.{Access}
use Rattle.nest_tree.specs.Layout.{bounds_of}
pub use Rattle.nest_tree.specs.Layout.{is_inside, are_inside}
use Rattle.nest_tree.specs.Loads.{loads_in_work}
use Rattle.nest_tree.specs.Tree.{Work, assign, print, Tree}
use Rattle.nest_model.specs.Accesses.{subscript_values}
use Rattle.nest_model.specs.Instances.{Instance, instances}

abbrev pub is_access_inside : Tree → List ℤ → Access → Bool
is_access_inside tree loops a =
    are_inside (bounds_of tree a.variable) (subscript_values tree loops a.subscripts)

-- the accesses to scalars and elements of a piece of work: its loads in text order, then its store
abbrev pub accesses_of : Work → List Access
accesses_of (assign a) = loads_in_work (assign a) ++ a.target ∷ []
accesses_of (print p) = loads_in_work (print p)

-- every access of an instance is in range
abbrev pub is_instance_inside : Tree → Instance → Bool
is_instance_inside tree i = list_all (is_access_inside tree i.loops) (accesses_of i.what)

-- every access of every instance is in range
abbrev pub IsInRange : Tree → Type 0
IsInRange tree = IsTrue (list_all (is_instance_inside tree) (instances tree))
