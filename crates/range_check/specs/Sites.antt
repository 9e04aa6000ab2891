-- The accesses of a program to scalars and elements in text order, of each statement its loads, then its store.
use Rattle.std.specs.Prelude.{ℕ, ◌-◌, List, Option, Some, map, slice_get, ◌≡◌}
use Rattle.std.specs.List.{flat_map}
use Rattle.nest_tree.specs.declared.tree.Access.{Access}
use Rattle.nest_tree.specs.declared.tree.Guard.{Guard}
use Rattle.nest_tree.specs.Tree.{Head, Tree}
use Rattle.nest_model.specs.Ranges.{accesses_of}
use Rattle.nest_rows.specs.Groups.{guard_of}
use Rattle.nest_rows.specs.Nested.{Nested, nested_works}

-- an access of the text, the heads of the loops round it from the outermost, and the comparison in front of it
pub record Site : Type 0 where
  pub access : Access
  pub around : List Head
  pub guard : Option Guard

abbrev pub site_of : Nested → Access → Site
site_of n a = record { access = a; around = n.around; guard = guard_of n.what }

abbrev pub sites_of : Nested → List Site
sites_of n = map (site_of n) (accesses_of n.what)

-- the access with number n, from 1, stands at n - 1; an array that is printed whole has none
abbrev pub sites : Tree → List Site
sites tree = flat_map sites_of (nested_works tree)

abbrev pub IsSite : Tree → ℕ → Site → Type 0
IsSite tree number site = slice_get (sites tree) (number - 1) ≡ Some site
