-- What is known behind statements that keep their limits.
use Rattle.std.specs.Prelude.{◌≤◌, Bool, ◌&&◌, nat_le, IsTrue, length}
use Rattle.std.specs.List.{list_all}
use Rattle.nest_tree.specs.WellFormed.{is_good_dimension}
use Rattle.f77_scene.specs.Scene.{Scene, Array}

-- one to three dimensions, each with good bounds
abbrev pub is_good_array : Array → Bool
is_good_array a =
    list_all is_good_dimension a.bounds && nat_le 1 (length a.bounds) && nat_le (length a.bounds) 3

-- at most 400 statements stand in front, no more loops have begun or are open, and the arrays are good
pub record KeepsLimits (s : Scene) : Type 0 where
  pub count : s.count ≤ 400
  pub loops : s.loops ≤ s.count
  pub opened : length s.opened ≤ s.count
  pub arrays : IsTrue (list_all is_good_array s.arrays)
