-- The variables of a program.
use Rattle.std.specs.Prelude.{ℕ, List, length}
use Rattle.nest_tree.specs.Tree.{Declaration}
use Rattle.f77_scene.specs.Directives.{placed}
use Rattle.f77_scene.specs.Scene.{Name, Scene, bounds_named}

-- the array of this name, where the directives have these texts
abbrev pub array : List (List ℕ) → Scene → Name → Declaration
array texts s n =
    record {
      name = n;
      bounds = bounds_named s.arrays n;
      axis = (placed texts n (length (bounds_named s.arrays n))).0;
      spread = (placed texts n (length (bounds_named s.arrays n))).1;
    }
