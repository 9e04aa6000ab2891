-- The loops that a cursor is in, as plain data.
use Rattle.std.specs.Prelude.{ℕ, zero, suc, List, [], ◌++◌, map, slice_get}
use Rattle.std.specs.Option.{option_to_list}
use Rattle.nest_tree.specs.Tree.{done}
use Rattle.nest_tree.specs.View.{statements_from}
pub use Rattle.nest_tree.specs.View.{head_of}
use Rattle.nest_walk.specs.Walks.{Stretch, Level}
use Rattle.nest_walk.specs.TripsLeft.{trips_left}
use Rattle.nest_walk.specs.declared.frame.Part.{Part}
use Rattle.nest_walk.specs.declared.frame.Frame.{Frame}

abbrev pub stretch_of : Part → Stretch
stretch_of p = record { statements = statements_from p.items.now; place = p.place; first = p.first }

abbrev pub level_of : Frame → Level
level_of f = record {
  body = stretch_of f.body;
  later = trips_left f.later;
  behind = statements_from f.behind.now;
}

-- the first so many frames, the innermost first
abbrev pub levels_to : List Frame → ℕ → List Level
levels_to frames zero = []
levels_to frames (suc k) = map level_of (option_to_list (slice_get frames k)) ++ levels_to frames k

-- a loop that is left, where its body ended with this number
abbrev pub ended : ℕ → Level
ended n =
    record { body = record { statements = done; place = n; first = n }; later = []; behind = done }
