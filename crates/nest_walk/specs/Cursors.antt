-- What a cursor shows: its program, its marks, and the stops that are left.
use Rattle.std.specs.Prelude.{ℕ, ◌+◌, ◌^◌, ℤ, Bool, ◌&&◌, nat_lt, List, length}
use Rattle.std.specs.List.{list_all}
use Rattle.nest_tree.specs.Tree.{Tree, param_values}
use Rattle.nest_tree.specs.View.{tree_of, statement_of}
use Rattle.nest_tree.specs.WellFormed.{is_number_of, loops_of}
use Rattle.nest_model.specs.Instances.{works_in}
use Rattle.nest_model.specs.Visits.{Visit, visits_of}
use Rattle.nest_walk.specs.Paths.{Round, by_number}
use Rattle.nest_walk.specs.RoundsOf.{rounds_of}
use Rattle.nest_walk.specs.Walks.{enters_but, walk_in, left}
use Rattle.nest_walk.specs.Moves.{moves_left}
use Rattle.nest_walk.specs.Walkable.{is_walkable}
use Rattle.nest_walk.specs.Frames.{stretch_of, levels_to}
use Rattle.nest_walk.specs.declared.cursor.Cursor.{Cursor}
use Rattle.nest_walk.specs.declared.cursor.Stop.{Stop}

abbrev pub tree_in : Cursor → Tree
tree_in c = tree_of c.program.now

abbrev pub marks_in : Cursor → List Bool
marks_in c = c.marks.now

-- the loops that it is in, with their values, the innermost first
abbrev pub rounds_in : Cursor → List Round
rounds_in c = rounds_of c.path

-- the stops that are left
unfoldable pub left_of : Cursor → List Visit
left_of c = left (walk_in (tree_in c) (marks_in c)) (rounds_in c)
    (levels_to c.frames.all c.path.depth) (stretch_of c.rest)

-- the moves that are left
unfoldable pub moves_to_go : Cursor → ℕ
moves_to_go c = moves_left (walk_in (tree_in c) (marks_in c)) (rounds_in c)
    (levels_to c.frames.all c.path.depth) (stretch_of c.rest)

-- the values of loops by number, where these loops are round a place
abbrev pub loops_in : Tree → List Round → List ℤ
loops_in tree rounds = by_number (loops_of tree.items) rounds

-- a stop, where these loops are round it
abbrev pub visit_at : Tree → List Round → Stop → Visit
visit_at tree rounds s = record {
  place = s.place;
  first = s.first;
  what = statement_of s.item.now;
  loops = loops_in tree rounds;
}

-- the stops of the statement of a stop
abbrev pub visits_at : Tree → List Bool → List Round → Stop → List Visit
visits_at tree marks rounds s = visits_of (param_values tree) (enters_but marks)
    (statement_of s.item.now) s.place s.first (loops_in tree rounds)

-- a stop of a program's walk with these loops round it: it can be walked from there on
abbrev pub is_reached : Tree → List Round → Stop → Bool
is_reached tree rounds s =
    list_all (λ (r : Round). is_number_of (loops_of tree.items) r.number) rounds
    && is_walkable (param_values tree) (length rounds) (statement_of s.item.now)
    (loops_in tree rounds)
    && nat_lt (s.first + works_in (statement_of s.item.now)) (2 ^ 32)
