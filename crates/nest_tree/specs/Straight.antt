-- Straight-line programs: assignments to scalars and PRINTs, with no loop, no comparison and no named constant.
use Rattle.std.specs.Prelude.{◌==◌, Bool, true, false, ◌&&◌, IsTrue, length, is_none}
use Rattle.std.specs.List.{list_all}
use Rattle.nest_tree.specs.Tree.{Work, assign, print, Statements, do_loop, work, continue, done, next, Declaration, Tree}

abbrev pub is_scalar : Declaration → Bool
is_scalar v = length v.bounds == 0

-- an assignment without a comparison, or a PRINT
abbrev pub is_plain_work : Work → Bool
is_plain_work (assign a) = is_none a.guard
is_plain_work (print p) = true

abbrev pub are_works : Statements → Bool
are_works done = true
are_works (next (do_loop head body) rest) = false
are_works (next (work w) rest) = is_plain_work w && are_works rest
are_works (next (continue line) rest) = false

abbrev pub is_straight : Tree → Bool
is_straight tree =
    list_all is_scalar tree.variables && length tree.params == 0 && are_works tree.items

abbrev pub IsStraight : Tree → Type 0
IsStraight tree = IsTrue (is_straight tree)
