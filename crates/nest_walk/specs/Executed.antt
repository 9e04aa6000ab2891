-- Whether a statement is executed where these loops are round it: a piece of work whose comparison, if it has one, holds.
use Rattle.std.specs.Prelude.{Bool, false, List}
use Rattle.nest_tree.specs.Tree.{Statement, do_loop, work, continue, Tree, param_values}
use Rattle.nest_model.specs.Instances.{is_executed}
use Rattle.nest_walk.specs.Cursors.{loops_in}
use Rattle.nest_walk.specs.Paths.{Round}

abbrev pub is_executed_at : Tree → List Round → Statement → Bool
is_executed_at tree rounds (do_loop head body) = false
is_executed_at tree rounds (work w) = is_executed w (loops_in tree rounds) (param_values tree)
is_executed_at tree rounds (continue line) = false
