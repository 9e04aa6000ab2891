-- Where a walk stops at an instance.
use Rattle.std.specs.Prelude.{◌≡◌, List, [], ◌∷◌, IsTrue}
use Rattle.nest_tree.specs.Tree.{Tree, param_values}
use Rattle.nest_tree.specs.View.{statement_of}
use Rattle.nest_model.specs.Instances.{Instance}
use Rattle.nest_model.specs.Visits.{every, instances_at}
use Rattle.nest_walk.specs.Cursors.{is_reached, visit_at}
use Rattle.nest_walk.specs.Paths.{Round}
use Rattle.nest_walk.specs.Places.{numbers_of}
use Rattle.nest_walk.specs.Texts.{StandFrom, placed_in}
use Rattle.nest_walk.specs.declared.cursor.Stop.{Stop}
use Rattle.nest_walk.specs.Texts as Texts

-- a stop with these loops round it is an instance: it is reached, and its statement stands in the text
pub record IsInstance (tree : Tree) (rounds : List Round) (stop : Stop) : Type 0 where
  pub instance : Instance
  pub is : instances_at (param_values tree) (visit_at tree rounds stop) ≡ instance ∷ []
  pub reached : IsTrue (is_reached tree rounds stop)
  pub text : StandFrom (Texts.works tree) stop.first
      (placed_in every (numbers_of rounds) (statement_of stop.item.now))
