-- The own instances that are left, and how one is given.
use Rattle.std.specs.Prelude.{◌≡◌, List}
use Rattle.nest_tree.specs.Tree.{Tree}
use Rattle.nest_model.specs.Instances.{Instance as Executed}
use Rattle.nest_walk.specs.Cursors.{loops_in}
use Rattle.nest_walk.specs.InstancesLeft.{instances_left, instances_tree}
use Rattle.nest_walk.specs.Paths.{Round, by_depth}
use Rattle.nest_walk.specs.Places.{numbers_of}
use Rattle.nest_walk.specs.Texts.{loops_round}
use Rattle.owner_partition.specs.declared.own_cursor.Instance.{Instance}
use Rattle.owner_partition.specs.declared.own_cursor.OwnCursor.{OwnCursor}

abbrev pub own_tree : OwnCursor → Tree
own_tree c = instances_tree c.stops

abbrev pub own_left : OwnCursor → List Executed
own_left c = instances_left c.stops

-- an instance as it is given: the number of its statement, and the values of the loops round that in the text, by depth
pub record IsGivenAs (tree : Tree) (x : Executed) (i : Instance) : Type 0 where
  pub rounds : List Round
  pub statement_is : i.statement ≡ x.statement
  pub round : loops_round tree x.statement ≡ numbers_of rounds
  pub loops_are : x.loops ≡ loops_in tree rounds
  pub by_depth_is : i.loops ≡ by_depth rounds
