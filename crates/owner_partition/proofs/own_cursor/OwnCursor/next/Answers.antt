use Rattle.nest_walk.specs.InstancesLeft.{instances_rounds, instances_tree}
use Rattle.owner_partition.proofs.Sites.{given_as}
use Rattle.owner_partition.proofs.own_cursor.OwnCursor.next.Goals as goal

pub returns-clause-instance : goal.returns-clause-instance
returns-clause-instance c =
    let (x, shown, left) = c.in_ok-stop.ensures.instance in
    (x, left, given_as (instances_tree c.next.new.self) (instances_rounds c.next.new.self) c.in_ok-stop.stop x c.path.result.now c.values.result.now c.path.ensures c.values.ensures c.in_ok-stop.ensures.text shown)
