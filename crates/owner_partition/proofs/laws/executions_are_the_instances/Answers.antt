use Rattle.owner_partition.proofs.Instances.{all_executed}
use Rattle.owner_partition.proofs.laws.executions_are_the_instances.Goals as goal

pub returns : goal.returns
returns c = all_executed
