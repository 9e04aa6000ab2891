use Rattle.std.proofs.Common.{rules}
use Rattle.nest_walk.proofs.PathLists.{zero_behind}
use Rattle.nest_walk.proofs.path.Path.at_origin.Goals as goal

pub invariant_of-result : goal.invariant_of-result
invariant_of-result c = record { within = c.args.self.now.within; six = search rules; left_over = zero_behind c.args.self.now.depth }
