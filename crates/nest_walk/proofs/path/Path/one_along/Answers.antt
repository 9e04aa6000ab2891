use Rattle.std.proofs.Common.{pos, rules}
use Rattle.nest_walk.proofs.PathLists.{zero_past}
use Rattle.nest_walk.proofs.path.Path.one_along.Goals as goal

pub invariant_of-result : goal.invariant_of-result
invariant_of-result c = record { within = c.args.self.now.within; six = search rules; left_over = zero_past c.args.self.now.depth c.args.depth (pos 1) c.requires }
