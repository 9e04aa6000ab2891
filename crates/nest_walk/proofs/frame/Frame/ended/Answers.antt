use Rattle.std.proofs.Common.{ap}
use Rattle.nest_tree.specs.Tree.{done}
use Rattle.nest_walk.proofs.frame.Frame.ended.Goals as goal

pub returns : goal.returns
returns c = ap (λ later. record { body = record { statements = done; place = c.args.end; first = c.args.end }; later = later; behind = done }) c.new.ensures
