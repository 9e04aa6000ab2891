use Rattle.std.proofs.Common.{sym, subst}
use Rattle.fm_elim.specs.Answers.{NamesEachOnce}
use Rattle.plan_maker.proofs.OrderOnce.{order_once}
use Rattle.plan_maker.proofs.orders.elimination_order.Goals as goal

pub returns-clause-once : goal.returns-clause-once
returns-clause-once c =
    subst (NamesEachOnce c.args.unknowns) (sym c.in_ok-order.ensures) (order_once c.args.unknowns c.args.dists.now c.requires.owners)
