use Rattle.std.proofs.Common.{ap, sym, ◌∙◌, ◌*◌}
use Rattle.plan_maker.specs.PlanWork.{settled, unsettled}
use Rattle.plan_maker.proofs.plan_work.PlanWork.add_look.Goals as goal

pub add-requires : goal.add-requires
add-requires c = (settled c.args.system.now, tt, sym c.pairs_of_look-look.ensures)

pub add-requires-in-Some : goal.add-requires-in-Some
add-requires-in-Some c = (unsettled c.args.system.now, tt, sym (c.in-Some.ensures.1 ∙ ap (λ n. n * 100) c.pairs_of_look-look.ensures))
