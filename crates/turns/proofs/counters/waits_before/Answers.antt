use Rattle.std.proofs.Common.{◌∙◌, ap}
use Rattle.nest_tree.specs.Tree.{param_values}
use Rattle.owner_partition.specs.PhasesLeft.{phases_tree}
use Rattle.sync_plan.specs.Waits.{awaited_at, awaited_behind, is_awaited_at, is_awaited_behind, kind_owner}
use Rattle.sync_plan.proofs.Fits.{fit_parts}
use Rattle.sync_plan.proofs.KindBits.{awaited-capped, is_awaited-capped}
use Rattle.sync_plan.proofs.ProcessorSets.{members-zero}
use Rattle.turns.proofs.counters.waits_before.Goals as goal

pub awaited-requires-clause-few : goal.awaited-requires-clause-few
awaited-requires-clause-few c = (fit_parts (phases_tree c.args.phases.now) c.args.plan.now c.requires.fits).few

pub returns-in_default-clause-posts : goal.returns-in_default-clause-posts
returns-in_default-clause-posts c = λ v last. ap (λ o. is_awaited_behind o c.args.plan.now.workers v.loops (param_values (phases_tree c.args.phases.now)) c.args.p) c.in_default.ensures

pub returns-in_default-clause-awaits : goal.returns-in_default-clause-awaits
returns-in_default-clause-awaits c = λ v last. members-zero ∙ ap (λ o. awaited_behind o c.args.plan.now.workers v.loops (param_values (phases_tree c.args.phases.now)) c.args.p) c.in_default.ensures

pub returns-clause-posts : goal.returns-clause-posts
returns-clause-posts c = λ v last.
    let tree = phases_tree c.args.phases.now in
    let plan = c.args.plan.now in
    let kind = c.in-Some.kind.now in
    c.is_awaited.ensures
    ∙ ap (λ owner. is_awaited_at kind owner plan.workers c.args.p) (c.owner_before-owner.ensures v last)
    ∙ is_awaited-capped kind (kind_owner kind plan.workers v.loops (param_values tree)) plan.workers c.args.p c.requires.worker
    ∙ ap (λ o. is_awaited_behind o plan.workers v.loops (param_values tree) c.args.p) c.in-Some.ensures

pub returns-clause-awaits : goal.returns-clause-awaits
returns-clause-awaits c = λ v last.
    let tree = phases_tree c.args.phases.now in
    let plan = c.args.plan.now in
    let kind = c.in-Some.kind.now in
    c.awaited.ensures
    ∙ ap (λ owner. awaited_at kind owner plan.workers c.args.p) (c.owner_before-owner.ensures v last)
    ∙ awaited-capped kind (kind_owner kind plan.workers v.loops (param_values tree)) plan.workers c.args.p
    ∙ ap (λ o. awaited_behind o plan.workers v.loops (param_values tree) c.args.p) c.in-Some.ensures
