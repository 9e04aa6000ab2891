use Rattle.std.proofs.Common.{◌+◌, List, take, ap, sym, ◌∙◌, subst}
use Rattle.std.specs.List.{flat_map}
use Rattle.std.proofs.lemmas.List.{take_all}
use Rattle.std.proofs.lemmas.List.Folds.{flat_map-map}
use Rattle.nest_tree.specs.Tree.{Tree}
use Rattle.nest_tree.specs.View.{tree_of}
use Rattle.sync_plan.specs.declared.plan.Plan.{Plan}
use Rattle.comm_system.specs.PhaseViews.{phase_seen}
use Rattle.comm_system.specs.declared.phase.Phase.{Phase}
use Rattle.plan_maker.specs.Asked.{AreRefuted, Asked, IsCause, paths_asked}
use Rattle.plan_maker.specs.Judged.{IsVerdict}
use Rattle.plan_maker.proofs.Questions.{flat_kept, flat_more}
use Rattle.plan_maker.proofs.dealt.judge_paths.Goals as goal

abbrev ask : Tree → Plan → Phase → List Asked
ask tree plan p = paths_asked tree plan (phase_seen p)

pub returns-in-Kept : goal.returns-in-Kept
returns-in-Kept c =
    let tree = tree_of c.args.problem.program.now in
    let plan = c.args.problem.plan.now in
    let i = c.loop-phase.phase-index in
    let x = c.phase-item.result in
    let here = subst (IsVerdict (ask tree plan x)) c.in-Kept.is c.in_ok-more.ensures in
    subst (λ qs. IsCause qs c.in-Kept.cause) (sym (flat_map-map (paths_asked tree plan) phase_seen c.args.phases.now))
    (flat_kept (ask tree plan) c.args.phases.now i x c.loop-phase-test.true c.phase-item.is c.loop-phase.certificates.items c.in-Kept.cause c.loop-phase.invariant here)

pub loop-phase-preserved : goal.loop-phase-preserved
loop-phase-preserved c =
    let tree = tree_of c.args.problem.program.now in
    let plan = c.args.problem.plan.now in
    let i = c.loop-phase.phase-index in
    let x = c.phase-item.result in
    let here = subst (IsVerdict (ask tree plan x)) c.in-Refuted.is c.in_ok-more.ensures in
    subst (AreRefuted (flat_map (ask tree plan) (take (i + 1) c.args.phases.now))) (sym c.in_ok-append-in-Refuted.ensures.items)
    (flat_more (ask tree plan) c.args.phases.now i x c.loop-phase-test.true c.phase-item.is c.loop-phase.certificates.items c.in-Refuted.more.items c.loop-phase.invariant here)

pub returns : goal.returns
returns c =
    let tree = tree_of c.args.problem.program.now in
    let plan = c.args.problem.plan.now in
    let i = c.loop-phase.phase-index in
    subst (λ qs. AreRefuted qs c.loop-phase.certificates.items) (ap (flat_map (ask tree plan)) (take_all i c.args.phases.now c.loop-phase-test.false) ∙ sym (flat_map-map (paths_asked tree plan) phase_seen c.args.phases.now)) c.loop-phase.invariant
