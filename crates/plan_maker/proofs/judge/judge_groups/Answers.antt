use Rattle.std.proofs.Common.{◌+◌, List, take, ap, sym, ◌∙◌, subst}
use Rattle.std.specs.List.{flat_map}
use Rattle.std.proofs.lemmas.List.{take_all}
use Rattle.std.proofs.lemmas.List.Folds.{flat_map-map}
use Rattle.nest_tree.specs.Tree.{Tree}
use Rattle.nest_tree.specs.View.{tree_of}
use Rattle.owner_partition.specs.declared.anchor.Dist.{Dist}
use Rattle.sync_plan.specs.declared.plan.Plan.{Plan}
use Rattle.comm_system.specs.GroupViews.{group_seen}
use Rattle.comm_system.specs.declared.group.Group.{Group}
use Rattle.comm_system.specs.SubjectViews.{subject_seen}
use Rattle.plan_maker.specs.Asked.{AreRefuted, Asked, IsCause}
use Rattle.plan_maker.specs.Judged.{IsVerdict, asked_in}
use Rattle.plan_maker.specs.Askable.{IsDealtSo}
use Rattle.plan_maker.proofs.Questions.{flat_kept, flat_more}
use Rattle.plan_maker.proofs.judge.judge_groups.Goals as goal

abbrev ask : Tree → Plan → List Dist → Group → List Asked
ask tree plan dists g = asked_in tree plan dists (group_seen g)

pub returns-in-Kept : goal.returns-in-Kept
returns-in-Kept c =
    let tree = tree_of c.args.problem.program.now in
    let plan = c.args.problem.plan.now in
    let dists = c.args.dists.now in
    let i = c.loop-group.group-index in
    let x = c.group-item.result in
    let here = subst (IsVerdict (ask tree plan dists x)) c.in-Kept.is c.in_ok-more.ensures in
    subst (λ qs. IsCause qs c.in-Kept.cause) (sym (flat_map-map (asked_in tree plan dists) group_seen c.args.groups.now))
    (flat_kept (ask tree plan dists) c.args.groups.now i x c.loop-group-test.true c.group-item.is c.loop-group.certificates.items c.in-Kept.cause c.loop-group.invariant here)

pub loop-group-preserved : goal.loop-group-preserved
loop-group-preserved c =
    let tree = tree_of c.args.problem.program.now in
    let plan = c.args.problem.plan.now in
    let dists = c.args.dists.now in
    let i = c.loop-group.group-index in
    let x = c.group-item.result in
    let here = subst (IsVerdict (ask tree plan dists x)) c.in-Refuted.is c.in_ok-more.ensures in
    subst (AreRefuted (flat_map (ask tree plan dists) (take (i + 1) c.args.groups.now))) (sym c.in_ok-append-in-Refuted.ensures.items)
    (flat_more (ask tree plan dists) c.args.groups.now i x c.loop-group-test.true c.group-item.is c.loop-group.certificates.items c.in-Refuted.more.items c.loop-group.invariant here)

pub returns : goal.returns
returns c =
    let tree = tree_of c.args.problem.program.now in
    let plan = c.args.problem.plan.now in
    let dists = c.args.dists.now in
    let i = c.loop-group.group-index in
    subst (λ qs. AreRefuted qs c.loop-group.certificates.items) (ap (flat_map (ask tree plan dists)) (take_all i c.args.groups.now c.loop-group-test.false) ∙ sym (flat_map-map (asked_in tree plan dists) group_seen c.args.groups.now)) c.loop-group.invariant

pub judge_group-requires-clause-dealt : goal.judge_group-requires-clause-dealt
judge_group-requires-clause-dealt c =
    let x = c.group-item.result in
    subst (λ (g : Group). IsDealtSo c.args.problem.plan.now c.args.dists.now (subject_seen g.subject)) (sym c.group-item.is) (c.requires.dealt c.loop-group.group-index x c.loop-group-test.true)
