use Rattle.std.proofs.Common.{◌≡◌, ◌≤◌, List, [], map, ap, sym, subst, arith}
use Rattle.nest_tree.specs.View.{tree_of}
use Rattle.owner_partition.specs.declared.anchor.Dist.{Dist}
use Rattle.comm_system.specs.Seen.{pair_of}
use Rattle.comm_system.specs.SideViews.{producer_seen}
use Rattle.comm_system.specs.SlotViews.{slot_seen}
use Rattle.comm_system.specs.SubjectViews.{subject_seen}
use Rattle.comm_system.specs.declared.subject.Subject.{Subject}
use Rattle.plan_maker.specs.Askable.{IsDealtSo}
use Rattle.plan_maker.specs.Asked.{owners_dealt}
use Rattle.plan_maker.specs.Orders.{unknowns_of}
use Rattle.plan_maker.proofs.Askable.{owners_counted}
use Rattle.plan_maker.proofs.judge.judge_group.Goals as goal

pub judge_single-requires-clause-owners : goal.judge_single-requires-clause-owners
judge_single-requires-clause-owners c =
    let plan = c.args.problem.plan.now in
    let dists = c.args.dists.now in
    let none : dists ≡ [] = subst (λ (s : Subject). IsDealtSo plan dists (subject_seen s)) c.in-Trips.is c.requires.dealt in
    let vars = c.in_ok-topic-in-Trips.left.system.vars in
    let few : unknowns_of [] ≤ vars = omega arith in
    subst (λ (ds : List Dist). unknowns_of ds ≤ vars) (sym none) few

pub judge_pair-requires-clause-owners : goal.judge_pair-requires-clause-owners
judge_pair-requires-clause-owners c =
    let tree = tree_of c.args.problem.program.now in
    let plan = c.args.problem.plan.now in
    let slot = slot_seen c.in-Slot.slot in
    let producers = map producer_seen c.in-Slot.waits.producers.items in
    let pair = pair_of c.in-Slot.a.now c.in-Slot.b.now in
    let dealt : c.args.dists.now ≡ owners_dealt plan slot producers = subst (λ (s : Subject). IsDealtSo plan c.args.dists.now (subject_seen s)) c.in-Slot.is c.requires.dealt in
    let counted = owners_counted tree plan slot producers pair in
    let same = ap unknowns_of dealt in
    omega (arith, same, counted, c.in_ok-systems-in-Slot.ensures.owners)
