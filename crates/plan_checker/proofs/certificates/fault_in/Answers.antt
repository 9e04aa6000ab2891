use Rattle.std.proofs.Common.{◌≡◌, IfOk, Option, Some, None, refl, ap, sym, ◌∙◌, subst}
use Rattle.std.specs.Option.{option_or}
use Rattle.std.specs.Prelude.{IfSome}
use Rattle.nest_tree.specs.View.{tree_of}
use Rattle.comm_system.specs.Obligations.{numbered, trips_task}
use Rattle.comm_system.specs.PhaseViews.{phase_seen}
use Rattle.comm_system.specs.Seen.{pair_of}
use Rattle.comm_system.specs.SubjectViews.{subject_seen}
use Rattle.comm_system.specs.Subjects.{Group, Subject}
use Rattle.comm_system.specs.SystemViews.{about, obligations_seen}
use Rattle.plan_checker.specs.Certificates.{fault_in, fault_of, first_of}
use Rattle.plan_checker.specs.declared.refusal.PlanRefusal.{PlanRefusal}
use Rattle.plan_checker.proofs.certificates.fault_in.Goals as goal

alone : {X : Type 0} (o : Option X) → option_or o None ≡ o
alone None = refl
alone (Some x) = refl

pub returns-in_ok-obligation-in-Trips : goal.returns-in_ok-obligation-in-Trips
returns-in_ok-obligation-in-Trips c =
    let tree = tree_of c.args.program.now in
    let plan = c.args.plan.now in
    let number = c.args.group.now.number in
    let task = trips_task tree plan (phase_seen c.in-Trips.phase.now) (pair_of c.in-Trips.a.now c.in-Trips.b.now) in
    let of : Subject → Group = λ s. record { number = number; subject = s } in
    let given = ap (λ cs. fault_of cs c.in_ok-obligation-in-Trips.obligation) c.as_slice-certificates.ensures ∙ ap (fault_of plan.certificates) c.in_ok-obligation-in-Trips.ensures.made in
    let all = sym (alone (fault_of plan.certificates (numbered number task))) ∙ sym (ap (λ s. fault_in tree plan (of (subject_seen s))) c.in-Trips.is) in
    subst (λ z. IfOk c.fault_of.result (λ found. found ≡ z)) (given ∙ all) c.fault_of.ensures

pub returns-in-Some : goal.returns-in-Some
returns-in-Some c =
    let tree = tree_of c.args.program.now in
    let plan = c.args.plan.now in
    let number = c.args.group.now.number in
    let task = trips_task tree plan (phase_seen c.in-Trips.phase.now) (pair_of c.in-Trips.a.now c.in-Trips.b.now) in
    let of : Subject → Group = λ s. record { number = number; subject = s } in
    let (whole, about-is, left, widened) = c.in_ok-topic-in-Trips.ensures.made in
    let told = c.in_ok-fault-in-Trips.ensures whole left in
    let topic = c.in_ok-topic-in-Trips.topic in
    let found = subst (λ (o : Option (Option PlanRefusal)). IfSome o (λ fault. fault ≡ fault_of c.as_slice-certificates.result.now (about topic whole))) c.in-Some.is told in
    let given = ap (λ cs. fault_of cs (about topic whole)) c.as_slice-certificates.ensures ∙ ap (fault_of plan.certificates) about-is in
    let all = sym (alone (fault_of plan.certificates (numbered number task))) ∙ sym (ap (λ s. fault_in tree plan (of (subject_seen s))) c.in-Trips.is) in
    found ∙ given ∙ all

pub returns-in_ok-systems-in-Slot : goal.returns-in_ok-systems-in-Slot
returns-in_ok-systems-in-Slot c =
    let tree = tree_of c.args.program.now in
    let plan = c.args.plan.now in
    let number = c.args.group.now.number in
    let of : Subject → Group = λ s. record { number = number; subject = s } in
    let given = ap (λ cs. first_of (fault_of cs) (obligations_seen c.in_ok-systems-in-Slot.systems)) c.as_slice-certificates.ensures ∙ ap (first_of (fault_of plan.certificates)) c.in_ok-systems-in-Slot.ensures.obligations in
    let all = sym (ap (λ s. fault_in tree plan (of (subject_seen s))) c.in-Slot.is) in
    subst (λ z. IfOk c.fault_in_place.result (λ found. found ≡ z)) (given ∙ all) c.fault_in_place.ensures
