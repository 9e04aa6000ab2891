use Rattle.std.proofs.Common.{◌≡◌, ◌+◌, ◌<◌, ◌≤◌, List, length, map, Some, None, IfOk, refl, ap, sym, ◌∙◌, subst, arith}
use Rattle.std.specs.Option.{option_map}
use Rattle.farkas_cert.specs.declared.certificate.Certificate.{Certificate}
use Rattle.nest_tree.specs.View.{tree_of}
use Rattle.comm_system.specs.GroupViews.{group_seen, listed_seen}
use Rattle.comm_system.specs.Obligations.{obligations_of}
use Rattle.comm_system.specs.Subjects.{Listed, groups_of}
use Rattle.plan_checker.specs.declared.refusal.PlanRefusal.TheVariants.{Shape}
use Rattle.plan_checker.specs.Certificates.{fault_in, first_of}
use Rattle.plan_checker.specs.Failures.{failure_with, first_uncertified}
use Rattle.plan_checker.proofs.Faults.{failure_by, first_of_plan, listed_by, no_surplus_where, surplus_where}
use Rattle.plan_checker.proofs.accept.failure.Goals as goal

pub returns-then-groups-certificates : goal.returns-then-groups-certificates
returns-then-groups-certificates g c =
    let tree = tree_of c.args.program.now in
    let plan = c.args.plan.now in
    let many = ap (λ (cs : List Certificate). length cs) c.as_slice.ensures in
    let listed = listed_by tree plan c.as_slice.result.now (listed_seen c.in_ok-groups.groups) c.as_slice.ensures c.in_ok-groups.ensures in
    let next = ap (λ (l : Listed). l.next) listed in
    let few : (groups_of tree plan (length plan.certificates + 1)).next ≤ length plan.certificates = omega (arith, next, many, c.if-groups-certificates.true) in
    sym (failure_by tree plan c.args.misfit None (Some (Shape 7)) (first_uncertified (obligations_of tree plan) plan.certificates) (ap (option_map Shape) c.requires.shape) (surplus_where tree plan few) refl)

pub returns-in-Some : goal.returns-in-Some
returns-in-Some g c =
    let tree = tree_of c.args.program.now in
    let plan = c.args.plan.now in
    let many = ap (λ (cs : List Certificate). length cs) c.as_slice.ensures in
    let listed = listed_by tree plan c.as_slice.result.now (listed_seen c.in_ok-groups.groups) c.as_slice.ensures c.in_ok-groups.ensures in
    let next = ap (λ (l : Listed). l.next) listed in
    let past : length plan.certificates < (groups_of tree plan (length plan.certificates + 1)).next = omega (arith, next, many, c.if-groups-certificates.false) in
    sym (ap (λ misfit. failure_with misfit tree plan) c.in-Some.is ∙ failure_by tree plan (Some c.in-Some.refusal) None None (first_uncertified (obligations_of tree plan) plan.certificates) (ap (option_map Shape) c.requires.shape) (no_surplus_where tree plan past) refl)

pub returns : goal.returns
returns g c =
    let tree = tree_of c.args.program.now in
    let plan = c.args.plan.now in
    let many = ap (λ (cs : List Certificate). length cs) c.as_slice.ensures in
    let listed = listed_by tree plan c.as_slice.result.now (listed_seen c.in_ok-groups.groups) c.as_slice.ensures c.in_ok-groups.ensures in
    let next = ap (λ (l : Listed). l.next) listed in
    let past : length plan.certificates < (groups_of tree plan (length plan.certificates + 1)).next = omega (arith, next, many, c.if-groups-certificates.false) in
    let bad = first_uncertified (obligations_of tree plan) plan.certificates in
    let is = ap (λ misfit. failure_with misfit tree plan) c.in_default.is ∙ failure_by tree plan None None None bad (ap (option_map Shape) c.requires.shape) (no_surplus_where tree plan past) refl in
    subst (λ found. IfOk c.first_fault.result (λ f. f ≡ found))
    (ap (λ gs. first_of (fault_in tree plan) (map group_seen gs)) c.as_slice-3.ensures.value ∙ ap (λ (l : Listed). first_of (fault_in tree plan) l.groups) listed ∙ first_of_plan tree plan past ∙ sym is) c.first_fault.ensures
