use Rattle.std.proofs.Common.{◌≡◌, IfOk, map, sym, ◌∙◌, subst}
use Rattle.rayon.proofs.ListFacts.{AllZip-through}
use Rattle.nest_tree.specs.View.{tree_of}
use Rattle.comm_system.specs.GroupViews.{group_seen}
use Rattle.plan_checker.specs.Certificates.{fault_in}
use Rattle.plan_checker.proofs.Faults.{first_of_map}
use Rattle.plan_checker.proofs.certificates.first_fault.Goals as goal

pub returns : goal.returns
returns g c =
    let fault = fault_in (tree_of c.args.program.now) c.args.plan.now in
    let groups = c.args.groups.now in
    let faults = map (λ x. fault (group_seen x)) groups in
    let zipped = AllZip-through (λ x. fault (group_seen x)) _ (λ is one. IfOk one (λ x. x ≡ is)) (λ x one h. h) groups c.in_ok-found.found.items c.in_ok-found.ensures in
    subst (λ z. IfOk c.first_found.result (λ first. first ≡ z))
    (first_of_map (λ is. is) (λ x. fault (group_seen x)) groups ∙ sym (first_of_map fault group_seen groups))
    (c.first_found.ensures faults (rw c.deref.ensures.value zipped))
