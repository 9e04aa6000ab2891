use Rattle.std.proofs.Common.{◌≡◌, IfOk, List, Option, ap, subst, ◌∙◌}
use Rattle.std.proofs.Crossing.{crosses}
use Rattle.std.specs.List.{AllZip}
use Rattle.std.specs.declared.alloc.AllocError.{AllocError}
use Rattle.std.specs.declared.result.Result.{Result}
use denote.Param.Send.{sendable}
use Rattle.rayon.proofs.ListFacts.{IfOk-then}
use Rattle.rayon.proofs.ToStd.{slice-AllZip}
use Rattle.nest_tree.proofs.Crosses.{Program-sync}
use Rattle.nest_tree.specs.Tree.{Tree}
use Rattle.nest_tree.specs.View.{tree_of}
use Rattle.nest_tree.specs.declared.program.Program.{Program}
use Rattle.sync_plan.specs.declared.plan.Plan.{Plan}
use Rattle.sync_plan.proofs.plan.Plan.TheSendSync as plan
use Rattle.comm_system.specs.GroupViews.{group_seen}
use Rattle.comm_system.specs.declared.group.Group.{Group}
use Rattle.plan_checker.specs.Certificates.{fault_in}
use Rattle.plan_checker.specs.declared.refusal.PlanRefusal.{PlanRefusal}
use Rattle.plan_checker.proofs.Crosses.{Group-sync}
use Rattle.plan_checker.proofs.certificates.faults.Goals as goal

pub with_min_len-requires-send-Self : goal.with_min_len-requires-send-Self
with_min_len-requires-send-Self g c κs within = search (sendable, crosses, Group-sync) depth 20

pub with_min_len-requires-send-Self-Item : goal.with_min_len-requires-send-Self-Item
with_min_len-requires-send-Self-Item g c κs within = search (sendable, crosses, Group-sync) depth 20

pub map-requires-send-Self : goal.map-requires-send-Self
map-requires-send-Self g c κs within = search (sendable, crosses, Group-sync) depth 20

pub map-requires-send-Self-Item : goal.map-requires-send-Self-Item
map-requires-send-Self-Item g c κs within = search (sendable, crosses, Group-sync) depth 20

pub collect-requires-send-Self : goal.collect-requires-send-Self
collect-requires-send-Self g c κs within = search (sendable, crosses, Group-sync, Program-sync, plan.the_sync) depth 30

-- each group came to its fault, of this program and plan
abbrev CameTo : List Group → List (Result (Option PlanRefusal) AllocError) → Tree → Plan → Type 0
CameTo groups found tree plan = AllZip (λ group one. IfOk one (λ fault. fault ≡ fault_in tree plan (group_seen group))) groups found

captured : (groups : List Group) (found : List (Result (Option PlanRefusal) AllocError)) (p q : Program) (x y : Plan) → p ≡ q → x ≡ y → CameTo groups found (tree_of p) x → CameTo groups found (tree_of q) y
captured groups found p q x y program plan h = subst (CameTo groups found (tree_of q)) plan (subst (λ r. CameTo groups found (tree_of r) x) program h)

pub returns : goal.returns
returns g c =
    let slice = ap (λ it. it.base.slice.now) c.map.ensures.base ∙ ap (λ it. it.slice.now) c.with_min_len.ensures.base ∙ c.par_iter.ensures in
    IfOk-then c.collect.result _ _ c.collect.ensures (λ v h.
    let chain = h.1 in
    let found = slice-AllZip chain.0 c.args.groups.now (chain.1 ∙ slice) _ h.0 chain.2 in
    rw h.2 (captured c.args.groups.now h.0 _ c.args.program.now _ c.args.plan.now (ap (λ f. f.1.now) c.map.ensures.f) (ap (λ f. f.2.now) c.map.ensures.f) found))
