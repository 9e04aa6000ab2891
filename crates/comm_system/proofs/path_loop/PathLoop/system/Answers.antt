use Rattle.std.proofs.Common.{◌≡◌, suc, ◌+◌, ◌*◌, ◌-◌, ◌≤◌, negsuc, true, w64, List, [], ◌∷◌, drop, length, take, ap, sym, ◌∙◌, subst, arith}
use Rattle.std.proofs.lemmas.Int.{to_z-of_z}
use Rattle.std.proofs.lemmas.List.{length-map, length-take-le, take-map}
use Rattle.list_lemmas.proofs.Each.{passes_at}
use Rattle.nest_tree.specs.Form.{is_small}
use Rattle.nest_tree.specs.Tree.{Head}
use Rattle.nest_tree.specs.View.{head_of, tree_of}
use Rattle.nest_rows.specs.declared.constraint.Constraint.{Constraint}
use Rattle.nest_rows.specs.Groups.{differ, loops_have, sign_of}
use Rattle.nest_rows.specs.More.{HasMore}
use Rattle.nest_rows.specs.Views.{heads_of}
use Rattle.nest_rows.specs.declared.terms.Around.{Around}
use Rattle.nest_walk.proofs.Steps.{small_fits}
use Rattle.conflict_rules.specs.SmallSteps.{are_small_steps}
use Rattle.comm_system.specs.PairRows.{first_of}
use Rattle.comm_system.specs.Paths.{loops_outside}
use Rattle.comm_system.specs.SubjectViews.{path_loop_seen}
use Rattle.comm_system.specs.declared.path_loop.PathLoop.{PathLoop}
use Rattle.comm_system.proofs.PathRows.{loops_behind, path_system, small_in_front}
use Rattle.comm_system.proofs.path_loop.PathLoop.system.Goals as goal

-- the loops outside, as they are held
outside_held : (p : PathLoop) (held : List Around) → held ≡ take p.outside p.store.now.around.items → heads_of held ≡ loops_outside (path_loop_seen p)
outside_held p held is = ap heads_of is ∙ sym (take-map (λ (a : Around). head_of a.nest.now) p.outside p.store.now.around.items)

pub push_loops-requires-clause-steps : goal.push_loops-requires-clause-steps
push_loops-requires-clause-steps c =
    let p = c.args.self.now in
    ap are_small_steps (outside_held p c.around.result.now c.around.ensures) ∙ small_in_front p.outside (heads_of p.store.now.around.items) p.store.now.steps

pub returns-clause-made : goal.returns-clause-made
returns-clause-made c =
    let p = c.args.self.now in
    let tree = tree_of c.args.program.now in
    let seen = path_loop_seen p in
    let heads = heads_of p.store.now.around.items in
    let nest = c.nest-nest.result.now in
    let h = head_of nest in
    let first = c.in_ok-first.first in
    let outside = loops_outside seen in
    let one = outside_held p c.around.result.now c.around.ensures in
    let two = outside_held p c.around-2.result.now c.around-2.ensures in
    let begins : first ≡ first_of tree = c.in_ok-first.ensures.first in
    let held = length-map p.store.now.around.items (λ (a : Around). head_of a.nest.now) in
    let within : p.outside ≤ length heads = omega (arith, held, p.inside) in
    let long : length outside ≡ p.outside = length-take-le p.outside heads within in
    let vars = first + c.in_ok-first.count - 1 in
    let many : vars ≡ first_of tree + 2 * length outside - 1 = omega (arith, begins, c.in_ok-first.ensures.count, long) in
    let s1 = c.push_conditions.new.system in
    let s2 = c.push_loops.new.system in
    let loops : HasMore (loops_have (first_of tree) outside (first_of tree) outside) s1 s2 =
    subst (λ n. HasMore (loops_have n outside n outside) s1 s2) begins (subst (λ (hs : List Head). HasMore (loops_have first hs first hs) s1 s2) one c.in_ok-push_loops.ensures) in
    let small : is_small h.step ≡ true = passes_at (λ (g : Head). is_small g.step) heads p.outside h p.store.now.steps c.nest-nest.ensures in
    let row : c.in_ok-row.row ≡ differ (sign_of h.step) (first_of tree) outside h.m2 h.m1 (negsuc 0) =
    c.in_ok-row.ensures.is ∙ ap (λ s. differ s first (heads_of c.around-2.result.now) h.m2 h.m1 (negsuc 0)) c.of_step.ensures
    ∙ ap (λ z. differ (sign_of z) first (heads_of c.around-2.result.now) h.m2 h.m1 (negsuc 0)) (to_z-of_z w64 h.step (small_fits h.step small))
    ∙ ap (λ (hs : List Head). differ (sign_of h.step) first hs h.m2 h.m1 (negsuc 0)) two ∙ ap (λ n. differ (sign_of h.step) n outside h.m2 h.m1 (negsuc 0)) begins in
    path_system tree c.args.plan.now.conditions seen h (drop (suc p.outside) heads) vars _ s1 s2 c.push.new.self (loops_behind heads p.outside h c.nest-nest.ensures) many c.empty-system.ensures c.in_ok-push_conditions.ensures loops
    (subst (λ (r : Constraint). HasMore (r ∷ []) s2 c.push.new.self) row c.in_ok-push.ensures.ok)
