use Rattle.std.proofs.Common.{◌≡◌, ◌≢◌, ◌-◌, ◌≤◌, ◌++◌, ℕ, List, [], ◌∷◌, IfOk, None, map, take, if◌then◌else◌, ap, sym, ◌∙◌, subst, arith}
use Rattle.std.specs.List.{slice_get}
use Rattle.std.proofs.lemmas.Bool.{ne_eqb}
use Rattle.std.proofs.lemmas.List.{map-append}
use Rattle.nest_tree.specs.Tree.{Tree}
use Rattle.nest_tree.specs.View.{tree_of}
use Rattle.sync_plan.specs.declared.plan.Plan.{Plan}
use Rattle.comm_system.specs.GroupViews.{group_seen, listed_seen}
use Rattle.comm_system.specs.Obligations.{obligation_numbered, obligations_of}
use Rattle.comm_system.specs.Subjects.{Listed, groups_of, obligations_in}
use Rattle.comm_system.specs.declared.group.Group.{Group}
use Rattle.comm_system.specs.declared.groups.Groups.{Groups}
use Rattle.comm_system.specs.declared.obligation.Obligation.{Obligation}
use Rattle.comm_system.proofs.GroupLists.{at_last, at_none}
use Rattle.obligation_numbers.proofs.obligation_at.Goals as goal

-- the groups that are listed are those that are held
listed : (tree : Tree) (plan : Plan) (most : ℕ) (l : Groups) (gs : List Group) → listed_seen l ≡ groups_of tree plan most → l.items.items ≡ gs → (groups_of tree plan most).groups ≡ map group_seen gs
listed tree plan most l gs are held = sym (ap (λ (m : Listed). m.groups) are) ∙ ap (map group_seen) held

-- the last of them has the obligation with the number
last : (tree : Tree) (plan : Plan) (most : ℕ) (l : Groups) (gs : List Group) (g : Group) → listed_seen l ≡ groups_of tree plan most → l.items.items ≡ gs ++ g ∷ [] →
    (g.number ≤ most) × (slice_get (obligations_in tree plan (group_seen g)) (most - g.number) ≡ slice_get (obligations_of tree plan) (most - 1))
last tree plan most l gs g are held = at_last tree plan most (map group_seen gs) (group_seen g) (listed tree plan most l (gs ++ g ∷ []) are held ∙ map-append group_seen gs (g ∷ []))

numbered_so : (number : ℕ) (all : List Obligation) → number ≢ 0 → slice_get all (number - 1) ≡ obligation_numbered number all
numbered_so number all some = sym (ap (λ b. if b then None else slice_get all (number - 1)) (ne_eqb number 0 some))

pub obligation_in-requires-clause-reached : goal.obligation_in-requires-clause-reached
obligation_in-requires-clause-reached c =
    (last (tree_of c.args.program.now) c.args.plan.now c.args.number c.in_ok-groups.groups c.pop.new.self.items c.in-Some.group c.in_ok-groups.ensures c.in-Some.ensures.items).0

pub returns-in-Some : goal.returns-in-Some
returns-in-Some c =
    let tree = tree_of c.args.program.now in
    let plan = c.args.plan.now in
    let found = last tree plan c.args.number c.in_ok-groups.groups c.pop.new.self.items c.in-Some.group c.in_ok-groups.ensures c.in-Some.ensures.items in
    subst (λ o. IfOk c.obligation_in.result (λ f. f ≡ o)) (found.1 ∙ numbered_so c.args.number (obligations_of tree plan) c.if-number-eq0.false) c.obligation_in.ensures

pub returns : goal.returns
returns c =
    let tree = tree_of c.args.program.now in
    let plan = c.args.plan.now in
    let groups = c.in_ok-groups.groups.items.items in
    let none : groups ≡ [] = c.in-None.ensures.items ∙ ap (λ gs. gs ++ []) (c.in-None.ensures.rest ∙ ap (λ n. take (n - 1) groups) c.in-None.ensures.cases.0) in
    at_none tree plan c.args.number (omega (arith, c.if-number-eq0.false)) (listed tree plan c.args.number c.in_ok-groups.groups [] c.in_ok-groups.ensures none)
    ∙ numbered_so c.args.number (obligations_of tree plan) c.if-number-eq0.false
