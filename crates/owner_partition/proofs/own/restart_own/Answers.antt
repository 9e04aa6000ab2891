use Rattle.std.proofs.Common.{◌≡◌, ◌==◌, [], ℤ, List, length, map, if◌then◌else◌, ⊎_elim, ap, sym, subst, ◌∙◌, IsTrue}
use Rattle.std.specs.List.{All, Contains, filter, flat_map, list_all}
use Rattle.std.proofs.lemmas.Bool.{and_from}
use Rattle.std.proofs.lemmas.List.Elements.{All-contains_itself, All-filter}
use Rattle.nest_tree.specs.Form.{is_small, reach_within}
use Rattle.nest_tree.specs.Tree.{Tree, assign, do_loop, param_values, print}
use Rattle.nest_tree.specs.View.{expression_of, printed_of, statement_of, statements_from}
use Rattle.nest_model.specs.Instances.{Instance, head_trips, instances_in, instances_of, with_loop}
use Rattle.nest_walk.specs.Cursors.{loops_in, visit_at}
use Rattle.nest_walk.specs.Frames.{head_of}
use Rattle.nest_walk.specs.InstancesLeft.{instances_left, instances_tree}
use Rattle.nest_walk.specs.Paths.{Round}
use Rattle.nest_walk.specs.RoundsOf.{rounds_of}
use Rattle.nest_walk.specs.TripsLeft.{trips_left}
use Rattle.nest_walk.specs.Walkable.{is_small_head}
use Rattle.nest_tree.specs.WellFormed.{is_number_of, loops_of}
use Rattle.nest_walk.proofs.Alone.{Reached, reached, whole_walk}
use Rattle.nest_walk.proofs.Trees.{statement_of-Loop}
use Rattle.nest_walk.proofs.WalkMoves.{LoopAt, loop_facts}
use Rattle.nest_tree.specs.declared.tree.Item.{Item}
use Rattle.owner_partition.specs.Owners.{anchor_owner, own_instances}
use Rattle.owner_partition.specs.OwnInstances.{is_owned, names_no_inner, own_values}
use Rattle.owner_partition.proofs.Dealt.{no_trip, own_of_loop, own_of_work}
use Rattle.owner_partition.proofs.own.restart_own.Goals as goal
use Rattle.owner_partition.proofs.own.restart_own.Goals.{In-Loop, After-is_own, After-own_values-trips}

-- what is known of a phase that is a loop
loop_reached : (c : In-Loop) → Reached (instances_tree c.args.own.now) (rounds_of c.args.path.now) (do_loop (head_of c.in-Loop.nest) (statements_from c.in-Loop.nest.items.items)) c.args.stop.first
loop_reached c =
    subst (λ s. Reached (instances_tree c.args.own.now) (rounds_of c.args.path.now) s c.args.stop.first) (ap statement_of c.in-Loop.is ∙ statement_of-Loop c.in-Loop.nest)
    (reached (instances_tree c.args.own.now) (rounds_of c.args.path.now) c.args.stop c.requires.reached)

loop_known : (c : In-Loop) → LoopAt (whole_walk (instances_tree c.args.own.now)) (rounds_of c.args.path.now) (head_of c.in-Loop.nest) (statements_from c.in-Loop.nest.items.items)
loop_known c = loop_facts (whole_walk (instances_tree c.args.own.now)) (rounds_of c.args.path.now) (head_of c.in-Loop.nest) (statements_from c.in-Loop.nest.items.items) (loop_reached c).walkable

pub own_values-trips-requires-clause-head : goal.own_values-trips-requires-clause-head
own_values-trips-requires-clause-head c =
    let k = loop_known (goal.at.own_values-trips-requires-clause-head c).In-Loop in
    subst (λ t. IsTrue (is_small_head (param_values t) (loops_in t (rounds_of c.args.path.now)) (head_of c.in-Loop.nest))) (sym c.program-program.ensures) (and_from _ _ (and_from _ _ (and_from _ _ k.first k.last) k.moves) k.step)

pub own_values-trips-requires-clause-trips : goal.own_values-trips-requires-clause-trips
own_values-trips-requires-clause-trips c =
    subst (λ t. IsTrue (list_all is_small (head_trips (param_values t) (head_of c.in-Loop.nest) (loops_in t (rounds_of c.args.path.now))))) (sym c.program-program.ensures) (loop_known (goal.at.own_values-trips-requires-clause-trips c).In-Loop).small

pub own_values-trips-requires-clause-numbered : goal.own_values-trips-requires-clause-numbered
own_values-trips-requires-clause-numbered c =
    subst (λ t. IsTrue (list_all (λ (r : Round). is_number_of (loops_of t.items) r.number) (rounds_of c.args.path.now))) (sym c.program-program.ensures) (loop_reached (goal.at.own_values-trips-requires-clause-numbered c).In-Loop).numbers

pub own_values-trips-requires-clause-number : goal.own_values-trips-requires-clause-number
own_values-trips-requires-clause-number c =
    subst (λ t. IsTrue (is_number_of (loops_of t.items) c.in-Loop.nest.number)) (sym c.program-program.ensures) (loop_known (goal.at.own_values-trips-requires-clause-number c).In-Loop).number

pub own_values-trips-requires-clause-room : goal.own_values-trips-requires-clause-room
own_values-trips-requires-clause-room c = (loop_known (goal.at.own_values-trips-requires-clause-room c).In-Loop).room

pub own_values-trips-requires-clause-given : goal.own_values-trips-requires-clause-given
own_values-trips-requires-clause-given c = subst (λ (t : Tree). IsTrue (reach_within (length t.params) c.args.anchor.now.form.params)) (sym c.program-program.ensures) c.requires.given

-- the values of the own trips
taken : (c : After-own_values-trips) →
    trips_left c.own_values-trips.result
    ≡ own_values (param_values (instances_tree c.args.own.now)) c.args.anchor.now c.args.workers c.args.p (head_of c.in-Loop.nest) (loops_in (instances_tree c.args.own.now) (rounds_of c.args.path.now))
taken c = c.own_values-trips.ensures.trips ∙ ap (λ t. own_values (param_values t) c.args.anchor.now c.args.workers c.args.p (head_of c.in-Loop.nest) (loops_in t (rounds_of c.args.path.now))) c.program-program.ensures

pub restart_trips-requires-clause-trips : goal.restart_trips-requires-clause-trips
restart_trips-requires-clause-trips c =
    let params = param_values (instances_tree c.args.own.now) in
    let loops = loops_in (instances_tree c.args.own.now) (rounds_of c.args.path.now) in
    let all = head_trips params (head_of c.in-Loop.nest) loops in
    subst (All (Contains all)) (sym (taken (goal.at.restart_trips-requires-clause-trips c).After-own_values-trips))
    (All-filter (λ v. is_owned params c.args.anchor.now c.args.workers c.args.p (with_loop loops c.in-Loop.nest.number v)) (Contains all) all (All-contains_itself all))

-- a loop's own instances
loop_own : (c : After-own_values-trips) → LoopAt (whole_walk (instances_tree c.args.own.now)) (rounds_of c.args.path.now) (head_of c.in-Loop.nest) (statements_from c.in-Loop.nest.items.items) → (own : List Instance) →
    own ≡ flat_map (λ v. instances_in (param_values (instances_tree c.args.own.now)) (statements_from c.in-Loop.nest.items.items) c.args.stop.first (with_loop (loops_in (instances_tree c.args.own.now) (rounds_of c.args.path.now)) c.in-Loop.nest.number v)) (trips_left c.own_values-trips.result) →
    own ≡ own_instances (param_values (instances_tree c.args.own.now)) c.args.anchor.now c.args.workers c.args.p (visit_at (instances_tree c.args.own.now) (rounds_of c.args.path.now) c.args.stop)
loop_own c known own is =
    let params = param_values (instances_tree c.args.own.now) in
    let loops = loops_in (instances_tree c.args.own.now) (rounds_of c.args.path.now) in
    let head = head_of c.in-Loop.nest in
    let body = statements_from c.in-Loop.nest.items.items in
    let first = c.args.stop.first in
    let loop_is = ap statement_of c.in-Loop.is ∙ statement_of-Loop c.in-Loop.nest in
    let outside : IsTrue (reach_within head.number c.args.anchor.now.form.loops) = subst (λ s. IsTrue (names_no_inner s c.args.anchor.now.form)) loop_is c.requires.outside in
    is ∙ ap (flat_map (λ v. instances_in params body first (with_loop loops head.number v))) (taken c)
    ∙ sym (own_of_loop params c.args.anchor.now c.args.workers c.args.p c.own_values-trips.ensures.form head body first loops outside known.above)
    ∙ sym (ap (λ s. filter (λ (i : Instance). anchor_owner c.args.anchor.now c.args.workers i.loops params == c.args.p) (instances_of params s first loops)) loop_is)

-- a phase that is no loop
other_is : (c : After-is_own) →
    let params = param_values (instances_tree c.args.own.now) in
    let loops = loops_in (instances_tree c.args.own.now) (rounds_of c.args.path.now) in
    let all = instances_of params (statement_of c.args.stop.item.now) c.args.stop.first loops in
    filter (λ (i : Instance). anchor_owner c.args.anchor.now c.args.workers i.loops params == c.args.p) all ≡ (if is_owned params c.args.anchor.now c.args.workers c.args.p loops then all else [])
other_is c =
    let params = param_values (instances_tree c.args.own.now) in
    let loops = loops_in (instances_tree c.args.own.now) (rounds_of c.args.path.now) in
    let a = c.args.anchor.now in
    let first = c.args.stop.first in
    let owned = is_owned params a c.args.workers c.args.p loops in
    let P : Item → Type 0 = λ i. filter (λ (j : Instance). anchor_owner a c.args.workers j.loops params == c.args.p) (instances_of params (statement_of i) first loops)
    ≡ (if owned then instances_of params (statement_of i) first loops else []) in
    let work = own_of_work params a c.args.workers c.args.p c.is_own.ensures.form in
    ⊎_elim (λ x. subst P (sym x.4) (work (assign (record { target = x.0; value = expression_of x.1; guard = x.2; line = x.3 })) first loops))
    (λ y. ⊎_elim (λ x. subst P (sym x.2) (work (print (record { items = map printed_of x.0.items; line = x.1 })) first loops)) (λ x. subst P (sym x.1) (no_trip params a c.args.workers c.args.p c.is_own.ensures.form owned)) y) c.in-Assign.is

pub returns-then-not-is_empty-clause-own : goal.returns-then-not-is_empty-clause-own
returns-then-not-is_empty-clause-own c =
    let at = goal.at.returns-then-not-is_empty-clause-own c in
    loop_own at.After-own_values-trips (loop_known at.In-Loop) (instances_left c.restart_trips.new.self) c.restart_trips.ensures.instances

pub returns-else-not-is_empty-clause-own : goal.returns-else-not-is_empty-clause-own
returns-else-not-is_empty-clause-own c =
    let at = goal.at.returns-else-not-is_empty-clause-own c in
    let tree = instances_tree c.args.own.now in
    let nest = c.in-Loop.nest in
    let body : ℤ → List Instance = λ v. instances_in (param_values tree) (statements_from nest.items.items) c.args.stop.first (with_loop (loops_in tree (rounds_of c.args.path.now)) nest.number v) in
    loop_own at.After-own_values-trips (loop_known at.In-Loop) (instances_left c.args.own.now) (c.requires.none ∙ sym (ap (flat_map body) (c.is_empty.ensures.0 c.if-not-is_empty.false)))

-- whether the processor owns the statement
owned : (c : After-is_own) → c.is_own.result ≡ is_owned (param_values (instances_tree c.args.own.now)) c.args.anchor.now c.args.workers c.args.p (loops_in (instances_tree c.args.own.now) (rounds_of c.args.path.now))
owned c = c.is_own.ensures.owned ∙ ap (λ t. is_owned (param_values t) c.args.anchor.now c.args.workers c.args.p (loops_in t (rounds_of c.args.path.now))) c.program-program.ensures

pub returns-then-is_own-clause-own : goal.returns-then-is_own-clause-own
returns-then-is_own-clause-own c =
    let after = (goal.at.returns-then-is_own-clause-own c).After-is_own in
    let all = instances_of (param_values (instances_tree c.args.own.now)) (statement_of c.args.stop.item.now) c.args.stop.first (loops_in (instances_tree c.args.own.now) (rounds_of c.args.path.now)) in
    c.restart.ensures.instances ∙ sym (other_is after ∙ ap (λ b. if b then all else []) (sym (owned after) ∙ c.if-is_own.true))

pub returns-else-is_own-clause-own : goal.returns-else-is_own-clause-own
returns-else-is_own-clause-own c =
    let after = (goal.at.returns-else-is_own-clause-own c).After-is_own in
    let all = instances_of (param_values (instances_tree c.args.own.now)) (statement_of c.args.stop.item.now) c.args.stop.first (loops_in (instances_tree c.args.own.now) (rounds_of c.args.path.now)) in
    c.requires.none ∙ sym (other_is after ∙ ap (λ b. if b then all else []) (sym (owned after) ∙ c.if-is_own.false))
