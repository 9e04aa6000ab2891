-- Instances that come next of a walk.
use Rattle.std.proofs.Common.{◌≡◌, ℕ, ◌+◌, ◌≤◌, true, false, IsTrue, List, [], ◌∷◌, ◌++◌, length, map, refl, sym, ◌∙◌, ap, subst, arith, sum_by}
use Rattle.std.specs.List.{flat_map, list_all}
use Rattle.std.specs.Option.{option_map}
use Rattle.std.proofs.lemmas.Bool.{and_from, and_parts}
use Rattle.std.proofs.lemmas.Grind.{flat_map-append}
use Rattle.std.proofs.lemmas.List.{length-map, map-append}
use Rattle.std.proofs.lemmas.List.Sums.{sum_by-cons}
use Rattle.nest_tree.specs.Tree.{Tree, param_values}
use Rattle.nest_tree.specs.View.{statement_of}
use Rattle.nest_model.specs.Accesses.{loads_of, store_of}
use Rattle.nest_model.specs.Instances.{Instance}
use Rattle.nest_model.specs.Memory.{assigned_value, line_of}
use Rattle.nest_model.specs.Ranges.{is_instance_inside}
use Rattle.nest_model.specs.Visits.{every, instances_at}
use Rattle.nest_walk.specs.Cursors.{is_reached, visit_at}
use Rattle.nest_walk.specs.Paths.{Round}
use Rattle.nest_walk.specs.Places.{numbers_of}
use Rattle.nest_walk.specs.Texts.{StandFrom, placed_in}
use Rattle.nest_walk.specs.Texts as Texts
use Rattle.nest_walk.specs.declared.cursor.Stop.{Stop}
use Rattle.sync_plan.specs.Own.{Own, own_cell, own_loop, own_of}
use Rattle.sync_plan.specs.declared.plan.Plan.{Plan}
use Rattle.own_cells.specs.OwnCells.{AreFew}
use Rattle.spmd_model.specs.Deeds.{Deed, instance_deeds, last_deed, loading}
use Rattle.spmd_model.specs.MachineDeeds.{own_deeds}
use Rattle.instance_runs.specs.Executors.{Begins, executor_output, executor_room, executor_tree}
use Rattle.instance_runs.specs.Rooms.{visit_room}
use Rattle.turns.specs.CounterTurns.{counter_room, works}
use Rattle.turns.specs.CountersLeft.{counters_tree}
use Rattle.instance_runs.specs.Stops.{IsInstance}
use Rattle.turns.specs.Turns.{Turn, runs, turn_deeds, turn_room}
use Rattle.turns.specs.TurnsLeft.{turns_left, turns_place, turns_plan, turns_rounds, turns_tree}
use Rattle.fork_join.specs.SeenDeeds.{FindsOwn}
use Rattle.fork_join.proofs.Walking.{same_room}
use Rattle.shared_words.specs.Homes.{Home}
use Rattle.spmd_workers.specs.Places.{deeds_in, left_behind, plan_at, tree_at}
use Rattle.spmd_workers.specs.Walks.{IsWalk, is_instance_there, is_turn_there, walk_place}
use Rattle.spmd_workers.specs.declared.walk.Walk.{Walk}
use Rattle.spmd_workers.proofs.ByProgram.{all_instances, instance_inside}
use Rattle.spmd_workers.proofs.Turned.{AreNoPosts, last_no_post, loads_no_posts, no_posts_append}
use Rattle.spmd_workers.proofs.Walks.{walk_left}

-- ---- the deeds of instances

pub runs_deeds : (h : Home) (p place : ℕ) (is : List Instance) → deeds_in h p (map (runs place) is) ≡ flat_map (own_deeds (tree_at h) (own_of (tree_at h) (plan_at h) place) p) is
runs_deeds h p place [] = refl
runs_deeds h p place (i ∷ is) = ap (λ l. own_deeds (tree_at h) (own_of (tree_at h) (plan_at h) place) p i ++ l) (runs_deeds h p place is)

all_there : (tree : Tree) (place : ℕ) (is : List Instance) (rest : List Turn) → list_all (is_turn_there tree) (map (runs place) is ++ rest) ≡ true → list_all (is_instance_there tree) is ≡ true
all_there tree place [] rest all = refl
all_there tree place (i ∷ is) rest all =
    let parts = and_parts (is_instance_there tree i) (list_all (is_turn_there tree) (map (runs place) is ++ rest)) all in
    and_from (is_instance_there tree i) (list_all (is_instance_there tree) is) parts.0 (all_there tree place is rest parts.1)

insides : (tree : Tree) (is : List Instance) → list_all (is_instance_there tree) is ≡ true → list_all (is_instance_inside tree) is ≡ true
insides tree [] all = refl
insides tree (i ∷ is) all =
    let parts = and_parts (is_instance_there tree i) (list_all (is_instance_there tree) is) all in
    and_from (is_instance_inside tree i) (list_all (is_instance_inside tree) is) (instance_inside tree i parts.0) (insides tree is parts.1)

instances_no_posts : (tree : Tree) (o : Own) (p : ℕ) (is : List Instance) → AreNoPosts (flat_map (own_deeds tree o p) is)
instances_no_posts tree o p [] = tt
instances_no_posts tree o p (i ∷ is) =
    let g = own_cell o p in
    let last = last_deed (option_map g (store_of tree i)) false (assigned_value tree i) (line_of tree i) in
    no_posts_append (own_deeds tree o p i) (flat_map (own_deeds tree o p) is)
    (no_posts_append (map loading (map g (loads_of tree i))) (last ∷ []) (loads_no_posts (map g (loads_of tree i))) (last_no_post (option_map g (store_of tree i)) (assigned_value tree i) (line_of tree i), tt))
    (instances_no_posts tree o p is)

-- ---- the room of an instance

-- an instance of one tree with some loops is one of the same with the same
pub moved_instance : (t u : Tree) (rounds others : List Round) (stop : Stop) → t ≡ u → rounds ≡ others → (at : IsInstance t rounds stop) → (here : IsInstance u others stop) × (here.instance ≡ at.instance)
moved_instance t u rounds others stop same loops at =
    let both : (t, rounds) ≡ (u, others) = λ k. (same k, loops k) in
    let i = at.instance in (
      record {
        instance = i;
        is = subst (λ (k : Tree × List Round). instances_at (param_values k.0) (visit_at k.0 k.1 stop) ≡ i ∷ []) both at.is;
        reached = subst (λ (k : Tree × List Round). IsTrue (is_reached k.0 k.1 stop)) both at.reached;
        text = subst (λ (k : Tree × List Round). StandFrom (Texts.works k.0) stop.first (placed_in every (numbers_of k.1) (statement_of stop.item.now))) both at.text;
      },
      refl,
    )

-- ---- instances that come next, as a map of deeds has them that gives the program's

module _ (f : Deed → Deed) (x : Walk) (ready : IsWalk x) (place : ℕ)
    (gives : (i : Instance) → is_instance_there (tree_at x.seat.home) i ≡ true → map f (own_deeds (tree_at x.seat.home) (own_of (tree_at x.seat.home) (plan_at x.seat.home) place) x.seat.processor i) ≡ instance_deeds (tree_at x.seat.home) i) where
  abbrev rest_seen : List Turn → List Deed
  rest_seen rest = map f (deeds_in x.seat.home x.seat.processor rest)

  -- a strip
  pub strip_here : (is : List Instance) (rest : List Turn) → turns_left x.turns ≡ map (runs place) is ++ rest → map f (left_behind x.seat x.seat x.own (walk_place x)) ≡ flat_map (instance_deeds (executor_tree x.executor)) is ++ map f (deeds_in x.seat.home x.seat.processor rest)
  strip_here is rest next =
      let h = x.seat.home in
      let p = x.seat.processor in
      let all = all_there (tree_at h) place is rest (ap (list_all (is_turn_there (tree_at h))) (sym next) ∙ ready.there) in
      ap (map f) (walk_left x ready ∙ ap (deeds_in h p) next ∙ flat_map-append (turn_deeds (tree_at h) (plan_at h) p) (map (runs place) is) rest) ∙ map-append f (deeds_in h p (map (runs place) is)) (deeds_in h p rest)
      ∙ ap (λ l. map f l ++ rest_seen rest) (runs_deeds h p place is) ∙ ap (λ l. l ++ rest_seen rest) (all_instances f (tree_at h) (plan_at h) place p is gives all)
      ∙ ap (λ t. flat_map (instance_deeds t) is ++ rest_seen rest) (sym ready.executes)

  -- one instance
  module _ (stop : Stop) (at : IsInstance (counters_tree x.turns.counters) (turns_rounds x.turns) stop) (rest : List Turn) (next : turns_left x.turns ≡ runs place at.instance ∷ rest) where
    abbrev tree : Tree
    tree = executor_tree x.executor

    same_tree : counters_tree x.turns.counters ≡ tree
    same_tree = ready.sound.same_tree ∙ ready.tree ∙ sym ready.executes

    here : IsInstance tree (turns_rounds x.turns) stop
    here = (moved_instance (counters_tree x.turns.counters) tree (turns_rounds x.turns) (turns_rounds x.turns) stop same_tree refl at).0

    is_there : is_instance_there (tree_at x.seat.home) at.instance ≡ true
    is_there =
        let all : list_all (is_turn_there (tree_at x.seat.home)) (runs place at.instance ∷ rest) ≡ true = ap (list_all (is_turn_there (tree_at x.seat.home))) (sym next) ∙ ready.there in
        (and_parts (is_instance_there (tree_at x.seat.home) at.instance) (list_all (is_turn_there (tree_at x.seat.home)) rest) all).0

    pub begins_here : Begins tree (turns_rounds x.turns) stop (map f (left_behind x.seat x.seat x.own (walk_place x)))
    unfolding here moved_instance
    begins_here = record {
      at = here;
      inside = ap (λ t. is_instance_inside t at.instance) ready.executes ∙ instance_inside (tree_at x.seat.home) at.instance is_there;
      rest = map f (deeds_in x.seat.home x.seat.processor rest);
      is = ap (map f) (walk_left x ready ∙ ap (deeds_in x.seat.home x.seat.processor) next) ∙ map-append f (own_deeds (tree_at x.seat.home) (own_of (tree_at x.seat.home) (plan_at x.seat.home) place) x.seat.processor at.instance) (deeds_in x.seat.home x.seat.processor rest)
          ∙ ap (λ l. l ++ map f (deeds_in x.seat.home x.seat.processor rest)) (gives at.instance is_there) ∙ ap (λ t. instance_deeds t at.instance ++ map f (deeds_in x.seat.home x.seat.processor rest)) (sym ready.executes);
    }

    pub rest_here : begins_here.rest ≡ map f (deeds_in x.seat.home x.seat.processor rest)
    unfolding begins_here
    rest_here = refl

    pub room_here : visit_room tree (visit_at tree (turns_rounds x.turns) stop) ≡ counter_room (tree_at x.seat.home) (works at.instance)
    unfolding here moved_instance
    room_here = same_room tree (turns_rounds x.turns) stop here ∙ ap (λ t. counter_room t (works at.instance)) ready.executes

    pub fits_here : length (executor_output x.executor) + visit_room tree (visit_at tree (turns_rounds x.turns) stop) ≤ executor_room x.executor
    fits_here =
        let room = turn_room (tree_at x.seat.home) in
        let all : sum_by room (turns_left x.turns) ≡ counter_room (tree_at x.seat.home) (works at.instance) + sum_by room rest = ap (sum_by room) next ∙ sum_by-cons room (runs place at.instance) rest in
        let most = ready.room in
        let one = room_here in
        omega (arith, all, most, one)

pub inside_here : (x : Walk) (ready : IsWalk x) (place : ℕ) (is : List Instance) (rest : List Turn) → turns_left x.turns ≡ map (runs place) is ++ rest → list_all (is_instance_inside (executor_tree x.executor)) is ≡ true
inside_here x ready place is rest next =
    ap (λ t. list_all (is_instance_inside t) is) ready.executes ∙ insides (tree_at x.seat.home) is (all_there (tree_at x.seat.home) place is rest (ap (list_all (is_turn_there (tree_at x.seat.home))) (sym next) ∙ ready.there))

-- ---- behind instances

pub no_posts_run : (h : Home) (p place : ℕ) (is : List Instance) → AreNoPosts (deeds_in h p (map (runs place) is))
no_posts_run h p place is = subst AreNoPosts (sym (runs_deeds h p place is)) (instances_no_posts (tree_at h) (own_of (tree_at h) (plan_at h) place) p is)

-- as many deeds are left as a map of them has
pub same_count : (f : Deed → Deed) (xs ys : List Deed) → map f xs ≡ map f ys → length xs ≡ length ys
same_count f xs ys same = sym (length-map xs f) ∙ ap (λ (l : List Deed). length l) same ∙ length-map ys f

-- the phase has few own scalars, and a way to look for them fits it
pub few_known : (x : Walk) → IsWalk x → AreFew (tree_at x.seat.home) (own_loop (tree_at x.seat.home) (plan_at x.seat.home) (turns_place x.turns))
few_known x ready = subst (λ (k : Tree × Plan). AreFew k.0 (own_loop k.0 k.1 (turns_place x.turns))) (λ i. (ready.tree i, ready.plan i)) ready.sound.own.few

pub finds_here : (x : Walk) → IsWalk x → (fits : Tree → Plan → ℕ → Type 0) → fits (turns_tree x.turns) (turns_plan x.turns) (turns_place x.turns) → FindsOwn (tree_at x.seat.home) (plan_at x.seat.home) (turns_place x.turns) fits
finds_here x ready fits fit = record {
  few = few_known x ready;
  fit = subst (λ (k : Tree × Plan). fits k.0 k.1 (turns_place x.turns)) (λ i. (ready.tree i, ready.plan i)) fit;
}

pub same_tail : {t u : Turn} {ts us left : List Turn} → left ≡ t ∷ ts → left ≡ u ∷ us → ts ≡ us
same_tail {t} {u} {ts} {us} {left} a b = let both : t ∷ ts ≡ u ∷ us = sym a ∙ b in cc
