use Rattle.std.proofs.Common.{◌≡◌, suc, ◌+◌, ◌-◌, ◌++◌, map, is_some, length, drop, get_or, List, [], Option, Some, true, ap, sym, subst, ◌∙◌, ℕ, arith}
use Rattle.std.specs.Prelude.{slice_get}
use Rattle.std.proofs.lemmas.Option.{get_or_from_slice_get}
use Rattle.nest_tree.specs.Form.{reach_within}
use Rattle.nest_tree.specs.Tree.{Tree, param_values}
use Rattle.nest_model.specs.Visits.{Visit}
use Rattle.nest_model.specs.Instances.{Instance}
use Rattle.std.specs.Option.{MatchOption}
use Rattle.nest_walk.specs.InstancesLeft.{instances_left, instances_rounds}
use Rattle.owner_partition.specs.declared.anchor.Anchor.{Anchor}
use Rattle.owner_partition.specs.OwnInstances.{names_no_inner}
use Rattle.owner_partition.specs.Owners.{own_instances}
use Rattle.owner_partition.specs.Phases.{phases}
use Rattle.owner_partition.specs.PhasesLeft.{phase_last, phases_left, phases_passed, phases_tree}
use Rattle.sync_plan.specs.Boundaries.{kind_before}
use Rattle.sync_plan.specs.ProcessorSets.{members}
use Rattle.sync_plan.specs.Waits.{posts_at, waits_for}
use Rattle.spmd_model.specs.Deeds.{owned_by}
use Rattle.turns.specs.CounterTurns.{works, boundary_at, boundary_by, boundary_turns, counter_turns}
use Rattle.turns.specs.CountersLeft.{IsOne, begun_by, come_of, phases_to_go, counters_plan, counters_rounds, counters_tree}
use Rattle.turns.proofs.CounterLists.{bare_parts, entered_turns, next_phase, none_is, none_left, phase_anchor}
use Rattle.turns.proofs.counters.CounterTurns.enter.Goals as goal

pub returns-in_default-clause-end : goal.returns-in_default-clause-end
returns-in_default-clause-end c = λ _.
    let t = c.args.self.now in
    let b = bare_parts t.posts t.awaits (is_some t.begins) (is_some t.come) c.requires.bare in
    (none_left (counters_tree t) (counters_plan t) t.processor (suc (phases_passed t.phases)) t.number t.awaits t.posts t.begins (phases_left t.phases) (counters_rounds t) t.come (instances_left t.own) b c.requires.own c.in_default.ensures.phase, c.requires.bare)

pub overflow_sub-anchor : goal.overflow_sub-anchor
overflow_sub-anchor c =
    let t = c.args.self.now in
    let sound = c.requires.sound in
    let (v, left, last, is) = c.in-Some.ensures.phase in
    let n = next_phase (counters_tree t) (counters_plan t) (phases_passed t.phases) (phases_left t.phases) _ v sound.behind left in
    let a = phase_anchor (counters_tree t) (counters_plan t) (phases_passed t.phases) v sound.formed sound.fits n.0 in
    omega (arith, a.low, is.place_is)

pub bounds-as_slice-phase : goal.bounds-as_slice-phase
bounds-as_slice-phase c =
    let t = c.args.self.now in
    let sound = c.requires.sound in
    let (v, left, last, is) = c.in-Some.ensures.phase in
    let n = next_phase (counters_tree t) (counters_plan t) (phases_passed t.phases) (phases_left t.phases) _ v sound.behind left in
    let a = phase_anchor (counters_tree t) (counters_plan t) (phases_passed t.phases) v sound.formed sound.fits n.0 in
    omega (arith, a.within, is.place_is, ap length c.as_slice.ensures)

-- the anchor that is read is that of the phase
read_is : (anchors read : List Anchor) (place visited : ℕ) (x a : Anchor) → read ≡ anchors → place ≡ visited → x ≡ get_or read (place - 1) x → slice_get anchors (visited - 1) ≡ Some a → x ≡ a
read_is anchors read place visited x a same at is there = is ∙ ap (λ l. get_or l (place - 1) x) same ∙ ap (λ k. get_or anchors (k - 1) x) at ∙ get_or_from_slice_get anchors (visited - 1) a x there

pub restart_own-requires-clause-outside : goal.restart_own-requires-clause-outside
restart_own-requires-clause-outside c = λ x h.
    let t = c.args.self.now in
    let sound = c.requires.sound in
    let (v, left, last, is) = c.in-Some.ensures.phase in
    let n = next_phase (counters_tree t) (counters_plan t) (phases_passed t.phases) (phases_left t.phases) _ v sound.behind left in
    let a = phase_anchor (counters_tree t) (counters_plan t) (phases_passed t.phases) v sound.formed sound.fits n.0 in
    let read = read_is (counters_plan t).anchors c.as_slice.result.now c.in-Some.phase.place v.place c.index-as_slice-phase.result a.anchor c.as_slice.ensures is.place_is c.index-as_slice-phase.is a.at in
    let same : Some x ≡ Some v = sym h ∙ last in
    let visit : v ≡ x = cc in
    subst (λ b. b ≡ true) (ap (λ (w : Visit). names_no_inner w.what a.anchor.form) visit ∙ ap (λ (b : Anchor). names_no_inner x.what b.form) (sym read)) a.outside

pub restart_own-requires-clause-given : goal.restart_own-requires-clause-given
restart_own-requires-clause-given c =
    let t = c.args.self.now in
    let sound = c.requires.sound in
    let (v, left, last, is) = c.in-Some.ensures.phase in
    let n = next_phase (counters_tree t) (counters_plan t) (phases_passed t.phases) (phases_left t.phases) _ v sound.behind left in
    let a = phase_anchor (counters_tree t) (counters_plan t) (phases_passed t.phases) v sound.formed sound.fits n.0 in
    let read = read_is (counters_plan t).anchors c.as_slice.result.now c.in-Some.phase.place v.place c.index-as_slice-phase.result a.anchor c.as_slice.ensures is.place_is c.index-as_slice-phase.is a.at in
    let walked = c.next.ensures.program ∙ sound.walked in
    subst (λ b. b ≡ true) (ap (λ (b : Anchor). reach_within (length (counters_tree t).params) b.form.params) (sym read) ∙ ap (λ (w : Tree). reach_within (length w.params) c.index-as_slice-phase.result.form.params) (sym walked)) a.given

pub restart_own-requires-clause-block : goal.restart_own-requires-clause-block
restart_own-requires-clause-block c = λ b block.
    let t = c.args.self.now in
    let sound = c.requires.sound in
    let (v, left, last, is) = c.in-Some.ensures.phase in
    let n = next_phase (counters_tree t) (counters_plan t) (phases_passed t.phases) (phases_left t.phases) _ v sound.behind left in
    let a = phase_anchor (counters_tree t) (counters_plan t) (phases_passed t.phases) v sound.formed sound.fits n.0 in
    let read = read_is (counters_plan t).anchors c.as_slice.result.now c.in-Some.phase.place v.place c.index-as_slice-phase.result a.anchor c.as_slice.ensures is.place_is c.index-as_slice-phase.is a.at in
    a.block b (ap (λ (x : Anchor). x.dist) (sym read) ∙ block)

-- the phase's own instances
own_is : (tree walked : Tree) (p workers : ℕ) (v : Visit) (found : Option Visit) (x a : Anchor) (own : List Instance) (at : Option Anchor) → walked ≡ tree → found ≡ Some v → x ≡ a → at ≡ Some a →
    MatchOption found (own ≡ []) (λ w. own ≡ own_instances (param_values walked) x workers p w) → own ≡ owned_by tree at workers p v
own_is tree walked p workers v found x a own at same last read there h =
    subst (λ o. MatchOption o (own ≡ []) (λ w. own ≡ own_instances (param_values walked) x workers p w)) last h
    ∙ ap (λ (w : Tree). own_instances (param_values w) x workers p v) same
    ∙ ap (λ (b : Anchor). own_instances (param_values tree) b workers p v) read
    ∙ ap (λ o. owned_by tree o workers p v) (sym there)

pub returns-clause-sound : goal.returns-clause-sound
returns-clause-sound c =
    let t = c.args.self.now in
    let sound = c.requires.sound in
    let (v, left, last, is) = c.in-Some.ensures.phase in
    let n = next_phase (counters_tree t) (counters_plan t) (phases_passed t.phases) (phases_left t.phases) _ v sound.behind left in
    let b = bare_parts t.posts t.awaits (is_some t.begins) (is_some t.come) c.requires.bare in
    let passed : suc (phases_passed t.phases) ≡ phases_passed c.next.new.self = omega (arith, c.in-Some.ensures.passed) in
    let none = none_is t.come b.none_come in
    record {
      formed = sound.formed;
      fits = sound.fits;
      worker = sound.worker;
      walked = c.next.ensures.program ∙ sound.walked;
      owned = c.restart_own.ensures.program ∙ c.next.ensures.program ∙ sound.walked;
      entered = c.next.ensures.enters ∙ sound.entered;
      behind = sym n.1 ∙ ap (λ k. drop k (phases (counters_tree t) (counters_plan t).cut.marks)) passed;
      boundary = λ _. record {
        passed = c.boundary_before-self.ensures ∙ ap (λ k. boundary_by (slice_get (counters_plan t).kinds (k - 1)) (counters_plan t).workers) is.place_is ∙ ap (λ o. boundary_by (kind_before (counters_plan t) o) (counters_plan t).workers) (sym n.0)
            ∙ ap (boundary_at (counters_tree t) (counters_plan t)) (omega (arith, is.number_is));
        phase = ap (λ k. Some k) (omega (arith, is.number_is));
      };
      begun = (v, ap (slice_get (phases (counters_tree t) (counters_plan t).cut.marks)) (omega (arith, is.number_is)) ∙ n.0, is.place_is);
      one = subst (IsOne (counters_tree t) (instances_rounds c.restart_own.new.own)) (sym none) tt;
    }

pub returns-clause-left : goal.returns-clause-left
returns-clause-left c =
    let t = c.args.self.now in
    let tree = counters_tree t in
    let plan = counters_plan t in
    let sound = c.requires.sound in
    let passed = phases_passed t.phases in
    let (v, left, last, is) = c.in-Some.ensures.phase in
    let new = c.next.new.self in
    let rest = phases_left new in
    let n = next_phase tree plan passed (phases_left t.phases) rest v sound.behind left in
    let a = phase_anchor tree plan passed v sound.formed sound.fits n.0 in
    let read = read_is plan.anchors c.as_slice.result.now c.in-Some.phase.place v.place c.index-as_slice-phase.result a.anchor c.as_slice.ensures is.place_is c.index-as_slice-phase.is a.at in
    let b = bare_parts t.posts t.awaits (is_some t.begins) (is_some t.come) c.requires.bare in
    let walked = c.next.ensures.program ∙ sound.walked in
    let own = own_is tree (phases_tree new) t.processor plan.workers v (phase_last new) c.index-as_slice-phase.result a.anchor (instances_left c.restart_own.new.own) (slice_get plan.anchors (v.place - 1)) walked last read a.at c.restart_own.ensures.own in
    let posted = c.waits_before-posts.ensures.posts v last ∙ ap (λ w. posts_at w plan t.processor c.in-Some.phase.place v.loops) walked ∙ ap (λ k. posts_at tree plan t.processor k v.loops) is.place_is in
    let awaited = c.waits_before-posts.ensures.awaits v last ∙ ap (λ w. waits_for w plan t.processor c.in-Some.phase.place v.loops) walked ∙ ap (λ k. waits_for tree plan t.processor k v.loops) is.place_is in
    let number : c.in-Some.phase.number - 1 ≡ suc passed - 1 = omega (arith, is.number_is) in
    let begin : Some c.in-Some.phase.number ≡ Some (suc passed) = ap (λ n. Some n) (omega (arith, is.number_is)) in
    let next : phases_passed new ≡ suc passed = omega (arith, c.in-Some.ensures.passed) in
    let rounds = instances_rounds c.restart_own.new.own in
    let entered = entered_turns tree plan t.processor (suc passed) t.number (c.in-Some.phase.number - 1) t.awaits c.waits_before-posts.result.1 t.posts c.waits_before-posts.result.0 t.begins (Some c.in-Some.phase.number) v rest (counters_rounds t) rounds t.come (instances_left t.own) (instances_left c.restart_own.new.own) b c.requires.own number begin posted awaited own in
    ap (λ e. boundary_turns (c.in-Some.phase.number - 1) c.waits_before-posts.result.0 (members c.waits_before-posts.result.1) ++ (begun_by (Some c.in-Some.phase.number) ++ (map works (come_of tree rounds t.come) ++ (map works (instances_left c.restart_own.new.own) ++ counter_turns tree plan t.processor (suc e) rest)))) next
    ∙ entered
    ∙ ap (λ l. boundary_turns t.number t.posts (members t.awaits) ++ (begun_by t.begins ++ (map works (come_of tree (counters_rounds t) t.come) ++ (map works (instances_left t.own) ++ counter_turns tree plan t.processor (suc passed) l)))) (sym left)

pub returns-clause-nearer : goal.returns-clause-nearer
returns-clause-nearer c = λ _.
    let t = c.args.self.now in
    let tree = counters_tree t in
    let plan = counters_plan t in
    let sound = c.requires.sound in
    let passed = phases_passed t.phases in
    let (v, left, last, is) = c.in-Some.ensures.phase in
    let new = c.next.new.self in
    let n = next_phase tree plan passed (phases_left t.phases) (phases_left new) v sound.behind left in
    let a = phase_anchor tree plan passed v sound.formed sound.fits n.0 in
    let read = read_is plan.anchors c.as_slice.result.now c.in-Some.phase.place v.place c.index-as_slice-phase.result a.anchor c.as_slice.ensures is.place_is c.index-as_slice-phase.is a.at in
    let walked = c.next.ensures.program ∙ sound.walked in
    let own = own_is tree (phases_tree new) t.processor plan.workers v (phase_last new) c.index-as_slice-phase.result a.anchor (instances_left c.restart_own.new.own) (slice_get plan.anchors (v.place - 1)) walked last read a.at c.restart_own.ensures.own in
    let far : phases_to_go tree plan t.processor (phases_left t.phases) ≡ suc (length (owned_by tree (slice_get plan.anchors (v.place - 1)) plan.workers t.processor v)) + phases_to_go tree plan t.processor (phases_left new) = ap (phases_to_go tree plan t.processor) left in
    let long = ap length own in
    omega (arith, far, long)
