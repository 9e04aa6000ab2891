use Rattle.std.proofs.Common.{refl, ◌≡◌, ◌<◌, ◌+◌, ◌++◌, ℕ, List, length, sym, ◌∙◌, ap, subst, arith, map}
use Rattle.std.specs.List.{flat_map}
use Rattle.std.proofs.lemmas.List.{append_cancel_left, length-map}
use Rattle.nest_walk.specs.Strips.{strip_left}
use Rattle.spmd_model.specs.Deeds.{instance_deeds}
use Rattle.spmd_model.specs.MachineDeeds.{HasNoOwn}
use Rattle.instance_runs.specs.Executors.{executor_tree}
use Rattle.turns.specs.Turns.{runs}
use Rattle.turns.specs.TurnsLeft.{beginnings_left, turns_left, turns_place}
use Rattle.turns.specs.declared.turns.Turns.{Turns}
use Rattle.spmd_workers.specs.Held.{AreHeld}
use Rattle.spmd_workers.specs.Legs.{IsSameSeat}
use Rattle.fork_join.specs.SeenDeeds.{FindsOwn, phase_deed}
use Rattle.spmd_workers.specs.Places.{deeds_in, left_behind, left_seen, place_of, plan_at, printed_behind, registers_behind, tree_at}
use Rattle.spmd_workers.proofs.ByProgram.{own_instance}
use Rattle.spmd_workers.proofs.Instances.{few_known, finds_here, inside_here, no_posts_run, same_count, strip_here}
use Rattle.spmd_workers.proofs.Legs.{looked_ready}
use Rattle.spmd_workers.proofs.Steps.{come_on}
use Rattle.spmd_workers.proofs.Turned.{turns_go, turns_lead}
use Rattle.spmd_workers.proofs.Walks.{HasCome, its_worker}
use Rattle.spmd_workers.proofs.walk.Walk.strip.Goals as goal

pub repeat-requires-clause-worker : goal.repeat-requires-clause-worker
repeat-requires-clause-worker c = its_worker c.args.self.now c.requires.ready

pub repeat-requires-clause-finds : goal.repeat-requires-clause-finds
repeat-requires-clause-finds c =
    let x = c.args.self.now in
    let h = x.seat.home in
    subst (λ (t : Turns). FindsOwn (tree_at h) (plan_at h) (turns_place t) HasNoOwn) (sym c.of-turns.ensures) (finds_here x c.requires.ready HasNoOwn c.in-Some.ensures.own)

pub repeat-requires-clause-walked : goal.repeat-requires-clause-walked
repeat-requires-clause-walked c =
    let ready = c.requires.ready in
    c.in-Some.ensures.tree ∙ c.in-Some.ensures.same.program ∙ ready.tree ∙ sym ready.executes

pub repeat-requires-clause-inside : goal.repeat-requires-clause-inside
repeat-requires-clause-inside c = inside_here c.args.self.now c.requires.ready (turns_place c.args.self.now.turns) (strip_left c.in-Some.strip) (turns_left c.strip.new.self) c.in-Some.ensures.left

pub repeat-requires-clause-left : goal.repeat-requires-clause-left
repeat-requires-clause-left c =
    let x = c.args.self.now in
    let ready = c.requires.ready in
    let st = c.in-Some.ensures in
    let turns = c.of-turns.result.value in
    let tree = tree_at x.seat.home in
    let plan = plan_at x.seat.home in
    let place = turns_place x.turns in
    let few = few_known x ready in
    let front = strip_left c.in-Some.strip in
    let rest = turns_left c.strip.new.self in
    let f = phase_deed tree plan place x.seat.processor in
    let here = strip_here f x ready place (λ i there. own_instance tree plan place x.seat.processor i few there) front rest st.left in
    (map f (deeds_in x.seat.home x.seat.processor rest), ap (λ t. left_seen t x.seat x.seat x.own (place_of x.seat t)) c.of-turns.ensures ∙ here)

pub repeat-requires-clause-idle : goal.repeat-requires-clause-idle
repeat-requires-clause-idle c = let x = c.args.self.now in ap (λ t. registers_behind x.seat (place_of x.seat t)) c.of-turns.ensures ∙ c.requires.ready.idle

pub returns-clause-goes : goal.returns-clause-goes
returns-clause-goes c =
    let x = c.args.self.now in
    let ready = c.requires.ready in
    let st = c.in-Some.ensures in
    let turns = c.of-turns.result.value in
    let tree = tree_at x.seat.home in
    let plan = plan_at x.seat.home in
    let place = turns_place x.turns in
    let few = few_known x ready in
    let front = strip_left c.in-Some.strip in
    let rest = turns_left c.strip.new.self in
    let f = phase_deed tree plan place x.seat.processor in
    let here = strip_here f x ready place (λ i there. own_instance tree plan place x.seat.processor i few there) front rest st.left in
    let held : AreHeld x.seat.home = subst AreHeld (sym c.requires.own) c.laws_of.ensures in
    let y = c.repeat.new.self in
    let did = c.repeat.ensures in
    let done = c.repeat.result.value.done in
    let from = c.of-turns.ensures in
    let same : IsSameSeat x.seat y.seat = record { home = did.home; processor = did.processor } in
    let left_turns = st.left ∙ ap (λ t. map (runs (turns_place x.turns)) front ++ turns_left t) (sym did.turns) in
    let before = ap (λ t. left_seen t x.seat x.seat x.own (place_of x.seat t)) from ∙ here in
    let behind = append_cancel_left (flat_map (instance_deeds (executor_tree x.executor)) front) (left_seen turns x.seat y.seat y.own (place_of y.seat turns + done)) (map f (deeds_in x.seat.home x.seat.processor rest)) (sym did.left ∙ before) in
    let same_cells : map (phase_deed (tree_at y.seat.home) (plan_at y.seat.home) place y.seat.processor) (left_behind x.seat y.seat y.own (place_of y.seat x.turns + done)) ≡ map f (deeds_in x.seat.home x.seat.processor (turns_left y.turns)) =
    sym (ap (λ t. left_seen t x.seat y.seat y.own (place_of y.seat t + done)) from) ∙ behind ∙ ap (λ t. map f (deeds_in x.seat.home x.seat.processor (turns_left t))) (sym did.turns) in
    let left = (λ i. map (phase_deed (tree_at (sym did.home i)) (plan_at (sym did.home i)) place (sym did.processor i)) (left_behind x.seat y.seat y.own (place_of y.seat x.turns + done))) ∙ same_cells in
    let many = same_count f (left_behind x.seat y.seat y.own (place_of y.seat x.turns + done)) (deeds_in x.seat.home x.seat.processor (turns_left y.turns)) left in
    let idle = sym (ap (λ t. registers_behind y.seat (place_of y.seat t + done)) from) ∙ did.idle in
    let output = did.output ∙ ready.output ∙ sym (ap (λ t. printed_behind x.seat (place_of x.seat t)) from) ∙ sym did.printed ∙ ap (λ t. printed_behind y.seat (place_of y.seat t + done)) from in
    let long = ap (λ (l : List ℕ). length l) did.output in
    let wide = did.room in
    let come : HasCome x.turns y.turns = subst (HasCome x.turns) (sym did.turns) (come_on x.turns c.strip.new.self st.sound st.same st.begins) in
    turns_go x ready held y (map (runs (turns_place x.turns)) front) done same left_turns (no_posts_run x.seat.home x.seat.processor (turns_place x.turns) front) many come idle did.can did.program output (omega (arith, long)) (omega (arith, wide)) did.answered did.ended did.legs

pub returns-clause-on : goal.returns-clause-on
returns-clause-on c = λ _.
    let x = c.args.self.now in
    let ready = c.requires.ready in
    let st = c.in-Some.ensures in
    let turns = c.of-turns.result.value in
    let tree = tree_at x.seat.home in
    let plan = plan_at x.seat.home in
    let place = turns_place x.turns in
    let few = few_known x ready in
    let front = strip_left c.in-Some.strip in
    let rest = turns_left c.strip.new.self in
    let f = phase_deed tree plan place x.seat.processor in
    let here = strip_here f x ready place (λ i there. own_instance tree plan place x.seat.processor i few there) front rest st.left in
    let held : AreHeld x.seat.home = subst AreHeld (sym c.requires.own) c.laws_of.ensures in
    let y = c.repeat.new.self in
    let did = c.repeat.ensures in
    let done = c.repeat.result.value.done in
    let from = c.of-turns.ensures in
    let same : IsSameSeat x.seat y.seat = record { home = did.home; processor = did.processor } in
    let left_turns = st.left ∙ ap (λ t. map (runs (turns_place x.turns)) front ++ turns_left t) (sym did.turns) in
    let before = ap (λ t. left_seen t x.seat x.seat x.own (place_of x.seat t)) from ∙ here in
    let behind = append_cancel_left (flat_map (instance_deeds (executor_tree x.executor)) front) (left_seen turns x.seat y.seat y.own (place_of y.seat turns + done)) (map f (deeds_in x.seat.home x.seat.processor rest)) (sym did.left ∙ before) in
    let same_cells : map (phase_deed (tree_at y.seat.home) (plan_at y.seat.home) place y.seat.processor) (left_behind x.seat y.seat y.own (place_of y.seat x.turns + done)) ≡ map f (deeds_in x.seat.home x.seat.processor (turns_left y.turns)) =
    sym (ap (λ t. left_seen t x.seat y.seat y.own (place_of y.seat t + done)) from) ∙ behind ∙ ap (λ t. map f (deeds_in x.seat.home x.seat.processor (turns_left t))) (sym did.turns) in
    let left = (λ i. map (phase_deed (tree_at (sym did.home i)) (plan_at (sym did.home i)) place (sym did.processor i)) (left_behind x.seat y.seat y.own (place_of y.seat x.turns + done))) ∙ same_cells in
    let many = same_count f (left_behind x.seat y.seat y.own (place_of y.seat x.turns + done)) (deeds_in x.seat.home x.seat.processor (turns_left y.turns)) left in
    let some : 0 < length (map (runs (turns_place x.turns)) front) = (let count = length-map front (runs (turns_place x.turns)) in let many = st.some in omega (arith, count, many)) in
    turns_lead x ready held y (map (runs (turns_place x.turns)) front) done same left_turns (no_posts_run x.seat.home x.seat.processor (turns_place x.turns) front) many some (ap beginnings_left did.turns ∙ st.begins) did.answered

pub returns-clause-begins : goal.returns-clause-begins
returns-clause-begins c = ap beginnings_left c.repeat.ensures.turns ∙ c.in-Some.ensures.begins

pub returns-in_default-clause-goes : goal.returns-in_default-clause-goes
returns-in_default-clause-goes c =
    let x = c.args.self.now in
    let st = c.in_default.ensures in
    record { ready = looked_ready x c.requires.ready c.strip.new.self (come_on x.turns c.strip.new.self st.sound st.same st.begins) st.left; seat = record { home = refl; processor = refl }; answered = omega arith; legs = refl }
