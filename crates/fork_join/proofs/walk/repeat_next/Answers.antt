use Rattle.std.proofs.Common.{◌≡◌, suc, ℕ, true, List, ◌++◌, drop, length, map, refl, sym, ◌∙◌, ap, subst, arith, rules}
use Rattle.std.specs.List.{All, flat_map, list_all}
use Rattle.nest_tree.specs.Tree.{Tree}
use Rattle.nest_tree.specs.View.{tree_of}
use Rattle.nest_model.specs.Ranges.{is_instance_inside}
use Rattle.nest_walk.specs.Strips.{strip_left}
use Rattle.sync_plan.specs.Own.{own_of}
use Rattle.sync_plan.specs.declared.plan.Plan.{Plan}
use Rattle.spmd_model.specs.Deeds.{Deed, instance_deeds}
use Rattle.spmd_model.specs.MachineDeeds.{HasNoOwn, own_deeds}
use Rattle.turns.specs.CounterTurns.{counter_room, CounterTurn, is_counter_inside, works}
use Rattle.turns.specs.Turns.{turn_deeds}
use Rattle.turns.specs.TurnsLeft.{turns_place}
use Rattle.fork_join.specs.Cursors.{cursor_left, cursor_turns}
use Rattle.fork_join.specs.Joins.{all_deeds}
use Rattle.fork_join.specs.SeenDeeds.{FindsOwn, phase_deed}
use Rattle.fork_join.specs.Workers.{IsCounterThere, IsOverlay, IsWalking, Runs, turns_behind}
use Rattle.fork_join.specs.declared.cursor.Cursor.{Cursor}
use Rattle.fork_join.proofs.OwnSeeing.{few_here}
use Rattle.fork_join.proofs.SeenDeeds.{visit_instances}
use Rattle.fork_join.proofs.Walking.{cut_off, insides, its_phase, its_printed, its_registers, its_within, keeps, less_room, no_work_behind, runs_do, seen_exactly, theirs, went_on}
use Rattle.fork_join.proofs.walk.repeat_next.Goals as goal

pub invariant_of-seen : goal.invariant_of-seen
invariant_of-seen c =
    let o = c.args.overlay.now in
    let tree = tree_of o.program.now in
    let plan = o.plan.now in
    let d = c.args.turns.now in
    let r = c.requires.walks.runs in
    let none : HasNoOwn tree plan (turns_place d.turns) = subst (λ (z : Tree × Plan). HasNoOwn z.0 z.1 (turns_place d.turns)) (λ i. (r.program i, r.plan_is i)) c.in-Some.ensures.own in
    let finds : FindsOwn tree plan (turns_place d.turns) HasNoOwn = record { few = few_here tree plan o.processor _ o.done.done d c.args.executor.now r; fit = none } in
    record { finds = ∣ subst (λ (z : Cursor). FindsOwn tree plan (turns_place z.turns) HasNoOwn) (sym c.of-phase.ensures) finds ∣₁ }

pub repeat-requires-clause-inside : goal.repeat-requires-clause-inside
repeat-requires-clause-inside c =
    let tree = tree_of c.args.overlay.now.program.now in
    let r = c.requires.walks.runs in
    let front = strip_left c.in-Some.strip in
    let all = insides tree front (cursor_left c.strip.new.self) (subst (λ (l : List CounterTurn). list_all (is_counter_inside tree) l ≡ true) (sym r.turns ∙ c.in-Some.ensures.left) r.inside) in
    ap (λ t. list_all (is_instance_inside t) front) r.executor ∙ all.0

pub repeat-requires-clause-left : goal.repeat-requires-clause-left
repeat-requires-clause-left c =
    let o = c.args.overlay.now in
    let tree = tree_of o.program.now in
    let plan = o.plan.now in
    let p = o.processor in
    let r = c.requires.walks.runs in
    let front = strip_left c.in-Some.strip in
    let place = turns_place c.args.turns.now.turns in
    let later = cursor_turns c.strip.new.self in
    let doing = flat_map (turn_deeds tree plan p) in
    let st = c.in-Some.ensures in
    let gone : drop o.done.done (all_deeds tree plan p) ≡ flat_map (own_deeds tree (own_of tree plan place) p) front ++ doing later = r.deeds ∙ ap doing st.turns ∙ runs_do tree plan p place front later in
    let few = few_here tree plan p _ o.done.done c.args.turns.now c.args.executor.now r in
    let cells = theirs tree front (cursor_left c.strip.new.self) (subst (All (IsCounterThere tree)) (sym r.turns ∙ st.left) r.there) in
    let f = phase_deed tree plan place p in (
      map f (doing later),
      ap (λ (z : Cursor). map (phase_deed tree plan (turns_place z.turns) p) (drop o.done.done (all_deeds tree plan p))) c.of-phase.ensures ∙ ap (map f) gone ∙ visit_instances tree plan place p few front (doing later) cells.0
          ∙ ap (λ t. flat_map (instance_deeds t) front ++ map f (doing later)) (sym r.executor),
    )

pub returns-in-Some-clause-walks : goal.returns-in-Some-clause-walks
returns-in-Some-clause-walks c =
    let o = c.args.overlay.now in
    let tree = tree_of o.program.now in
    let plan = o.plan.now in
    let n = o.behind in
    let p = o.processor in
    let w = c.requires.walks in
    let r = w.runs in
    let tail = turns_behind tree plan (suc n) p in
    let front = strip_left c.in-Some.strip in
    let place = turns_place c.args.turns.now.turns in
    let d = c.strip.new.self in
    let rest = cursor_left d in
    let later = cursor_turns d in
    let doing = flat_map (turn_deeds tree plan p) in
    let st = c.in-Some.ensures in
    let stands = sym r.turns ∙ st.left in
    let cut = cut_off w.left front tail rest (no_work_behind tree plan p (suc n)) stands in
    let all = insides tree front rest (subst (λ (l : List CounterTurn). list_all (is_counter_inside tree) l ≡ true) stands r.inside) in
    let cells = theirs tree front rest (subst (All (IsCounterThere tree)) stands r.there) in
    let new = c.repeat.new.deeds.overlay.now in
    let y = c.repeat.new.self in
    let went = c.repeat.ensures in
    let kept = keeps o new (ap (λ k. k.1.1) went.kept) in
    let within = its_within tree plan n p o.memory.now new kept in
    let gone : drop o.done.done (all_deeds tree plan p) ≡ flat_map (own_deeds tree (own_of tree plan place) p) front ++ doing later = r.deeds ∙ ap doing st.turns ∙ runs_do tree plan p place front later in
    let few = few_here tree plan p _ o.done.done c.args.turns.now c.args.executor.now r in
    let f = phase_deed tree plan place p in
    let turns : c.repeat.new.deeds.turns.now.value ≡ c.args.turns.now = ap (λ k. k.1.0) went.kept ∙ c.of-phase.ensures in
    let was = ap (map f) gone ∙ visit_instances tree plan place p few front (doing later) cells.0 in
    let seen : Cursor → List Deed = λ z. map (phase_deed (tree_of new.program.now) new.plan.now (turns_place z.turns) new.processor) (drop new.done.done (all_deeds (tree_of new.program.now) new.plan.now new.processor)) in
    let now = sym (ap (λ (z : Cursor). map (phase_deed tree plan (turns_place z.turns) p) (drop o.done.done (all_deeds tree plan p))) c.of-phase.ensures) ∙ went.left
    ∙ ap (λ t. flat_map (instance_deeds t) front ++ seen c.repeat.new.deeds.turns.now.value) r.executor
    ∙ ap (λ l. flat_map (instance_deeds tree) front ++ l) (ap seen turns ∙ its_phase tree plan n p o.memory.now new kept place new.done.done refl) in
    let left = seen_exactly f (all_deeds tree plan p) (flat_map (own_deeds tree (own_of tree plan place) p) front) (doing later) (flat_map (instance_deeds tree) front) o.done.done new.done.done gone within was now in
    let out = ap (λ (l : List ℕ). length l) went.output in
    let less = less_room (counter_room tree) (map works front) rest (map works w.left ++ tail) stands in
    let fits = r.fits in
    let same_room = went.room in
    let got : IsWalking tree plan n p new.done.done d y =
    record {
      left = cut.0;
      runs = subst (λ (l : List CounterTurn). Runs tree plan p l new.done.done d y) cut.2
          (went_on tree plan p (map works w.left ++ tail) o.done.done new.done.done c.args.turns.now d c.args.executor.now y r c.strip.ensures.sound c.strip.ensures.same
          rest refl all.1 cells.1 left within (sym (its_registers tree plan n p o.memory.now new kept) ∙ went.idle)
          went.can (went.program ∙ r.executor) (went.output ∙ r.output ∙ sym went.printed ∙ its_printed tree plan n p o.memory.now new kept)
          (omega (arith, fits, out, same_room)) (λ first. let most = r.room first in omega (arith, most, less, out, same_room)));
    } in
    search rules

pub returns-in-Some-clause-kept : goal.returns-in-Some-clause-kept
returns-in-Some-clause-kept c =
    let o = c.args.overlay.now in
    let new = c.repeat.new.deeds.overlay.now in
    let got : IsOverlay (tree_of o.program.now) o.plan.now o.behind o.processor o.memory.now new = keeps o new (ap (λ k. k.1.1) c.repeat.ensures.kept) in
    search rules
