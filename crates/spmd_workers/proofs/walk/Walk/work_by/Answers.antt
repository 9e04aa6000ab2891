use Rattle.std.proofs.Common.{◌≡◌, ◌+◌, true, [], ◌∷◌, map, sym, ◌∙◌, ap, subst, arith}
use Rattle.std.proofs.lemmas.List.Sums.{sum_by-cons}
use Rattle.nest_model.specs.Instances.{Instance}
use Rattle.sync_plan.specs.Own.{own_of}
use Rattle.spmd_model.specs.Deeds.{Deed, instance_deeds}
use Rattle.spmd_model.specs.MachineDeeds.{own_deeds}
use Rattle.turns.specs.Turns.{runs, turn_room}
use Rattle.turns.specs.TurnsLeft.{AreSound, IsSameRun, IsNext, beginnings_left, turns_left, turns_own, turns_place}
use Rattle.turns.specs.declared.turns.Next.TheVariants.{Work}
use Rattle.turns.specs.declared.turns.Turns.{Turns}
use Rattle.spmd_workers.specs.Held.{AreHeld}
use Rattle.spmd_workers.specs.Legs.{IsSameSeat}
use Rattle.fork_join.specs.SeenDeeds.{phase_deed}
use Rattle.spmd_workers.specs.Places.{deeds_in, left_behind, place_of, plan_at, tree_at}
use Rattle.spmd_workers.specs.Walks.{is_instance_there}
use Rattle.spmd_workers.proofs.ByProgram.{own_instance}
use Rattle.spmd_workers.proofs.Instances.{begins_here, few_known, finds_here, fits_here, no_posts_run, rest_here, room_here, same_count, same_tail}
use Rattle.spmd_workers.proofs.Steps.{come_on, same_turn}
use Rattle.spmd_workers.proofs.Turned.{turns_go, turns_lead}
use Rattle.spmd_workers.proofs.Walks.{its_worker}
use Rattle.spmd_workers.proofs.walk.Walk.work_by.Goals as goal

pub execute-requires-clause-worker : goal.execute-requires-clause-worker
execute-requires-clause-worker g c = its_worker c.args.self.now c.requires.ready

pub execute-requires-clause-finds : goal.execute-requires-clause-finds
execute-requires-clause-finds g c = let x = c.args.self.now in finds_here x c.requires.ready (g.P.Places.Fits (turns_own x.turns)) c.requires.fits

pub execute-requires-clause-begins : goal.execute-requires-clause-begins
execute-requires-clause-begins g c =
    let x = c.args.self.now in
    let ready = c.requires.ready in
    let h = x.seat.home in
    let place = turns_place x.turns in
    let few = few_known x ready in
    let f : Deed → Deed = phase_deed (tree_at h) (plan_at h) place x.seat.processor in
    let gives : (i : Instance) → is_instance_there (tree_at h) i ≡ true → map f (own_deeds (tree_at h) (own_of (tree_at h) (plan_at h) place) x.seat.processor i) ≡ instance_deeds (tree_at h) i = λ i there. own_instance (tree_at h) (plan_at h) place x.seat.processor i few there in
    let at = c.requires.next.0 in
    let next = c.requires.next.1 in
    begins_here f x ready place gives c.args.stop at next.0 next.1

pub execute-requires-clause-room : goal.execute-requires-clause-room
execute-requires-clause-room g c =
    let x = c.args.self.now in
    let ready = c.requires.ready in
    let h = x.seat.home in
    let place = turns_place x.turns in
    let few = few_known x ready in
    let f : Deed → Deed = phase_deed (tree_at h) (plan_at h) place x.seat.processor in
    let gives : (i : Instance) → is_instance_there (tree_at h) i ≡ true → map f (own_deeds (tree_at h) (own_of (tree_at h) (plan_at h) place) x.seat.processor i) ≡ instance_deeds (tree_at h) i = λ i there. own_instance (tree_at h) (plan_at h) place x.seat.processor i few there in
    let at = c.requires.next.0 in
    let next = c.requires.next.1 in
    fits_here f x ready place gives c.args.stop at next.0 next.1

pub pass-requires-clause-sound : goal.pass-requires-clause-sound
pass-requires-clause-sound g c = subst AreSound (sym c.execute.ensures.turns) c.requires.ready.sound

pub pass-requires-clause-next : goal.pass-requires-clause-next
pass-requires-clause-next g c = subst (λ (t : Turns). IsNext t (Work c.args.stop)) (sym c.execute.ensures.turns) c.requires.next

pub returns-clause-goes : goal.returns-clause-goes
returns-clause-goes g c =
    let x = c.args.self.now in
    let ready = c.requires.ready in
    let h = x.seat.home in
    let place = turns_place x.turns in
    let few = few_known x ready in
    let f : Deed → Deed = phase_deed (tree_at h) (plan_at h) place x.seat.processor in
    let gives : (i : Instance) → is_instance_there (tree_at h) i ≡ true → map f (own_deeds (tree_at h) (own_of (tree_at h) (plan_at h) place) x.seat.processor i) ≡ instance_deeds (tree_at h) i = λ i there. own_instance (tree_at h) (plan_at h) place x.seat.processor i few there in
    let at = c.requires.next.0 in
    let next = c.requires.next.1 in
    let held : AreHeld x.seat.home = subst AreHeld (sym c.requires.own) c.laws_of.ensures in
    let z = c.execute.new.self in
    let y = record z { turns = c.pass.new.self } in
    let did = c.execute.ensures in
    let went = c.pass.ensures in
    let same : IsSameSeat x.seat y.seat = record { home = did.home; processor = did.processor } in
    let turns = same_turn next.1 (sym (ap turns_left did.turns) ∙ went.passed.1) in
    let begins = went.begins ∙ ap beginnings_left did.turns in
    let run : IsSameRun x.turns y.turns = subst (λ (t : Turns). IsSameRun t y.turns) did.turns went.same in
    let left = (λ i. map (phase_deed (tree_at (sym did.home i)) (plan_at (sym did.home i)) place (sym did.processor i)) (left_behind x.seat y.seat y.own (place_of y.seat x.turns + c.execute.result.value.done))) ∙ did.left (begins_here f x ready place gives c.args.stop at next.0 next.1) ∙ rest_here f x ready place gives c.args.stop at next.0 next.1
    ∙ ap (λ ts. map f (deeds_in h x.seat.processor ts)) (same_tail next.1 turns) in
    let many = same_count f (left_behind x.seat y.seat y.own (place_of y.seat x.turns + c.execute.result.value.done)) (deeds_in h x.seat.processor (turns_left y.turns)) left in
    let one = sum_by-cons (turn_room (tree_at h)) (runs place at.instance) [] in
    let its = room_here f x ready place gives c.args.stop at next.0 next.1 in
    let long = did.grown in
    turns_go x ready held y (runs place at.instance ∷ []) c.execute.result.value.done same turns (no_posts_run h x.seat.processor place (at.instance ∷ [])) many (come_on x.turns y.turns went.sound run begins) did.idle did.can did.program did.output (omega (arith, one, its, long)) did.room did.answered did.ended did.legs

pub returns-clause-tells : goal.returns-clause-tells
returns-clause-tells g c =
    let x = c.args.self.now in
    let ready = c.requires.ready in
    let h = x.seat.home in
    let place = turns_place x.turns in
    let few = few_known x ready in
    let f : Deed → Deed = phase_deed (tree_at h) (plan_at h) place x.seat.processor in
    let gives : (i : Instance) → is_instance_there (tree_at h) i ≡ true → map f (own_deeds (tree_at h) (own_of (tree_at h) (plan_at h) place) x.seat.processor i) ≡ instance_deeds (tree_at h) i = λ i there. own_instance (tree_at h) (plan_at h) place x.seat.processor i few there in
    let at = c.requires.next.0 in
    let next = c.requires.next.1 in
    let held : AreHeld x.seat.home = subst AreHeld (sym c.requires.own) c.laws_of.ensures in
    let z = c.execute.new.self in
    let y = record z { turns = c.pass.new.self } in
    let did = c.execute.ensures in
    let went = c.pass.ensures in
    let same : IsSameSeat x.seat y.seat = record { home = did.home; processor = did.processor } in
    let turns = same_turn next.1 (sym (ap turns_left did.turns) ∙ went.passed.1) in
    let begins = went.begins ∙ ap beginnings_left did.turns in
    let run : IsSameRun x.turns y.turns = subst (λ (t : Turns). IsSameRun t y.turns) did.turns went.same in
    let left = (λ i. map (phase_deed (tree_at (sym did.home i)) (plan_at (sym did.home i)) place (sym did.processor i)) (left_behind x.seat y.seat y.own (place_of y.seat x.turns + c.execute.result.value.done))) ∙ did.left (begins_here f x ready place gives c.args.stop at next.0 next.1) ∙ rest_here f x ready place gives c.args.stop at next.0 next.1
    ∙ ap (λ ts. map f (deeds_in h x.seat.processor ts)) (same_tail next.1 turns) in
    let many = same_count f (left_behind x.seat y.seat y.own (place_of y.seat x.turns + c.execute.result.value.done)) (deeds_in h x.seat.processor (turns_left y.turns)) left in
    turns_lead x ready held y (runs place at.instance ∷ []) c.execute.result.value.done same turns (no_posts_run h x.seat.processor place (at.instance ∷ [])) many (omega arith) begins did.answered
