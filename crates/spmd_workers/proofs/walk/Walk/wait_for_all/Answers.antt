use Rattle.std.proofs.Common.{◌≡◌, ◌-◌, suc, ◌++◌, length, map, refl, sym, ◌∙◌, ap, subst, inr, arith}
use Rattle.owner_partition.specs.Phases.{phases}
use Rattle.spmd_model.specs.Timelines.{counter}
use Rattle.turns.specs.Turns.{waits}
use Rattle.turns.specs.TurnsLeft.{turns_left}
use Rattle.shared_words.specs.Calls.{GathersNext}
use Rattle.spmd_workers.specs.Held.{AreHeld}
use Rattle.spmd_workers.specs.Places.{plan_at, tree_at}
use Rattle.spmd_workers.proofs.LaterRows.{no_wait_first}
use Rattle.spmd_workers.proofs.RowWaits.{all_goes, all_leads, row_number}
use Rattle.spmd_workers.proofs.Steps.{await_next, barrier_here}
use Rattle.spmd_workers.proofs.Waits.{gathers_same, still_goes, waits_tells}
use Rattle.spmd_workers.proofs.walk.Walk.wait_for_all.Goals as goal

pub phase-phase-requires-clause-next : goal.phase-phase-requires-clause-next
phase-phase-requires-clause-next c = (c.args.awaited.wanted, inr (c.args.awaited.on, c.requires.next))

pub poll_arrivals_until-requires-clause-next : goal.poll_arrivals_until-requires-clause-next
poll_arrivals_until-requires-clause-next c =
    let x = c.args.self.now in
    let ready = c.requires.ready in
    let held : AreHeld x.seat.home = subst AreHeld (sym c.requires.own) c.laws_of.ensures in
    let number = c.args.awaited.wanted in
    let on = c.args.awaited.on in
    let next = c.requires.next.0 in
    let phase : c.phase-phase.result ≡ suc number = c.phase-phase.ensures number (inr (on, c.requires.next)) in
    let same : number ≡ c.phase-phase.result - 1 = omega (arith, phase) in
    let gathers : GathersNext x.seat number = (on, await_next x ready held counter on number next.0 next.1, (barrier_here x ready number c.requires.boundary).1) in
    subst (GathersNext x.seat) same gathers

pub returns-in-Ok-clause-goes : goal.returns-in-Ok-clause-goes
returns-in-Ok-clause-goes c =
    let x = c.args.self.now in
    let ready = c.requires.ready in
    let held : AreHeld x.seat.home = subst AreHeld (sym c.requires.own) c.laws_of.ensures in
    let number = c.args.awaited.wanted in
    let on = c.args.awaited.on in
    let next = c.requires.next.0 in
    let y = record x { seat = c.poll_arrivals_until.new.seat; turns = c.pass_awaits.new.self; patience = c.behind_wait-self.result } in
    let went = c.pass_awaits.ensures in
    let (n, qs, turns) = went.passed in
    let begins = went.phase on number c.requires.next in
    let front = ready.begins ∙ ap (λ l. ready.begun ++ l) (sym went.begins) in
    let same = row_number n on number qs (turns_left y.turns) next.0 turns next.1 (no_wait_first y.turns number begins (length (phases (tree_at x.seat.home) (plan_at x.seat.home).cut.marks)) ready.begun front on) in
    let passed = turns ∙ ap (λ k. map (λ q. waits counter q k) qs ++ turns_left y.turns) same.0 in
    all_goes x ready held y number qs on next.0 c.in-Ok.ensures.came refl refl refl refl went.sound went.same went.begins passed same.1 begins next.1 (barrier_here x ready number c.requires.boundary).1 c.behind_wait-self.ensures

pub returns-in-Ok-clause-tells : goal.returns-in-Ok-clause-tells
returns-in-Ok-clause-tells c =
    let x = c.args.self.now in
    let ready = c.requires.ready in
    let held : AreHeld x.seat.home = subst AreHeld (sym c.requires.own) c.laws_of.ensures in
    let number = c.args.awaited.wanted in
    let on = c.args.awaited.on in
    let next = c.requires.next.0 in
    let y = record x { seat = c.poll_arrivals_until.new.seat; turns = c.pass_awaits.new.self; patience = c.behind_wait-self.result } in
    let went = c.pass_awaits.ensures in
    let (n, qs, turns) = went.passed in
    let begins = went.phase on number c.requires.next in
    let front = ready.begins ∙ ap (λ l. ready.begun ++ l) (sym went.begins) in
    let same = row_number n on number qs (turns_left y.turns) next.0 turns next.1 (no_wait_first y.turns number begins (length (phases (tree_at x.seat.home) (plan_at x.seat.home).cut.marks)) ready.begun front on) in
    let passed = turns ∙ ap (λ k. map (λ q. waits counter q k) qs ++ turns_left y.turns) same.0 in
    all_leads x ready held y number qs on next.0 c.in-Ok.ensures.came refl refl refl refl went.sound went.same went.begins passed same.1 begins next.1 (barrier_here x ready number c.requires.boundary).1

pub returns-in-Err-clause-goes : goal.returns-in-Err-clause-goes
returns-in-Err-clause-goes c =
    let x = c.args.self.now in
    let ready = c.requires.ready in
    let held : AreHeld x.seat.home = subst AreHeld (sym c.requires.own) c.laws_of.ensures in
    let missed = c.in-Err.ensures.missed in
    let y = record x { seat = c.poll_arrivals_until.new.seat; patience = c.behind_leg-self.result } in
    still_goes x ready held y missed.same missed.stays refl refl refl refl refl c.behind_leg-self.ensures

pub returns-in-Err-clause-tells : goal.returns-in-Err-clause-tells
returns-in-Err-clause-tells c =
    let x = c.args.self.now in
    let ready = c.requires.ready in
    let held : AreHeld x.seat.home = subst AreHeld (sym c.requires.own) c.laws_of.ensures in
    let number = c.args.awaited.wanted in
    let on = c.args.awaited.on in
    let next = c.requires.next.0 in
    let missed = c.in-Err.ensures.missed in
    let y = record x { seat = c.poll_arrivals_until.new.seat; patience = c.behind_leg-self.result } in
    let gathers : GathersNext x.seat number = (on, await_next x ready held counter on number next.0 next.1, (barrier_here x ready number c.requires.boundary).1) in
    let who = c.workers-on.ensures ∙ ap (λ q. q.workers) ready.plan in
    let awaited = gathers_same x.seat y.seat missed.same missed.stays number c.workers-on.result c.all_arrivals-wanted.result gathers who c.all_arrivals-wanted.ensures in
    let low = c.in-Err.ensures.low in
    let all = c.all_arrivals-wanted.ensures in
    waits_tells x ready held y missed.same missed.stays refl refl refl refl refl counter on number next.0 next.1 c.workers-on.result c.all_arrivals-wanted.result c.in-Err.seen awaited (omega (arith, low, all)) missed
