use Rattle.std.proofs.Common.{refl, sym, subst, inl, inr}
use Rattle.spmd_model.specs.Timelines.{signal}
use Rattle.turns.specs.Turns.{waits}
use Rattle.spmd_workers.specs.Held.{AreHeld}
use Rattle.spmd_workers.proofs.Steps.{await_next, come_on, leads_on, same_turn, seat_gone}
use Rattle.spmd_workers.proofs.Waits.{came_goes, signals_same, still_goes, waits_tells}
use Rattle.spmd_workers.proofs.walk.Walk.wait_for_signal.Goals as goal

pub poll_signal_until-requires-clause-next : goal.poll_signal_until-requires-clause-next
poll_signal_until-requires-clause-next c =
    let x = c.args.self.now in
    let ready = c.requires.ready in
    let held : AreHeld x.seat.home = subst AreHeld (sym c.requires.own) c.laws_of.ensures in
    let next = c.requires.next.0 in
    await_next x ready held signal c.args.on c.args.wanted next.0 next.1

pub returns-in-Ok-clause-goes : goal.returns-in-Ok-clause-goes
returns-in-Ok-clause-goes c =
    let x = c.args.self.now in
    let ready = c.requires.ready in
    let held : AreHeld x.seat.home = subst AreHeld (sym c.requires.own) c.laws_of.ensures in
    let next = c.requires.next.0 in
    let went = c.pass.ensures in
    let y = record x { seat = c.poll_signal_until.new.seat; turns = c.pass.new.self; patience = c.behind_wait-self.result } in
    came_goes x ready held y signal c.args.on c.args.wanted c.in-Ok.ensures.came refl refl refl refl (come_on x.turns y.turns went.sound went.same went.begins) (same_turn next.1 went.passed.1) c.behind_wait-self.ensures

pub returns-in-Ok-clause-tells : goal.returns-in-Ok-clause-tells
returns-in-Ok-clause-tells c =
    let x = c.args.self.now in
    let ready = c.requires.ready in
    let held : AreHeld x.seat.home = subst AreHeld (sym c.requires.own) c.laws_of.ensures in
    let next = c.requires.next.0 in
    let went = c.pass.ensures in
    let y = record x { seat = c.poll_signal_until.new.seat; turns = c.pass.new.self; patience = c.behind_wait-self.result } in
    leads_on x y (waits signal c.args.on c.args.wanted) (same_turn next.1 went.passed.1) went.begins (seat_gone x.seat y.seat c.in-Ok.ensures.came).1 (λ several. refl)

pub returns-in-Err-clause-goes : goal.returns-in-Err-clause-goes
returns-in-Err-clause-goes c =
    let x = c.args.self.now in
    let ready = c.requires.ready in
    let held : AreHeld x.seat.home = subst AreHeld (sym c.requires.own) c.laws_of.ensures in
    let missed = c.in-Err.ensures.missed in
    let y = record x { seat = c.poll_signal_until.new.seat; patience = c.behind_leg-self.result } in
    still_goes x ready held y missed.same missed.stays refl refl refl refl refl c.behind_leg-self.ensures

pub returns-in-Err-clause-tells : goal.returns-in-Err-clause-tells
returns-in-Err-clause-tells c =
    let x = c.args.self.now in
    let ready = c.requires.ready in
    let held : AreHeld x.seat.home = subst AreHeld (sym c.requires.own) c.laws_of.ensures in
    let missed = c.in-Err.ensures.missed in
    let y = record x { seat = c.poll_signal_until.new.seat; patience = c.behind_leg-self.result } in
    let next = c.requires.next.0 in
    let awaited = inr (inl (signals_same x.seat y.seat missed.same missed.stays c.args.on c.args.wanted (await_next x ready held signal c.args.on c.args.wanted next.0 next.1))) in
    waits_tells x ready held y missed.same missed.stays refl refl refl refl refl signal c.args.on c.args.wanted next.0 next.1 c.args.on c.args.wanted c.in-Err.seen awaited c.in-Err.ensures.low missed
