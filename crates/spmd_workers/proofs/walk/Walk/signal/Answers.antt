use Rattle.std.proofs.Common.{refl, sym, subst}
use Rattle.spmd_model.specs.Timelines.{signal}
use Rattle.turns.specs.Turns.{sets}
use Rattle.spmd_workers.specs.Held.{AreHeld}
use Rattle.spmd_workers.proofs.Steps.{come_on, leads_on, post_next, same_turn, seat_gone, signal_answered}
use Rattle.spmd_workers.proofs.Waits.{set_goes}
use Rattle.spmd_workers.proofs.walk.Walk.signal.Goals as goal

pub signal-requires-clause-next : goal.signal-requires-clause-next
signal-requires-clause-next c =
    let x = c.args.self.now in
    let ready = c.requires.ready in
    let held : AreHeld x.seat.home = subst AreHeld (sym c.requires.own) c.laws_of.ensures in
    let next = c.requires.next.0 in
    post_next x ready held signal c.args.number next.0 next.1

pub returns-clause-goes : goal.returns-clause-goes
returns-clause-goes c =
    let x = c.args.self.now in
    let ready = c.requires.ready in
    let held : AreHeld x.seat.home = subst AreHeld (sym c.requires.own) c.laws_of.ensures in
    let next = c.requires.next.0 in
    let y = record x { seat = c.signal.new.seat; turns = c.pass.new.self } in
    let went = c.pass.ensures in
    let act = post_next x ready held signal c.args.number next.0 next.1 in
    let answered = signal_answered x.seat c.signal.new.seat x.answered c.args.number c.signal.ensures.goes ready.answered act in
    set_goes x ready held y signal c.args.number c.signal.ensures.goes refl refl refl refl (come_on x.turns y.turns went.sound went.same went.begins) (same_turn next.1 went.passed.1) answered refl

pub returns-clause-tells : goal.returns-clause-tells
returns-clause-tells c =
    let x = c.args.self.now in
    let ready = c.requires.ready in
    let held : AreHeld x.seat.home = subst AreHeld (sym c.requires.own) c.laws_of.ensures in
    let next = c.requires.next.0 in
    let y = record x { seat = c.signal.new.seat; turns = c.pass.new.self } in
    let went = c.pass.ensures in
    leads_on x y (sets signal c.args.number) (same_turn next.1 went.passed.1) went.begins (seat_gone x.seat y.seat c.signal.ensures.goes).1 (λ several. refl)
