use Rattle.std.proofs.Common.{◌≡◌, ◌-◌, suc, refl, sym, subst, inl, arith}
use Rattle.spmd_model.specs.Timelines.{counter}
use Rattle.turns.specs.Turns.{sets}
use Rattle.shared_words.specs.Calls.{ArrivesNext}
use Rattle.spmd_workers.specs.Held.{AreHeld}
use Rattle.spmd_workers.proofs.Steps.{barrier_here, come_on, leads_on, post_answered, post_next, same_turn, seat_gone}
use Rattle.spmd_workers.proofs.Waits.{set_goes}
use Rattle.spmd_workers.proofs.walk.Walk.arrive.Goals as goal

pub phase-phase-requires-clause-next : goal.phase-phase-requires-clause-next
phase-phase-requires-clause-next c = (c.args.number, inl c.requires.next)

pub arrive-requires-clause-next : goal.arrive-requires-clause-next
arrive-requires-clause-next c =
    let x = c.args.self.now in
    let ready = c.requires.ready in
    let held : AreHeld x.seat.home = subst AreHeld (sym c.requires.own) c.laws_of.ensures in
    let next = c.requires.next.0 in
    let phase : c.phase-phase.result ≡ suc c.args.number = c.phase-phase.ensures c.args.number (inl c.requires.next) in
    let same : c.args.number ≡ c.phase-phase.result - 1 = omega (arith, phase) in
    subst (ArrivesNext x.seat) same (post_next x ready held counter c.args.number next.0 next.1, (barrier_here x ready c.args.number c.requires.boundary).1)

pub returns-clause-goes : goal.returns-clause-goes
returns-clause-goes c =
    let x = c.args.self.now in
    let ready = c.requires.ready in
    let held : AreHeld x.seat.home = subst AreHeld (sym c.requires.own) c.laws_of.ensures in
    let next = c.requires.next.0 in
    let y = record x { seat = c.arrive.new.seat; turns = c.pass.new.self } in
    let went = c.pass.ensures in
    let act = post_next x ready held counter c.args.number next.0 next.1 in
    let none = (barrier_here x ready c.args.number c.requires.boundary).0 in
    let answered = post_answered x.seat c.arrive.new.seat x.answered c.args.number c.arrive.ensures.goes ready.answered act none in
    set_goes x ready held y counter c.args.number c.arrive.ensures.goes refl refl refl refl (come_on x.turns y.turns went.sound went.same went.begins) (same_turn next.1 went.passed.1) answered refl

pub returns-clause-tells : goal.returns-clause-tells
returns-clause-tells c =
    let x = c.args.self.now in
    let ready = c.requires.ready in
    let held : AreHeld x.seat.home = subst AreHeld (sym c.requires.own) c.laws_of.ensures in
    let next = c.requires.next.0 in
    let y = record x { seat = c.arrive.new.seat; turns = c.pass.new.self } in
    let went = c.pass.ensures in
    leads_on x y (sets counter c.args.number) (same_turn next.1 went.passed.1) went.begins (seat_gone x.seat y.seat c.arrive.ensures.goes).1 (λ several. refl)
