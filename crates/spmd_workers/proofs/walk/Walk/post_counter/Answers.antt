use Rattle.std.proofs.Common.{refl, sym, subst}
use Rattle.spmd_model.specs.Timelines.{counter}
use Rattle.turns.specs.Turns.{sets}
use Rattle.spmd_workers.specs.Held.{AreHeld}
use Rattle.spmd_workers.proofs.Steps.{come_on, counters_here, leads_on, post_answered, post_next, same_turn, seat_gone}
use Rattle.spmd_workers.proofs.Waits.{set_goes}
use Rattle.spmd_workers.proofs.walk.Walk.post_counter.Goals as goal

pub post-requires-clause-next : goal.post-requires-clause-next
post-requires-clause-next c =
    let x = c.args.self.now in
    let ready = c.requires.ready in
    let held : AreHeld x.seat.home = subst AreHeld (sym c.requires.own) c.laws_of.ensures in
    let next = c.requires.next.0 in
    (post_next x ready held counter c.args.number next.0 next.1, (counters_here x ready c.args.number c.requires.boundary).1)

pub returns-clause-goes : goal.returns-clause-goes
returns-clause-goes c =
    let x = c.args.self.now in
    let ready = c.requires.ready in
    let held : AreHeld x.seat.home = subst AreHeld (sym c.requires.own) c.laws_of.ensures in
    let next = c.requires.next.0 in
    let y = record x { seat = c.post.new.seat; turns = c.pass.new.self } in
    let went = c.pass.ensures in
    let act = post_next x ready held counter c.args.number next.0 next.1 in
    let none = (counters_here x ready c.args.number c.requires.boundary).0 in
    let answered = post_answered x.seat c.post.new.seat x.answered c.args.number c.post.ensures.goes ready.answered act none in
    set_goes x ready held y counter c.args.number c.post.ensures.goes refl refl refl refl (come_on x.turns y.turns went.sound went.same went.begins) (same_turn next.1 went.passed.1) answered refl

pub returns-clause-tells : goal.returns-clause-tells
returns-clause-tells c =
    let x = c.args.self.now in
    let ready = c.requires.ready in
    let held : AreHeld x.seat.home = subst AreHeld (sym c.requires.own) c.laws_of.ensures in
    let next = c.requires.next.0 in
    let y = record x { seat = c.post.new.seat; turns = c.pass.new.self } in
    let went = c.pass.ensures in
    leads_on x y (sets counter c.args.number) (same_turn next.1 went.passed.1) went.begins (seat_gone x.seat y.seat c.post.ensures.goes).1 (λ several. refl)
