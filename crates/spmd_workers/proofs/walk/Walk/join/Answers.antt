use Rattle.std.proofs.Common.{◌≡◌, ◌<◌, suc, refl, sym, ◌∙◌, ap, subst, inl, arith}
use Rattle.spmd_model.specs.Timelines.{counter}
use Rattle.turns.specs.Turns.{sets}
use Rattle.turns.specs.TurnsLeft.{turns_left, turns_plan}
use Rattle.spmd_workers.specs.Held.{AreHeld}
use Rattle.spmd_workers.proofs.Joins.{join_awaits}
use Rattle.spmd_workers.proofs.Steps.{come_on, join_answered, join_here, leads_on, post_next, same_turn, seat_gone}
use Rattle.spmd_workers.proofs.Waits.{joined_goes, joined_leads, joined_tells, set_goes}
use Rattle.spmd_workers.proofs.walk.Walk.join.Goals as goal

pub phase-phase-requires-clause-next : goal.phase-phase-requires-clause-next
phase-phase-requires-clause-next c = (c.args.number, inl c.requires.next)

pub post-requires-clause-next : goal.post-requires-clause-next
post-requires-clause-next c =
    let x = c.args.self.now in
    let ready = c.requires.ready in
    let held : AreHeld x.seat.home = subst AreHeld (sym c.requires.own) c.laws_of.ensures in
    let next = c.requires.next.0 in
    (post_next x ready held counter c.args.number next.0 next.1, (join_here x ready c.args.number c.requires.boundary).1)

pub returns-then-phase-self-clause-goes : goal.returns-then-phase-self-clause-goes
returns-then-phase-self-clause-goes c =
    let x = c.args.self.now in
    let ready = c.requires.ready in
    let held : AreHeld x.seat.home = subst AreHeld (sym c.requires.own) c.laws_of.ensures in
    let next = c.requires.next.0 in
    let went = c.pass.ensures in
    let turns = same_turn next.1 went.passed.1 in
    let phase : c.phase-phase.result ≡ suc c.args.number = c.phase-phase.ensures c.args.number (inl c.requires.next) in
    let y = record x { seat = c.post.new.seat; turns = c.pass.new.self } in
    let act = post_next x ready held counter c.args.number next.0 next.1 in
    let below : c.args.number < x.answered = omega (arith, phase, c.if-phase-self.true) in
    let answered = join_answered x.seat c.post.new.seat x.answered x.answered c.args.number c.post.ensures.goes ready.answered act (omega arith) below in
    set_goes x ready held y counter c.args.number c.post.ensures.goes refl refl refl refl (come_on x.turns y.turns went.sound went.same went.begins) turns answered refl

pub returns-then-phase-self-clause-tells : goal.returns-then-phase-self-clause-tells
returns-then-phase-self-clause-tells c =
    let x = c.args.self.now in
    let ready = c.requires.ready in
    let held : AreHeld x.seat.home = subst AreHeld (sym c.requires.own) c.laws_of.ensures in
    let next = c.requires.next.0 in
    let went = c.pass.ensures in
    let turns = same_turn next.1 went.passed.1 in
    let phase : c.phase-phase.result ≡ suc c.args.number = c.phase-phase.ensures c.args.number (inl c.requires.next) in
    let y = record x { seat = c.post.new.seat; turns = c.pass.new.self } in
    leads_on x y (sets counter c.args.number) turns went.begins (seat_gone x.seat y.seat c.post.ensures.goes).1 (λ several. refl)

pub returns-then-workers-lt2-clause-goes : goal.returns-then-workers-lt2-clause-goes
returns-then-workers-lt2-clause-goes c =
    let x = c.args.self.now in
    let ready = c.requires.ready in
    let held : AreHeld x.seat.home = subst AreHeld (sym c.requires.own) c.laws_of.ensures in
    let next = c.requires.next.0 in
    let went = c.pass.ensures in
    let turns = same_turn next.1 went.passed.1 in
    let phase : c.phase-phase.result ≡ suc c.args.number = c.phase-phase.ensures c.args.number (inl c.requires.next) in
    let y = record x { seat = c.post.new.seat; turns = c.pass.new.self; answered = c.phase-phase.result } in
    joined_goes x ready held y c.args.number c.phase-phase.result c.post.ensures.goes refl refl refl went.sound went.same went.begins turns phase refl (omega (arith, c.if-phase-self.false)) refl

pub returns-clause-goes : goal.returns-clause-goes
returns-clause-goes c =
    let x = c.args.self.now in
    let ready = c.requires.ready in
    let held : AreHeld x.seat.home = subst AreHeld (sym c.requires.own) c.laws_of.ensures in
    let next = c.requires.next.0 in
    let went = c.pass.ensures in
    let turns = same_turn next.1 went.passed.1 in
    let phase : c.phase-phase.result ≡ suc c.args.number = c.phase-phase.ensures c.args.number (inl c.requires.next) in
    let y = record x { seat = c.post.new.seat; turns = c.pass.new.self; answered = c.phase-phase.result } in
    joined_goes x ready held y c.args.number c.phase-phase.result c.post.ensures.goes refl refl refl went.sound went.same went.begins turns phase refl (omega (arith, c.if-phase-self.false)) refl

pub returns-then-workers-lt2-clause-tells : goal.returns-then-workers-lt2-clause-tells
returns-then-workers-lt2-clause-tells c =
    let x = c.args.self.now in
    let ready = c.requires.ready in
    let held : AreHeld x.seat.home = subst AreHeld (sym c.requires.own) c.laws_of.ensures in
    let next = c.requires.next.0 in
    let went = c.pass.ensures in
    let turns = same_turn next.1 went.passed.1 in
    let phase : c.phase-phase.result ≡ suc c.args.number = c.phase-phase.ensures c.args.number (inl c.requires.next) in
    let y = record x { seat = c.post.new.seat; turns = c.pass.new.self; answered = c.phase-phase.result } in
    let few = c.workers.ensures in
    let plan = ap (λ q. q.workers) (went.same.plan ∙ ready.plan) in
    joined_leads x ready held y c.args.number c.phase-phase.result c.post.ensures.goes refl refl refl went.sound went.same went.begins turns phase refl (omega (arith, c.if-phase-self.false)) (λ several. absurd (omega (arith, few, plan, several, c.if-workers-lt2.true)))

pub returns-clause-tells : goal.returns-clause-tells
returns-clause-tells c =
    let x = c.args.self.now in
    let ready = c.requires.ready in
    let held : AreHeld x.seat.home = subst AreHeld (sym c.requires.own) c.laws_of.ensures in
    let next = c.requires.next.0 in
    let went = c.pass.ensures in
    let turns = same_turn next.1 went.passed.1 in
    let phase : c.phase-phase.result ≡ suc c.args.number = c.phase-phase.ensures c.args.number (inl c.requires.next) in
    let y = record x { seat = c.post.new.seat; turns = c.pass.new.self; answered = c.phase-phase.result } in
    let several : 1 < (turns_plan c.pass.new.self).workers = (let n = c.workers.ensures in omega (arith, n, c.if-workers-lt2.false)) in
    let join = (join_here x ready c.args.number c.requires.boundary).0 in
    let there = join_awaits x ready c.args.number (turns_left c.pass.new.self) turns join (subst (λ n. 1 < n) (ap (λ q. q.workers) (went.same.plan ∙ ready.plan)) several) in
    joined_tells x ready held y c.args.number c.phase-phase.result c.post.ensures.goes refl refl refl went.sound went.same went.begins turns phase refl (omega (arith, c.if-phase-self.false)) there.0 c.args.number there.1 there.2 several join
