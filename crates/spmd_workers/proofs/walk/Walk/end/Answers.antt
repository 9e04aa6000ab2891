use Rattle.std.proofs.Common.{refl, sym, subst, inl, arith}
use Rattle.spmd_workers.specs.Held.{AreHeld}
use Rattle.spmd_workers.proofs.Legs.{ended_placed, ended_ready}
use Rattle.spmd_workers.proofs.walk.Walk.end.Goals as goal

pub returns-clause-goes : goal.returns-clause-goes
returns-clause-goes c =
    let x = c.args.self.now in
    let ready = c.requires.ready in
    let held : AreHeld x.seat.home = subst AreHeld (sym c.requires.own) c.laws_of.ensures in
    record { ready = ended_ready x ready held c.requires.next; seat = record { home = refl; processor = refl }; answered = omega arith; legs = refl }

pub returns-clause-tells : goal.returns-clause-tells
returns-clause-tells c =
    let x = c.args.self.now in
    let ready = c.requires.ready in
    let held : AreHeld x.seat.home = subst AreHeld (sym c.requires.own) c.laws_of.ensures in
    record { answers = (inl refl, refl); answered = λ several. refl; placed = ended_placed x ready held c.requires.next }
