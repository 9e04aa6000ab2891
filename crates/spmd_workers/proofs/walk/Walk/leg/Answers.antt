use Rattle.std.proofs.Common.{refl, inl, arith}
use Rattle.spmd_workers.proofs.Legs.{ends_more, goes_more}
use Rattle.spmd_workers.proofs.walk.Walk.leg.Goals as goal

pub loop-leg-init : goal.loop-leg-init
loop-leg-init g c = record {
  goes = record { ready = c.requires.ready; seat = record { home = refl; processor = refl }; answered = omega arith; legs = refl };
  further = inl refl;
  answered = λ several. refl;
}

pub returns-in-Some-clause-goes : goal.returns-in-Some-clause-goes
returns-in-Some-clause-goes g c =
    let inv = c.loop-leg.invariant in
    goes_more c.args.self.now c.loop-leg.self c.turn.new.self inv.goes.seat inv.goes.answered inv.goes.legs c.turn.ensures.goes

pub returns-in-Some-clause-ends : goal.returns-in-Some-clause-ends
returns-in-Some-clause-ends g c =
    let inv = c.loop-leg.invariant in
    ends_more c.args.self.now c.loop-leg.self c.turn.new.self c.in-Some.leg inv.goes.seat inv.further inv.goes.answered inv.answered c.in-Some.ensures.tells
