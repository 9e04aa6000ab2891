use Rattle.std.proofs.Common.{refl, subst, sym}
use Rattle.turns.specs.TurnsLeft.{IsNext}
use Rattle.spmd_machine.specs.Processors.{IsFoundNext}
use Rattle.spmd_machine.proofs.processor.Processor.peek.Goals as goal

pub returns-then-not-has_own-clause-looks : goal.returns-then-not-has_own-clause-looks
returns-then-not-has_own-clause-looks c = record {
  sound = c.peek-next.ensures.sound;
  instance = subst (IsFoundNext c.peek-next.new.self) (sym c.in_default.is) tt;
  left = c.peek-next.ensures.left;
  same = c.peek-next.ensures.same;
  others = refl;
}

pub returns-in_default-next-clause-looks : goal.returns-in_default-next-clause-looks
returns-in_default-next-clause-looks c = record {
  sound = c.peek-next.ensures.sound;
  instance = subst (IsFoundNext c.peek-next.new.self) (sym c.in_default.is) tt;
  left = c.peek-next.ensures.left;
  same = c.peek-next.ensures.same;
  others = refl;
}

pub returns-clause-looks : goal.returns-clause-looks
returns-clause-looks c = record {
  sound = c.peek-next.ensures.sound;
  instance = subst (IsNext c.peek-next.new.self) c.in-Work.is c.peek-next.ensures.next;
  left = c.peek-next.ensures.left;
  same = c.peek-next.ensures.same;
  others = refl;
}
