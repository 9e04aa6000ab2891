use Rattle.std.proofs.Common.{Bool, true, ap, ◌∙◌, arith, length-set, set}
use Rattle.turns.proofs.MarkedPlaces.{all_marked}
use Rattle.turns.proofs.pending.mark_first.Goals as goal

pub loop-place-preserved : goal.loop-place-preserved
loop-place-preserved c = record {
  marked = ap (λ l. set l c.loop-place.place true) c.loop-place.invariant.marked ∙ all_marked c.loop-place.place c.args.pending.now (omega arith);
  long = omega (arith, length-set {A = Bool});
}
