use Rattle.std.proofs.Common.{◌≡◌, take}
use Rattle.reason_witness.proofs.weaker.kinds_with.Given as goal

abbrev pub invariant-loop-given : goal.invariant-loop-given
invariant-loop-given l = l.made.items ≡ take l.given-index l.kinds
