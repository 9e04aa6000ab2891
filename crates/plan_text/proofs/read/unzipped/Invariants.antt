use Rattle.std.proofs.Common.{◌≡◌}
use Rattle.plan_text.specs.Parts.{firsts, seconds}
use Rattle.plan_text.proofs.read.unzipped.Given as goal

abbrev pub invariant-loop-first : goal.invariant-loop-first
invariant-loop-first g l = record {
  firsts : l.firsts.items ≡ firsts l.yielded;
  seconds : l.seconds.items ≡ seconds l.yielded;
}
