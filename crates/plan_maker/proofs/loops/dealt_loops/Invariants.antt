use Rattle.std.proofs.Common.{◌≡◌, map, take}
use Rattle.plan_maker.specs.Loops.{tried_in}
use Rattle.plan_maker.proofs.loops.dealt_loops.Given as goal

abbrev pub invariant-loop-verdict : goal.invariant-loop-verdict
invariant-loop-verdict l = l.tries.items ≡ map tried_in (take l.verdict-index l.verdicts)
