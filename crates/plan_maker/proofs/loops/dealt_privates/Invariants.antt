use Rattle.std.proofs.Common.{◌≡◌, map, take}
use Rattle.plan_maker.specs.Loops.{own_in}
use Rattle.plan_maker.proofs.loops.dealt_privates.Given as goal

abbrev pub invariant-loop-verdict : goal.invariant-loop-verdict
invariant-loop-verdict l = l.lists.items ≡ map own_in (take l.verdict-index l.verdicts)
