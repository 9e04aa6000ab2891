use Rattle.std.proofs.Common.{◌≡◌, ◌++◌, drop}
use Rattle.thread_code.specs.Code.{reduced_pairs, times_pairs}
use Rattle.thread_code.proofs.making.Maker.push_remainders.Given as goal

abbrev pub invariant-loop-number : goal.invariant-loop-number
invariant-loop-number l =
    l.found ++ reduced_pairs l.self.plan.now.workers (times_pairs l.factor (drop l.number-index l.pairs)) ≡ l.initial.found ++ reduced_pairs l.self.plan.now.workers (times_pairs l.factor l.pairs)
