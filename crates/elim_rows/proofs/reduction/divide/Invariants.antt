use Rattle.std.proofs.Common.{◌≡◌, int_div, map, take, drop, ◌++◌}
use Rattle.elim_rows.proofs.reduction.divide.Given as goal

-- the numbers so far are divided, the others are as they were
abbrev pub invariant-loop-number : goal.invariant-loop-number
invariant-loop-number l = l.numbers ≡ map (λ a. int_div a l.fn.divisor) (take l.number-index l.fn.numbers) ++ drop l.number-index l.fn.numbers
