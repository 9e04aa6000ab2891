use Rattle.std.proofs.Common.{◌≡◌, ◌+◌, pos, true, int_div, int_rem, map, take, drop, ◌++◌}
use Rattle.std.specs.Ordering.{int_eq}
use Rattle.std.specs.List.{list_all}
use Rattle.cert_arithmetic.proofs.division.divide_all.Given as goal

-- the numbers so far leave nothing and are divided, the others are as they were
abbrev pub invariant-loop-number : goal.invariant-loop-number
invariant-loop-number g l = record {
  all : list_all (λ a. int_eq (int_rem a l.fn.divisor) (pos 0)) (take l.number-index l.fn.numbers) ≡ true;
  counted : l.steps ≡ l.fn.steps + l.number-index;
  divided : l.numbers ≡ map (λ a. int_div a l.fn.divisor) (take l.number-index l.fn.numbers) ++ drop l.number-index l.fn.numbers;
}
