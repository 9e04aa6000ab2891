use Rattle.std.proofs.Common.{◌≡◌}
use Rattle.std.specs.List.{range_with_len}
use Rattle.bench_parts.proofs.verdict.order_of.Given as goal

-- the order so far
abbrev pub invariant-loop-before : goal.invariant-loop-before
invariant-loop-before l = l.order.items ≡ range_with_len 1 l.before
