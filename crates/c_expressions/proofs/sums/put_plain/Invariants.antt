use Rattle.std.proofs.Common.{drop, string_bytes}
use Rattle.c_expressions.proofs.Multiples.{PlainSoFar}
use Rattle.c_expressions.proofs.sums.put_plain.Given as goal

abbrev pub invariant-loop-term : goal.invariant-loop-term
invariant-loop-term l = PlainSoFar (string_bytes l.fn.out) (string_bytes l.out) l.is_first l.term-items (drop l.term-index l.term-items)
