use Rattle.std.proofs.Common.{drop, string_bytes}
use Rattle.c_expressions.proofs.WordSums.{WordsInside}
use Rattle.c_expressions.proofs.sums.put_words.Given as goal

abbrev pub invariant-loop-term : goal.invariant-loop-term
invariant-loop-term l = WordsInside (string_bytes l.fn.out) (string_bytes l.out) l.sum.constant l.term-items (drop l.term-index l.term-items)
