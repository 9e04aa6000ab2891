use Rattle.std.proofs.Common.{◌≡◌, ◌++◌, map, take}
use Rattle.plan_text.specs.Words.{term_word, spaced}
use Rattle.plan_text.proofs.line.put_terms.Given as goal

abbrev pub invariant-loop-row : goal.invariant-loop-row
invariant-loop-row l = l.out.items ≡ l.initial.out.items ++ spaced (map term_word (take l.row-index l.terms))
