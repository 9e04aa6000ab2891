use Rattle.std.proofs.Common.{◌≡◌, ◌++◌, map, take}
use Rattle.plan_text.specs.Words.{pair_word, spaced}
use Rattle.plan_text.proofs.line.put_pairs.Given as goal

abbrev pub invariant-loop-number : goal.invariant-loop-number
invariant-loop-number l = l.out.items ≡ l.initial.out.items ++ spaced (map (pair_word l.letter) (take l.number-index l.pairs))
