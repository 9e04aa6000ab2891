use Rattle.std.proofs.Common.{◌≡◌, ◌++◌, map, take}
use Rattle.plan_text.specs.Words.{private_word, spaced}
use Rattle.plan_text.proofs.line.put_scalars.Given as goal

abbrev pub invariant-loop-scalar : goal.invariant-loop-scalar
invariant-loop-scalar l = l.out.items ≡ l.initial.out.items ++ spaced (map private_word (take l.scalar-index l.scalars))
