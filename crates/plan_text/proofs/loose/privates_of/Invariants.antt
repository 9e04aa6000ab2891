use Rattle.std.proofs.Common.{◌≡◌, map, take}
use Rattle.plan_text.specs.Loose.{private_of}
use Rattle.plan_text.proofs.loose.privates_of.Given as goal

abbrev pub invariant-loop-word : goal.invariant-loop-word
invariant-loop-word l = l.numbers.items ≡ map private_of (map (λ w. w.now) (take l.word-index l.words))
