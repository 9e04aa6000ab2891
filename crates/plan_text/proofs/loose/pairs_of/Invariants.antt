use Rattle.std.proofs.Common.{◌≡◌, ◌++◌, map, drop}
use Rattle.plan_text.specs.Loose.{pairs_of}
use Rattle.plan_text.proofs.loose.pairs_of.Given as goal

abbrev pub invariant-loop-word : goal.invariant-loop-word
invariant-loop-word l = l.pairs ++ pairs_of l.letter (map (λ w. w.now) (drop l.word-index l.words)) ≡ pairs_of l.letter (map (λ w. w.now) l.words)
