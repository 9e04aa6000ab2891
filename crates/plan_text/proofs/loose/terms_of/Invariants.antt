use Rattle.std.proofs.Common.{◌≡◌, map, take}
use Rattle.plan_text.specs.Loose.{term_of}
use Rattle.plan_text.proofs.loose.terms_of.Given as goal

abbrev pub invariant-loop-word : goal.invariant-loop-word
invariant-loop-word l = l.terms.items ≡ map term_of (map (λ w. w.now) (take l.word-index l.words))
