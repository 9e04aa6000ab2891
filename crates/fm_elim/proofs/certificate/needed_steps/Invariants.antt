use Rattle.fm_elim.proofs.Walks.{AreCopied}
use Rattle.fm_elim.proofs.certificate.needed_steps.Given as goal

-- the derivations before this place are copied
abbrev pub invariant-loop-place : goal.invariant-loop-place
invariant-loop-place l = AreCopied l.system l.log l.needed l.place l.numbers.items l.steps.items
