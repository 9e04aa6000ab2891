use Rattle.fm_elim.specs.Lean.{AreNeeded}
use Rattle.fm_elim.proofs.certificate.needed_rows.Given as goal

-- what is needed, as far as the derivations from this place on tell
abbrev pub invariant-loop-place : goal.invariant-loop-place
invariant-loop-place l = AreNeeded l.given l.log l.place l.needed.items
