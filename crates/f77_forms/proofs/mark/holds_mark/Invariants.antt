use Rattle.std.proofs.Common.{◌≡◌, length}
use Rattle.f77_forms.specs.Marks.{holds_mark}
use Rattle.f77_forms.proofs.mark.holds_mark.Given as goal

-- no mark so far
abbrev pub invariant-loop-rest : goal.invariant-loop-rest
invariant-loop-rest l = holds_mark l.rest ≡ holds_mark l.text

abbrev pub decreases-loop-rest : goal.decreases-loop-rest
decreases-loop-rest l = length l.rest
