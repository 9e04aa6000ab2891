use Rattle.f77_forms.proofs.Digits.{Digits}
use Rattle.f77_forms.proofs.number.number_of.Given as goal

-- the digits so far, and those to come
abbrev pub invariant-loop-byte : goal.invariant-loop-byte
invariant-loop-byte l = Digits l.text l.byte-index l.value
