use Rattle.std.proofs.Common.{◌≡◌, drop}
use Rattle.f77_forms.specs.Reading.{run, pieces_at}
use Rattle.f77_forms.specs.StateView.{state_of}
use Rattle.f77_forms.proofs.reader.pieces.Given as goal

-- the state so far, and the characters to come
abbrev pub invariant-loop-byte : goal.invariant-loop-byte
invariant-loop-byte l = run (state_of l.place l.operand) (drop l.byte-index l.text) ≡ pieces_at l.declares l.text
