use Rattle.std.proofs.Common.{◌≡◌, ◌++◌, false, drop}
use Rattle.f77_forms.specs.Marks.{masked}
use Rattle.f77_forms.proofs.mark.masked.Given as goal

-- the characters so far, and those to come
abbrev pub invariant-loop-byte : goal.invariant-loop-byte
invariant-loop-byte l = l.masked.items ++ masked l.quoted (drop l.byte-index l.text) ≡ masked false l.text
