use Rattle.std.proofs.Common.{◌≡◌, drop}
use Rattle.f77_forms.specs.Marks.{ends_dotted}
use Rattle.f77_forms.proofs.mark.ends_dotted.Given as goal

-- capitals so far
abbrev pub invariant-loop-byte : goal.invariant-loop-byte
invariant-loop-byte l = ends_dotted (drop l.byte-index l.text) ≡ ends_dotted l.text
