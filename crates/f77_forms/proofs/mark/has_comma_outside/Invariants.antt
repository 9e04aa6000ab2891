use Rattle.std.proofs.Common.{◌≡◌, ◌≤◌, drop}
use Rattle.f77_forms.specs.Marks.{has_comma_outside}
use Rattle.f77_forms.proofs.mark.has_comma_outside.Given as goal

-- no comma outside so far
abbrev pub invariant-loop-byte : goal.invariant-loop-byte
invariant-loop-byte l = record {
  same : has_comma_outside l.depth (drop l.byte-index l.text) ≡ has_comma_outside 0 l.text;
  within : l.depth ≤ l.byte-index;
}
