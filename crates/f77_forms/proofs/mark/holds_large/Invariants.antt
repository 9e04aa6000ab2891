use Rattle.std.proofs.Common.{◌≡◌, ◌≤◌, drop}
use Rattle.f77_forms.specs.Marks.{holds_large}
use Rattle.f77_forms.proofs.mark.holds_large.Given as goal

-- no number past the limit so far
abbrev pub invariant-loop-byte : goal.invariant-loop-byte
invariant-loop-byte l = record {
  same : holds_large l.value (drop l.byte-index l.text) ≡ holds_large 0 l.text;
  fits : l.value ≤ 9223372036854775807;
}
