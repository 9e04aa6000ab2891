use Rattle.std.proofs.Common.{◌≡◌, ◌≤◌, ◌+◌, drop}
use Rattle.f77_forms.specs.Marks.{behind_group}
use Rattle.f77_forms.proofs.mark.behind_group.Given as goal

-- the parenthesis is still open
abbrev pub invariant-loop-place : goal.invariant-loop-place
invariant-loop-place l = record {
  same : behind_group l.depth (drop l.place l.text) ≡ behind_group 1 l.text;
  within : l.depth ≤ l.place + 1;
  some : 1 ≤ l.depth;
}
