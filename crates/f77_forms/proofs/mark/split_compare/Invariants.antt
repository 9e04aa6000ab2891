use Rattle.std.proofs.Common.{◌≡◌, ◌≤◌, ◌+◌, ◌++◌, take, drop}
use Rattle.f77_forms.specs.Marks.{before_compare, from_compare}
use Rattle.f77_forms.proofs.mark.split_compare.Given as goal

-- no operator so far, and the parenthesis is still open
abbrev pub invariant-loop-place : goal.invariant-loop-place
invariant-loop-place l = record {
  front : take l.place l.text ++ before_compare l.depth (drop l.place l.text) ≡ before_compare 1 l.text;
  back : from_compare l.depth (drop l.place l.text) ≡ from_compare 1 l.text;
  within : l.depth ≤ l.place + 1;
  some : 1 ≤ l.depth;
}
