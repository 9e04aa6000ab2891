use Rattle.std.proofs.Common.{◌≡◌, ◌+◌, ◌^◌, ◌≤◌, drop}
use Rattle.f77_lines.specs.Texts.{label_with}
use Rattle.f77_lines.specs.Walk.{label_behind}
use Rattle.f77_lines.proofs.Labels.{digits_of}
use Rattle.f77_lines.proofs.texts.label_at.Given as goal

-- the label so far and the digits to come are the label
abbrev pub invariant-loop-c : goal.invariant-loop-c
invariant-loop-c l = record {
  label : label_behind l.label l.is_blank (digits_of (drop l.c-index l.field)) ≡ label_with (digits_of l.field);
  within : l.label + 1 ≤ 10 ^ l.c-index;
}
