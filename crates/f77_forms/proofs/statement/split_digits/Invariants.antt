use Rattle.std.proofs.Common.{◌≡◌, ◌++◌, take, drop}
use Rattle.f77_forms.specs.Statements.{digits_in, behind_digits}
use Rattle.f77_forms.proofs.statement.split_digits.Given as goal

-- digits so far
abbrev pub invariant-loop-place : goal.invariant-loop-place
invariant-loop-place l = record {
  front : take l.place l.text ++ digits_in (drop l.place l.text) ≡ digits_in l.text;
  back : behind_digits (drop l.place l.text) ≡ behind_digits l.text;
}
