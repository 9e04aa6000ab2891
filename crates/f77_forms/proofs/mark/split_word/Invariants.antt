use Rattle.std.proofs.Common.{◌≡◌, ◌++◌, take, drop}
use Rattle.f77_forms.specs.Marks.{word_in, behind_word}
use Rattle.f77_forms.proofs.mark.split_word.Given as goal

-- capitals and digits so far
abbrev pub invariant-loop-place : goal.invariant-loop-place
invariant-loop-place l = record {
  front : take l.place l.text ++ word_in (drop l.place l.text) ≡ word_in l.text;
  back : behind_word (drop l.place l.text) ≡ behind_word l.text;
}
