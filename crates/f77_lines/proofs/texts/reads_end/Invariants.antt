use Rattle.std.proofs.Common.{◌≡◌, drop}
use Rattle.std.specs.Prelude.{codes}
use Rattle.std.specs.Str.{bytes_eq}
use Rattle.f77_lines.specs.Texts.{squeezed}
use Rattle.f77_lines.proofs.texts.reads_end.Given as goal

-- what is left of END against the columns to come
abbrev pub invariant-loop-c : goal.invariant-loop-c
invariant-loop-c l = bytes_eq (squeezed (drop l.c-index l.c-items)) l.left ≡ bytes_eq (squeezed (drop 6 l.columns)) (codes "END")
