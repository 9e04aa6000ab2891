-- The line that the program prints for a refusal, without its line end.
use Rattle.std.specs.Prelude.{ℕ, List, ◌++◌, codes}
use Rattle.std.specs.Fmt.{decimal}
use Rattle.f77_lines.specs.declared.refusal.LineRefusal.{LineRefusal}
use Rattle.f77_lines.specs.declared.refusal.LineRefusal.TheVariants.{BadCharacter, BadLabel, BadContinuation, NoEnd, NoMemory, AfterEnd}

abbrev pub text_of_refusal : LineRefusal → List ℕ
text_of_refusal (BadCharacter line) = codes "REFUSED L1 LINE " ++ decimal line
text_of_refusal (BadLabel line) = codes "REFUSED L2 LINE " ++ decimal line
text_of_refusal (BadContinuation line) = codes "REFUSED L3 LINE " ++ decimal line
text_of_refusal (NoEnd line) = codes "REFUSED L4 LINE " ++ decimal line
text_of_refusal (AfterEnd line) = codes "REFUSED L5 LINE " ++ decimal line
text_of_refusal NoMemory = codes "memory ran out"
