-- Lines without a fault are refused for want of memory alone.
use Rattle.std.proofs.Common.{◌≡◌, ℕ, List, None, refl}
use Rattle.f77_lines.specs.Listing.{Refuses, first_line_fault}
use Rattle.f77_lines.specs.declared.refusal.LineRefusal.{LineRefusal}
use Rattle.f77_lines.specs.declared.refusal.LineRefusal.TheVariants.{AfterEnd, BadCharacter, BadContinuation, BadLabel, NoEnd, NoMemory}

pub memory_alone : (bytes : List ℕ) (refusal : LineRefusal) → first_line_fault bytes ≡ None → Refuses bytes refusal → refusal ≡ NoMemory
memory_alone bytes (BadCharacter n) none is = absurd (cc)
memory_alone bytes (BadLabel n) none is = absurd (cc)
memory_alone bytes (BadContinuation n) none is = absurd (cc)
memory_alone bytes (NoEnd n) none is = absurd (cc)
memory_alone bytes (AfterEnd n) none is = elim is [ ]
memory_alone bytes NoMemory none is = refl
