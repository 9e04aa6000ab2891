use Rattle.std.proofs.Common.{◌≡◌, ◌⊎◌, ℕ, List, Option, None, Some, inl, inr, refl}
use Rattle.f77_lines.specs.declared.refusal.LineRefusal.{LineRefusal}
use Rattle.f77_lines.specs.Columns.{lines_of}
use Rattle.f77_lines.specs.Statements.{Entry}
use Rattle.f77_lines.specs.Listing.{Lists, first_line_fault, entries_of, size_to_end}
use Rattle.f77_lines.proofs.laws.listing_or_fault.Goals as goal

pub returns-clause-either : goal.returns-clause-either
returns-clause-either c = λ bytes. by_case bytes (first_line_fault bytes) refl
  where
    by_case : (bytes : List ℕ) (o : Option LineRefusal) → first_line_fault bytes ≡ o → ((entries : List Entry) × (rest : ℕ) × Lists bytes entries rest) ⊎ ((fault : LineRefusal) × (first_line_fault bytes ≡ Some fault))
    by_case bytes None h = inl (entries_of bytes, size_to_end (lines_of bytes), record { faultless = h; listed = refl; behind = refl })
    by_case bytes (Some fault) h = inr (fault, h)
