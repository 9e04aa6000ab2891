-- One source with everything in it, and one with faults, worked by hand.
use Rattle.std.specs.Prelude.{ℕ, List, [], ◌∷◌, ◌++◌, None, Some, codes, ◌≡◌, refl}
use Rattle.f77_lines.specs.declared.refusal.LineRefusal.TheVariants.{BadLabel}
use Rattle.f77_lines.specs.Columns.{kind_of}
use Rattle.f77_lines.specs.Texts.{label_at}
use Rattle.f77_lines.specs.Statements.{statement, directive, is_end, continued, entries_from}
use Rattle.f77_lines.specs.Faults.{fault_from}
use Rattle.f77_lines.specs.Listing.{Lists, first_line_fault, first_kept, first_behind, size_to_end}

-- a comment, a directive, two loops that share a label, a statement that goes on behind a comment, END, and a comment behind it
abbrev pub source : List ℕ
source =
    codes "* sums" ++ 10 ∷ codes "c$dist a(block)" ++ 10 ∷ codes "      do 10 i=1,9"
    ++ 10 ∷ codes "      do 10 j=1,9" ++ 10 ∷ codes "   10 k=k" ++ 10 ∷ codes "C"
    ++ 10 ∷ codes "     &+i"
    ++ 10 ∷ codes "      end" ++ 10 ∷ codes "C" ++ 10 ∷ []

pub source-lists : Lists source (directive 2 (codes "A(BLOCK)") ∷ statement 3 0 (codes "DO10I=1,9")
    ∷ statement 4 0 (codes "DO10J=1,9") ∷ statement 5 10 (codes "K=K+I")
    ∷ statement 8 0 (codes "END") ∷ []) 90
unfolding kind_of label_at is_end continued entries_from fault_from size_to_end
source-lists = record { faultless = refl; listed = refl; behind = refl }

-- only a comment stands behind END
pub source-behind : first_behind source 90 ≡ None
unfolding kind_of first_kept
source-behind = refl

-- a label of zeros in line 2, in front of a continuation line with a label in line 3
abbrev pub refused : List ℕ
refused = codes "      k=1" ++ 10 ∷ codes "00    k=2" ++ 10 ∷ codes "1    +3" ++ 10 ∷ []

pub refused-fault : first_line_fault refused ≡ Some (BadLabel 2)
unfolding kind_of label_at is_end fault_from
refused-fault = refl
