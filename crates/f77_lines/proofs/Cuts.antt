-- Bytes that are cut behind their first line.
use Rattle.std.proofs.Common.{◌≡◌, ℕ, ◌+◌, ◌<◌, Bool, true, false, cond, eqb, List, [], ◌∷◌, ◌++◌, length, Some, None, refl, ap, ◌∙◌, arith, add-one}
use Rattle.std.specs.Prelude.{codes, drop}
use Rattle.std.specs.Option.{option_or}
use Rattle.std.specs.Str.{bytes_eq}
use Rattle.f77_lines.specs.Texts.{squeezed}
use Rattle.f77_lines.specs.declared.row.Kind.{Kind}
use Rattle.f77_lines.specs.declared.row.Kind.TheVariants.{Initial, Continuation}
use Rattle.f77_lines.specs.declared.refusal.LineRefusal.TheVariants.{NoEnd}
use Rattle.f77_lines.specs.Columns.{lines_of, columns_of, kind_of, is_comment, body_of}
use Rattle.f77_lines.specs.Statements.{is_initial, is_end, added, continued, begun, label_of, entries_from, statement}
use Rattle.f77_lines.specs.Faults.{fault_with, room_after, fault_from}
use Rattle.f77_lines.specs.Listing.{size_to_end, first_kept}
use Rattle.f77_lines.specs.Walk.{first_of, after_first}

-- bytes that are not empty are their first line and what stands behind it
pub lines_of-cut : (bytes : List ℕ) → 0 < length bytes → lines_of bytes ≡ first_of bytes ∷ lines_of (after_first bytes)
unfolding first_of after_first
lines_of-cut [] h = absurd (omega arith)
lines_of-cut (b ∷ []) h = by_case (eqb b 10) refl
  where
    by_case : (t : Bool) → eqb b 10 ≡ t → lines_of (b ∷ []) ≡ first_of (b ∷ []) ∷ lines_of (after_first (b ∷ []))
    by_case true e = rw e refl
    by_case false e = rw e refl
lines_of-cut (b ∷ c ∷ bytes) h = by_case (eqb b 10) refl (lines_of-cut (c ∷ bytes) (omega arith))
  where
    by_case : (t : Bool) → eqb b 10 ≡ t → lines_of (c ∷ bytes) ≡ first_of (c ∷ bytes) ∷ lines_of (after_first (c ∷ bytes)) → lines_of (b ∷ c ∷ bytes) ≡ first_of (b ∷ c ∷ bytes) ∷ lines_of (after_first (b ∷ c ∷ bytes))
    by_case true e rest = rw (rest, e, ← rest) refl
    by_case false e rest = rw (rest, e) refl

pub lines_of-none : (bytes : List ℕ) → length bytes ≡ 0 → lines_of bytes ≡ []
lines_of-none [] h = refl
lines_of-none (b ∷ bytes) h = absurd (omega arith)

pub length-lines_of : (bytes : List ℕ) → 0 < length bytes → length (lines_of bytes) ≡ length (lines_of (after_first bytes)) + 1
length-lines_of bytes h = rw (lines_of-cut bytes h) (omega arith)

pub first_kept-none : (n : ℕ) (bytes : List ℕ) → length bytes ≡ 0 → first_kept n (lines_of bytes) ≡ None
unfolding first_kept
first_kept-none n bytes h = rw (lines_of-none bytes h) refl

pub first_kept-cut : (n : ℕ) (bytes : List ℕ) → 0 < length bytes → first_kept n (lines_of bytes) ≡ cond (is_comment (kind_of (columns_of (first_of bytes)))) (first_kept (n + 1) (lines_of (after_first bytes))) (Some n)
unfolding first_kept
first_kept-cut n bytes h = rw (lines_of-cut bytes h, add-one) refl

pub continued-none : (bytes : List ℕ) → length bytes ≡ 0 → continued (lines_of bytes) ≡ []
unfolding continued
continued-none bytes h = rw (lines_of-none bytes h) refl

pub continued-cut : (bytes : List ℕ) → 0 < length bytes → continued (lines_of bytes) ≡ added (kind_of (columns_of (first_of bytes))) (body_of (columns_of (first_of bytes))) (continued (lines_of (after_first bytes)))
unfolding continued
continued-cut bytes h = rw (lines_of-cut bytes h) refl

-- the next initial line ends a statement
pub continued-initial : (bytes : List ℕ) → 0 < length bytes → kind_of (columns_of (first_of bytes)) ≡ Initial → continued (lines_of bytes) ≡ []
continued-initial bytes some kind = continued-cut bytes some ∙ ap (λ k. added k (body_of (columns_of (first_of bytes))) (continued (lines_of (after_first bytes)))) kind

pub continued-more : (bytes : List ℕ) → 0 < length bytes → kind_of (columns_of (first_of bytes)) ≡ Continuation → continued (lines_of bytes) ≡ body_of (columns_of (first_of bytes)) ++ continued (lines_of (after_first bytes))
continued-more bytes some kind = continued-cut bytes some ∙ ap (λ k. added k (body_of (columns_of (first_of bytes))) (continued (lines_of (after_first bytes)))) kind

pub size_to_end-none : (bytes : List ℕ) → length bytes ≡ 0 → size_to_end (lines_of bytes) ≡ 0
unfolding size_to_end
size_to_end-none bytes h = rw (lines_of-none bytes h) refl

pub size_to_end-cut : (bytes : List ℕ) → 0 < length bytes → size_to_end (lines_of bytes) ≡ length (first_of bytes) + cond (is_end (columns_of (first_of bytes))) 0 (size_to_end (lines_of (after_first bytes)))
unfolding size_to_end
size_to_end-cut bytes h = rw (lines_of-cut bytes h) refl

pub fault_from-none : (room n : ℕ) (bytes : List ℕ) → length bytes ≡ 0 → fault_from room n (lines_of bytes) ≡ Some (NoEnd n)
unfolding fault_from
fault_from-none room n bytes h = rw (lines_of-none bytes h) refl

pub fault_from-cut : (room n : ℕ) (bytes : List ℕ) → 0 < length bytes
    → fault_from room n (lines_of bytes) ≡ option_or (fault_with (kind_of (columns_of (first_of bytes))) room n (columns_of (first_of bytes)))
    (cond (is_end (columns_of (first_of bytes))) None (fault_from (room_after (kind_of (columns_of (first_of bytes))) room) (n + 1) (lines_of (after_first bytes))))
unfolding fault_from
fault_from-cut room n bytes h = rw (lines_of-cut bytes h, add-one) refl

pub entries_from-none : (n : ℕ) (bytes : List ℕ) → length bytes ≡ 0 → entries_from n (lines_of bytes) ≡ []
unfolding entries_from
entries_from-none n bytes h = rw (lines_of-none bytes h) refl

pub entries_from-cut : (n : ℕ) (bytes : List ℕ) → 0 < length bytes
    → entries_from n (lines_of bytes) ≡ cond (is_end (columns_of (first_of bytes))) (statement n (label_of (columns_of (first_of bytes))) (codes "END") ∷ [])
    (begun (kind_of (columns_of (first_of bytes))) n (columns_of (first_of bytes)) (lines_of (after_first bytes)) ++ entries_from (n + 1) (lines_of (after_first bytes)))
unfolding entries_from
entries_from-cut n bytes h = rw (lines_of-cut bytes h, add-one) refl

-- END is looked for in initial lines alone
pub is_end-initial : (columns : List ℕ) → kind_of columns ≡ Initial → is_end columns ≡ bytes_eq (squeezed (drop 6 columns)) (codes "END")
unfolding is_end
is_end-initial columns kind = rw kind refl

pub is_end-other : (columns : List ℕ) (kind : Kind) → kind_of columns ≡ kind → is_initial kind ≡ false → is_end columns ≡ false
unfolding is_end
is_end-other columns kind e other = rw (e, other) refl

-- a line that is not END, where the columns are those of the first line
module _ (bytes columns : List ℕ) (some : 0 < length bytes) (first : columns ≡ columns_of (first_of bytes)) (goes_on : is_end columns ≡ false) where
  pub size_to_end-on : size_to_end (lines_of bytes) ≡ length (first_of bytes) + size_to_end (lines_of (after_first bytes))
  size_to_end-on = rw (size_to_end-cut bytes some, ← first, goes_on) refl

  pub fault_from-on : (room n : ℕ) → fault_with (kind_of columns) room n columns ≡ None → fault_from room n (lines_of bytes) ≡ fault_from (room_after (kind_of columns) room) (n + 1) (lines_of (after_first bytes))
  fault_from-on room n none = rw (fault_from-cut room n bytes some, ← first, none, goes_on) refl

  pub entries_from-on : (n : ℕ) → entries_from n (lines_of bytes) ≡ begun (kind_of columns) n columns (lines_of (after_first bytes)) ++ entries_from (n + 1) (lines_of (after_first bytes))
  entries_from-on n = rw (entries_from-cut n bytes some, ← first, goes_on) refl

pub entries_from-end : (bytes columns : List ℕ) (n : ℕ) → 0 < length bytes → columns ≡ columns_of (first_of bytes) → is_end columns ≡ true → entries_from n (lines_of bytes) ≡ statement n (label_of columns) (codes "END") ∷ []
entries_from-end bytes columns n some first ends = rw (entries_from-cut n bytes some, ← first, ends) refl

-- how the loops over lines go on
pub ruleset counting = (length-lines_of, lines_of-none)

pub ruleset keeping = (first_kept-none, first_kept-cut)

pub ruleset continuing = (continued-none, continued-initial, continued-more, continued-cut)

pub ruleset measuring = (size_to_end-cut, fault_from-cut)
