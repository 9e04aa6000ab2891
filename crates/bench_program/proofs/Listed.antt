-- What the source of `bench` lists, whatever digits stand in its PARAMETER line.
use Rattle.std.proofs.Common.{◌≡◌, ℕ, suc, ◌+◌, ◌-◌, ◌≤◌, Bool, true, false, not, List, [], ◌∷◌, ◌++◌, length, take, drop, replicate, None, Some, refl, ap, ◌∙◌, subst, append_assoc, arith, length-append, length-drop}
use Rattle.std.specs.Prelude.{◌==◌, codes, map, slice_index}
use Rattle.std.specs.List.{flat_map, list_all}
use Rattle.std.proofs.lemmas.Bool.{and_from, and_parts}
use Rattle.std.proofs.lemmas.Bool.Decides.{nat_tests}
use Rattle.std.proofs.lemmas.List.{append-nil, take_all}
use Rattle.std.proofs.lemmas.List.Folds.{list_all-append}
use Rattle.std.proofs.Math.Seq.{get_or-append_seam, take-append_seam}
use Rattle.f77_lines.specs.declared.row.Kind.TheVariants.{Initial}
use Rattle.f77_lines.specs.Columns.{body_of, columns_of, kind_of, label_field, lines_of}
use Rattle.f77_lines.specs.Faults.{fault_from, is_printable}
use Rattle.f77_lines.specs.Listing.{entries_of, first_behind, first_line_fault, size_to_end}
use Rattle.f77_lines.specs.Statements.{continued, entries_from, is_end, statement}
use Rattle.f77_lines.specs.Texts.{counted, label_at, quoted_after, text_from, text_of}
use Rattle.f77_lines.proofs.Characters.{text_from-blanks}
use Rattle.f77_lines.proofs.Cuts.{first_kept-none}
use Rattle.f77_forms.specs.Characters.{is_digit, is_number}
use Rattle.bench_program.proofs.Rows.{entries, entry_of, rows_behind, sizes_text}

-- no line feed
abbrev pub is_within_line : ℕ → Bool
is_within_line c = not (c == 10)

-- lines with their line feeds
abbrev pub with_feeds : List (List ℕ) → List (List ℕ)
with_feeds lines = map (λ l. l ++ 10 ∷ []) lines

line-more : (l : List ℕ) (rest : List ℕ) → list_all is_within_line l ≡ true → lines_of ((l ++ 10 ∷ []) ++ rest) ≡ (l ++ 10 ∷ []) ∷ lines_of rest
line-more [] rest h = by_case (lines_of rest) refl
  where
    by_case : (ls : List (List ℕ)) → lines_of rest ≡ ls → lines_of (10 ∷ rest) ≡ (10 ∷ []) ∷ lines_of rest
    by_case [] e = rw e refl
    by_case (line ∷ lines) e = rw e refl
line-more (c ∷ cs) rest h =
    let parts = and_parts (is_within_line c) (list_all is_within_line cs) h in
    step (c == 10) refl parts.0 (line-more cs rest parts.1)
  where
    step : (b : Bool) → (c == 10) ≡ b → is_within_line c ≡ true → lines_of ((cs ++ 10 ∷ []) ++ rest) ≡ (cs ++ 10 ∷ []) ∷ lines_of rest → lines_of (c ∷ ((cs ++ 10 ∷ []) ++ rest)) ≡ (c ∷ (cs ++ 10 ∷ [])) ∷ lines_of rest
    step true e within more = absurd cc
    step false e within more = rw (more, e) refl

pub lines-text : (lines : List (List ℕ)) → list_all (list_all is_within_line) lines ≡ true → lines_of (flat_map (λ l. l ++ 10 ∷ []) lines) ≡ with_feeds lines
lines-text [] h = refl
lines-text (l ∷ lines) h =
    let parts = and_parts (list_all is_within_line l) (list_all (list_all is_within_line) lines) h in
    line-more l (flat_map (λ l. l ++ 10 ∷ []) lines) parts.0 ∙ ap (λ ls. (l ++ 10 ∷ []) ∷ ls) (lines-text lines parts.1)

-- ---- a line that begins a statement

-- a line with its line feed, its columns, and the text of a statement that it begins and nothing continues
pub record Begins (line columns text : List ℕ) : Type 0 where
  pub columns_are : columns_of line ≡ columns
  pub kind_is : kind_of columns ≡ Initial
  pub not_end : is_end columns ≡ false
  pub printable : list_all is_printable columns ≡ true
  pub unlabelled : label_at (label_field columns) ≡ Some 0
  pub text_is : text_of (body_of columns ++ []) ≡ text

module _ {line columns text : List ℕ} (b : Begins line columns text) where
  continued-step : (lines : List (List ℕ)) → continued (line ∷ lines) ≡ []
  unfolding continued
  continued-step lines = rw (b.columns_are, b.kind_is) refl

  fault-step : (room n : ℕ) (lines : List (List ℕ)) → fault_from room n (line ∷ lines) ≡ fault_from 19 (suc n) lines
  unfolding fault_from
  fault-step room n lines = rw (b.columns_are, b.kind_is, b.not_end, b.printable, b.unlabelled) refl

  entries-step : (n : ℕ) (lines : List (List ℕ)) → continued lines ≡ [] → entries_from n (line ∷ lines) ≡ statement n 0 text ∷ entries_from (suc n) lines
  unfolding entries_from
  entries-step n lines ends = rw (b.columns_are, b.not_end, b.kind_is, ends, b.unlabelled, b.text_is) refl

  size-step : (lines : List (List ℕ)) → size_to_end (line ∷ lines) ≡ length line + size_to_end lines
  unfolding size_to_end
  size-step lines = rw (b.columns_are, b.not_end) refl

-- ---- digits

-- decimal digits, ten at most
pub record AreDigits (ds : List ℕ) : Type 0 where
  pub digits : list_all is_digit ds ≡ true
  pub number : is_number ds ≡ true
  pub few : length ds ≤ 10

-- a digit is no line feed and printable, and counts as itself
digit-within : (c : ℕ) → is_digit c ≡ true → is_within_line c ≡ true
digit-within c h = grind (arith, nat_tests)

digit-printable : (c : ℕ) → is_digit c ≡ true → is_printable c ≡ true
digit-printable c h = grind (arith, nat_tests)

digit-counted : (c : ℕ) → is_digit c ≡ true → counted false c ≡ c ∷ []
digit-counted c h = grind (arith, nat_tests)

digit-unquoted : (c : ℕ) → is_digit c ≡ true → quoted_after false c ≡ false
digit-unquoted c h = grind (arith, nat_tests)

all-digits : (p : ℕ → Bool) → ((c : ℕ) → is_digit c ≡ true → p c ≡ true) → (ds : List ℕ) → list_all is_digit ds ≡ true → list_all p ds ≡ true
all-digits p each [] h = refl
all-digits p each (d ∷ ds) h =
    let parts = and_parts (is_digit d) (list_all is_digit ds) h in
    and_from (p d) (list_all p ds) (each d parts.0) (all-digits p each ds parts.1)

text-digits : (ds more : List ℕ) → list_all is_digit ds ≡ true → text_from false (ds ++ more) ≡ ds ++ text_from false more
text-digits [] more h = refl
text-digits (d ∷ ds) more h =
    let parts = and_parts (is_digit d) (list_all is_digit ds) h in
    rw (digit-counted d parts.0, digit-unquoted d parts.0) (ap (λ t. d ∷ t) (text-digits ds more parts.1))

-- ---- the line with the sizes

-- five texts behind one another, and one behind these
regroup : (a ds b es c z : List ℕ) → (a ++ (ds ++ (b ++ (es ++ c)))) ++ z ≡ a ++ (ds ++ (b ++ (es ++ (c ++ z))))
regroup a ds b es c z = simp append_assoc

-- the last character of a line is no carriage return
last-of : (xs : List ℕ) (y : ℕ) → slice_index (xs ++ y ∷ []) (length (xs ++ y ∷ []) - 1) ≡ y
last-of xs y =
    let place : length (xs ++ y ∷ []) - 1 ≡ length xs = omega (arith, length-append xs (y ∷ [])) in
    ap (slice_index (xs ++ y ∷ [])) place ∙ get_or-append_seam xs y [] 0

front-of : (xs : List ℕ) (y : ℕ) → take (length (xs ++ y ∷ []) - 1) (xs ++ y ∷ []) ≡ xs
front-of xs y =
    let place : length (xs ++ y ∷ []) - 1 ≡ length xs = omega (arith, length-append xs (y ∷ [])) in
    ap (λ n. take n (xs ++ y ∷ [])) place ∙ take-append_seam xs (y ∷ [])

columns-line : (l : List ℕ) (c : ℕ) → (c == 13) ≡ false → length l ≤ 71 → columns_of ((l ++ c ∷ []) ++ 10 ∷ []) ≡ l ++ c ∷ []
columns-line l c other short =
    rw (last-of (l ++ c ∷ []) 10, front-of (l ++ c ∷ []) 10, last-of l c, other) (take_all 72 (l ++ c ∷ []) (omega (arith, short, length-append l (c ∷ []))))

-- the PARAMETER line with these digits
abbrev pub sizes_line : List ℕ → List ℕ → List ℕ
sizes_line ds es = codes "      PARAMETER (N=" ++ (ds ++ (codes ", M=" ++ (es ++ codes ")")))

module _ (ds es : List ℕ) (one : AreDigits ds) (other : AreDigits es) where
  all-sizes : (p : ℕ → Bool) → ((c : ℕ) → is_digit c ≡ true → p c ≡ true) → list_all p (codes "      PARAMETER (N=") ≡ true → list_all p (codes ", M=") ≡ true → list_all p (codes ")") ≡ true → list_all p (sizes_line ds es) ≡ true
  all-sizes p each a b c =
      list_all-append p (codes "      PARAMETER (N=") (ds ++ (codes ", M=" ++ (es ++ codes ")")))
      ∙ and_from _ _ a
      (list_all-append p ds (codes ", M=" ++ (es ++ codes ")"))
      ∙ and_from _ _ (all-digits p each ds one.digits)
      (list_all-append p (codes ", M=") (es ++ codes ")") ∙ and_from _ _ b (list_all-append p es (codes ")") ∙ and_from _ _ (all-digits p each es other.digits) c)))

  sizes-columns : columns_of (sizes_line ds es ++ 10 ∷ []) ≡ sizes_line ds es
  sizes-columns =
      let front = codes "      PARAMETER (N=" ++ (ds ++ (codes ", M=" ++ es)) in
      let parts : front ++ codes ")" ≡ sizes_line ds es = simp append_assoc in
      let short : length front ≤ 71 = omega (arith, one.few, other.few, length-append (codes "      PARAMETER (N=") (ds ++ (codes ", M=" ++ es)), length-append ds (codes ", M=" ++ es), length-append (codes ", M=") es) in
      subst (λ l. columns_of (l ++ 10 ∷ []) ≡ l) parts (columns-line front 41 refl short)

  sizes-text : text_of (body_of (sizes_line ds es) ++ []) ≡ sizes_text ds es
  sizes-text =
      let count = 66 - length (drop 6 (sizes_line ds es)) in
      let blanks = replicate count 32 in
      ap text_of (append-nil (body_of (sizes_line ds es)) ∙ regroup (codes "PARAMETER (N=") ds (codes ", M=") es (codes ")") blanks)
      ∙ ap (λ t. codes "PARAMETER(N=" ++ t) (text-digits ds (codes ", M=" ++ (es ++ (codes ")" ++ blanks))) one.digits
      ∙ ap (λ t. ds ++ (codes ",M=" ++ t)) (text-digits es (codes ")" ++ blanks) other.digits ∙ ap (λ t. es ++ 41 ∷ t) (text_from-blanks false count refl)))

  sizes-begin : Begins (sizes_line ds es ++ 10 ∷ []) (sizes_line ds es) (sizes_text ds es)
  unfolding kind_of is_end label_at
  sizes-begin =
      record {
        columns_are = sizes-columns;
        kind_is = refl;
        not_end = refl;
        printable = all-sizes is_printable digit-printable refl refl refl;
        unlabelled = refl;
        text_is = sizes-text;
      }

-- ---- the lines and what they list

abbrev pub lines_behind : List (List ℕ)
lines_behind =
    codes "      INTEGER A(0:N+1), B(0:N+1)"
    ∷ codes "      DO 10 I = 0, N+1"
    ∷ codes "   10 A(I) = 7*I - I*I"
    ∷ codes "      DO 40 IT = 1, M"
    ∷ codes "      DO 20 I = 1, N"
    ∷ codes "   20 B(I) = (A(I-1)+A(I+1))/2"
    ∷ codes "      DO 30 I = 1, N"
    ∷ codes "   30 A(I) = B(I)"
    ∷ codes "   40 CONTINUE"
    ∷ codes "      PRINT *, A(1), A(N)"
    ∷ codes "      END"
    ∷ []

behind-faultless : fault_from 19 4 (with_feeds lines_behind) ≡ None
unfolding kind_of label_at is_end fault_from
behind-faultless = refl

behind-continues : continued (with_feeds lines_behind) ≡ []
unfolding kind_of continued
behind-continues = refl

behind-listed : entries_from 4 (with_feeds lines_behind) ≡ map entry_of rows_behind
unfolding kind_of label_at is_end continued entries_from
behind-listed = refl

behind-size : size_to_end (with_feeds lines_behind) ≡ 243
unfolding kind_of is_end size_to_end
behind-size = refl

program-begins : Begins (codes "      PROGRAM BENCH" ++ 10 ∷ []) (codes "      PROGRAM BENCH") (codes "PROGRAMBENCH")
unfolding kind_of is_end label_at
program-begins = record { columns_are = refl; kind_is = refl; not_end = refl; printable = refl; unlabelled = refl; text_is = refl }

integer-begins : Begins (codes "      INTEGER N, M" ++ 10 ∷ []) (codes "      INTEGER N, M") (codes "INTEGERN,M")
unfolding kind_of is_end label_at
integer-begins = record { columns_are = refl; kind_is = refl; not_end = refl; printable = refl; unlabelled = refl; text_is = refl }

abbrev pub lines : List ℕ → List ℕ → List (List ℕ)
lines ds es = codes "      PROGRAM BENCH" ∷ codes "      INTEGER N, M" ∷ sizes_line ds es ∷ lines_behind

-- the whole text
abbrev pub source : List ℕ → List ℕ → List ℕ
source ds es = flat_map (λ l. l ++ 10 ∷ []) (lines ds es)

module _ (ds es : List ℕ) (one : AreDigits ds) (other : AreDigits es) where
  lines-are : lines_of (source ds es) ≡ with_feeds (lines ds es)
  lines-are = lines-text (lines ds es) (rw (all-sizes ds es one other is_within_line digit-within refl refl refl) refl)

  sizes : Begins (sizes_line ds es ++ 10 ∷ []) (sizes_line ds es) (sizes_text ds es)
  sizes = sizes-begin ds es one other

  pub source-faultless : first_line_fault (source ds es) ≡ None
  source-faultless =
      ap (fault_from 0 1) lines-are
      ∙ fault-step program-begins 0 1 (with_feeds (codes "      INTEGER N, M" ∷ sizes_line ds es ∷ lines_behind))
      ∙ fault-step integer-begins 19 2 (with_feeds (sizes_line ds es ∷ lines_behind))
      ∙ fault-step sizes 19 3 (with_feeds lines_behind)
      ∙ behind-faultless

  pub source-entries : entries_of (source ds es) ≡ entries ds es
  source-entries =
      ap (entries_from 1) lines-are
      ∙ entries-step program-begins 1 (with_feeds (codes "      INTEGER N, M" ∷ sizes_line ds es ∷ lines_behind)) (continued-step integer-begins (with_feeds (sizes_line ds es ∷ lines_behind)))
      ∙ ap (λ es'. statement 1 0 (codes "PROGRAMBENCH") ∷ es')
      (entries-step integer-begins 2 (with_feeds (sizes_line ds es ∷ lines_behind)) (continued-step sizes (with_feeds lines_behind))
      ∙ ap (λ es'. statement 2 0 (codes "INTEGERN,M") ∷ es') (entries-step sizes 3 (with_feeds lines_behind) behind-continues ∙ ap (λ es'. statement 3 0 (sizes_text ds es) ∷ es') behind-listed))

  size-is : size_to_end (lines_of (source ds es)) ≡ 39 + (length (sizes_line ds es ++ 10 ∷ []) + 243)
  size-is =
      ap size_to_end lines-are
      ∙ size-step program-begins (with_feeds (codes "      INTEGER N, M" ∷ sizes_line ds es ∷ lines_behind))
      ∙ ap (λ n. 20 + n) (size-step integer-begins (with_feeds (sizes_line ds es ∷ lines_behind)) ∙ ap (λ n. 19 + n) (size-step sizes (with_feeds lines_behind) ∙ ap (λ n. length (sizes_line ds es ++ 10 ∷ []) + n) behind-size))
      ∙ omega arith

  length-is : length (source ds es) ≡ 39 + (length (sizes_line ds es ++ 10 ∷ []) + 243)
  length-is =
      length-append (codes "      PROGRAM BENCH\n      INTEGER N, M\n") ((sizes_line ds es ++ 10 ∷ []) ++ flat_map (λ l. l ++ 10 ∷ []) lines_behind)
      ∙ ap (λ n. 39 + n) (length-append (sizes_line ds es ++ 10 ∷ []) (flat_map (λ l. l ++ 10 ∷ []) lines_behind))

  -- nothing stands behind END
  pub source-ends : first_behind (source ds es) (size_to_end (lines_of (source ds es))) ≡ None
  source-ends =
      let size = size_to_end (lines_of (source ds es)) in
      let gone : length (drop size (source ds es)) ≡ 0 = omega (arith, length-drop size (source ds es), size-is, length-is) in
      first_kept-none (length (lines_of (take size (source ds es))) + 1) (drop size (source ds es)) gone
