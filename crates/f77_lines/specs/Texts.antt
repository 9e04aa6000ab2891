-- The text of a statement or a directive, and a label (ANSI X3.9-1978, 3.1.6, 3.2 and 3.4).
use Rattle.std.specs.Prelude.{ℕ, ◌+◌, ◌-◌, ◌*◌, ◌==◌, Bool, false, ◌&&◌, not, nat_lt, if◌then◌else◌, List, [], ◌∷◌, ◌++◌, map, filter, Option, Some, None, codes, ◌≡◌, refl}
use Rattle.std.specs.List.{list_all}
use Rattle.std.specs.Char.{to_ascii_uppercase, is_ascii_digit}
use Rattle.f77_lines.specs.Columns.{is_blank}

-- Whether a character follows inside a character constant: an apostrophe (39) begins and ends one, so a doubled one changes nothing.
abbrev pub quoted_after : Bool → ℕ → Bool
quoted_after quoted c = if c == 39 then not quoted else quoted

-- what a character counts as: inside a constant it is kept as it is, outside it becomes a capital, and a blank has no meaning
abbrev pub counted : Bool → ℕ → List ℕ
counted quoted c = if quoted then c ∷ [] else (if is_blank c then [] else to_ascii_uppercase c ∷ [])

-- what characters count as; `quoted` says whether the first stands inside a constant
abbrev pub text_from : Bool → List ℕ → List ℕ
text_from quoted [] = []
text_from quoted (c ∷ cs) = counted quoted c ++ text_from (quoted_after quoted c) cs

-- the text of a statement by all its columns 7 to 72
abbrev pub text_of : List ℕ → List ℕ
text_of body = text_from false body

-- characters without blanks, in capitals, as of a directive
abbrev pub squeezed : List ℕ → List ℕ
squeezed cs = map to_ascii_uppercase (filter (λ c. not (is_blank c)) cs)

-- the number that digits stand for, where those in front of them stand for `front`
abbrev pub decimal_from : ℕ → List ℕ → ℕ
decimal_from front [] = front
decimal_from front (d ∷ ds) = decimal_from (10 * front + (d - 48)) ds

-- the label that these digits stand for: 0 where there are none, and none where they are all 0
abbrev pub label_with : List ℕ → Option ℕ
label_with [] = Some 0
label_with (d ∷ ds) = if list_all is_ascii_digit (d ∷ ds) && nat_lt 0 (decimal_from 0 (d ∷ ds))
    then Some (decimal_from 0 (d ∷ ds))
    else None

-- the label in columns 1 to 5 of an initial line, 0 where they are blank; blanks and leading zeros have no meaning
unfoldable pub label_at : List ℕ → Option ℕ
label_at field = label_with (filter (λ c. not (is_blank c)) field)

-- a doubled apostrophe, and small letters inside a constant and outside
pub text_of-example : text_of (codes "print *, 'It''s  k', k 1") ≡ codes "PRINT*,'It''s  k',K1"
text_of-example = refl

pub squeezed-example : squeezed (codes " a ( block, * )") ≡ codes "A(BLOCK,*)"
squeezed-example = refl

pub label_at-example : map label_at (codes " 01 0" ∷ codes "     " ∷ codes "  0 0" ∷ codes "1A"
    ∷ []) ≡ Some 10 ∷ Some 0 ∷ None ∷ None ∷ []
unfolding label_at
label_at-example = refl
