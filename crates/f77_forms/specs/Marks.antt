-- What the fault of a text without form goes by: things that this language leaves out of FORTRAN 77 (ANSI X3.9-1978), and numbers past the limit.
use Rattle.std.specs.Prelude.{ℕ, suc, ◌+◌, ◌-◌, ◌*◌, ◌==◌, Bool, true, false, ◌&&◌, ◌||◌, not, nat_lt, nat_le, if◌then◌else◌, List, [], ◌∷◌, length, drop, count_by, codes, ◌≡◌, refl}
use Rattle.std.specs.List.{list_any}
use Rattle.f77_forms.specs.declared.fault.TextFault.{TextFault}
use Rattle.f77_forms.specs.declared.fault.TextFault.TheVariants.{NotInProfile, LiteralTooLarge, NoForm}
use Rattle.f77_forms.specs.Characters.{is_digit, is_capital, is_capital_or_digit, is_name}
use Rattle.f77_forms.specs.Statements.{begins_with, digits_in, behind_digits}

-- ---- outside character constants

-- Blanks (32) for the characters of constants, also of one that is not closed, and for their apostrophes (39); quoted says whether the first character stands inside one.
unfoldable pub masked : Bool → List ℕ → List ℕ
masked quoted [] = []
masked quoted (c ∷ cs) =
    (if quoted || (c == 39) then 32 else c) ∷ masked (if c == 39 then not quoted else quoted) cs

-- a constant begins and ends with an apostrophe
abbrev pub has_constant : List ℕ → Bool
has_constant text = nat_le 2 (count_by (λ c. c == 39) text)

-- ---- real numbers, dotted words and powers

-- a digit, a sign and a digit, and a dot
abbrev pub begins_digit : List ℕ → Bool
begins_digit [] = false
begins_digit (c ∷ cs) = is_digit c

abbrev pub begins_signed : List ℕ → Bool
begins_signed [] = false
begins_signed (c ∷ cs) = ((c == 43) || (c == 45)) && begins_digit cs

abbrev pub begins_dot : List ℕ → Bool
begins_dot [] = false
begins_dot (c ∷ cs) = c == 46

-- E or D, and a digit with a sign or none
unfoldable pub is_exponent : List ℕ → Bool
is_exponent [] = false
is_exponent (c ∷ cs) = ((c == 69) || (c == 68)) && (begins_digit cs || begins_signed cs)

-- digits, and a dot or an exponent
abbrev pub begins_real : List ℕ → Bool
begins_real text = nat_lt 0 (length (digits_in text))
    && (begins_dot (behind_digits text) || is_exponent (behind_digits text))

-- capitals and a dot
unfoldable pub ends_dotted : List ℕ → Bool
ends_dotted [] = false
ends_dotted (c ∷ cs) = (c == 46) || (is_capital c && ends_dotted cs)

-- a capital, further ones and a dot
unfoldable pub is_dotted : List ℕ → Bool
is_dotted [] = false
is_dotted (c ∷ cs) = is_capital c && ends_dotted cs

-- A text begins with `**`, with a dot and a digit, with a dotted word, or with a character that is part of no name in front of digits and a dot or an exponent.
unfoldable pub begins_mark : List ℕ → Bool
begins_mark [] = false
begins_mark (c ∷ []) = false
begins_mark (c ∷ d ∷ cs) =
    ((c == 42) && (d == 42)) || ((c == 46) && is_digit d) || ((c == 46) && is_dotted (d ∷ cs))
    || (not (is_capital_or_digit c) && begins_real (d ∷ cs))

-- one of these stands somewhere in a text
unfoldable pub holds_mark : List ℕ → Bool
holds_mark [] = false
holds_mark (c ∷ cs) = begins_mark (c ∷ cs) || holds_mark cs

abbrev pub has_mark : List ℕ → Bool
has_mark text = begins_real text || holds_mark text

-- ---- what a text looks like

-- a comma stands outside parentheses, of which so many are open
unfoldable pub has_comma_outside : ℕ → List ℕ → Bool
has_comma_outside depth [] = false
has_comma_outside depth (c ∷ cs) =
    if c == 40 then has_comma_outside (suc depth) cs
    else (if c == 41 then has_comma_outside (depth - 1) cs
    else ((c == 44) && (depth == 0)) || has_comma_outside depth cs)

-- what stands behind the parenthesis that closes the last of so many open ones
unfoldable pub behind_group : ℕ → List ℕ → List ℕ
behind_group depth [] = []
behind_group depth (c ∷ cs) =
    if c == 40 then behind_group (suc depth) cs
    else (if c == 41 then (if nat_le depth 1 then cs else behind_group (depth - 1) cs)
    else behind_group depth cs)

-- the capitals and digits in front of a text, and what stands behind them
unfoldable pub word_in : List ℕ → List ℕ
word_in [] = []
word_in (c ∷ cs) = if is_capital_or_digit c then c ∷ word_in cs else []

unfoldable pub behind_word : List ℕ → List ℕ
behind_word [] = []
behind_word (c ∷ cs) = if is_capital_or_digit c then behind_word cs else c ∷ cs

-- `=`
unfoldable pub begins_equals : List ℕ → Bool
begins_equals [] = false
begins_equals (c ∷ cs) = c == 61

-- a text without its first character
unfoldable pub tail : List ℕ → List ℕ
tail [] = []
tail (c ∷ cs) = cs

-- what stands behind a pair of parentheses, where there is one in front
unfoldable pub behind_parentheses : List ℕ → List ℕ
behind_parentheses [] = []
behind_parentheses (c ∷ cs) = if c == 40 then behind_group 1 cs else c ∷ cs

-- `=`, with no comma outside behind it
abbrev pub is_stored : List ℕ → Bool
is_stored text = begins_equals text && not (has_comma_outside 0 (tail text))

-- a word that begins with a capital, however long, a pair of parentheses or none, and `=`, with no comma outside behind it
abbrev pub begins_capital : List ℕ → Bool
begins_capital [] = false
begins_capital (c ∷ cs) = is_capital c

abbrev pub looks_assigned : List ℕ → Bool
looks_assigned text = begins_capital text && is_stored (behind_parentheses (behind_word text))

-- one of the five operators of a comparison
abbrev pub begins_compare : List ℕ → Bool
begins_compare text = begins_with (codes ".LT.") text || begins_with (codes ".LE.") text
    || begins_with (codes ".EQ.") text || begins_with (codes ".GE.") text
    || begins_with (codes ".GT.") text

-- The text in front of the first such operator, and from there on: of those that stand in the parentheses of which the last of so many open ones is the outermost, and in no inner ones.
unfoldable pub before_compare : ℕ → List ℕ → List ℕ
before_compare depth [] = []
before_compare depth (c ∷ cs) =
    if (depth == 1) && begins_compare (c ∷ cs) then []
    else (if c == 40 then c ∷ before_compare (suc depth) cs
    else (if c == 41 then (if nat_le depth 1 then c ∷ cs else c ∷ before_compare (depth - 1) cs)
    else c ∷ before_compare depth cs))

unfoldable pub from_compare : ℕ → List ℕ → List ℕ
from_compare depth [] = []
from_compare depth (c ∷ cs) =
    if (depth == 1) && begins_compare (c ∷ cs) then c ∷ cs
    else (if c == 40 then from_compare (suc depth) cs
    else (if c == 41 then (if nat_le depth 1 then [] else from_compare (depth - 1) cs)
    else from_compare depth cs))

-- parentheses with such an operator in them, and an assignment behind them
abbrev pub looks_guarded : List ℕ → Bool
looks_guarded text = nat_lt 0 (length (from_compare 1 text)) && looks_assigned (behind_group 1 text)

-- DO without a label: a name, `=` and a comma outside
abbrev pub looks_unlabelled : List ℕ → Bool
looks_unlabelled text = is_name (word_in text) && begins_equals (behind_word text)
    && has_comma_outside 0 (tail (behind_word text))

-- the words with which other statements of FORTRAN 77, and of its common extensions, begin
abbrev pub other_words : List (List ℕ)
other_words =
    codes "IF(" ∷ codes "ELSE" ∷ codes "ENDIF" ∷ codes "ENDDO" ∷ codes "ENDFILE" ∷ codes "DOWHILE"
    ∷ codes "GOTO" ∷ codes "ASSIGN" ∷ codes "CALL" ∷ codes "RETURN" ∷ codes "READ"
    ∷ codes "WRITE"
    ∷ codes "FORMAT" ∷ codes "DATA" ∷ codes "COMMON" ∷ codes "EQUIVALENCE" ∷ codes "SUBROUTINE"
    ∷ codes "FUNCTION" ∷ codes "EXTERNAL" ∷ codes "INTRINSIC" ∷ codes "SAVE" ∷ codes "IMPLICIT"
    ∷ codes "REAL" ∷ codes "DOUBLEPRECISION"
    ∷ codes "COMPLEX" ∷ codes "LOGICAL" ∷ codes "CHARACTER" ∷ codes "BLOCKDATA" ∷ codes "ENTRY"
    ∷ codes "PAUSE" ∷ codes "OPEN" ∷ codes "CLOSE" ∷ codes "INQUIRE" ∷ codes "BACKSPACE"
    ∷ codes "REWIND" ∷ []

-- a text begins with a word, and something stands behind it
abbrev pub goes_on : List ℕ → List ℕ → Bool
goes_on word text = begins_with word text && nat_lt (length word) (length text)

-- another statement by its first word, or a PRINT, STOP or INTEGER of another kind, or a DO without a label
abbrev pub names_other : List ℕ → Bool
names_other text =
    list_any (λ word. begins_with word text) other_words
    || (goes_on (codes "PRINT") text && not (begins_with (codes "PRINT*,") text))
    || goes_on (codes "STOP") text || goes_on (codes "INTEGER*") text
    || (begins_with (codes "DO") text && looks_unlabelled (drop 2 text))

-- ---- the fault

-- the operator of a comparison is no mark where it stands in a logical IF
unfoldable pub is_marked : List ℕ → Bool
is_marked text =
    if begins_with (codes "IF(") text && looks_guarded (drop 3 text)
    then has_mark (before_compare 1 (drop 3 text))
    || has_mark (drop 4 (from_compare 1 (drop 3 text)))
    else has_mark text || (names_other text && not (looks_assigned text))

-- a number past 9223372036854775807, behind digits that stand for `value`
unfoldable pub holds_large : ℕ → List ℕ → Bool
holds_large value [] = false
holds_large value (c ∷ cs) =
    if is_digit c
    then (if nat_le (10 * value + (c - 48)) 9223372036854775807
    then holds_large (10 * value + (c - 48)) cs
    else true)
    else holds_large 0 cs

-- something that is left out: in the text outside constants, or a constant anywhere but among the items of a PRINT
unfoldable pub is_outside_profile : List ℕ → Bool
is_outside_profile text =
    (has_constant text && not (begins_with (codes "PRINT*,") text)) || is_marked (masked false text)

-- the fault of a text without form: the first of these three
unfoldable pub text_fault : List ℕ → TextFault
text_fault text = if is_outside_profile text
    then NotInProfile
    else (if holds_large 0 (masked false text) then LiteralTooLarge else NoForm)

-- ---- examples

-- GOTO 10 and a power are left out, and the power is seen also in a text without form
pub outside_profile-examples : list_any (λ text. not (is_outside_profile text))
    (codes "GOTO10" ∷ codes "FOO**2" ∷ codes "K=1.5" ∷ codes "K=1E5" ∷ codes "K=1E+5"
    ∷ codes "K=1D-3" ∷ codes "K=1." ∷ codes "K=.5" ∷ codes "K=I.AND.J" ∷ codes "K='A'"
    ∷ codes "DOI=1,5" ∷ codes "PRINT1" ∷ codes "IF(I.NE.2)K=I" ∷ []) ≡ false
unfolding is_outside_profile is_marked masked digits_in behind_digits holds_mark begins_mark
    is_exponent is_dotted ends_dotted word_in behind_word begins_equals tail behind_parentheses
    behind_group has_comma_outside before_compare from_compare
outside_profile-examples = refl

-- names may hold an E and a D, a comparison its operator behind a digit, and a constant that is not closed is none
pub no_form-examples : list_any is_outside_profile
    (codes "A1E5=" ∷ codes "A1E+5=" ∷ codes "K=J0." ∷ codes "LONGNAMEX=1" ∷ codes "REALNUMBER=1"
    ∷ codes "DO10D5=1," ∷ codes "IF(1.EQ.I)K=1+" ∷ codes "K='A" ∷ codes "READ=1+"
    ∷ codes "PRINT*,'A**B'+1" ∷ []) ≡ false
unfolding is_outside_profile is_marked masked digits_in behind_digits holds_mark begins_mark
    is_exponent is_dotted ends_dotted word_in behind_word begins_equals tail behind_parentheses
    behind_group has_comma_outside before_compare from_compare
no_form-examples = refl

-- a number is looked for also behind letters
pub large-example : text_fault (codes "FOO9223372036854775808") ≡ LiteralTooLarge
unfolding text_fault is_outside_profile is_marked masked digits_in holds_mark begins_mark
    holds_large
large-example = refl
