-- What a line would say if it were a line of a plan's text. It is one where it is the line of what it says, so nothing else of its form is looked at here.
use Rattle.std.specs.Prelude.{ℕ, ◌+◌, ◌-◌, ◌*◌, ◌%◌, ◌^◌, ◌==◌, ◌&&◌, ℤ, pos, negsuc, Bool, true, nat_lt, nat_le, List, [], ◌∷◌, drop, map, length, slice_index_or, Option, Some, None, if◌then◌else◌, codes, ◌≡◌, refl}
use Rattle.std.specs.List.{after_first, before_first, filter_map, fold, slice_split}
use Rattle.std.specs.Option.{option_map}
use Rattle.std.specs.Str.{bytes_eq}
use Rattle.farkas_cert.specs.declared.certificate.Step.{Step}
use Rattle.nest_tree.specs.Form.{Form, is_form}
use Rattle.nest_tree.specs.WellFormed.{is_value}
use Rattle.owner_partition.specs.declared.anchor.Anchor.{Anchor}
use Rattle.owner_partition.specs.declared.anchor.Dist.{Dist}
use Rattle.owner_partition.specs.declared.anchor.Dist.TheVariants.{Block, Cyclic}
use Rattle.owner_partition.specs.declared.cut.Mark.{Mark}
use Rattle.owner_partition.specs.declared.cut.Mark.TheVariants.{Outer, Doall, Sum, Single, Inner}
use Rattle.sync_plan.specs.declared.plan.ConditionRow.{ConditionRow}
use Rattle.sync_plan.specs.declared.plan.Kind.{Kind}
use Rattle.sync_plan.specs.declared.plan.Version.{Version}
use Rattle.sync_plan.specs.declared.plan.Version.TheVariants.{One, Two, Three, Four, Five}
use Rattle.plan_text.specs.PlanText.{is_32}
use Rattle.plan_text.specs.Words.{count_line, version_line}
use Rattle.sync_plan.specs.Kinds.{plain_kind}
use Rattle.sync_plan.specs.declared.plan.Kind.TheVariants.{Producer}

-- the words of a line
abbrev pub words_of : List ℕ → List (List ℕ)
words_of line = slice_split (λ b. b == 32) line

abbrev pub word_at : ℕ → List (List ℕ) → List ℕ
word_at i words = slice_index_or words i []

abbrev pub last_word : List (List ℕ) → List ℕ
last_word words = word_at (length words - 1) words

-- the number of decimal digits, modulo 2^128
abbrev pub next_digit : ℕ → ℕ → ℕ
next_digit n c = (n * 10 % 2 ^ 128 + (c - 48)) % 2 ^ 128

abbrev pub number_of : List ℕ → ℕ
number_of word = fold next_digit 0 word

abbrev pub number_32 : List ℕ → ℕ
number_32 word = number_of word % 2 ^ 32

abbrev pub number_64 : List ℕ → ℕ
number_64 word = number_of word % 2 ^ 64

-- a signed number of 128 bits, with a minus sign in front or not
abbrev pub negated : ℕ → ℤ
negated n = if nat_lt 0 n && nat_le n (2 ^ 127) then negsuc (n - 1) else pos 0

abbrev pub kept : ℕ → ℤ
kept n = if nat_lt n (2 ^ 127) then pos n else pos 0

abbrev pub signed_of : List ℕ → ℤ
signed_of [] = pos 0
signed_of (c ∷ cs) = if c == 45 then negated (number_of cs) else kept (number_of (c ∷ cs))

-- one of 64 bits
abbrev pub narrow : ℤ → ℤ
narrow z = if is_value z then z else pos 0

abbrev pub narrow_of : List ℕ → ℤ
narrow_of word = narrow (signed_of word)

-- what stands before and behind the first asterisk of a word
abbrev pub before_star : List ℕ → List ℕ
before_star word = before_first (λ b. b == 42) word

abbrev pub after_star : List ℕ → List ℕ
after_star word = after_first (λ b. b == 42) word

-- a coefficient times a variable with this letter
abbrev pub pair_behind : ℕ → ℤ → List ℕ → Option (ℕ × ℤ)
pair_behind letter c [] = None
pair_behind letter c (l ∷ digits) = if l == letter then Some (number_32 digits, c) else None

abbrev pub pair_of : ℕ → List ℕ → Option (ℕ × ℤ)
pair_of letter word = pair_behind letter (narrow_of (before_star word)) (after_star word)

abbrev pub pairs_of : ℕ → List (List ℕ) → List (ℕ × ℤ)
pairs_of letter words = filter_map (pair_of letter) words

-- a form whose constant is the first word, with the pairs among the words behind it
abbrev pub as_form : Form → Option Form
as_form f = if is_form f then Some f else None

abbrev pub form_of : List (List ℕ) → Option Form
form_of words = as_form (record {
  constant = narrow_of (word_at 0 words);
  loops = pairs_of 76 words;
  params = pairs_of 80 words;
})

-- the distribution is the last word, or the last two
abbrev pub dist_of : List ℕ → Dist
dist_of word = if bytes_eq word (codes "CYCLIC") then Cyclic else Block (number_32 word)

abbrev pub anchor_of : List (List ℕ) → Option Anchor
anchor_of words =
    option_map (λ f. record { form = f; dist = dist_of (last_word words) }) (form_of words)

abbrev pub mark_of : List ℕ → Mark
mark_of word =
    if bytes_eq word (codes "OUTER") then Outer
    else if bytes_eq word (codes "DOALL") then Doall
    else if bytes_eq word (codes "SUM") then Sum
    else if bytes_eq word (codes "SINGLE") then Single
    else Inner

-- a loop: its mark, and behind one more word its private scalars
abbrev pub private_of : List ℕ → ℕ
private_of word = number_32 (drop 1 word)

abbrev pub loop_of : List (List ℕ) → Mark × List ℕ
loop_of words = (mark_of (word_at 1 words), map private_of (drop 3 words))

-- a kind
abbrev pub kind_of : List (List ℕ) → Option Kind
kind_of words = if bytes_eq (word_at 0 words) (codes "PRODUCER")
    then option_map Producer (anchor_of (drop 1 words))
    else Some (plain_kind (word_at 0 words))

-- a phase: the kind before the word AT, the anchor behind it
abbrev pub both : {X Y : Type 0} → Option X → Option Y → Option (X × Y)
both None y = None
both (Some x) None = None
both (Some x) (Some y) = Some (x, y)

abbrev pub is_at : List ℕ → Bool
is_at word = bytes_eq word (codes "AT")

abbrev pub phase_of : List (List ℕ) → Option (Kind × Anchor)
phase_of words = both (kind_of (before_first is_at words)) (anchor_of (after_first is_at words))

-- a row of conditions, and a step
abbrev pub row_of : List (List ℕ) → ConditionRow
row_of words = record { coefs = pairs_of 80 words; bound = narrow_of (last_word words) }

abbrev pub term_of : List ℕ → ℕ × ℤ
term_of word = (number_64 (before_star word), signed_of (after_star word))

abbrev pub step_of : List (List ℕ) → Step
step_of words = record { divisor = signed_of (word_at 0 words); terms = map term_of (drop 1 words) }

-- the least number of 128 bits
pub signed_of-least : signed_of (codes "-170141183460469231731687303715884105728")
    ≡ negsuc 170141183460469231731687303715884105727
signed_of-least = refl

pub pair_of-example : pair_of 76 (codes "-7*L12") ≡ Some (12, negsuc 6)
pair_of-example = refl

-- what a line says: a loop, a count, a phase, a row of conditions, the number of a certificate's steps, and a step
abbrev pub loop_said : List ℕ → Option (Mark × List ℕ)
loop_said line = Some (loop_of (words_of line))

abbrev pub count_32_said : List ℕ → Option ℕ
count_32_said line = Some (number_32 (word_at 1 (words_of line)))

abbrev pub count_64_said : List ℕ → Option ℕ
count_64_said line = Some (number_64 (word_at 1 (words_of line)))

abbrev pub phase_said : List ℕ → Option (Kind × Anchor)
phase_said line = phase_of (drop 1 (words_of line))

abbrev pub row_said : List ℕ → Option ConditionRow
row_said line = Some (row_of (words_of line))

abbrev pub steps_said : List ℕ → Option ℕ
steps_said line = Some (number_64 (word_at 2 (words_of line)))

abbrev pub step_said : List ℕ → Option Step
step_said line = Some (step_of (words_of line))

abbrev pub version_said : List ℕ → Option Version
version_said line = if bytes_eq line (version_line One)
    then Some One
    else if bytes_eq line (version_line Two)
    then Some Two
    else if bytes_eq line (version_line Three)
    then Some Three
    else if bytes_eq line (version_line Four)
    then Some Four
    else Some Five

-- the line in front of conditions: none for the program's values, or the number of rows
abbrev pub where_said : List ℕ → Option (Option ℕ)
where_said line = if bytes_eq line (codes "WHERE VALUES")
    then Some None
    else Some (Some (number_32 (word_at 1 (words_of line))))

abbrev pub where_line : Option ℕ → List ℕ
where_line None = codes "WHERE VALUES"
where_line (Some n) = count_line (codes "WHERE") n

abbrev pub is_where_shown : Option ℕ → Bool
is_where_shown None = true
is_where_shown (Some n) = is_32 n

abbrev pub end_line : Unit {0} → List ℕ
end_line u = codes "END PLAN"
