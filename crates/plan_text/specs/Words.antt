-- The words of a plan's lines.
use Rattle.std.specs.Prelude.{ℕ, ℤ, List, [], ◌∷◌, ◌++◌, map, codes}
use Rattle.std.specs.Fmt.{decimal, signed_decimal}
use Rattle.std.specs.List.{flat_map}
use Rattle.std.specs.Option.{option_map_or}
use Rattle.farkas_cert.specs.declared.certificate.Step.{Step}
use Rattle.nest_tree.specs.Form.{Form}
use Rattle.owner_partition.specs.declared.anchor.Anchor.{Anchor}
use Rattle.owner_partition.specs.declared.anchor.Dist.{Dist}
use Rattle.owner_partition.specs.declared.anchor.Dist.TheVariants.{Block, Cyclic}
use Rattle.owner_partition.specs.declared.cut.Mark.{Mark}
use Rattle.owner_partition.specs.declared.cut.Mark.TheVariants.{Outer, Doall, Single, Inner, Sum}
use Rattle.sync_plan.specs.Kinds.{anchor_in, kind_word}
use Rattle.sync_plan.specs.declared.plan.ConditionRow.{ConditionRow}
use Rattle.sync_plan.specs.declared.plan.Kind.{Kind}
use Rattle.sync_plan.specs.declared.plan.Version.{Version}
use Rattle.sync_plan.specs.declared.plan.Version.TheVariants.{One, Two, Three, Four, Five}

-- words, each with a blank in front; and a line of words, with one between each two
abbrev pub spaced : List (List ℕ) → List ℕ
spaced words = flat_map (λ w. 32 ∷ w) words

abbrev pub line_of : List (List ℕ) → List ℕ
line_of [] = []
line_of (w ∷ words) = w ++ spaced words

-- a coefficient times a loop L1, L2, .. or a named constant P1, P2, ..; a row's number times its multiplier
abbrev pub pair_word : List ℕ → ℕ × ℤ → List ℕ
pair_word letter p = signed_decimal p.1 ++ (42 ∷ (letter ++ decimal p.0))

abbrev pub term_word : ℕ × ℤ → List ℕ
term_word t = decimal t.0 ++ 42 ∷ signed_decimal t.1

-- a form: the constant, then loops, then named constants
abbrev pub pair_words : Form → List (List ℕ)
pair_words f = map (pair_word (codes "L")) f.loops ++ map (pair_word (codes "P")) f.params

abbrev pub form_words : Form → List (List ℕ)
form_words f = signed_decimal f.constant ∷ pair_words f

abbrev pub dist_words : Dist → List (List ℕ)
dist_words (Block b) = codes "BLOCK" ∷ decimal b ∷ []
dist_words Cyclic = codes "CYCLIC" ∷ []

abbrev pub anchor_words : Anchor → List (List ℕ)
anchor_words a = form_words a.form ++ dist_words a.dist

abbrev pub mark_word : Mark → List ℕ
mark_word Outer = codes "OUTER"
mark_word Doall = codes "DOALL"
mark_word Single = codes "SINGLE"
mark_word Inner = codes "INNER"
mark_word Sum = codes "SUM"

-- private scalars V2, V5, .., if there are some
abbrev pub private_word : ℕ → List ℕ
private_word v = codes "V" ++ decimal v

abbrev pub private_words : List ℕ → List (List ℕ)
private_words [] = []
private_words (v ∷ vs) = codes "PRIVATE" ∷ map private_word (v ∷ vs)

abbrev pub kind_words : Kind → List (List ℕ)
kind_words kind = kind_word kind ∷ option_map_or anchor_words (anchor_in kind) []

-- the lines of the version, of a count, and the numbered ones of a loop, a phase, a row of conditions and a certificate; and that of a step
abbrev pub version_digit : Version → List ℕ
version_digit One = codes "1"
version_digit Two = codes "2"
version_digit Three = codes "3"
version_digit Four = codes "4"
version_digit Five = codes "5"

abbrev pub version_line : Version → List ℕ
version_line v = codes "SPMD PLAN " ++ version_digit v

abbrev pub count_line : List ℕ → ℕ → List ℕ
count_line word n = line_of (word ∷ decimal n ∷ [])

abbrev pub loop_line : ℕ → Mark × List ℕ → List ℕ
loop_line k l = line_of (decimal k ∷ mark_word l.0 ∷ private_words l.1)

abbrev pub phase_line : ℕ → Kind × Anchor → List ℕ
phase_line k p = line_of (decimal k ∷ kind_words p.0 ++ codes "AT" ∷ anchor_words p.1)

abbrev pub row_line : ℕ → ConditionRow → List ℕ
row_line k row = line_of (decimal k ∷ map (pair_word (codes "P")) row.coefs
    ++ codes "<=" ∷ signed_decimal row.bound ∷ [])

abbrev pub cert_line : ℕ → ℕ → List ℕ
cert_line k steps = line_of (decimal k ∷ codes "STEPS" ∷ decimal steps ∷ [])

abbrev pub step_line : Step → List ℕ
step_line s = line_of (signed_decimal s.divisor ∷ map term_word s.terms)
