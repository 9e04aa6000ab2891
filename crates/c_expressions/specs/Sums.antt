-- Sums of multiples of named values and a constant.
use Rattle.std.specs.Prelude.{ℕ, ◌+◌, ◌*◌, ◌<◌, ◌≤◌, ◌^◌, ◌≡◌, ℤ, pos, negsuc, ◌+ℤ◌, ◌-ℤ◌, ◌*ℤ◌, Bool, true, false, ◌==◌, List, [], ◌∷◌, ◌++◌, unsigned_abs, IsTrue, MatchBool, FitsSigned, if◌then◌else◌, codes}
use Rattle.std.specs.Fmt.{decimal}
use Rattle.std.specs.Int.{w64}
use Rattle.nest_tree.specs.Form.{Form, dot, numbered}
use Rattle.nest_tree.specs.Values.{wrapped}
use Rattle.c_expressions.specs.CExpressions.{CExpression}
use Rattle.c_expressions.specs.Grammar.{Appends, sum}
use Rattle.c_expressions.specs.Names.{loop_name, term_name}
use Rattle.c_expressions.specs.Numbers.{number_at, StaysNarrow}
use Rattle.c_expressions.specs.declared.sum.Sum.{Sum}
use Rattle.c_expressions.specs.declared.sum.Term.{Term}

-- names have values
abbrev pub Values : Type 0
Values = List ℕ → ℤ

abbrev pub terms_at : Values → List (Term × ℤ) → ℤ
terms_at v [] = pos 0
terms_at v (t ∷ terms) = t.1 *ℤ v (term_name t.0) +ℤ terms_at v terms

-- what the numbers of a sum add up to
abbrev pub total : Values → Sum → ℤ
total v s = s.constant +ℤ terms_at v s.terms.items

-- so far from 0 it comes, where each value is within 2^32
abbrev pub size_of_terms : List (Term × ℤ) → ℕ
size_of_terms [] = 0
size_of_terms (t ∷ terms) = unsigned_abs t.1 * 2 ^ 32 + size_of_terms terms

abbrev pub size_of : Sum → ℕ
size_of s = unsigned_abs s.constant + size_of_terms s.terms.items

-- where all is plain
pub record IsPlain (s : Sum) : Type 0 where
  pub exact : IsTrue s.is_exact
  pub small : size_of s < 2 ^ 62

-- a sum has more by what this says: in words always, and exactly as long as it is exact
pub record Adds (old new : Sum) (more : Values → ℤ) : Type 0 where
  pub words : (v : Values) → wrapped (total v new) ≡ wrapped (total v old +ℤ more v)
  pub exact : IsTrue new.is_exact → IsTrue old.is_exact
      × ((v : Values) → total v new ≡ total v old +ℤ more v)

-- a sum is what this says
pub record SumsUp (s : Sum) (all : Values → ℤ) : Type 0 where
  pub words : (v : Values) → wrapped (total v s) ≡ wrapped (all v)
  pub exact : IsTrue s.is_exact → (v : Values) → total v s ≡ all v

-- the values of loops and of the processor's number are within 2^32, since a loop's bounds are within 2^31, and so is its step
abbrev pub AreNear : Values → Type 0
AreNear v = (t : Term) → unsigned_abs (v (term_name t)) ≤ 2 ^ 32

-- an expression comes to what this says, where that fits in 64 bits, and no step on the way overflows
pub record ComesTo (a : CExpression) (all : Values → ℤ) : Type 0 where
  pub value : (v : Values) → v (codes "INT64_MIN") ≡ negsuc 9223372036854775807
      → FitsSigned w64 (all v) → number_at v a ≡ all v
  pub narrow : (v : Values) → AreNear v → StaysNarrow v a

-- bytes are appended that read as such an expression
pub record AppendsNumber (old new : List ℕ) (all : Values → ℤ) : Type 0 where
  pub expression : CExpression
  pub appends : Appends old new sum expression
  pub comes : ComesTo expression all

-- the value of a form
abbrev pub loops_at : Values → List (ℕ × ℤ) → ℤ
loops_at v [] = pos 0
loops_at v (p ∷ pairs) = p.1 *ℤ v (loop_name p.0) +ℤ loops_at v pairs

abbrev pub form_at : List ℤ → Form → Values → ℤ
form_at params f v = f.constant +ℤ loops_at v f.loops +ℤ dot f.params params

-- names have these values of the loops, by the loops' numbers from 1
abbrev pub HasLoops : Values → List ℤ → Type 0
HasLoops v loops = (n : ℕ) → v (loop_name n) ≡ numbered loops n

-- the place of an element in its array, in column-major order, where one step of the first subscript is so long
abbrev pub place_at : List ℤ → ℤ → List Form → List (ℤ × ℤ) → Values → ℤ
place_at params stride [] bounds v = pos 0
place_at params stride (f ∷ subscripts) [] v = pos 0
place_at params stride (f ∷ subscripts) (b ∷ bounds) v =
    stride *ℤ (form_at params f v -ℤ b.0) +ℤ place_at params
    (wrapped (stride *ℤ wrapped (b.1 -ℤ b.0 +ℤ pos 1))) subscripts bounds v

-- bytes are appended that read as an expression of what a sum is
pub record AppendsSum (s : Sum) (old new : List ℕ) : Type 0 where
  pub expression : CExpression
  pub appends : Appends old new sum expression
  pub comes : (all : Values → ℤ) → SumsUp s all → ComesTo expression all

-- ---- part by part

-- the sign in front of a part, which may be the first one
abbrev pub sign_text : Bool → Bool → List ℕ
sign_text true true = codes "-"
sign_text true false = []
sign_text false true = codes " - "
sign_text false false = codes " + "

-- so much of a term
abbrev pub factor_text : ℕ → List ℕ
factor_text n = if n == 1 then [] else decimal n ++ codes "*"

abbrev pub multiple_text : ℕ → Term → List ℕ
multiple_text n t = factor_text n ++ term_name t

-- bytes are appended that read as what comes to this, within so far of 0
pub record AppendsPart (old new : List ℕ) (part : Values → ℤ) (room : ℕ) : Type 0 where
  pub expression : CExpression
  pub appends : Appends old new sum expression
  pub value : (v : Values) → number_at v expression ≡ part v
  pub narrow : (v : Values) → AreNear v → StaysNarrow v expression × (unsigned_abs (part v) ≤ room)

-- nothing is appended, or that
abbrev pub Begun : List ℕ → List ℕ → Bool → (Values → ℤ) → ℕ → Type 0
Begun old now is_first part room = MatchBool is_first
    ((now ≡ old) × ((v : Values) → part v ≡ pos 0)) (AppendsPart old now part room)

-- behind what there is, that much more stands
abbrev pub GoesOn : List ℕ → Bool → List ℕ → Bool → (Values → ℤ) → ℕ → Type 0
GoesOn before was_first now is_first more size =
    (old : List ℕ) (part : Values → ℤ) (room : ℕ) → room + size < 2 ^ 62
    → Begun old before was_first part room
    → Begun old now is_first (λ v. part v +ℤ more v) (room + size)

-- of words, what there is and what is behind it
pub record AppendsWords (old new : List ℕ) (part : Values → ℤ) : Type 0 where
  pub expression : CExpression
  pub appends : Appends old new sum expression
  pub value : (v : Values) → v (codes "INT64_MIN") ≡ negsuc 9223372036854775807
      → number_at v expression ≡ part v
