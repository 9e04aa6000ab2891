-- What an expression of numbers comes to, where names have these values. In words only the remainder by 2^64 counts, and a cast to a number takes the one that fits.
use Rattle.std.specs.Prelude.{ℕ, suc, ◌<◌, ◌^◌, ◌==◌, ℤ, pos, negsuc, ◌+ℤ◌, ◌-ℤ◌, ◌*ℤ◌, List, unsigned_abs, if◌then◌else◌, codes}
use Rattle.nest_tree.specs.Values.{wrapped}
use Rattle.c_expressions.specs.CExpressions.{CExpression, constant, identifier, element, call, as_number, minus, times, plus, less, CArguments, only, first_of}

-- a number as it is written, and as a word
abbrev pub literal_of : ℤ → CExpression
literal_of (pos n) = constant n
literal_of (negsuc n) =
    if n == 9223372036854775807 then identifier (codes "INT64_MIN") else minus (constant (suc n))

abbrev pub word_of : CExpression → CExpression
word_of a = call (codes "W") (only a)

-- the one call of numbers with one argument makes a word
abbrev mutual
  pub number_at : (List ℕ → ℤ) → CExpression → ℤ
  number_at v (constant n) = pos n
  number_at v (identifier name) = v name
  number_at v (element array place) = pos 0
  number_at v (call function arguments) = argument_at v arguments
  number_at v (as_number a) = wrapped (number_at v a)
  number_at v (minus a) = pos 0 -ℤ number_at v a
  number_at v (times a b) = number_at v a *ℤ number_at v b
  number_at v (plus a b) = number_at v a +ℤ number_at v b
  number_at v (less a b) = number_at v a -ℤ number_at v b

  pub argument_at : (List ℕ → ℤ) → CArguments → ℤ
  argument_at v (only a) = number_at v a
  argument_at v (first_of a rest) = pos 0

-- no step with a sign leaves 2^62; words may
abbrev pub IsNarrow : ℤ → Type 0
IsNarrow z = unsigned_abs z < 2 ^ 62

abbrev pub StaysNarrow : (List ℕ → ℤ) → CExpression → Type 0
StaysNarrow v (constant n) = Unit {0}
StaysNarrow v (identifier name) = Unit {0}
StaysNarrow v (element array place) = Unit {0}
StaysNarrow v (call function arguments) = Unit {0}
StaysNarrow v (as_number a) = Unit {0}
StaysNarrow v (minus a) = StaysNarrow v a × IsNarrow (number_at v (minus a))
StaysNarrow v (times a b) = StaysNarrow v a × StaysNarrow v b × IsNarrow (number_at v (times a b))
StaysNarrow v (plus a b) = StaysNarrow v a × StaysNarrow v b × IsNarrow (number_at v (plus a b))
StaysNarrow v (less a b) = StaysNarrow v a × StaysNarrow v b × IsNarrow (number_at v (less a b))
