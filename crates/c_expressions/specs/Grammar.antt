-- How bytes read as expressions: C's grammar (ISO/IEC 9899:2011, 6.5.1 to 6.5.9), as far as emitted files go. A unary operator binds tighter than a product, a product tighter than a sum or a difference, and these tighter than a comparison; products, sums and differences read from the left.
use Rattle.std.specs.Prelude.{ℕ, ◌<◌, ◌^◌, Bool, false, ◌&&◌, ◌||◌, ◌==◌, not, nat_le, IsTrue, List, [], ◌∷◌, ◌++◌, codes, ◌≡◌}
use Rattle.std.specs.Fmt.{decimal}
use Rattle.std.specs.List.{list_all}
use Rattle.std.specs.Str.{bytes_eq}
use Rattle.nest_tree.specs.declared.tree.Compare.{Compare}
use Rattle.nest_tree.specs.declared.tree.Compare.TheVariants.{Lt, Le, Eq, Ge, Gt}
use Rattle.c_expressions.specs.CExpressions.{CExpression, constant, identifier, element, call, as_number, minus, times, plus, less, CArguments, only, first_of, CComparison}

-- identifiers: letters, digits and underscores, no digit first (6.4.2.1)
abbrev pub is_letter : ℕ → Bool
is_letter b = nat_le 97 b && nat_le b 122 || nat_le 65 b && nat_le b 90 || b == 95

abbrev pub is_digit : ℕ → Bool
is_digit b = nat_le 48 b && nat_le b 57

abbrev pub is_name_byte : ℕ → Bool
is_name_byte b = is_letter b || is_digit b

abbrev pub is_name : List ℕ → Bool
is_name [] = false
is_name (b ∷ bytes) = is_letter b && list_all is_name_byte bytes

-- those of them that name no type: the cast's alone is one
abbrev pub is_variable : List ℕ → Bool
is_variable name = not (bytes_eq name (codes "number")) && is_name name

-- what binds at least so tight
pub data Rank : Type 0 where
  postfix : Rank
  unary : Rank
  product : Rank
  sum : Rank

mutual
  pub data Reads : Rank → List ℕ → CExpression → Type 0 where
    is_constant : (n : ℕ) → n < 2 ^ 63 → Reads postfix (decimal n) (constant n)
    is_identifier : {name : List ℕ} → IsTrue (is_variable name)
        → Reads postfix name (identifier name)
    in_parentheses : {text : List ℕ} {a : CExpression} → Reads sum text a
        → Reads postfix (codes "(" ++ text ++ codes ")") a
    is_element : {array text : List ℕ} {a : CExpression} → IsTrue (is_name array) → Reads sum text a
        → Reads postfix (array ++ codes "[" ++ text ++ codes "]") (element array a)
    is_call : {function text : List ℕ} {arguments : CArguments} → IsTrue (is_name function)
        → ReadsAll text arguments → Reads postfix (function ++ codes "(" ++ text ++ codes ")")
        (call function arguments)
    is_postfix : {text : List ℕ} {a : CExpression} → Reads postfix text a → Reads unary text a
    is_minus : {text : List ℕ} {a : CExpression} → Reads postfix text a
        → Reads unary (codes "-" ++ text) (minus a)
    is_cast : {text : List ℕ} {a : CExpression} → Reads unary text a
        → Reads unary (codes "(number)" ++ text) (as_number a)
    is_unary : {text : List ℕ} {a : CExpression} → Reads unary text a → Reads product text a
    is_product : {text more : List ℕ} {a b : CExpression} → Reads product text a
        → Reads unary more b → Reads product (text ++ codes "*" ++ more) (times a b)
    is_term : {text : List ℕ} {a : CExpression} → Reads product text a → Reads sum text a
    is_sum : {text more : List ℕ} {a b : CExpression} → Reads sum text a → Reads product more b
        → Reads sum (text ++ codes " + " ++ more) (plus a b)
    is_difference : {text more : List ℕ} {a b : CExpression} → Reads sum text a
        → Reads product more b → Reads sum (text ++ codes " - " ++ more) (less a b)

  pub data ReadsAll : List ℕ → CArguments → Type 0 where
    is_only : {text : List ℕ} {a : CExpression} → Reads sum text a → ReadsAll text (only a)
    is_first : {text more : List ℕ} {a : CExpression} {rest : CArguments} → Reads sum text a
        → ReadsAll more rest → ReadsAll (text ++ codes ", " ++ more) (first_of a rest)

-- comparisons
abbrev pub sign_of : Compare → List ℕ
sign_of Lt = codes " < "
sign_of Le = codes " <= "
sign_of Eq = codes " == "
sign_of Ge = codes " >= "
sign_of Gt = codes " > "

pub record Compares (text : List ℕ) (c : CComparison) : Type 0 where
  pub front : List ℕ
  pub behind : List ℕ
  pub is : text ≡ front ++ sign_of c.op ++ behind
  pub left : Reads sum front c.left
  pub right : Reads sum behind c.right

-- bytes are appended that read so
pub record Appends (old new : List ℕ) (rank : Rank) (a : CExpression) : Type 0 where
  pub text : List ℕ
  pub appended : new ≡ old ++ text
  pub reads : Reads rank text a
