-- The expressions of C that stand in emitted files, as trees. Parentheses are gone: what they say is the tree's shape.
use Rattle.std.specs.Prelude.{ℕ, List}
use Rattle.nest_tree.specs.declared.tree.Compare.{Compare}

-- a decimal constant; an identifier; an array's element; a call of a function or a macro; a cast to 64 bits with a sign; a change of sign; a product, a sum, a difference
mutual
  pub data CExpression : Type 0 where
    constant : (value : ℕ) → CExpression
    identifier : (name : List ℕ) → CExpression
    element : (array : List ℕ) (place : CExpression) → CExpression
    call : (function : List ℕ) (arguments : CArguments) → CExpression
    as_number : (a : CExpression) → CExpression
    minus : (a : CExpression) → CExpression
    times : (a b : CExpression) → CExpression
    plus : (a b : CExpression) → CExpression
    less : (a b : CExpression) → CExpression

  pub data CArguments : Type 0 where
    only : (a : CExpression) → CArguments
    first_of : (a : CExpression) (rest : CArguments) → CArguments

-- a comparison
pub record CComparison : Type 0 where
  pub left : CExpression
  pub op : Compare
  pub right : CExpression
