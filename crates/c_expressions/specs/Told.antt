-- What an expression of a program stands as in C.
use Rattle.std.specs.Prelude.{ℕ, ℤ, pos, zero, suc, ◌==◌, ◌<◌, ◌≡◌, Bool, true, false, List, [], ◌++◌, length, if◌then◌else◌, codes}
use Rattle.std.specs.List.{list_any}
use Rattle.nest_tree.specs.Form.{numbered}
use Rattle.nest_tree.specs.Layout.{bounds_of}
use Rattle.nest_tree.specs.Tree.{Expression, Expressions, number, loop_value, param, load, neg, add, sub, mul, div, least_of, greatest_of, no_more, one_more, Tree, param_values}
use Rattle.nest_tree.specs.declared.tree.Access.{Access}
use Rattle.nest_tree.specs.declared.tree.Guard.{Guard}
use Rattle.c_expressions.specs.CExpressions.{CExpression, constant, identifier, element, call, times, plus, less, only, first_of}
use Rattle.c_expressions.specs.Grammar.{Appends, Compares, Rank, postfix, product, sum, unary}
use Rattle.c_expressions.specs.Names.{loop_name, own_cell, shared_cell}
use Rattle.c_expressions.specs.Numbers.{literal_of, word_of}
use Rattle.c_expressions.specs.Sums.{ComesTo, form_at, place_at}
use Rattle.c_expressions.specs.declared.place.Place.{Place}
use Rattle.c_expressions.specs.declared.place.Place.TheVariants.{Sum, Product, Factor}

-- a scalar's cell: its own, where a processor has one
abbrev pub is_own : List ℕ → ℕ → Bool
is_own privates n = list_any (λ k. k == n) privates

abbrev pub scalar_cell : Tree → List ℕ → ℕ → List ℕ
scalar_cell tree privates n = if is_own privates n then own_cell tree n else shared_cell tree n

-- a scalar stands as its cell; an element as its array with its place there
pub data SaysAccess (tree : Tree) (privates : List ℕ) : Access → CExpression → Type 0 where
  says_scalar : {access : Access} → access.subscripts ≡ []
      → SaysAccess tree privates access (identifier (scalar_cell tree privates access.variable))
  says_element : {access : Access} {place : CExpression} → 0 < length access.subscripts
      → ComesTo place (place_at (param_values tree) (pos 1) access.subscripts
      (bounds_of tree access.variable)) →
      SaysAccess tree privates access (element (shared_cell tree access.variable) place)

-- one argument more, at the end
abbrev pub with_last : Expressions → Expression → Expressions
with_last no_more e = one_more e no_more
with_last (one_more first rest) e = one_more first (with_last rest e)

mutual
  pub data Says (tree : Tree) (privates : List ℕ) : Expression → CExpression → Type 0 where
    says_number : {z : ℤ} → Says tree privates (number z) (word_of (literal_of z))
    says_param : {n : ℕ} → Says tree privates (param n)
        (word_of (literal_of (numbered (param_values tree) n)))
    says_loop : {n : ℕ} → Says tree privates (loop_value n) (word_of (identifier (loop_name n)))
    says_load : {access : Access} {a : CExpression} → SaysAccess tree privates access a
        → Says tree privates (load access) a
    says_neg : {e : Expression} {a : CExpression} → Says tree privates e a
        → Says tree privates (neg e) (less (constant 0) a)
    says_add : {e f : Expression} {a b : CExpression} → Says tree privates e a
        → Says tree privates f b → Says tree privates (add e f) (plus a b)
    says_sub : {e f : Expression} {a b : CExpression} → Says tree privates e a
        → Says tree privates f b → Says tree privates (sub e f) (less a b)
    says_mul : {e f : Expression} {a b : CExpression} → Says tree privates e a
        → Says tree privates f b → Says tree privates (mul e f) (times a b)
    says_div : {e : Expression} {divisor : ℤ} {a : CExpression} → Says tree privates e a
        → Says tree privates (div e divisor) (call (codes "over")
        (first_of a (only (literal_of divisor))))
    says_least : {arguments : Expressions} {a : CExpression}
        → Chooses tree privates (codes "least") arguments a
        → Says tree privates (least_of arguments) a
    says_greatest : {arguments : Expressions} {a : CExpression}
        → Chooses tree privates (codes "greatest") arguments a
        → Says tree privates (greatest_of arguments) a

  -- of two at a time, from the first on
  pub data Chooses (tree : Tree) (privates : List ℕ) : List ℕ → Expressions → CExpression
      → Type 0 where
    chooses_none : {of : List ℕ} → Chooses tree privates of no_more (constant 0)
    chooses_first : {of : List ℕ} {e : Expression} {a : CExpression} → Says tree privates e a
        → Chooses tree privates of (one_more e no_more) a
    chooses_more : {of : List ℕ} {arguments : Expressions} {e : Expression} {a b : CExpression}
        → Chooses tree privates of arguments a → Says tree privates e b →
        Chooses tree privates of (with_last arguments e) (call of (first_of a (only b)))

-- in which places a sum, a product, or neither stands without parentheses
abbrev pub rank_of : Place → Rank
rank_of Sum = sum
rank_of Product = product
rank_of Factor = unary

abbrev pub is_looser : Place → Place → Bool
is_looser Sum Sum = false
is_looser Sum Product = true
is_looser Sum Factor = true
is_looser Product Sum = false
is_looser Product Product = false
is_looser Product Factor = true
is_looser Factor place = false

-- bytes are appended that read as what an access, an expression or a comparison stands as
pub record AppendsAccess (tree : Tree) (privates : List ℕ) (access : Access) (old new : List ℕ) :
    Type 0 where
  pub expression : CExpression
  pub says : SaysAccess tree privates access expression
  pub appends : Appends old new postfix expression

pub record AppendsChoice (tree : Tree) (privates of : List ℕ) (arguments : Expressions)
    (old new : List ℕ) : Type 0 where
  pub expression : CExpression
  pub says : Chooses tree privates of arguments expression
  pub appends : Appends old new unary expression

pub record AppendsValue (tree : Tree) (privates : List ℕ) (e : Expression) (place : Place)
    (old new : List ℕ) : Type 0 where
  pub expression : CExpression
  pub says : Says tree privates e expression
  pub appends : Appends old new (rank_of place) expression

-- so many calls are begun
abbrev pub opens : List ℕ → ℕ → List ℕ
opens of zero = []
opens of (suc n) = opens of n ++ (of ++ codes "(")

-- alone the first argument has no call around it
abbrev pub place_of_first : ℕ → Place
place_of_first n = if n == 0 then Factor else Sum

pub record AppendsComparison (tree : Tree) (guard : Guard) (old new : List ℕ) : Type 0 where
  pub left : CExpression
  pub right : CExpression
  pub text : List ℕ
  pub appended : new ≡ old ++ text
  pub compares : Compares text (record { left = left; op = guard.op; right = right })
  pub left_comes : ComesTo left (form_at (param_values tree) guard.left)
  pub right_comes : ComesTo right (form_at (param_values tree) guard.right)
