-- What is appended for a value, part by part.
use Rattle.std.proofs.Common.{◌≡◌, ℕ, zero, suc, ◌+◌, ◌<◌, ℤ, pos, true, false, IsTrue, List, [], ◌∷◌, ◌++◌, codes, length, map, slice_get, slice_index_or, Some, None, get_or, take, refl, ap, sym, ◌∙◌, subst, arith, append_assoc, append-nil, if◌then◌else◌}
use Rattle.std.proofs.lemmas.Fmt.{decimal_digit}
use Rattle.std.proofs.lemmas.List.{take_more}
use Rattle.list_lemmas.proofs.Appending.{take-cons}
use Rattle.nest_tree.specs.Form.{numbered}
use Rattle.nest_tree.specs.Layout.{bounds_at, bounds_of}
use Rattle.nest_tree.specs.Tree.{Expression, Expressions, number, loop_value, param, load, neg, add, sub, mul, div, least_of, greatest_of, one_more, Constant, Tree, param_values}
use Rattle.nest_tree.specs.View.{constant_of, declaration_of, expression_of, expressions_from}
use Rattle.nest_tree.specs.declared.tree.Access.{Access}
use Rattle.nest_tree.specs.declared.tree.Expr.{Expr}
use Rattle.nest_tree.specs.declared.tree.Guard.{Guard}
use Rattle.nest_tree.specs.declared.tree.Parameter.{Parameter}
use Rattle.nest_tree.specs.declared.tree.Variable.{Variable}
use Rattle.c_expressions.specs.CExpressions.{CExpression, call, constant, element, first_of, identifier, less, only, plus, times}
use Rattle.c_expressions.specs.Grammar.{Appends, Rank, Reads, in_parentheses, is_call, is_constant, is_difference, is_element, is_first, is_identifier, is_name, is_only, is_postfix, is_product, is_sum, is_term, is_unary, is_variable, postfix, product, sign_of, sum, unary}
use Rattle.c_expressions.specs.Names.{loop_name, own_cell, shared_cell}
use Rattle.c_expressions.specs.Numbers.{literal_of, word_of}
use Rattle.c_expressions.specs.Sums.{AppendsNumber, AppendsSum, SumsUp, form_at, place_at}
use Rattle.c_expressions.specs.Told.{AppendsAccess, AppendsChoice, AppendsComparison, AppendsValue, Chooses, chooses_first, chooses_more, chooses_none, is_looser, is_own, opens, place_of_first, rank_of, says_add, says_div, says_element, says_greatest, says_least, says_load, says_loop, says_mul, says_neg, says_number, says_param, says_scalar, says_sub, scalar_cell, with_last}
use Rattle.c_expressions.specs.declared.sum.Sum as summed
use Rattle.c_expressions.specs.declared.place.Place.{Place}
use Rattle.c_expressions.specs.declared.place.Place.TheVariants.{Sum, Product, Factor}
use Rattle.c_expressions.proofs.Appending.{assoc_bytes, between}
use Rattle.c_expressions.proofs.Spelled.{own_cell_is, shared_array_is, shared_cell_is}

-- ---- places

grouped : (old m n new : List ℕ) (a : CExpression) → m ≡ old ++ codes "(" → Appends m n sum a → new ≡ n ++ codes ")" → Appends old new postfix a
grouped old m n new a e x f = record { text = (codes "(" ++ x.text) ++ codes ")"; appended = between old m n new (codes "(") x.text (codes ")") e x.appended f; reads = in_parentheses x.reads }

bare : (old m n new : List ℕ) (r : Rank) (a : CExpression) → m ≡ old ++ [] → Appends m n r a → new ≡ n ++ [] → Appends old new r a
bare old m n new r a e x f = record { text = x.text; appended = f ∙ append-nil n ∙ x.appended ∙ ap (λ z. z ++ x.text) (e ∙ append-nil old); reads = x.reads }

looser : (old new : List ℕ) (r s : Rank) (a : CExpression) → ((text : List ℕ) → Reads r text a → Reads s text a) → Appends old new r a → Appends old new s a
looser old new r s a h x = record { text = x.text; appended = x.appended; reads = h x.text x.reads }

pub parenthesized : (inner place : Place) (old m n new : List ℕ) (a : CExpression) → m ≡ old ++ (if is_looser inner place then codes "(" else []) → Appends m n (rank_of inner) a →
    new ≡ n ++ (if is_looser inner place then codes ")" else []) → Appends old new (rank_of place) a
parenthesized Sum Sum old m n new a e x f = bare old m n new sum a e x f
parenthesized Sum Product old m n new a e x f = looser old new postfix product a (λ t r. is_unary (is_postfix r)) (grouped old m n new a e x f)
parenthesized Sum Factor old m n new a e x f = looser old new postfix unary a (λ t r. is_postfix r) (grouped old m n new a e x f)
parenthesized Product Sum old m n new a e x f = looser old new product sum a (λ t r. is_term r) (bare old m n new product a e x f)
parenthesized Product Product old m n new a e x f = bare old m n new product a e x f
parenthesized Product Factor old m n new a e x f = looser old new postfix unary a (λ t r. is_postfix r) (grouped old m n new a e (looser m n product sum a (λ t r. is_term r) x) f)
parenthesized Factor Sum old m n new a e x f = looser old new unary sum a (λ t r. is_term (is_unary r)) (bare old m n new unary a e x f)
parenthesized Factor Product old m n new a e x f = looser old new unary product a (λ t r. is_unary r) (bare old m n new unary a e x f)
parenthesized Factor Factor old m n new a e x f = bare old m n new unary a e x f

in_place : (place : Place) (old new : List ℕ) (a : CExpression) → Appends old new postfix a → Appends old new (rank_of place) a
in_place Sum old new a x = looser old new postfix sum a (λ t r. is_term (is_unary (is_postfix r))) x
in_place Product old new a x = looser old new postfix product a (λ t r. is_unary (is_postfix r)) x
in_place Factor old new a x = looser old new postfix unary a (λ t r. is_postfix r) x

from_unary : (place : Place) (old new : List ℕ) (a : CExpression) → Appends old new unary a → Appends old new (rank_of place) a
from_unary Sum old new a x = looser old new unary sum a (λ t r. is_term (is_unary r)) x
from_unary Product old new a x = looser old new unary product a (λ t r. is_unary r) x
from_unary Factor old new a x = x

-- ---- two operands

sum_appends : (old m n new : List ℕ) (a b : CExpression) → Appends old m sum a → n ≡ m ++ codes " + " → Appends n new product b → Appends old new sum (plus a b)
sum_appends old m n new a b x e y = record { text = (x.text ++ codes " + ") ++ y.text; appended = between old m n new x.text (codes " + ") y.text x.appended e y.appended; reads = is_sum x.reads y.reads }

difference_appends : (old m n new : List ℕ) (a b : CExpression) → Appends old m sum a → n ≡ m ++ codes " - " → Appends n new product b → Appends old new sum (less a b)
difference_appends old m n new a b x e y = record { text = (x.text ++ codes " - ") ++ y.text; appended = between old m n new x.text (codes " - ") y.text x.appended e y.appended; reads = is_difference x.reads y.reads }

product_appends : (old m n new : List ℕ) (a b : CExpression) → Appends old m product a → n ≡ m ++ codes "*" → Appends n new unary b → Appends old new product (times a b)
product_appends old m n new a b x e y = record { text = (x.text ++ codes "*") ++ y.text; appended = between old m n new x.text (codes "*") y.text x.appended e y.appended; reads = is_product x.reads y.reads }

zero_appends : (old m : List ℕ) → m ≡ old ++ codes "0 - " → (new : List ℕ) (b : CExpression) → Appends m new product b → Appends old new sum (less (constant 0) b)
zero_appends old m e new b y = record {
  text = (codes "0" ++ codes " - ") ++ y.text;
  appended = y.appended ∙ ap (λ z. z ++ y.text) e ∙ assoc_bytes old (codes "0 - ") y.text;
  reads = is_difference (is_term (is_unary (is_postfix zero_reads))) y.reads;
}
  where
    zero_reads : Reads postfix (codes "0") (constant 0)
    zero_reads = subst (λ t. Reads postfix t (constant 0)) (decimal_digit 0 (omega arith)) (is_constant 0 (omega arith))

two_arguments : (word old m n o p new : List ℕ) (a b : CExpression) → IsTrue (is_name word) → m ≡ old ++ (word ++ codes "(") → Appends m n sum a → o ≡ n ++ codes ", " → Appends o p sum b → new ≡ p ++ codes ")" →
    Appends old new postfix (call word (first_of a (only b)))
two_arguments word old m n o p new a b good e x f y g = record {
  text = (word ++ codes "(" ++ (x.text ++ codes ", " ++ y.text)) ++ codes ")";
  appended = g ∙ ap (λ z. z ++ codes ")") (y.appended ∙ ap (λ z. z ++ y.text) (f ∙ ap (λ z. z ++ codes ", ") (x.appended ∙ ap (λ z. z ++ x.text) e))) ∙ regroup old word (codes "(") x.text (codes ", ") y.text (codes ")");
  reads = is_call good (is_first x.reads (is_only y.reads));
}
  where
    regroup : (a b c d e f g : List ℕ) → ((((a ++ (b ++ c)) ++ d) ++ e) ++ f) ++ g ≡ a ++ (((b ++ c) ++ ((d ++ e) ++ f)) ++ g)
    regroup a b c d e f g = simp append_assoc

-- ---- what stands for what

to_sum : {text : List ℕ} {a : CExpression} (place : Place) → Reads (rank_of place) text a → Reads sum text a
to_sum Sum r = r
to_sum Product r = is_term r
to_sum Factor r = is_term (is_unary r)

from_postfix : {text : List ℕ} {a : CExpression} (place : Place) → Reads postfix text a → Reads (rank_of place) text a
from_postfix Sum r = is_term (is_unary (is_postfix r))
from_postfix Product r = is_unary (is_postfix r)
from_postfix Factor r = is_postfix r

expressions_from-more : (es : List Expr) (e : Expr) → expressions_from (es ++ e ∷ []) ≡ with_last (expressions_from es) (expression_of e)
expressions_from-more [] e = refl
expressions_from-more (x ∷ es) e = ap (one_more (expression_of x)) (expressions_from-more es e)

pub taken_first : (xs rest : List Expr) (first : Expr) → xs ≡ first ∷ rest → take 1 xs ≡ first ∷ []
taken_first xs rest first is = ap (take 1) is

pub taken_more : (xs rest : List Expr) (first e : Expr) (i : ℕ) → xs ≡ first ∷ rest → i < length rest → e ≡ get_or rest i e → take (i + 1) xs ++ e ∷ [] ≡ take (i + 1 + 1) xs
taken_more xs rest first e i is lt at =
    ap (λ ys. ys ++ e ∷ []) (take-cons xs rest first i is)
    ∙ sym (take-cons xs rest first (i + 1) is ∙ ap (λ es. first ∷ es) (take_more rest i e lt ∙ ap (λ x. take i rest ++ x ∷ []) (sym at)))

-- the bounds of a variable, and the value of a named constant
pub bounds_found : (vs : List Variable) (k : ℕ) (v : Variable) → slice_get vs k ≡ Some v → bounds_at (map declaration_of vs) k ≡ v.bounds.items
bounds_found [] k v e = cc
bounds_found (x ∷ vs) zero v e = let is : x ≡ v = cc in ap (λ (y : Variable). y.bounds.items) is
bounds_found (x ∷ vs) (suc k) v e = bounds_found vs k v e

pub bounds_none : (vs : List Variable) (k : ℕ) → slice_get vs k ≡ None → bounds_at (map declaration_of vs) k ≡ []
bounds_none [] k e = refl
bounds_none (x ∷ vs) zero e = cc
bounds_none (x ∷ vs) (suc k) e = bounds_none vs k e

pub constant_found : (ps : List Parameter) (k : ℕ) (p : Parameter) → slice_get ps k ≡ Some p → slice_index_or (map (λ (c : Constant). c.value) (map constant_of ps)) k (pos 0) ≡ p.value
constant_found [] k p e = cc
constant_found (x ∷ ps) zero p e = let is : x ≡ p = cc in ap (λ (y : Parameter). y.value) is
constant_found (x ∷ ps) (suc k) p e = constant_found ps k p e

module _ (tree : Tree) (privates : List ℕ) where
  pub scalar_told : (access : Access) (old new : List ℕ) → access.subscripts ≡ [] → new ≡ old ++ scalar_cell tree privates access.variable → AppendsAccess tree privates access old new
  scalar_told access old new none e = record { expression = identifier (scalar_cell tree privates access.variable); says = says_scalar none; appends = record { text = scalar_cell tree privates access.variable; appended = e; reads = is_identifier named } }
    where
      named : IsTrue (is_variable (scalar_cell tree privates access.variable))
      named = elim (is_own privates access.variable) as (λ b. IsTrue (is_variable (if b then own_cell tree access.variable else shared_cell tree access.variable)))
          [ true ↦ own_cell_is tree access.variable | false ↦ shared_cell_is tree access.variable ]

  pub number_told : (z : ℤ) (place : Place) (old new : List ℕ) → Appends old new postfix (word_of (literal_of z)) → AppendsValue tree privates (number z) place old new
  number_told z place old new x = record { expression = word_of (literal_of z); says = says_number; appends = in_place place old new _ x }

  pub param_told : (n : ℕ) (place : Place) (old new : List ℕ) → Appends old new postfix (word_of (literal_of (numbered (param_values tree) n))) → AppendsValue tree privates (param n) place old new
  param_told n place old new x = record { expression = word_of (literal_of (numbered (param_values tree) n)); says = says_param; appends = in_place place old new _ x }

  pub loop_told : (n : ℕ) (place : Place) (old new : List ℕ) → Appends old new postfix (word_of (identifier (loop_name n))) → AppendsValue tree privates (loop_value n) place old new
  loop_told n place old new x = record { expression = word_of (identifier (loop_name n)); says = says_loop; appends = in_place place old new _ x }

  pub load_told : (access : Access) (place : Place) (old new : List ℕ) → AppendsAccess tree privates access old new → AppendsValue tree privates (load access) place old new
  load_told access place old new x = record { expression = x.expression; says = says_load x.says; appends = in_place place old new x.expression x.appends }

  pub neg_told : (e : Expression) (place : Place) (old m n o new : List ℕ) → m ≡ old ++ (if is_looser Sum place then codes "(" else []) → n ≡ m ++ codes "0 - " → AppendsValue tree privates e Product n o →
      new ≡ o ++ (if is_looser Sum place then codes ")" else []) → AppendsValue tree privates (neg e) place old new
  neg_told e place old m n o new f g x h = record { expression = less (constant 0) x.expression; says = says_neg x.says; appends = parenthesized Sum place old m o new _ f (zero_appends m n g o x.expression x.appends) h }

  pub add_told : (e f : Expression) (place : Place) (old m n o p new : List ℕ) → m ≡ old ++ (if is_looser Sum place then codes "(" else []) → AppendsValue tree privates e Sum m n → o ≡ n ++ codes " + " → AppendsValue tree privates f Product o p →
      new ≡ p ++ (if is_looser Sum place then codes ")" else []) → AppendsValue tree privates (add e f) place old new
  add_told e f place old m n o p new g x h y i = record { expression = plus x.expression y.expression; says = says_add x.says y.says; appends = parenthesized Sum place old m p new _ g (sum_appends m n o p x.expression y.expression x.appends h y.appends) i }

  pub sub_told : (e f : Expression) (place : Place) (old m n o p new : List ℕ) → m ≡ old ++ (if is_looser Sum place then codes "(" else []) → AppendsValue tree privates e Sum m n → o ≡ n ++ codes " - " → AppendsValue tree privates f Product o p →
      new ≡ p ++ (if is_looser Sum place then codes ")" else []) → AppendsValue tree privates (sub e f) place old new
  sub_told e f place old m n o p new g x h y i = record { expression = less x.expression y.expression; says = says_sub x.says y.says; appends = parenthesized Sum place old m p new _ g (difference_appends m n o p x.expression y.expression x.appends h y.appends) i }

  pub mul_told : (e f : Expression) (place : Place) (old m n o p new : List ℕ) → m ≡ old ++ (if is_looser Product place then codes "(" else []) → AppendsValue tree privates e Product m n → o ≡ n ++ codes "*" → AppendsValue tree privates f Factor o p →
      new ≡ p ++ (if is_looser Product place then codes ")" else []) → AppendsValue tree privates (mul e f) place old new
  mul_told e f place old m n o p new g x h y i = record { expression = times x.expression y.expression; says = says_mul x.says y.says; appends = parenthesized Product place old m p new _ g (product_appends m n o p x.expression y.expression x.appends h y.appends) i }

  pub div_told : (e : Expression) (z : ℤ) (place : Place) (old m n o p new : List ℕ) → m ≡ old ++ codes "over(" → AppendsValue tree privates e Sum m n → o ≡ n ++ codes ", " → Appends o p unary (literal_of z) → new ≡ p ++ codes ")" → AppendsValue tree privates (div e z) place old new
  div_told e z place old m n o p new f x g y h = record {
    expression = call (codes "over") (first_of x.expression (only (literal_of z)));
    says = says_div x.says;
    appends = in_place place old new _ (two_arguments (codes "over") old m n o p new x.expression (literal_of z) refl f x.appends g (looser o p unary sum _ (λ t r. is_term (is_unary r)) y) h);
  }

  pub least_told : (arguments : Expressions) (place : Place) (old new : List ℕ) → AppendsChoice tree privates (codes "least") arguments old new → AppendsValue tree privates (least_of arguments) place old new
  least_told arguments place old new x = record { expression = x.expression; says = says_least x.says; appends = from_unary place old new x.expression x.appends }

  pub greatest_told : (arguments : Expressions) (place : Place) (old new : List ℕ) → AppendsChoice tree privates (codes "greatest") arguments old new → AppendsValue tree privates (greatest_of arguments) place old new
  greatest_told arguments place old new x = record { expression = x.expression; says = says_greatest x.says; appends = from_unary place old new x.expression x.appends }

  pub element_told : (s : summed.Sum) (access : Access) (old m n o new : List ℕ) → 0 < length access.subscripts → m ≡ old ++ shared_cell tree access.variable → n ≡ m ++ codes "[" → AppendsSum s n o →
      SumsUp s (place_at (param_values tree) (pos 1) access.subscripts (bounds_of tree access.variable)) → new ≡ o ++ codes "]" → AppendsAccess tree privates access old new
  element_told s access old m n o new some e f x u g = record {
    expression = element (shared_cell tree access.variable) x.expression;
    says = says_element some (x.comes (place_at (param_values tree) (pos 1) access.subscripts (bounds_of tree access.variable)) u);
    appends = record {
      text = ((shared_cell tree access.variable ++ codes "[") ++ x.appends.text) ++ codes "]";
      appended = g ∙ ap (λ z. z ++ codes "]") (x.appends.appended ∙ ap (λ z. z ++ x.appends.text) (f ∙ ap (λ z. z ++ codes "[") e)) ∙ regroup old (shared_cell tree access.variable) (codes "[") x.appends.text (codes "]");
      reads = is_element (shared_array_is tree access.variable) x.appends.reads;
    };
  }
    where
      regroup : (a b c d e : List ℕ) → (((a ++ b) ++ c) ++ d) ++ e ≡ a ++ (((b ++ c) ++ d) ++ e)
      regroup a b c d e = simp append_assoc

  pub comparison_told : (guard : Guard) (old m n new : List ℕ) → AppendsNumber old m (form_at (param_values tree) guard.left) → n ≡ m ++ sign_of guard.op → AppendsNumber n new (form_at (param_values tree) guard.right) → AppendsComparison tree guard old new
  comparison_told guard old m n new x e y = record {
    left = x.expression;
    right = y.expression;
    text = (x.appends.text ++ sign_of guard.op) ++ y.appends.text;
    appended = between old m n new x.appends.text (sign_of guard.op) y.appends.text x.appends.appended e y.appends.appended;
    compares = record { front = x.appends.text; behind = y.appends.text; is = refl; left = x.appends.reads; right = y.appends.reads };
    left_comes = x.comes;
    right_comes = y.comes;
  }

  -- of arguments, what is chosen so far, behind so many calls that are begun
  pub record ChosenSoFar (of : List ℕ) (so_far : List Expr) (left : ℕ) (start now : List ℕ) : Type 0 where
    pub expression : CExpression
    pub says : Chooses tree privates of (expressions_from so_far) expression
    pub text : List ℕ
    pub appended : now ≡ start ++ (opens of left ++ text)
    pub reads : Reads (rank_of (place_of_first left)) text expression

  pub chosen_first : (of : List ℕ) (e : Expr) (left : ℕ) (start m new : List ℕ) → m ≡ start ++ opens of left → AppendsValue tree privates (expression_of e) (place_of_first left) m new → ChosenSoFar of (e ∷ []) left start new
  chosen_first of e left start m new f x = record {
    expression = x.expression;
    says = chooses_first x.says;
    text = x.appends.text;
    appended = x.appends.appended ∙ ap (λ z. z ++ x.appends.text) f ∙ assoc_bytes start (opens of left) x.appends.text;
    reads = x.appends.reads;
  }

  pub chosen_next : (of : List ℕ) (so_far : List Expr) (e : Expr) (left : ℕ) (start now m n new : List ℕ) → IsTrue (is_name of) → ChosenSoFar of so_far (suc left) start now → m ≡ now ++ codes ", " → AppendsValue tree privates (expression_of e) Sum m n → new ≡ n ++ codes ")" →
      ChosenSoFar of (so_far ++ e ∷ []) left start new
  chosen_next of so_far e left start now m n new good s f x g = record {
    expression = call of (first_of s.expression (only x.expression));
    says = subst (λ es. Chooses tree privates of es (call of (first_of s.expression (only x.expression)))) (sym (expressions_from-more so_far e)) (chooses_more s.says x.says);
    text = (of ++ codes "(" ++ (s.text ++ codes ", " ++ x.appends.text)) ++ codes ")";
    appended = g ∙ ap (λ z. z ++ codes ")") (x.appends.appended ∙ ap (λ z. z ++ x.appends.text) (f ∙ ap (λ z. z ++ codes ", ") s.appended)) ∙ regroup start (opens of left) of (codes "(") s.text (codes ", ") x.appends.text (codes ")");
    reads = from_postfix (place_of_first left) (is_call good (is_first (to_sum (place_of_first (suc left)) s.reads) (is_only x.appends.reads)));
  }
    where
      regroup : (a b c d e f g h : List ℕ) → (((a ++ ((b ++ (c ++ d)) ++ e)) ++ f) ++ g) ++ h ≡ a ++ (b ++ (((c ++ d) ++ ((e ++ f) ++ g)) ++ h))
      regroup a b c d e f g h = simp append_assoc

  pub chosen_all : (of : List ℕ) (so_far arguments : List Expr) (left : ℕ) (start now : List ℕ) → so_far ≡ arguments → left ≡ 0 → ChosenSoFar of so_far left start now → AppendsChoice tree privates of (expressions_from arguments) start now
  chosen_all of so_far arguments left start now all none s = subst (λ es. AppendsChoice tree privates of (expressions_from es) start now) all (record {
    expression = s.expression;
    says = s.says;
    appends = record {
      text = s.text;
      appended = s.appended ∙ ap (λ k. start ++ (opens of k ++ s.text)) none;
      reads = subst (λ k. Reads (rank_of (place_of_first k)) s.text s.expression) none s.reads;
    };
  })

  pub chosen_none : (of : List ℕ) (arguments : List Expr) (old new : List ℕ) → arguments ≡ [] → new ≡ old ++ codes "0" → AppendsChoice tree privates of (expressions_from arguments) old new
  chosen_none of arguments old new none e = subst (λ es. AppendsChoice tree privates of (expressions_from es) old new) (sym none) (record {
    expression = constant 0;
    says = chooses_none;
    appends = record { text = codes "0"; appended = e; reads = is_postfix zero_is };
  })
    where
      zero_is : Reads postfix (codes "0") (constant 0)
      zero_is = subst (λ t. Reads postfix t (constant 0)) (decimal_digit 0 (omega arith)) (is_constant 0 (omega arith))
