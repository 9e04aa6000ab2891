-- Named constants have values of 64 bits.
use Rattle.std.proofs.Common.{◌≡◌, ℕ, ◌≤◌, nat_lt, nat_le, ℤ, pos, negsuc, ◌+ℤ◌, ◌-ℤ◌, ◌*ℤ◌, int_le, int_div, Bool, true, false, ◌&&◌, List, [], ◌∷◌, length, if◌then◌else◌, Option, Some, None, Result, Ok, Err, FitsSigned, w64, codes, refl, ap, ◌∙◌, arith}
use Rattle.std.proofs.lemmas.Bool.{and_from, and_parts}
use Rattle.std.proofs.lemmas.Bool.Decides.{nat_tests}
use Rattle.std.proofs.lemmas.Int.{ints, SFits-int_wrap}
use Rattle.std.proofs.lemmas.List.Folds.{list_all-append}
use Rattle.std.specs.List.{list_all}
use Rattle.std.specs.Str.{bytes_eq}
use Rattle.nest_tree.specs.Tree.{Constant}
use Rattle.nest_tree.specs.Values.{wrapped}
use Rattle.nest_tree.specs.WellFormed.{is_value, is_good_constant}
use Rattle.f77_forms.proofs.Answered.{read-form}
use Rattle.f77_forms.specs.Characters.{is_digit, is_number, is_name, decimal}
use Rattle.f77_forms.specs.declared.fault.TextFault.{TextFault}
use Rattle.f77_forms.specs.declared.form.Operator.{Operator}
use Rattle.f77_forms.specs.declared.form.Operator.TheVariants.{Add, Subtract, Multiply, Divide}
use Rattle.f77_forms.specs.declared.form.Sign.{Sign}
use Rattle.f77_forms.specs.declared.form.Sign.TheVariants.{Plus, Minus}
use Rattle.f77_forms.specs.Form.{ExpressionForm, number, name, call, parenthesized, signed, binary, ArgumentForms, no_more, one_more, DefinitionForm, StatementForm, program, integer, dimension, parameter, do_loop, assign, logical_if, print, continue, stop, end}
use Rattle.f77_forms.specs.Statements.{statement_at}
use Rattle.f77_forms.specs.Text.{Rank, sum, term, is_sum_rank, is_expression, are_expressions, is_definition, is_statement}
use Rattle.f77_lines.specs.Statements.{Entry, statement, directive}
use Rattle.f77_scene.specs.Behind.{behind}
use Rattle.f77_scene.specs.Expressions.{value_of, value_among, sign_value, operator_value, chosen}
use Rattle.f77_scene.specs.Reading.{SourceStatement, statements_in, reading_with, reading_of, scene_with, scene_from}
use Rattle.f77_scene.specs.Scene.{Name, Scene, Given, value_named}
use Rattle.f77_scene.specs.Statements.{value_set, with_constant, with_constants}
use Rattle.f77_source.proofs.Folded.{scene_from-more, scene_from-none}

fits_value : (z : ℤ) → FitsSigned w64 z → is_value z ≡ true
fits_value (pos n) h = (let few : n ≤ 9223372036854775807 = omega (arith, ints) in grind (arith, nat_tests))
fits_value (negsuc n) h = (let few : n ≤ 9223372036854775807 = omega (arith, ints) in grind (arith, nat_tests))

wrapped_value : (z : ℤ) → is_value (wrapped z) ≡ true
wrapped_value z = fits_value (wrapped z) (SFits-int_wrap w64 z)

pub number_value : (ds : List ℕ) → is_number ds ≡ true → is_value (pos (decimal ds)) ≡ true
number_value [] h = absurd cc
number_value (d ∷ ds) h = (and_parts (is_digit d && list_all is_digit ds) (nat_le (decimal (d ∷ ds)) 9223372036854775807) h).1

named_value : (constants : List Constant) (n : Name) → list_all is_good_constant constants ≡ true → is_value (value_named constants n) ≡ true
named_value [] n h = refl
named_value (c ∷ constants) n h = (let both = and_parts (is_value c.value) (list_all is_good_constant constants) h in by_test (bytes_eq c.name n) both.0 (named_value constants n both.1))
  where
    by_test : (b : Bool) → is_value c.value ≡ true → is_value (value_named constants n) ≡ true → is_value (if b then c.value else value_named constants n) ≡ true
    by_test true here rest = here
    by_test false here rest = rest

chosen_value : (n : Name) (a b : ℤ) → is_value a ≡ true → is_value b ≡ true → is_value (chosen n a b) ≡ true
chosen_value n a b x y = by_test (bytes_eq n (codes "MIN")) (int_le a b)
  where
    by_test : (m t : Bool) → is_value (if m then (if t then a else b) else (if t then b else a)) ≡ true
    by_test true true = x
    by_test true false = y
    by_test false true = y
    by_test false false = x

signed_value : (sign : Sign) (a : ℤ) → is_value a ≡ true → is_value (sign_value sign a) ≡ true
signed_value Plus a h = h
signed_value Minus a h = wrapped_value (pos 0 -ℤ a)

binary_value : (op : Operator) (a b : ℤ) → is_value (operator_value op a b) ≡ true
binary_value Add a b = wrapped_value (a +ℤ b)
binary_value Subtract a b = wrapped_value (a -ℤ b)
binary_value Multiply a b = wrapped_value (a *ℤ b)
binary_value Divide a b = wrapped_value (int_div a b)

mutual
  pub expression_value : (s : Scene) (r : Rank) (e : ExpressionForm) → is_expression r e ≡ true → list_all is_good_constant s.constants ≡ true → is_value (value_of s e) ≡ true
  expression_value s r (number ds) g h = number_value ds g
  expression_value s r (name n) g h = named_value s.constants n h
  expression_value s r (call n no_more) g h = refl
  expression_value s r (call n (one_more e rest)) g h =
      let both = and_parts (is_expression sum e) (are_expressions rest) (and_parts (is_name n && true) (is_expression sum e && are_expressions rest) g).1 in
      arguments_value s n (value_of s e) rest both.1 h (expression_value s sum e both.0 h)
  expression_value s r (parenthesized e) g h = expression_value s sum e g h
  expression_value s r (signed sign e) g h = signed_value sign (value_of s e) (expression_value s term e (and_parts (is_sum_rank r) (is_expression term e) g).1 h)
  expression_value s r (binary op a b) g h = binary_value op (value_of s a) (value_of s b)

  arguments_value : (s : Scene) (n : Name) (z : ℤ) (es : ArgumentForms) → are_expressions es ≡ true → list_all is_good_constant s.constants ≡ true → is_value z ≡ true → is_value (value_among s n z es) ≡ true
  arguments_value s n z no_more g h v = v
  arguments_value s n z (one_more e rest) g h v =
      let both = and_parts (is_expression sum e) (are_expressions rest) g in
      arguments_value s n (chosen n z (value_of s e)) rest both.1 h (chosen_value n z (value_of s e) v (expression_value s sum e both.0 h))

-- ---- settings

abbrev pub AreValues : List (Name × ℤ) → Type 0
AreValues settings = list_all (λ (x : Name × ℤ). is_value x.1) settings ≡ true

set_value : (settings : List (Name × ℤ)) (n : Name) (written : ℤ) → AreValues settings → is_value written ≡ true → is_value (value_set settings n written) ≡ true
set_value [] n written vs h = h
set_value (x ∷ settings) n written vs h =
    let both = and_parts (is_value x.1) (list_all (λ (y : Name × ℤ). is_value y.1) settings) vs in
    set_value settings n (if bytes_eq x.0 n then x.1 else written) both.1 (by_test (bytes_eq x.0 n) both.0)
  where
    by_test : (b : Bool) → is_value x.1 ≡ true → is_value (if b then x.1 else written) ≡ true
    by_test true v = v
    by_test false v = h

defined_values : (given : Given) (s : Scene) (ds : List DefinitionForm) → AreValues given.settings → list_all is_definition ds ≡ true → list_all is_good_constant s.constants ≡ true
    → list_all is_good_constant (with_constants given s ds).constants ≡ true
defined_values given s [] vs g h = h
defined_values given s (d ∷ ds) vs g h =
    let both = and_parts (is_definition d) (list_all is_definition ds) g in
    let value = expression_value s sum d.value (and_parts (is_name d.name) (is_expression sum d.value) both.0).1 h in
    let z : ℤ = value_set given.settings d.name (value_of s d.value) in
    let c : Constant = record { name = d.name; value = z } in
    let one : list_all is_good_constant (c ∷ []) ≡ true = and_from (is_value z) true (set_value given.settings d.name (value_of s d.value) vs value) refl in
    defined_values given (with_constant given s d) ds vs both.1 (list_all-append is_good_constant s.constants (c ∷ []) ∙ and_from (list_all is_good_constant s.constants) (list_all is_good_constant (c ∷ [])) h one)

pub behind_values : (given : Given) (s : Scene) (label : ℕ) (f : StatementForm) → AreValues given.settings → is_statement f ≡ true → list_all is_good_constant s.constants ≡ true
    → list_all is_good_constant (behind given s label f).constants ≡ true
behind_values given s label (program n) vs g h = h
behind_values given s label (integer ds) vs g h = h
behind_values given s label (dimension ds) vs g h = h
behind_values given s label (parameter ds) vs g h = defined_values given s ds vs (and_parts (nat_lt 0 (length ds)) (list_all is_definition ds) g).1 h
behind_values given s label (do_loop d) vs g h = h
behind_values given s label (assign a) vs g h = h
behind_values given s label (logical_if c a) vs g h = h
behind_values given s label (print items) vs g h = h
behind_values given s label continue vs g h = h
behind_values given s label stop vs g h = h
behind_values given s label end vs g h = h

-- ---- all statements

-- a form is one that a statement may have
abbrev pub IsSpoken : Result StatementForm TextFault → Type 0
IsSpoken (Ok f) = is_statement f ≡ true
IsSpoken (Err fault) = Unit {0}

abbrev pub AreSpoken : List SourceStatement → Type 0
AreSpoken [] = Unit {0}
AreSpoken (p ∷ ps) = IsSpoken p.reading × AreSpoken ps

spoken : (text : List ℕ) → IsSpoken (reading_of text)
spoken text = by_option (statement_at text) refl
  where
    by_option : (o : Option StatementForm) → statement_at text ≡ o → IsSpoken (reading_with text o)
    by_option (Some f) e = (read-form text f e).good
    by_option None e = tt

pub all_spoken : (entries : List Entry) → AreSpoken (statements_in entries)
unfolding statements_in
all_spoken [] = tt
all_spoken (statement line label text ∷ entries) = (spoken text, all_spoken entries)
all_spoken (directive line text ∷ entries) = all_spoken entries

with_values : (given : Given) (s : Scene) (label : ℕ) (r : Result StatementForm TextFault) → AreValues given.settings → IsSpoken r → list_all is_good_constant s.constants ≡ true
    → list_all is_good_constant (scene_with given s label r).constants ≡ true
with_values given s label (Ok f) vs g h = behind_values given s label f vs g h
with_values given s label (Err fault) vs g h = h

pub from_values : (given : Given) (s : Scene) (ps : List SourceStatement) → AreValues given.settings → AreSpoken ps → list_all is_good_constant s.constants ≡ true
    → list_all is_good_constant (scene_from given s ps).constants ≡ true
from_values given s [] vs g h = ap (λ (x : Scene). list_all is_good_constant x.constants) (scene_from-none given s) ∙ h
from_values given s (p ∷ ps) vs g h =
    ap (λ (x : Scene). list_all is_good_constant x.constants) (scene_from-more given s p ps) ∙ from_values given (scene_with given s p.label p.reading) ps vs g.1 (with_values given s p.label p.reading vs g.0 h)
