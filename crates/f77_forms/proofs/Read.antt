-- What is written is read: the text of an expression takes the reader to a state that holds the expression.
use Rattle.std.proofs.Common.{◌≡◌, ℕ, Bool, true, false, ◌&&◌, List, [], ◌∷◌, ◌++◌, length, Some, None, refl, sym, ap, ◌∙◌, append_assoc, append-nil, arith}
use Rattle.std.specs.Prelude.{◌||◌, not, nat_le}
use Rattle.std.specs.List.{list_all}
use Rattle.std.proofs.lemmas.Bool.Decides.{nat_tests}
use Rattle.f77_forms.specs.declared.form.Sign.{Sign}
use Rattle.f77_forms.specs.declared.form.Sign.TheVariants.{Plus, Minus}
use Rattle.f77_forms.specs.declared.form.Operator.{Operator}
use Rattle.f77_forms.specs.declared.form.Operator.TheVariants.{Add, Subtract, Multiply, Divide}
use Rattle.f77_forms.specs.Characters.{is_digit, is_capital, is_capital_or_digit, is_name, is_number, decimal}
use Rattle.f77_forms.specs.Form.{ExpressionForm, number, name, call, parenthesized, signed, binary, ArgumentForms, no_more, one_more, arguments_in}
use Rattle.f77_forms.specs.Text.{sign_code, factor, term, sum, makes, is_expression, are_expressions, expression_text, arguments_text, operator_code}
use Rattle.f77_forms.specs.Reading.{PendingForm, nothing, lead, left, OpenerForm, pieces, group, arguments, bounds, LevelForm, bare, OperandForm, missing, word, whole, declarator, quoted, closed, StateForm, combined, is_missing, is_outermost, additive, word_value, operand_value, term_value, sum_value, pending_sum, add_step, multiply_step, opened, opener_at, open_step, opener_behind, separate_step, enclosed, left_to, close_step, symbol_step, letter_at, plain_step, step_at, step, run}

-- ---- words for states

abbrev pub at : List LevelForm → LevelForm → OperandForm → StateForm
at o l x = record { outer = o; level = l; operand = x }

abbrev pub waits : OpenerForm → PendingForm → PendingForm → LevelForm
waits opener s p = record { opener = opener; sum = s; product = p }

-- a word or a whole expression
abbrev pub is_plain : OperandForm → Bool
is_plain missing = false
is_plain (word w) = true
is_plain (whole e) = true
is_plain (declarator d) = false
is_plain (quoted cs) = false
is_plain (closed cs) = false

-- whether a parenthesis behind a name holds arguments
abbrev pub calls : OpenerForm → Bool
calls (pieces declares front separator) = not declares
calls group = true
calls (arguments n front) = true
calls (bounds n front lower) = true

-- ---- conjunctions

pub and_parts : (a b : Bool) → (a && b) ≡ true → (a ≡ true) × (b ≡ true)
and_parts true b h = (refl, h)
and_parts false b h = absurd cc

pub and_from : (a b : Bool) → a ≡ true → b ≡ true → (a && b) ≡ true
and_from a b h k = rw (h, k) refl

-- ---- words

letters-on : (w cs rest : List ℕ) (o : List LevelForm) (l : LevelForm) → list_all is_capital_or_digit cs ≡ true → run (at o l (word w)) (cs ++ rest) ≡ run (at o l (word (w ++ cs))) rest
unfolding run step step_at plain_step letter_at
letters-on w [] rest o l h = ap (λ x. run (at o l (word x)) rest) (sym (append-nil w))
letters-on w (c ∷ cs) rest o l h =
    let p = and_parts (is_capital_or_digit c) (list_all is_capital_or_digit cs) h in
    let on = letters-on (w ++ c ∷ []) cs rest o l p.1 in
    rw p.0 (on ∙ ap (λ x. run (at o l (word x)) rest) (append_assoc w (c ∷ []) cs))

-- a word of one character at least
pub letters-read : (c : ℕ) (cs rest : List ℕ) (o : List LevelForm) (l : LevelForm) → is_capital_or_digit c ≡ true → list_all is_capital_or_digit cs ≡ true → run (at o l missing) (c ∷ cs ++ rest) ≡ run (at o l (word (c ∷ cs))) rest
unfolding run step step_at plain_step letter_at
letters-read c cs rest o l h k = rw h (letters-on (c ∷ []) cs rest o l k)

pub capital-letter : (c : ℕ) → is_capital c ≡ true → is_capital_or_digit c ≡ true
capital-letter c h = rw h refl

pub digit-letter : (c : ℕ) → is_digit c ≡ true → is_capital_or_digit c ≡ true
digit-letter c h = either (is_capital c) h
  where
    either : (a : Bool) → is_digit c ≡ true → (a || is_digit c) ≡ true
    either true k = refl
    either false k = k

pub digits-letters : (cs : List ℕ) → list_all is_digit cs ≡ true → list_all is_capital_or_digit cs ≡ true
digits-letters [] h = refl
digits-letters (c ∷ cs) h =
    let p = and_parts (is_digit c) (list_all is_digit cs) h in
    and_from (is_capital_or_digit c) (list_all is_capital_or_digit cs) (digit-letter c p.0) (digits-letters cs p.1)

pub name-read : (n rest : List ℕ) (o : List LevelForm) (l : LevelForm) → is_name n ≡ true → run (at o l missing) (n ++ rest) ≡ run (at o l (word n)) rest
name-read [] rest o l h = absurd cc
name-read (c ∷ cs) rest o l h =
    let p = and_parts (is_capital c && nat_le (length cs) 5) (list_all is_capital_or_digit cs) h in
    let q = and_parts (is_capital c) (nat_le (length cs) 5) p.0 in
    letters-read c cs rest o l (capital-letter c q.0) p.1

pub number-read : (n rest : List ℕ) (o : List LevelForm) (l : LevelForm) → is_number n ≡ true → run (at o l missing) (n ++ rest) ≡ run (at o l (word n)) rest
number-read [] rest o l h = absurd cc
number-read (c ∷ cs) rest o l h =
    let p = and_parts (is_digit c && list_all is_digit cs) (nat_le (decimal (c ∷ cs)) 9223372036854775807) h in
    let q = and_parts (is_digit c) (list_all is_digit cs) p.0 in
    letters-read c cs rest o l (digit-letter c q.0) (digits-letters cs q.1)

-- ---- expressions

pub record FactorRead (e : ExpressionForm) : Type 0 where
  pub operand : OperandForm
  pub plain : is_plain operand ≡ true
  pub value : operand_value operand ≡ Some e
  pub runs : (o : List LevelForm) (l : LevelForm) (rest : List ℕ) → calls l.opener ≡ true → run (at o l missing) (expression_text e ++ rest) ≡ run (at o l operand) rest

pub record TermRead (e : ExpressionForm) : Type 0 where
  pub product : PendingForm
  pub operand : OperandForm
  pub plain : is_plain operand ≡ true
  pub value : term_value product operand ≡ Some e
  pub runs : (o : List LevelForm) (opener : OpenerForm) (s : PendingForm) (rest : List ℕ) → calls opener ≡ true → run (at o (waits opener s nothing) missing) (expression_text e ++ rest) ≡ run (at o (waits opener s product) operand) rest

pub record SumRead (e : ExpressionForm) : Type 0 where
  pub sum : PendingForm
  pub product : PendingForm
  pub operand : OperandForm
  pub plain : is_plain operand ≡ true
  pub value : sum_value sum product operand ≡ Some e
  pub runs : (o : List LevelForm) (opener : OpenerForm) (rest : List ℕ) → calls opener ≡ true → run (at o (bare opener) missing) (expression_text e ++ rest) ≡ run (at o (waits opener sum product) operand) rest

term_from : (e : ExpressionForm) → FactorRead e → TermRead e
unfolding term_value combined
term_from e f = record { product = nothing; operand = f.operand; plain = f.plain; value = rw f.value refl; runs = λ o opener s rest h. f.runs o (waits opener s nothing) rest h }

sum_from : (e : ExpressionForm) → TermRead e → SumRead e
unfolding sum_value combined
sum_from e t = record { sum = nothing; product = t.product; operand = t.operand; plain = t.plain; value = rw t.value refl; runs = λ o opener rest h. t.runs o opener nothing rest h }

-- what an expression of each rank is read as
pub record Reads (e : ExpressionForm) : Type 0 where
  pub as_factor : is_expression factor e ≡ true → FactorRead e
  pub as_term : is_expression term e ≡ true → TermRead e
  pub as_sum : is_expression sum e ≡ true → SumRead e

-- an expression that is a factor wherever it is one of any rank
from_factor : (e : ExpressionForm) → (is_expression factor e ≡ is_expression term e) → (is_expression factor e ≡ is_expression sum e) → (is_expression factor e ≡ true → FactorRead e) → Reads e
from_factor e t s f = record { as_factor = f; as_term = λ h. term_from e (f (t ∙ h)); as_sum = λ h. sum_from e (term_from e (f (s ∙ h))) }

from_term : (e : ExpressionForm) → (is_expression factor e ≡ true → FactorRead e) → (is_expression term e ≡ is_expression sum e) → (is_expression term e ≡ true → TermRead e) → Reads e
from_term e f s t = record { as_factor = f; as_term = t; as_sum = λ h. sum_from e (t (s ∙ h)) }

name-factor : (n : List ℕ) → is_name n ≡ true → FactorRead (name n)
unfolding operand_value word_value
name-factor n h = record { operand = word n; plain = refl; value = rw h refl; runs = λ o l rest k. name-read n rest o l h }

-- digits are no name
number-no_name : (n : List ℕ) → is_number n ≡ true → is_name n ≡ false
number-no_name [] h = refl
number-no_name (c ∷ cs) h =
    let p = and_parts (is_digit c && list_all is_digit cs) (nat_le (decimal (c ∷ cs)) 9223372036854775807) h in
    let q = and_parts (is_digit c) (list_all is_digit cs) p.0 in
    let no : is_capital c ≡ false = (let d = q.0 in grind (arith, nat_tests)) in
    rw no refl

number-factor : (n : List ℕ) → is_number n ≡ true → FactorRead (number n)
unfolding operand_value word_value
number-factor n h = record { operand = word n; plain = refl; value = rw (number-no_name n h, h) refl; runs = λ o l rest k. number-read n rest o l h }

-- ---- what follows an operand

plain-present : (x : OperandForm) → is_plain x ≡ true → is_missing x ≡ false
plain-present missing h = absurd cc
plain-present (word w) h = refl
plain-present (whole e) h = refl
plain-present (declarator d) h = refl
plain-present (quoted cs) h = refl
plain-present (closed cs) h = refl

plain-step : (x : OperandForm) (s : StateForm) (c : ℕ) → is_plain x ≡ true → step_at x s c ≡ plain_step s c
unfolding step_at
plain-step missing s c h = absurd cc
plain-step (word w) s c h = refl
plain-step (whole e) s c h = refl
plain-step (declarator d) s c h = absurd cc
plain-step (quoted cs) s c h = absurd cc
plain-step (closed cs) s c h = absurd cc

-- a character that is no letter or digit is a symbol behind a plain operand
pub plain-symbol : (s : StateForm) (c : ℕ) → is_plain s.operand ≡ true → is_capital_or_digit c ≡ false → step s c ≡ symbol_step s c
unfolding step plain_step
plain-symbol s c h k = plain-step s.operand s c h ∙ rw k refl

-- the text of a sum so far, and a sign
sign-read : (sign : Sign) (o : List LevelForm) (opener : OpenerForm) (s p : PendingForm) (x : OperandForm) (e : ExpressionForm) (rest : List ℕ) → is_plain x ≡ true → sum_value s p x ≡ Some e → run (at o (waits opener s p) x) (sign_code sign ∷ rest) ≡ run (at o (waits opener (left e (additive sign)) nothing) missing) rest
unfolding run symbol_step add_step pending_sum
sign-read Plus o opener s p x e rest h k = rw (plain-symbol (at o (waits opener s p) x) 43 h refl, plain-present x h, k) refl
sign-read Minus o opener s p x e rest h k = rw (plain-symbol (at o (waits opener s p) x) 45 h refl, plain-present x h, k) refl

-- a leading sign
lead-read : (sign : Sign) (o : List LevelForm) (opener : OpenerForm) (rest : List ℕ) → run (at o (bare opener) missing) (sign_code sign ∷ rest) ≡ run (at o (waits opener (lead sign) nothing) missing) rest
unfolding run step step_at plain_step symbol_step add_step pending_sum
lead-read Plus o opener rest = refl
lead-read Minus o opener rest = refl

-- a term so far, and an operator of its rank
star-read : (op : Operator) (o : List LevelForm) (opener : OpenerForm) (s p : PendingForm) (x : OperandForm) (e : ExpressionForm) (rest : List ℕ) → makes term op ≡ true → is_plain x ≡ true → term_value p x ≡ Some e → run (at o (waits opener s p) x) (operator_code op ∷ rest) ≡ run (at o (waits opener s (left e op)) missing) rest
unfolding run symbol_step multiply_step
star-read Add o opener s p x e rest t h k = absurd cc
star-read Subtract o opener s p x e rest t h k = absurd cc
star-read Multiply o opener s p x e rest t h k = rw (plain-symbol (at o (waits opener s p) x) 42 h refl, k) refl
star-read Divide o opener s p x e rest t h k = rw (plain-symbol (at o (waits opener s p) x) 47 h refl, k) refl

opens-call : (opener : OpenerForm) (n : List ℕ) → calls opener ≡ true → opened opener n ≡ arguments n []
unfolding opened
opens-call (pieces true front separator) n k = absurd cc
opens-call (pieces false front separator) n k = refl
opens-call group n k = refl
opens-call (arguments m front) n k = refl
opens-call (bounds m front lower) n k = refl

-- a parenthesis behind a name, and one in front of an expression
pub call-read : (n : List ℕ) (o : List LevelForm) (l : LevelForm) (rest : List ℕ) → is_name n ≡ true → calls l.opener ≡ true → run (at o l (word n)) (40 ∷ rest) ≡ run (at (l ∷ o) (bare (arguments n [])) missing) rest
unfolding run step step_at plain_step symbol_step open_step opener_at
call-read n o l rest h k = rw (h, opens-call l.opener n k) refl

group-read : (o : List LevelForm) (l : LevelForm) (rest : List ℕ) → run (at o l missing) (40 ∷ rest) ≡ run (at (l ∷ o) (bare group) missing) rest
unfolding run step step_at plain_step symbol_step open_step opener_at
group-read o l rest = refl

-- the parenthesis that ends a level
pub close-read : (o : List LevelForm) (l : LevelForm) (opener : OpenerForm) (s p : PendingForm) (x : OperandForm) (e : ExpressionForm) (rest : List ℕ) → is_outermost opener ≡ false → is_plain x ≡ true → sum_value s p x ≡ Some e → run (at (l ∷ o) (waits opener s p) x) (41 ∷ rest) ≡ run (at o l (enclosed opener e)) rest
unfolding run symbol_step close_step left_to
close-read o l opener s p x e rest inner h k = rw (plain-symbol (at (l ∷ o) (waits opener s p) x) 41 h refl, inner, k) refl

-- a comma among arguments
comma-read : (n : List ℕ) (front : List ExpressionForm) (o : List LevelForm) (s p : PendingForm) (x : OperandForm) (e : ExpressionForm) (rest : List ℕ) → is_plain x ≡ true → sum_value s p x ≡ Some e → run (at o (waits (arguments n front) s p) x) (44 ∷ rest) ≡ run (at o (bare (arguments n (front ++ e ∷ []))) missing) rest
unfolding run symbol_step separate_step opener_behind
comma-read n front o s p x e rest h k = rw (plain-symbol (at o (waits (arguments n front) s p) x) 44 h refl, k) refl

-- a dot is no part of an argument
pub dot-refused : (n : List ℕ) (front : List ExpressionForm) (o : List LevelForm) (s p : PendingForm) (x : OperandForm) (rest : List ℕ) → is_plain x ≡ true → run (at o (waits (arguments n front) s p) x) (46 ∷ rest) ≡ None
unfolding run symbol_step separate_step opener_behind
dot-refused n front o s p x rest h = rw (plain-symbol (at o (waits (arguments n front) s p) x) 46 h refl) refl

-- ---- all expressions

-- arguments behind those in a list
joined : List ExpressionForm → ArgumentForms → ArgumentForms
joined [] more = more
joined (e ∷ es) more = one_more e (joined es more)

joined-last : (es : List ExpressionForm) (f : ExpressionForm) (more : ArgumentForms) → joined (es ++ f ∷ []) more ≡ joined es (one_more f more)
unfolding joined
joined-last [] f more = refl
joined-last (e ∷ es) f more = ap (one_more e) (joined-last es f more)

joined-all : (es : List ExpressionForm) → arguments_in es ≡ joined es no_more
unfolding joined
joined-all [] = refl
joined-all (e ∷ es) = ap (one_more e) (joined-all es)

-- arguments behind one that has been read, and the parenthesis that ends them
record ArgumentsRead (more : ArgumentForms) : Type 0 where
  runs : (o : List LevelForm) (l : LevelForm) (n : List ℕ) (front : List ExpressionForm) (s p : PendingForm) (x : OperandForm) (e : ExpressionForm) (rest : List ℕ) → is_plain x ≡ true → sum_value s p x ≡ Some e
      → run (at (l ∷ o) (waits (arguments n front) s p) x) (arguments_text more ++ 41 ∷ rest) ≡ run (at o l (whole (call n (joined (front ++ e ∷ []) more)))) rest

no_more-read : ArgumentsRead no_more
unfolding enclosed
no_more-read = record { runs = λ o l n front s p x e rest h k. close-read o l (arguments n front) s p x e rest refl h k ∙ ap (λ a. run (at o l (whole (call n a))) rest) (joined-all (front ++ e ∷ [])) }

one_more-read : (f : ExpressionForm) (more : ArgumentForms) → SumRead f → ArgumentsRead more → ArgumentsRead (one_more f more)
one_more-read f more r others = record {
  runs = λ o l n front s p x e rest h k.
      ap (λ t. run (at (l ∷ o) (waits (arguments n front) s p) x) (44 ∷ t)) (append_assoc (expression_text f) (arguments_text more) (41 ∷ rest))
      ∙ comma-read n front (l ∷ o) s p x e (expression_text f ++ (arguments_text more ++ 41 ∷ rest)) h k
      ∙ r.runs (l ∷ o) (arguments n (front ++ e ∷ [])) (arguments_text more ++ 41 ∷ rest) refl
      ∙ others.runs o l n (front ++ e ∷ []) r.sum r.product r.operand f rest r.plain r.value
      ∙ ap (λ a. run (at o l (whole (call n a))) rest) (joined-last (front ++ e ∷ []) f more);
}

call-factor : (n : List ℕ) (e : ExpressionForm) (more : ArgumentForms) → is_name n ≡ true → SumRead e → ArgumentsRead more → FactorRead (call n (one_more e more))
unfolding operand_value joined
call-factor n e more h r others = record {
  operand = whole (call n (one_more e more));
  plain = refl;
  value = refl;
  runs = λ o l rest k.
      let grouped : expression_text (call n (one_more e more)) ++ rest ≡ n ++ 40 ∷ (expression_text e ++ (arguments_text more ++ 41 ∷ rest)) =
      append_assoc (n ++ 40 ∷ (expression_text e ++ arguments_text more)) (41 ∷ []) rest ∙ append_assoc n (40 ∷ (expression_text e ++ arguments_text more)) (41 ∷ rest)
      ∙ ap (λ t. n ++ 40 ∷ t) (append_assoc (expression_text e) (arguments_text more) (41 ∷ rest)) in
      ap (run (at o l missing)) grouped
      ∙ name-read n (40 ∷ (expression_text e ++ (arguments_text more ++ 41 ∷ rest))) o l h
      ∙ call-read n o l (expression_text e ++ (arguments_text more ++ 41 ∷ rest)) h k
      ∙ r.runs (l ∷ o) (arguments n []) (arguments_text more ++ 41 ∷ rest) refl
      ∙ others.runs o l n [] r.sum r.product r.operand e rest r.plain r.value;
}

group-factor : (e : ExpressionForm) → SumRead e → FactorRead (parenthesized e)
unfolding operand_value enclosed
group-factor e r = record {
  operand = whole (parenthesized e);
  plain = refl;
  value = refl;
  runs = λ o l rest k.
      group-read o l ((expression_text e ++ 41 ∷ []) ++ rest)
      ∙ ap (run (at (l ∷ o) (bare group) missing)) (append_assoc (expression_text e) (41 ∷ []) rest)
      ∙ r.runs (l ∷ o) group (41 ∷ rest) refl
      ∙ close-read o l group r.sum r.product r.operand e rest refl r.plain r.value;
}

signed-sum : (sign : Sign) (e : ExpressionForm) → TermRead e → SumRead (signed sign e)
unfolding sum_value combined
signed-sum sign e t = record {
  sum = lead sign;
  product = t.product;
  operand = t.operand;
  plain = t.plain;
  value = rw t.value refl;
  runs = λ o opener rest k.
      lead-read sign o opener (expression_text e ++ rest) ∙ t.runs o opener (lead sign) rest k;
}

binary-term : (op : Operator) (a b : ExpressionForm) → makes term op ≡ true → TermRead a → FactorRead b → TermRead (binary op a b)
unfolding term_value combined
binary-term op a b m r f = record {
  product = left a op;
  operand = f.operand;
  plain = f.plain;
  value = rw f.value refl;
  runs = λ o opener s rest k.
      ap (run (at o (waits opener s nothing) missing)) (append_assoc (expression_text a) (operator_code op ∷ expression_text b) rest)
      ∙ r.runs o opener s (operator_code op ∷ expression_text b ++ rest) k
      ∙ star-read op o opener s r.product r.operand a (expression_text b ++ rest) m r.plain r.value
      ∙ f.runs o (waits opener s (left a op)) rest k;
}

binary-sum : (sign : Sign) (a b : ExpressionForm) → SumRead a → TermRead b → SumRead (binary (additive sign) a b)
unfolding sum_value combined
binary-sum sign a b r t = record {
  sum = left a (additive sign);
  product = t.product;
  operand = t.operand;
  plain = t.plain;
  value = rw t.value refl;
  runs = λ o opener rest k.
      ap (run (at o (bare opener) missing)) (append_assoc (expression_text a) (operator_code (additive sign) ∷ expression_text b) rest)
      ∙ r.runs o opener (operator_code (additive sign) ∷ expression_text b ++ rest) k
      ∙ ap (λ c. run (at o (waits opener r.sum r.product) r.operand) (c ∷ expression_text b ++ rest)) (same_code sign)
      ∙ sign-read sign o opener r.sum r.product r.operand a (expression_text b ++ rest) r.plain r.value
      ∙ t.runs o opener (left a (additive sign)) rest k;
}
  where
    same_code : (s : Sign) → operator_code (additive s) ≡ sign_code s
    same_code Plus = refl
    same_code Minus = refl

mutual
  pub reads : (e : ExpressionForm) → Reads e
  reads (number n) = from_factor (number n) refl refl (number-factor n)
  reads (name n) = from_factor (name n) refl refl (name-factor n)
  reads (call n no_more) = from_factor (call n no_more) refl refl (λ h.
      let p = and_parts (is_name n && false) true h in
      let q = and_parts (is_name n) false p.0 in
      absurd cc)
  reads (call n (one_more e more)) = from_factor (call n (one_more e more)) refl refl (λ h.
      let p = and_parts (is_name n && true) (is_expression sum e && are_expressions more) h in
      let q = and_parts (is_name n) true p.0 in
      let r = and_parts (is_expression sum e) (are_expressions more) p.1 in
      call-factor n e more q.0 ((reads e).as_sum r.0) (arguments-read more r.1))
  reads (parenthesized e) = from_factor (parenthesized e) refl refl (λ h. group-factor e ((reads e).as_sum h))
  reads (signed sign e) = record { as_factor = λ h. absurd cc; as_term = λ h. absurd cc; as_sum = λ h. signed-sum sign e ((reads e).as_term h) }
  reads (binary Add a b) = record {
    as_factor = λ h. absurd cc;
    as_term = λ h. absurd cc;
    as_sum = λ h.
        let p = and_parts (is_expression sum a) (is_expression term b) h in
        binary-sum Plus a b ((reads a).as_sum p.0) ((reads b).as_term p.1);
  }
  reads (binary Subtract a b) = record {
    as_factor = λ h. absurd cc;
    as_term = λ h. absurd cc;
    as_sum = λ h.
        let p = and_parts (is_expression sum a) (is_expression term b) h in
        binary-sum Minus a b ((reads a).as_sum p.0) ((reads b).as_term p.1);
  }
  reads (binary Multiply a b) = from_term (binary Multiply a b) (λ h. absurd cc) refl (λ h.
      let p = and_parts (is_expression term a) (is_expression factor b) h in
      binary-term Multiply a b refl ((reads a).as_term p.0) ((reads b).as_factor p.1))
  reads (binary Divide a b) = from_term (binary Divide a b) (λ h. absurd cc) refl (λ h.
      let p = and_parts (is_expression term a) (is_expression factor b) h in
      binary-term Divide a b refl ((reads a).as_term p.0) ((reads b).as_factor p.1))

  arguments-read : (more : ArgumentForms) → are_expressions more ≡ true → ArgumentsRead more
  arguments-read no_more h = no_more-read
  arguments-read (one_more f more) h =
      let p = and_parts (is_expression sum f) (are_expressions more) h in
      one_more-read f more ((reads f).as_sum p.0) (arguments-read more p.1)
