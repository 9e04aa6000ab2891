-- What the grammar reads, the reader reads.
use Rattle.std.proofs.Common.{◌≡◌, ℕ, ◌+◌, ◌<◌, ◌^◌, ◌%◌, ◌==◌, Bool, true, false, not, ◌&&◌, ◌||◌, nat_le, IsTrue, List, [], ◌∷◌, ◌++◌, codes, length, Option, Some, None, refl, ap, ap₂, sym, ◌∙◌, arith, append_assoc, append-nil, if◌then◌else◌}
use Rattle.std.specs.Fmt.{decimal}
use Rattle.std.specs.List.{list_all}
use Rattle.std.specs.Str.{bytes_eq}
use Rattle.std.specs.Str.Parse.{digits_value}
use Rattle.std.proofs.lemmas.Bool.{and_parts, le-leb, leb-true, lt-leb, ne_eqb}
use Rattle.std.proofs.lemmas.Fmt.{decimal_by_steps, decimal_is_IsNumeral, decimal_nonempty}
use Rattle.std.proofs.lemmas.List.Folds.{list_all-append}
use Rattle.list_lemmas.proofs.Tests.{or_left_true}
use Rattle.list_lemmas.proofs.Appending.{append_assoc_four, append_assoc_five}
use Rattle.c_expressions.specs.CExpressions.{CExpression, constant, identifier, element, call, as_number, minus, times, plus, less, CArguments, only, first_of}
use Rattle.c_expressions.specs.Grammar.{Rank, Reads, ReadsAll, in_parentheses, is_call, is_cast, is_constant, is_difference, is_digit, is_element, is_first, is_identifier, is_letter, is_minus, is_name, is_name_byte, is_only, is_postfix, is_product, is_sum, is_term, is_unary, is_variable, postfix, product, sum, unary}
use Rattle.c_expressions.specs.Reader.{Bracket, Current, Level, Prefix, State, anywhere, arguments_of, at, atom, called, class_of, closed, fresh, is_type, nothing, of_word, other_class, plain, prefixed, product_with, read, round, run, sign, sum_with, taken_back, value_of, whole, word}
use Rattle.c_expressions.proofs.Appending.{assoc_bytes}
use Rattle.c_expressions.proofs.Spelled.{digits_are_names}

abbrev st : List (Bracket × Level) → Level → Current → State
st outer level c = record { outer = outer; level = level; current = c; mode = plain }

abbrev lev : Option (CExpression × Bool) → Option CExpression → List Prefix → Level
lev m q ps = record { sums = m; product = q; prefixes = ps }

-- ---- words

class_of-word : (b : ℕ) → is_name_byte b ≡ true → class_of b ≡ of_word
class_of-word b e = ap (λ t. if t then of_word else other_class b) e

run_word : (w : List ℕ) (outer : List (Bracket × Level)) (level : Level) (u rest : List ℕ) → list_all is_name_byte w ≡ true → run (w ++ rest) (st outer level (word u)) ≡ run rest (st outer level (word (u ++ w)))
run_word [] outer level u rest all = ap (λ x. run rest (st outer level (word x))) (sym (append-nil u))
run_word (b ∷ w) outer level u rest all =
    let parts = and_parts (is_name_byte b) (list_all is_name_byte w) all in
    ap (λ k. run (w ++ rest) (anywhere k (st outer level (word u)) b)) (class_of-word b parts.0)
    ∙ run_word w outer level (u ++ b ∷ []) rest parts.1
    ∙ ap (λ x. run rest (st outer level (word x))) (assoc_bytes u (b ∷ []) w)

run_bytes : (w : List ℕ) (outer : List (Bracket × Level)) (level : Level) (rest : List ℕ) → list_all is_name_byte w ≡ true → 0 < length w → run (w ++ rest) (st outer level nothing) ≡ run rest (st outer level (word w))
run_bytes [] outer level rest all some = absurd (omega arith)
run_bytes (b ∷ w) outer level rest all some =
    let parts = and_parts (is_name_byte b) (list_all is_name_byte w) all in
    ap (λ k. run (w ++ rest) (anywhere k (st outer level nothing) b)) (class_of-word b parts.0) ∙ run_word w outer level (b ∷ []) rest parts.1

name_all : (name : List ℕ) → IsTrue (is_name name) → list_all is_name_byte name ≡ true
name_all [] e = cc
name_all (b ∷ w) e = let parts = and_parts (is_letter b) (list_all is_name_byte w) e in ap₂ (λ x y. x && y) (or_left_true (is_letter b) (is_digit b) parts.0) parts.1

name_some : (name : List ℕ) → IsTrue (is_name name) → 0 < length name
name_some [] e = cc
name_some (b ∷ w) e = omega arith

run_name : (name : List ℕ) (outer : List (Bracket × Level)) (level : Level) (rest : List ℕ) → IsTrue (is_name name) → run (name ++ rest) (st outer level nothing) ≡ run rest (st outer level (word name))
run_name name outer level rest good = run_bytes name outer level rest (name_all name good) (name_some name good)

-- ---- what words are

atom-name : (name : List ℕ) → IsTrue (is_name name) → atom name ≡ identifier name
atom-name [] e = cc
atom-name (b ∷ w) e = ap (λ t. if t then identifier (b ∷ w) else constant (digits_value 10 (b ∷ w))) (and_parts (is_letter b) (list_all is_name_byte w) e).0

not_letter : (b : ℕ) → is_digit b ≡ true → is_letter b ≡ false
not_letter b e =
    let high = leb-true b 57 (and_parts (nat_le 48 b) (nat_le b 57) e).1 in
    let first : nat_le 97 b ≡ false = lt-leb 97 b (omega (arith, high)) in
    let second : nat_le 65 b ≡ false = lt-leb 65 b (omega (arith, high)) in
    let third : (b == 95) ≡ false = ne_eqb b 95 (λ is. omega (arith, high, is)) in
    ap (λ x. x && nat_le b 122 || nat_le 65 b && nat_le b 90 || b == 95) first ∙ ap (λ x. x && nat_le b 90 || b == 95) second ∙ third

one_digit : (d : ℕ) → d < 10 → list_all is_digit ((48 + d) ∷ []) ≡ true
one_digit d lt =
    let low : nat_le 48 (48 + d) ≡ true = le-leb 48 (48 + d) (omega arith) in
    let high : nat_le (48 + d) 57 ≡ true = le-leb (48 + d) 57 (omega arith) in
    ap₂ (λ a b. (a && b) && true) low high

decimal_digits : (n : ℕ) → n < 2 ^ 64 → list_all is_digit (decimal n) ≡ true
decimal_digits = decimal_by_steps (λ n ds. list_all is_digit ds ≡ true) one_digit (λ n ds le all.
    let lt : n % 10 < 10 = omega arith in
    list_all-append is_digit ds ((48 + n % 10) ∷ []) ∙ ap₂ (λ a b. a && b) all (one_digit (n % 10) lt))

atom-digits : (w : List ℕ) (n : ℕ) → list_all is_digit w ≡ true → 0 < length w → digits_value 10 w ≡ n → atom w ≡ constant n
atom-digits [] n all some value = absurd (omega arith)
atom-digits (b ∷ w) n all some value =
    ap (λ t. if t then identifier (b ∷ w) else constant (digits_value 10 (b ∷ w))) (not_letter b (and_parts (is_digit b) (list_all is_digit w) all).0) ∙ ap constant value

-- ---- where the reader is behind a text of each rank

record LandsPostfix (t : List ℕ) (a : CExpression) : Type 0 where
  c : Current
  value : value_of c ≡ a
  other : is_type a ≡ false
  runs : (outer : List (Bracket × Level)) (level : Level) (rest : List ℕ) → run (t ++ rest) (st outer level nothing) ≡ run rest (st outer level c)

record LandsUnary (t : List ℕ) (a : CExpression) : Type 0 where
  c : Current
  ps : List Prefix
  value : prefixed ps (value_of c) ≡ a
  other : is_type a ≡ false
  runs : (outer : List (Bracket × Level)) (m : Option (CExpression × Bool)) (q : Option CExpression) (qs : List Prefix) (rest : List ℕ) → run (t ++ rest) (st outer (lev m q qs) nothing) ≡ run rest (st outer (lev m q (ps ++ qs)) c)

record LandsProduct (t : List ℕ) (a : CExpression) : Type 0 where
  c : Current
  ps : List Prefix
  q : Option CExpression
  value : product_with q (prefixed ps (value_of c)) ≡ a
  other : is_type a ≡ false
  runs : (outer : List (Bracket × Level)) (m : Option (CExpression × Bool)) (rest : List ℕ) → run (t ++ rest) (st outer (lev m None []) nothing) ≡ run rest (st outer (lev m q ps) c)

record LandsSum (t : List ℕ) (a : CExpression) : Type 0 where
  c : Current
  ps : List Prefix
  q : Option CExpression
  m : Option (CExpression × Bool)
  value : sum_with m (product_with q (prefixed ps (value_of c))) ≡ a
  other : is_type a ≡ false
  runs : (outer : List (Bracket × Level)) (rest : List ℕ) → run (t ++ rest) (st outer fresh nothing) ≡ run rest (st outer (lev m q ps) c)

record LandsAll (t : List ℕ) (arguments : CArguments) : Type 0 where
  c : Current
  ps : List Prefix
  q : Option CExpression
  m : Option (CExpression × Bool)
  more : List CExpression
  value : arguments_of more (sum_with m (product_with q (prefixed ps (value_of c)))) ≡ arguments
  runs : (outer : List (Bracket × Level)) (function : List ℕ) (before : List CExpression) (level : Level) (rest : List ℕ) →
      run (t ++ rest) (st ((called function before, level) ∷ outer) fresh nothing) ≡ run rest (st ((called function (before ++ more), level) ∷ outer) (lev m q ps) c)

abbrev Lands : Rank → List ℕ → CExpression → Type 0
Lands postfix t a = LandsPostfix t a
Lands unary t a = LandsUnary t a
Lands product t a = LandsProduct t a
Lands sum t a = LandsSum t a

constant_lands : (n : ℕ) → n < 2 ^ 63 → LandsPostfix (decimal n) (constant n)
constant_lands n lt =
    let small : n < 2 ^ 64 = omega arith in
    record {
      c = word (decimal n);
      value = atom-digits (decimal n) n (decimal_digits n small) (decimal_nonempty n small) (decimal_is_IsNumeral n small).1;
      other = refl;
      runs = λ outer level rest. run_bytes (decimal n) outer level rest (digits_are_names n) (decimal_nonempty n small);
    }

not_true : (b : Bool) → not b ≡ true → b ≡ false
not_true true e = cc
not_true false e = refl

variable_lands : (name : List ℕ) → IsTrue (is_variable name) → LandsPostfix name (identifier name)
variable_lands name good =
    let parts = and_parts (not (bytes_eq name (codes "number"))) (is_name name) good in
    record {
      c = word name;
      value = atom-name name parts.1;
      other = not_true (bytes_eq name (codes "number")) parts.0;
      runs = λ outer level rest. run_name name outer level rest parts.1;
    }

grouped_lands : (t : List ℕ) (a : CExpression) → LandsSum t a → LandsPostfix ((codes "(" ++ t) ++ codes ")") a
grouped_lands t a s = record {
  c = whole a;
  value = refl;
  other = s.other;
  runs = λ outer level rest.
      ap (λ x. run x (st ((round, level) ∷ outer) fresh nothing)) (assoc_bytes t (codes ")") rest)
      ∙ s.runs ((round, level) ∷ outer) (codes ")" ++ rest)
      ∙ ap (λ x. run rest (closed ((round, level) ∷ outer) x)) s.value
      ∙ ap (λ t. run rest (if t then st outer (record level { prefixes = taken_back ∷ level.prefixes }) nothing else st outer level (whole a))) s.other;
}

element_lands : (array t : List ℕ) (a : CExpression) → IsTrue (is_name array) → LandsSum t a → LandsPostfix (((array ++ codes "[") ++ t) ++ codes "]") (element array a)
element_lands array t a good s = record {
  c = whole (element array a);
  value = refl;
  other = refl;
  runs = λ outer level rest.
      ap (λ x. run x (st outer level nothing)) (append_assoc_five array (codes "[") t (codes "]") rest)
      ∙ run_name array outer level (codes "[" ++ (t ++ (codes "]" ++ rest))) good
      ∙ s.runs ((at array, level) ∷ outer) (codes "]" ++ rest)
      ∙ ap (λ x. run rest (closed ((at array, level) ∷ outer) x)) s.value;
}

call_lands : (function t : List ℕ) (arguments : CArguments) → IsTrue (is_name function) → LandsAll t arguments → LandsPostfix (((function ++ codes "(") ++ t) ++ codes ")") (call function arguments)
call_lands function t arguments good s = record {
  c = whole (call function arguments);
  value = refl;
  other = refl;
  runs = λ outer level rest.
      ap (λ x. run x (st outer level nothing)) (append_assoc_five function (codes "(") t (codes ")") rest)
      ∙ run_name function outer level (codes "(" ++ (t ++ (codes ")" ++ rest))) good
      ∙ s.runs outer function [] level (codes ")" ++ rest)
      ∙ ap (λ x. run rest (st outer level (whole (call function x)))) s.value;
}

postfix_lands : (t : List ℕ) (a : CExpression) → LandsPostfix t a → LandsUnary t a
postfix_lands t a p = record { c = p.c; ps = []; value = p.value; other = p.other; runs = λ outer m q qs rest. p.runs outer (lev m q qs) rest }

minus_lands : (t : List ℕ) (a : CExpression) → LandsPostfix t a → LandsUnary (codes "-" ++ t) (minus a)
minus_lands t a p = record { c = p.c; ps = sign ∷ []; value = ap minus p.value; other = refl; runs = λ outer m q qs rest. p.runs outer (lev m q (sign ∷ qs)) rest }

prefixed-last : (ps : List Prefix) (x : CExpression) → prefixed (ps ++ taken_back ∷ []) x ≡ as_number (prefixed ps x)
prefixed-last [] x = refl
prefixed-last (sign ∷ ps) x = prefixed-last ps (minus x)
prefixed-last (taken_back ∷ ps) x = prefixed-last ps (as_number x)

assoc_prefixes : (a b c : List Prefix) → (a ++ b) ++ c ≡ a ++ (b ++ c)
assoc_prefixes a b c = simp append_assoc

cast_lands : (t : List ℕ) (a : CExpression) → LandsUnary t a → LandsUnary (codes "(number)" ++ t) (as_number a)
cast_lands t a u = record {
  c = u.c;
  ps = u.ps ++ taken_back ∷ [];
  value = prefixed-last u.ps (value_of u.c) ∙ ap as_number u.value;
  other = refl;
  runs = λ outer m q qs rest. u.runs outer m q (taken_back ∷ qs) rest ∙ ap (λ x. run rest (st outer (lev m q x) u.c)) (sym (assoc_prefixes u.ps (taken_back ∷ []) qs));
}

unary_lands : (t : List ℕ) (a : CExpression) → LandsUnary t a → LandsProduct t a
unary_lands t a u = record {
  c = u.c;
  ps = u.ps;
  q = None;
  value = u.value;
  other = u.other;
  runs = λ outer m rest. u.runs outer m None [] rest ∙ ap (λ x. run rest (st outer (lev m None x) u.c)) (append-nil u.ps);
}

product_lands : (t more : List ℕ) (a b : CExpression) → LandsProduct t a → LandsUnary more b → LandsProduct ((t ++ codes "*") ++ more) (times a b)
product_lands t more a b p u = record {
  c = u.c;
  ps = u.ps;
  q = Some a;
  value = ap (times a) u.value;
  other = refl;
  runs = λ outer m rest.
      ap (λ x. run x (st outer (lev m None []) nothing)) (append_assoc_four t (codes "*") more rest)
      ∙ p.runs outer m (codes "*" ++ (more ++ rest))
      ∙ ap (λ x. run (more ++ rest) (st outer (lev m (Some x) []) nothing)) p.value
      ∙ u.runs outer m (Some a) [] rest
      ∙ ap (λ x. run rest (st outer (lev m (Some a) x) u.c)) (append-nil u.ps);
}

term_lands : (t : List ℕ) (a : CExpression) → LandsProduct t a → LandsSum t a
term_lands t a p = record { c = p.c; ps = p.ps; q = p.q; m = None; value = p.value; other = p.other; runs = λ outer rest. p.runs outer None rest }

sum_lands : (t more : List ℕ) (a b : CExpression) → LandsSum t a → LandsProduct more b → LandsSum ((t ++ codes " + ") ++ more) (plus a b)
sum_lands t more a b s p = record {
  c = p.c;
  ps = p.ps;
  q = p.q;
  m = Some (a, true);
  value = ap (plus a) p.value;
  other = refl;
  runs = λ outer rest.
      ap (λ x. run x (st outer fresh nothing)) (append_assoc_four t (codes " + ") more rest)
      ∙ s.runs outer (codes " + " ++ (more ++ rest))
      ∙ ap (λ x. run (more ++ rest) (st outer (lev (Some (x, true)) None []) nothing)) s.value
      ∙ p.runs outer (Some (a, true)) rest;
}

difference_lands : (t more : List ℕ) (a b : CExpression) → LandsSum t a → LandsProduct more b → LandsSum ((t ++ codes " - ") ++ more) (less a b)
difference_lands t more a b s p = record {
  c = p.c;
  ps = p.ps;
  q = p.q;
  m = Some (a, false);
  value = ap (less a) p.value;
  other = refl;
  runs = λ outer rest.
      ap (λ x. run x (st outer fresh nothing)) (append_assoc_four t (codes " - ") more rest)
      ∙ s.runs outer (codes " - " ++ (more ++ rest))
      ∙ ap (λ x. run (more ++ rest) (st outer (lev (Some (x, false)) None []) nothing)) s.value
      ∙ p.runs outer (Some (a, false)) rest;
}

only_lands : (t : List ℕ) (a : CExpression) → LandsSum t a → LandsAll t (only a)
only_lands t a s = record {
  c = s.c;
  ps = s.ps;
  q = s.q;
  m = s.m;
  more = [];
  value = ap only s.value;
  runs = λ outer function before level rest.
      s.runs ((called function before, level) ∷ outer) rest ∙ ap (λ x. run rest (st ((called function x, level) ∷ outer) (lev s.m s.q s.ps) s.c)) (sym (append-nil before));
}

assoc_arguments : (a b c : List CExpression) → (a ++ b) ++ c ≡ a ++ (b ++ c)
assoc_arguments a b c = simp append_assoc

first_lands : (t more : List ℕ) (a : CExpression) (arguments : CArguments) → LandsSum t a → LandsAll more arguments → LandsAll ((t ++ codes ", ") ++ more) (first_of a arguments)
first_lands t more a arguments s all = record {
  c = all.c;
  ps = all.ps;
  q = all.q;
  m = all.m;
  more = a ∷ all.more;
  value = ap (first_of a) all.value;
  runs = λ outer function before level rest.
      ap (λ x. run x (st ((called function before, level) ∷ outer) fresh nothing)) (append_assoc_four t (codes ", ") more rest)
      ∙ s.runs ((called function before, level) ∷ outer) (codes ", " ++ (more ++ rest))
      ∙ ap (λ x. run (more ++ rest) (st ((called function (before ++ x ∷ []), level) ∷ outer) fresh nothing)) s.value
      ∙ all.runs outer function (before ++ a ∷ []) level rest
      ∙ ap (λ x. run rest (st ((called function x, level) ∷ outer) (lev all.m all.q all.ps) all.c)) (assoc_arguments before (a ∷ []) all.more);
}

mutual
  lands : {r : Rank} {t : List ℕ} {a : CExpression} → Reads r t a → Lands r t a
  lands (is_constant n lt) = constant_lands n lt
  lands (is_identifier good) = variable_lands _ good
  lands (in_parentheses r) = grouped_lands _ _ (lands r)
  lands (is_element good r) = element_lands _ _ _ good (lands r)
  lands (is_call good r) = call_lands _ _ _ good (lands_all r)
  lands (is_postfix r) = postfix_lands _ _ (lands r)
  lands (is_minus r) = minus_lands _ _ (lands r)
  lands (is_cast r) = cast_lands _ _ (lands r)
  lands (is_unary r) = unary_lands _ _ (lands r)
  lands (is_product r s) = product_lands _ _ _ _ (lands r) (lands s)
  lands (is_term r) = term_lands _ _ (lands r)
  lands (is_sum r s) = sum_lands _ _ _ _ (lands r) (lands s)
  lands (is_difference r s) = difference_lands _ _ _ _ (lands r) (lands s)

  lands_all : {t : List ℕ} {arguments : CArguments} → ReadsAll t arguments → LandsAll t arguments
  lands_all (is_only r) = only_lands _ _ (lands r)
  lands_all (is_first r s) = first_lands _ _ _ _ (lands r) (lands_all s)

pub reads_back : (text : List ℕ) (a : CExpression) → Reads sum text a → read text ≡ a
reads_back text a r =
    let s = lands r in
    ap read (sym (append-nil text)) ∙ ap (λ (x : State). sum_with x.level.sums (product_with x.level.product (prefixed x.level.prefixes (value_of x.current)))) (s.runs [] []) ∙ s.value
