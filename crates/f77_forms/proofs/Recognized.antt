-- The text of each statement is read as that statement.
use Rattle.std.proofs.Common.{◌≡◌, ◌≢◌, ℕ, zero, suc, ◌<◌, ◌≤◌, Bool, true, false, ◌&&◌, List, [], ◌∷◌, ◌++◌, drop, take, ◌-◌, length, Option, Some, None, refl, sym, ap, subst, ◌∙◌, append_assoc, append-nil, length-append, if◌then◌else◌, arith}
use Rattle.std.specs.Prelude.{not, ◌==◌, nat_lt, nat_le, codes}
use Rattle.std.specs.List.{list_all}
use Rattle.std.specs.Str.{bytes_eq}
use Rattle.std.proofs.lemmas.Bool.Decides.{nat_tests}
use Rattle.std.proofs.Math.Seq.{take-append_seam, drop-append_seam}
use Rattle.list_lemmas.proofs.Appending.{append_assoc_four, append_assoc_five}
use Rattle.f77_forms.specs.declared.form.Compare.{Compare}
use Rattle.f77_forms.specs.declared.form.Compare.TheVariants.{Lt, Le, Eq, Ge, Gt}
use Rattle.f77_forms.specs.Characters.{is_digit, is_capital, is_capital_or_digit, is_name, is_number, decimal}
use Rattle.f77_forms.specs.Form.{ExpressionForm, name, ArgumentForms, no_more, one_more, BoundForm, DeclaratorForm, DefinitionForm, TargetForm, AssignmentForm, ComparisonForm, DoForm, PrintedForm, value, constant, StatementForm, program, integer, dimension, parameter, do_loop, assign, logical_if, print, continue, stop, end}
use Rattle.f77_forms.specs.Text.{expression_text, arguments_text, behind_commas, between_commas, declarator_text, definition_text, target_expression, assignment_text, compare_text, comparison_text, comma_text, step_text, do_text, printed_text, statement_text, sum, is_expression, are_expressions, is_optional, is_bound, is_declarator, has_bounds, is_definition, is_target, is_assignment, is_comparison, is_label, is_do, is_printed, is_statement}
use Rattle.f77_forms.specs.Reading.{◌>>=◌, printed, declared, PieceForm, is_separator, arguments, bare, missing, run, start, pieces_at}
use Rattle.f77_forms.specs.Statements.{Next, target_from, declarator_in, compare_from, item_next, value_next, name_next, compare_next, assignment_next, comparison_next, step_next, all_taken, declarator_next, printed_next, definition_next, listed_from, listed, program_at, declarators_at, before_parenthesis, parameter_at, print_at, assign_at, if_at, digits_in, behind_digits, label_at, has_comma, behind_comma, loop_at, do_at, begins_with, branch_at, executed_at, declared_at, statement_at}
use Rattle.f77_forms.proofs.Read.{and_parts, and_from, at, reads, letters-read, call-read, capital-letter, digits-letters, dot-refused}
use Rattle.f77_forms.proofs.Written.{item_text, pieces_text}
use Rattle.f77_forms.proofs.Pieces.{among, behind, AllRead, expression-item, constant-item, name-item, bounded-item, pieces-read, pieces-on, word-goes}
use Rattle.f77_forms.proofs.Told.{word-front, same_bytes}

-- ---- pieces

-- the pieces of a text whose first piece stands behind a comma that is thought in front
pub all-pieces : (declares : Bool) (ps : List PieceForm) (text : List ℕ) → AllRead declares ps → pieces_text ps ≡ 44 ∷ text → pieces_at declares text ≡ Some ps
all-pieces declares [] text all e = absurd cc
all-pieces declares (p ∷ ps) text all e =
    let first : p.separator ≡ 44 = ap first_of e in
    let same : item_text p.item ++ pieces_text ps ≡ text = ap (drop 1) e in
    ap (pieces_at declares) (sym same) ∙ pieces-read declares p.item ps all.1 all.2 ∙ ap (λ c. Some (behind c p.item ∷ ps)) (sym first)
  where
    first_of : List ℕ → ℕ
    first_of [] = 0
    first_of (c ∷ cs) = c

abbrev valued : ℕ → ExpressionForm → PieceForm
valued c e = behind c (printed (value e))

valued-read : (c : ℕ) (e : ExpressionForm) (ps : List PieceForm) → is_separator c ≡ true → is_expression sum e ≡ true → AllRead false ps → AllRead false (valued c e ∷ ps)
valued-read c e ps s g all = (s, expression-item e g, all)

-- ---- lists

-- the pieces of each, one behind another
taken_all : {A : Type 0} → (A → List PieceForm) → List A → List PieceForm
taken_all taken [] = []
taken_all taken (x ∷ xs) = taken x ++ taken_all taken xs

-- how things of a kind are written as pieces and taken again
record Taken {A : Type 0} (declares : Bool) (next : List PieceForm → Next A) (text_of : A → List ℕ) (x : A) : Type 0 where
  first : PieceForm
  more : List PieceForm
  text : pieces_text (first ∷ more) ≡ 44 ∷ text_of x
  again : (rest : List PieceForm) → next (first ∷ (more ++ rest)) ≡ Some (x, rest)
  read : (rest : List PieceForm) → AllRead declares rest → AllRead declares (first ∷ (more ++ rest))

pieces_text-append : (ps qs : List PieceForm) → pieces_text (ps ++ qs) ≡ pieces_text ps ++ pieces_text qs
pieces_text-append [] qs = refl
pieces_text-append (p ∷ ps) qs = ap (λ t. p.separator ∷ item_text p.item ++ t) (pieces_text-append ps qs) ∙ sym (append_assoc (p.separator ∷ item_text p.item) (pieces_text ps) (pieces_text qs))

-- a list as pieces
record TakenAll {A : Type 0} (declares : Bool) (next : List PieceForm → Next A) (text_of : A → List ℕ) (xs : List A) : Type 0 where
  all : List PieceForm
  text : pieces_text all ≡ behind_commas text_of xs
  again : (count : ℕ) (front : List A) → length all ≤ count → listed_from next count front all ≡ Some (front ++ xs)
  read : AllRead declares all

taken-all : {A : Type 0} (declares : Bool) (next : List PieceForm → Next A) (text_of : A → List ℕ) (good : A → Bool) → ((x : A) → good x ≡ true → Taken declares next text_of x)
    → (xs : List A) → list_all good xs ≡ true → TakenAll declares next text_of xs
unfolding listed_from
taken-all declares next text_of good takes [] g = record { all = []; text = refl; again = λ count front h. ap Some (sym (append-nil front)); read = tt }
taken-all {A = A} declares next text_of good takes (x ∷ xs) g =
    let p = and_parts (good x) (list_all good xs) g in
    let t = takes x p.0 in
    let r = taken-all declares next text_of good takes xs p.1 in
    record {
      all = t.first ∷ (t.more ++ r.all);
      text = pieces_text-append (t.first ∷ t.more) r.all ∙ ap (λ u. u ++ pieces_text r.all) t.text ∙ ap (λ u. (44 ∷ text_of x) ++ u) r.text;
      again = λ count front h. by_count count front t r h;
      read = t.read r.all r.read;
    }
  where
    by_count : (n : ℕ) (front : List A) (t : Taken declares next text_of x) (r : TakenAll declares next text_of xs) → length (t.first ∷ (t.more ++ r.all)) ≤ n → listed_from next n front (t.first ∷ (t.more ++ r.all)) ≡ Some (front ++ x ∷ xs)
    by_count zero front t r h = absurd (omega arith)
    by_count (suc n) front t r h =
        let enough : length r.all ≤ n = omega (arith, length-append t.more r.all) in
        ap (λ (o : Option (A × List PieceForm)). o >>= λ q. listed_from next n (front ++ q.0 ∷ []) q.1) (t.again r.all) ∙ r.again n (front ++ x ∷ []) enough ∙ ap Some (append_assoc front (x ∷ []) xs)

-- a list that is not empty, from its text
listed-again : {A : Type 0} (declares : Bool) (next : List PieceForm → Next A) (text_of : A → List ℕ) (good : A → Bool) → ((x : A) → good x ≡ true → Taken declares next text_of x)
    → (xs : List A) → nat_lt 0 (length xs) ≡ true → list_all good xs ≡ true → (pieces_at declares (between_commas text_of xs) >>= λ ps. listed next ps) ≡ Some xs
listed-again declares next text_of good takes [] some g = absurd cc
listed-again declares next text_of good takes (x ∷ xs) some g =
    let r = taken-all declares next text_of good takes (x ∷ xs) g in
    ap (λ (o : Option (List PieceForm)). o >>= λ ps. listed next ps) (all-pieces declares r.all (between_commas text_of (x ∷ xs)) r.read r.text) ∙ r.again (length r.all) [] (omega arith)

name-taken : (bounded : Bool) (n : List ℕ) → is_name n ≡ true → (bounded && true) ≡ false → Taken true (declarator_next bounded) declarator_text (record { name = n; bounds = [] })
unfolding declarator_next item_next declarator_in is_separator
name-taken bounded n g h = record { first = valued 44 (name n); more = []; text = refl; again = λ rest. rw h refl; read = λ rest all. (refl, name-item n g, all) }

bounded-taken : (bounded : Bool) (n : List ℕ) (b : BoundForm) (bs : List BoundForm) → is_name n ≡ true → list_all is_bound (b ∷ bs) ≡ true → (bounded && not (nat_lt 0 (length (b ∷ bs)))) ≡ false → Taken true (declarator_next bounded) declarator_text (record { name = n; bounds = b ∷ bs })
unfolding declarator_next item_next declarator_in is_separator
bounded-taken bounded n b bs g k h =
    let d : DeclaratorForm = record { name = n; bounds = b ∷ bs } in
    record { first = behind 44 (declared d); more = []; text = append-nil (44 ∷ declarator_text d); again = λ rest. rw h refl; read = λ rest all. (refl, bounded-item n b bs g k, all) }

declarator-taken : (bounded : Bool) (d : DeclaratorForm) → is_declarator d ≡ true → (bounded && not (has_bounds d)) ≡ false → Taken true (declarator_next bounded) declarator_text d
declarator-taken bounded d g h = by_bounds d.name d.bounds g h
  where
    by_bounds : (n : List ℕ) (bs : List BoundForm) → (is_name n && list_all is_bound bs) ≡ true → (bounded && not (nat_lt 0 (length bs))) ≡ false → Taken true (declarator_next bounded) declarator_text (record { name = n; bounds = bs })
    by_bounds n [] g h = name-taken bounded n (and_parts (is_name n) true g).0 h
    by_bounds n (b ∷ bs) g h =
        let p = and_parts (is_name n) (list_all is_bound (b ∷ bs)) g in
        bounded-taken bounded n b bs p.0 p.1 h

integer-taken : (d : DeclaratorForm) → is_declarator d ≡ true → Taken true (declarator_next false) declarator_text d
integer-taken d g = declarator-taken false d g refl

dimension-taken : (d : DeclaratorForm) → (is_declarator d && has_bounds d) ≡ true → Taken true (declarator_next true) declarator_text d
dimension-taken d g =
    let p = and_parts (is_declarator d) (has_bounds d) g in
    declarator-taken true d p.0 (ap not p.1)

printed-taken : (p : PrintedForm) → is_printed p ≡ true → Taken false printed_next printed_text p
unfolding printed_next item_next is_separator
printed-taken (value e) g = record { first = valued 44 e; more = []; text = append-nil (44 ∷ expression_text e); again = λ rest. refl; read = λ rest all. (refl, expression-item e g, all) }
printed-taken (constant cs) g = record { first = behind 44 (printed (constant cs)); more = []; text = append-nil (44 ∷ printed_text (constant cs)); again = λ rest. refl; read = λ rest all. (refl, constant-item false cs g, all) }

definition-taken : (d : DefinitionForm) → is_definition d ≡ true → Taken false definition_next definition_text d
unfolding definition_next name_next value_next item_next is_separator
definition-taken d g =
    let p = and_parts (is_name d.name) (is_expression sum d.value) g in
    record {
      first = valued 44 (name d.name);
      more = valued 61 d.value ∷ [];
      text = ap (λ t. (44 ∷ d.name) ++ t) (append-nil (61 ∷ expression_text d.value));
      again = λ rest. refl;
      read = λ rest all. (refl, expression-item (name d.name) p.0, (refl, expression-item d.value p.1, all));
    }

-- ---- assignments

target-again : (t : TargetForm) → is_target t ≡ true → (target_from (target_expression t) ≡ Some t) × (is_expression sum (target_expression t) ≡ true)
target-again t g = by_arguments t.name t.arguments g
  where
    by_arguments : (n : List ℕ) (all : ArgumentForms) → (is_name n && are_expressions all) ≡ true → (target_from (target_expression (record { name = n; arguments = all })) ≡ Some (record { name = n; arguments = all })) × (is_expression sum (target_expression (record { name = n; arguments = all })) ≡ true)
    by_arguments n no_more g = (refl, (and_parts (is_name n) true g).0)
    by_arguments n (one_more e more) g =
        let p = and_parts (is_name n) (is_expression sum e && are_expressions more) g in
        (refl, and_from (is_name n && true) (is_expression sum e && are_expressions more) (and_from (is_name n) true p.0 refl) p.1)

-- an assignment as pieces
assignment_pieces : ℕ → AssignmentForm → List PieceForm → List PieceForm
assignment_pieces c a rest = valued c (target_expression a.target) ∷ valued 61 a.value ∷ rest

assignment-again : (c : ℕ) (a : AssignmentForm) (rest : List PieceForm) → (c == c) ≡ true → is_assignment a ≡ true → assignment_next c (assignment_pieces c a rest) ≡ Some (a, rest)
unfolding assignment_next value_next item_next assignment_pieces
assignment-again c a rest h g =
    let p = and_parts (is_target a.target) (is_expression sum a.value) g in
    rw (h, (target-again a.target p.0).0) refl

assignment-text : (c : ℕ) (a : AssignmentForm) → pieces_text (assignment_pieces c a []) ≡ c ∷ assignment_text a
unfolding assignment_pieces
assignment-text c a = ap (λ t. (c ∷ expression_text (target_expression a.target)) ++ t) (append-nil (61 ∷ expression_text a.value))

assignment-read : (c : ℕ) (a : AssignmentForm) → is_separator c ≡ true → is_assignment a ≡ true → AllRead false (assignment_pieces c a [])
unfolding assignment_pieces is_separator
assignment-read c a s g =
    let p = and_parts (is_target a.target) (is_expression sum a.value) g in
    (s, expression-item (target_expression a.target) (target-again a.target p.0).1, (refl, expression-item a.value p.1, tt))

assign-again : (a : AssignmentForm) → is_assignment a ≡ true → assign_at (assignment_text a) ≡ Some (assign a)
unfolding assign_at all_taken is_separator
assign-again a g = rw (all-pieces false (assignment_pieces 44 a []) (assignment_text a) (assignment-read 44 a refl g) (assignment-text 44 a), assignment-again 44 a [] refl g) refl

-- ---- IF

compare_name : Compare → List ℕ
compare_name Lt = codes "LT"
compare_name Le = codes "LE"
compare_name Eq = codes "EQ"
compare_name Ge = codes "GE"
compare_name Gt = codes "GT"

record Named (c : Compare) : Type 0 where
  text : compare_text c ≡ 46 ∷ compare_name c ++ 46 ∷ []
  again : compare_from (compare_name c) ≡ Some c
  good : is_name (compare_name c) ≡ true

compare-named : (c : Compare) → Named c
unfolding compare_from compare_name
compare-named Lt = record { text = refl; again = refl; good = refl }
compare-named Le = record { text = refl; again = refl; good = refl }
compare-named Eq = record { text = refl; again = refl; good = refl }
compare-named Ge = record { text = refl; again = refl; good = refl }
compare-named Gt = record { text = refl; again = refl; good = refl }

inside-text : (l n r a : List ℕ) → l ++ ((46 ∷ n) ++ ((46 ∷ r) ++ (41 ∷ a))) ≡ (((l ++ (46 ∷ n ++ 46 ∷ [])) ++ r) ++ codes ")") ++ a
inside-text l n r a = ap (λ t. l ++ t) (sym (append_assoc (46 ∷ n) (46 ∷ []) (r ++ 41 ∷ a))) ∙ sym (append_assoc_five l (46 ∷ n ++ 46 ∷ []) r (41 ∷ []) a)

dotted-text : (l n r a : List ℕ) → (44 ∷ l) ++ ((46 ∷ n) ++ ((46 ∷ r) ++ (41 ∷ a))) ≡ 44 ∷ ((((l ++ (46 ∷ n ++ 46 ∷ [])) ++ r) ++ codes ")") ++ a)
dotted-text l n r a = ap (λ t. 44 ∷ t) (inside-text l n r a)

comparison_pieces : ComparisonForm → List PieceForm → List PieceForm
comparison_pieces c rest = valued 44 c.left ∷ valued 46 (name (compare_name c.compare)) ∷ valued 46 c.right ∷ rest

comparison-again : (c : ComparisonForm) (rest : List PieceForm) → comparison_next (comparison_pieces c rest) ≡ Some (c, rest)
unfolding comparison_next compare_next name_next value_next item_next comparison_pieces
comparison-again c rest = rw (compare-named c.compare).again refl

if_text : ComparisonForm → AssignmentForm → List ℕ
if_text c a = (comparison_text c ++ codes ")") ++ assignment_text a

if-again : (c : ComparisonForm) (a : AssignmentForm) → is_comparison c ≡ true → is_assignment a ≡ true → if_at (if_text c a) ≡ Some (logical_if c a)
unfolding if_at all_taken if_text comparison_pieces is_separator
if-again c a g h =
    let p = and_parts (is_expression sum c.left) (is_expression sum c.right) g in
    let n = compare-named c.compare in
    let ps = comparison_pieces c (assignment_pieces 41 a []) in
    let spelled : pieces_text ps ≡ 44 ∷ ((comparison_text c ++ codes ")") ++ assignment_text a) =
    ap (λ t. (44 ∷ expression_text c.left) ++ ((46 ∷ compare_name c.compare) ++ ((46 ∷ expression_text c.right) ++ t))) (assignment-text 41 a)
    ∙ dotted-text (expression_text c.left) (compare_name c.compare) (expression_text c.right) (assignment_text a)
    ∙ ap (λ t. 44 ∷ (((expression_text c.left ++ t) ++ expression_text c.right) ++ codes ")") ++ assignment_text a) (sym n.text) in
    let read : AllRead false ps = (refl, expression-item c.left p.0, (refl, expression-item (name (compare_name c.compare)) n.good, (refl, expression-item c.right p.1, assignment-read 41 a refl h))) in
    rw (all-pieces false ps ((comparison_text c ++ codes ")") ++ assignment_text a) read spelled, comparison-again c (assignment_pieces 41 a []), assignment-again 41 a [] refl h) refl

-- ---- DO

digits-again : (l : List ℕ) (c : ℕ) (more : List ℕ) → list_all is_digit l ≡ true → is_digit c ≡ false → (digits_in (l ++ c ∷ more) ≡ l) × (behind_digits (l ++ c ∷ more) ≡ c ∷ more)
unfolding digits_in behind_digits
digits-again [] c more g h = (rw h refl, rw h refl)
digits-again (d ∷ l) c more g h =
    let p = and_parts (is_digit d) (list_all is_digit l) g in
    let r = digits-again l c more p.1 h in
    (rw p.0 (ap (λ x. d ∷ x) r.0), rw p.0 r.1)

label-digits : (l : List ℕ) → is_label l ≡ true → list_all is_digit l ≡ true
label-digits l g =
    let p = and_parts (is_number l && nat_lt 0 (decimal l)) (nat_le (decimal l) 99999) g in
    let q = and_parts (is_number l) (nat_lt 0 (decimal l)) p.0 in
    number-digits l q.0
  where
    number-digits : (ds : List ℕ) → is_number ds ≡ true → list_all is_digit ds ≡ true
    number-digits [] h = refl
    number-digits (d ∷ ds) h = (and_parts (is_digit d && list_all is_digit ds) (nat_le (decimal (d ∷ ds)) 9223372036854775807) h).0

step_pieces : Option ExpressionForm → List PieceForm
step_pieces None = []
step_pieces (Some e) = valued 44 e ∷ []

-- what stands behind the name of a DO
bounds_of_loop : DoForm → List PieceForm
bounds_of_loop d = valued 61 d.first ∷ valued 44 d.last ∷ step_pieces d.step

loop_text : DoForm → List ℕ
loop_text d = d.variable ++ (61 ∷ expression_text d.first ++ (44 ∷ expression_text d.last ++ step_text d.step))

step-pieces : (s : Option ExpressionForm) → is_optional s ≡ true → (pieces_text (step_pieces s) ≡ step_text s) × (step_next (step_pieces s) ≡ Some (s, [])) × AllRead false (step_pieces s)
unfolding step_pieces step_next value_next item_next is_separator
step-pieces None g = (refl, refl, tt)
step-pieces (Some e) g = (append-nil (44 ∷ expression_text e), refl, (refl, expression-item e g, tt))

bounds-text : (d : DoForm) → is_optional d.step ≡ true → pieces_text (bounds_of_loop d) ≡ 61 ∷ expression_text d.first ++ (44 ∷ expression_text d.last ++ step_text d.step)
unfolding bounds_of_loop
bounds-text d g = ap (λ t. (61 ∷ expression_text d.first) ++ ((44 ∷ expression_text d.last) ++ t)) (step-pieces d.step g).0

bounds-read : (d : DoForm) → is_expression sum d.first ≡ true → is_expression sum d.last ≡ true → is_optional d.step ≡ true → AllRead false (bounds_of_loop d)
unfolding bounds_of_loop is_separator
bounds-read d f l s = (refl, expression-item d.first f, (refl, expression-item d.last l, (step-pieces d.step s).2))

loop-again : (d : DoForm) → is_name d.variable ≡ true → is_expression sum d.first ≡ true → is_expression sum d.last ≡ true → is_optional d.step ≡ true → loop_at d.label d.comma (loop_text d) ≡ Some (do_loop d)
unfolding loop_at loop_text name_next value_next item_next all_taken bounds_of_loop is_separator
loop-again d n f l s =
    let ps = valued 44 (name d.variable) ∷ bounds_of_loop d in
    let read : AllRead false ps = (refl, expression-item (name d.variable) n, bounds-read d f l s) in
    let spelled : pieces_text ps ≡ 44 ∷ (d.variable ++ (61 ∷ expression_text d.first ++ (44 ∷ expression_text d.last ++ step_text d.step))) = ap (λ t. (44 ∷ d.variable) ++ t) (bounds-text d s) in
    rw (all-pieces false ps (d.variable ++ (61 ∷ expression_text d.first ++ (44 ∷ expression_text d.last ++ step_text d.step))) read spelled, (step-pieces d.step s).1) refl

-- a DO without its first word
behind_do : DoForm → List ℕ
behind_do d = d.label ++ (comma_text d.comma ++ loop_text d)

do-text : (d : DoForm) → do_text d ≡ codes "DO" ++ behind_do d
unfolding behind_do loop_text
do-text d = do-spelled d.label (comma_text d.comma) d.variable (expression_text d.first) (expression_text d.last) (step_text d.step)
  where
    do-spelled : (l c v a b s : List ℕ) → (((((codes "DO" ++ l) ++ c) ++ v) ++ 61 ∷ a) ++ 44 ∷ b) ++ s ≡ codes "DO" ++ (l ++ (c ++ (v ++ ((61 ∷ a) ++ ((44 ∷ b) ++ s)))))
    do-spelled l c v a b s = append_assoc (((((codes "DO" ++ l) ++ c) ++ v) ++ 61 ∷ a)) (44 ∷ b) s ∙ append_assoc_five (codes "DO" ++ l) c v (61 ∷ a) ((44 ∷ b) ++ s) ∙ append_assoc (codes "DO") l (c ++ (v ++ ((61 ∷ a) ++ ((44 ∷ b) ++ s))))

-- what stands behind a label: a comma, or a name's first letter
record BehindLabel (comma : Bool) (text : List ℕ) : Type 0 where
  first : ℕ
  more : List ℕ
  whole : comma_text comma ++ text ≡ first ∷ more
  no_digit : is_digit first ≡ false
  there : has_comma (first ∷ more) ≡ comma
  rest : behind_comma (first ∷ more) ≡ text

capital-facts : (c : ℕ) → is_capital c ≡ true → (is_digit c ≡ false) × ((c == 44) ≡ false)
capital-facts c h = (grind (arith, nat_tests), grind (arith, nat_tests))

behind-label : (comma : Bool) (v text : List ℕ) → is_name v ≡ true → BehindLabel comma (v ++ text)
unfolding has_comma behind_comma
behind-label true v text n = record { first = 44; more = v ++ text; whole = refl; no_digit = refl; there = refl; rest = refl }
behind-label false [] text n = absurd cc
behind-label false (c ∷ cs) text n =
    let p = and_parts (is_capital c && nat_le (length cs) 5) (list_all is_capital_or_digit cs) n in
    let f = capital-facts c (and_parts (is_capital c) (nat_le (length cs) 5) p.0).0 in
    record { first = c; more = cs ++ text; whole = refl; no_digit = f.0; there = f.1; rest = rw f.1 refl }

do-parts : (d : DoForm) → is_label d.label ≡ true → is_name d.variable ≡ true → is_expression sum d.first ≡ true → is_expression sum d.last ≡ true → is_optional d.step ≡ true → (b : BehindLabel d.comma (loop_text d)) → do_at (behind_do d) ≡ Some (do_loop d)
unfolding do_at label_at behind_do
do-parts d l n f g s b =
    let digits = digits-again d.label b.first b.more (label-digits d.label l) b.no_digit in
    rw (b.whole, digits.0, digits.1, l, b.there, b.rest) (loop-again d n f g s)

-- the parts of a DO
record IsDo (d : DoForm) : Type 0 where
  label : is_label d.label ≡ true
  variable : is_name d.variable ≡ true
  first : is_expression sum d.first ≡ true
  last : is_expression sum d.last ≡ true
  step : is_optional d.step ≡ true

do-facts : (d : DoForm) → is_do d ≡ true → IsDo d
do-facts d g =
    let p = and_parts (is_label d.label && is_name d.variable && is_expression sum d.first && is_expression sum d.last) (is_optional d.step) g in
    let q = and_parts (is_label d.label && is_name d.variable && is_expression sum d.first) (is_expression sum d.last) p.0 in
    let r = and_parts (is_label d.label && is_name d.variable) (is_expression sum d.first) q.0 in
    let u = and_parts (is_label d.label) (is_name d.variable) r.0 in
    record { label = u.0; variable = u.1; first = r.1; last = q.1; step = p.1 }

do-again : (d : DoForm) → is_do d ≡ true → do_at (behind_do d) ≡ Some (do_loop d)
unfolding loop_text
do-again d g =
    let k = do-facts d g in
    do-parts d k.label k.variable k.first k.last k.step (behind-label d.comma d.variable (61 ∷ expression_text d.first ++ (44 ∷ expression_text d.last ++ step_text d.step)) k.variable)

-- ---- no statement is read as an assignment that is none

-- IF and its comparison
if-no_assignment : (c : ComparisonForm) (a : AssignmentForm) → is_comparison c ≡ true → assign_at (codes "IF(" ++ if_text c a) ≡ None
unfolding assign_at pieces_at if_text
if-no_assignment c a g =
    let p = and_parts (is_expression sum c.left) (is_expression sum c.right) g in
    let r = (reads c.left).as_sum p.0 in
    let l = among false [] 44 in
    let n = compare-named c.compare in
    let more = (((compare_name c.compare ++ 46 ∷ []) ++ expression_text c.right) ++ codes ")") ++ assignment_text a in
    let spelled : (comparison_text c ++ codes ")") ++ assignment_text a ≡ expression_text c.left ++ 46 ∷ more =
    ap (λ t. (((expression_text c.left ++ t) ++ expression_text c.right) ++ codes ")") ++ assignment_text a) n.text
    ∙ append_assoc_five (expression_text c.left) (46 ∷ compare_name c.compare ++ 46 ∷ []) (expression_text c.right) (codes ")") (assignment_text a)
    ∙ ap (λ t. expression_text c.left ++ t) (sym (append_assoc_four (46 ∷ compare_name c.compare ++ 46 ∷ []) (expression_text c.right) (codes ")") (assignment_text a))) in
    let refused : run (start false) (73 ∷ 70 ∷ 40 ∷ ((comparison_text c ++ codes ")") ++ assignment_text a)) ≡ None =
    letters-read 73 (70 ∷ []) (40 ∷ ((comparison_text c ++ codes ")") ++ assignment_text a)) [] l refl refl
    ∙ call-read (codes "IF") [] l ((comparison_text c ++ codes ")") ++ assignment_text a) refl refl
    ∙ ap (run (at (l ∷ []) (bare (arguments (codes "IF") [])) missing)) spelled
    ∙ r.runs (l ∷ []) (arguments (codes "IF") []) (46 ∷ more) refl
    ∙ dot-refused (codes "IF") [] (l ∷ []) r.sum r.product r.operand more r.plain in
    rw refused refl

-- a DO: its first words are no target of an assignment, or a comma stands behind
all-letters : (cs ds : List ℕ) → list_all is_capital_or_digit cs ≡ true → list_all is_capital_or_digit ds ≡ true → list_all is_capital_or_digit (cs ++ ds) ≡ true
all-letters [] ds h k = k
all-letters (c ∷ cs) ds h k =
    let p = and_parts (is_capital_or_digit c) (list_all is_capital_or_digit cs) h in
    and_from (is_capital_or_digit c) (list_all is_capital_or_digit (cs ++ ds)) p.0 (all-letters cs ds p.1 k)

name-letters : (n : List ℕ) → is_name n ≡ true → list_all is_capital_or_digit n ≡ true
name-letters [] h = refl
name-letters (c ∷ cs) h =
    let p = and_parts (is_capital c && nat_le (length cs) 5) (list_all is_capital_or_digit cs) h in
    and_from (is_capital_or_digit c) (list_all is_capital_or_digit cs) (capital-letter c (and_parts (is_capital c) (nat_le (length cs) 5) p.0).0) p.1

-- a word, and behind it pieces with which it makes no assignment
word-no_assignment : (cs : List ℕ) (p : PieceForm) (ps : List PieceForm) → list_all is_capital_or_digit cs ≡ true → AllRead false (p ∷ ps)
    → (assignment_next 44 (valued 44 (name (68 ∷ 79 ∷ cs)) ∷ p ∷ ps) >>= λ a. all_taken (assign a.0) a.1) ≡ None → assign_at (68 ∷ 79 ∷ cs ++ pieces_text (p ∷ ps)) ≡ None
unfolding assign_at pieces_at
word-no_assignment cs p ps h all none =
    ap (λ (o : Option (List PieceForm)). o >>= λ qs. assignment_next 44 qs >>= λ a. all_taken (assign a.0) a.1) (word-goes cs [] 44 p.separator (item_text p.item ++ pieces_text ps) h all.0 ∙ ap (λ (o : Option (List PieceForm)). if is_name w then o else None) (pieces-on false p.item ps all.1 all.2 (valued 44 (name w) ∷ []) p.separator))
    ∙ by_name (is_name w)
  where
    w : List ℕ
    w = 68 ∷ 79 ∷ cs

    by_name : (b : Bool) → ((if b then Some (valued 44 (name w) ∷ p ∷ ps) else None) >>= λ qs. assignment_next 44 qs >>= λ a. all_taken (assign a.0) a.1) ≡ None
    by_name true = none
    by_name false = refl

behind_comma-no_assignment : (l v : List ℕ) (a b : ExpressionForm) (ps : List PieceForm) → list_all is_capital_or_digit l ≡ true → AllRead false (valued 44 (name v) ∷ valued 61 a ∷ valued 44 b ∷ ps)
    → assign_at (68 ∷ 79 ∷ l ++ pieces_text (valued 44 (name v) ∷ valued 61 a ∷ valued 44 b ∷ ps)) ≡ None
unfolding assignment_next value_next item_next all_taken
behind_comma-no_assignment l v a b ps h all = word-no_assignment l (valued 44 (name v)) (valued 61 a ∷ valued 44 b ∷ ps) h all refl

behind_label-no_assignment : (w : List ℕ) (a b : ExpressionForm) (ps : List PieceForm) → list_all is_capital_or_digit w ≡ true → AllRead false (valued 61 a ∷ valued 44 b ∷ ps)
    → assign_at (68 ∷ 79 ∷ w ++ pieces_text (valued 61 a ∷ valued 44 b ∷ ps)) ≡ None
unfolding assignment_next value_next item_next all_taken
behind_label-no_assignment w a b ps h all = word-no_assignment w (valued 61 a) (valued 44 b ∷ ps) h all refl

do-no_assignment : (d : DoForm) → is_do d ≡ true → assign_at (codes "DO" ++ behind_do d) ≡ None
unfolding behind_do loop_text bounds_of_loop is_separator
do-no_assignment d g = by_comma d.comma
  where
    k : IsDo d
    k = do-facts d g

    l : list_all is_capital_or_digit d.label ≡ true
    l = digits-letters d.label (label-digits d.label k.label)

    ends : List ℕ
    ends = 61 ∷ expression_text d.first ++ (44 ∷ expression_text d.last ++ step_text d.step)

    by_comma : (comma : Bool) → assign_at (codes "DO" ++ (d.label ++ (comma_text comma ++ (d.variable ++ ends)))) ≡ None
    by_comma true =
        ap (λ t. assign_at (68 ∷ 79 ∷ d.label ++ ((44 ∷ d.variable) ++ t))) (sym (bounds-text d k.step))
        ∙ behind_comma-no_assignment d.label d.variable d.first d.last (step_pieces d.step) l (refl, expression-item (name d.variable) k.variable, bounds-read d k.first k.last k.step)
    by_comma false =
        ap assign_at (sym (append_assoc (68 ∷ 79 ∷ d.label) d.variable ends)) ∙ ap (λ t. assign_at (68 ∷ 79 ∷ (d.label ++ d.variable) ++ t)) (sym (bounds-text d k.step))
        ∙ behind_label-no_assignment (d.label ++ d.variable) d.first d.last (step_pieces d.step) (all-letters d.label d.variable l (name-letters d.variable k.variable)) (bounds-read d k.first k.last k.step)

-- ---- assignments are read as no other statement

-- how many letters and digits a text begins with, and what stands behind them
letters_in : List ℕ → ℕ
letters_in [] = 0
letters_in (c ∷ cs) = if is_capital_or_digit c then suc (letters_in cs) else 0

symbol_in : List ℕ → Option ℕ
symbol_in [] = None
symbol_in (c ∷ cs) = if is_capital_or_digit c then symbol_in cs else Some c

-- an assignment begins with a name, and behind it stands a parenthesis or `=`
record Head (text : List ℕ) : Type 0 where
  symbol : ℕ
  found : symbol_in text ≡ Some symbol
  no_star : symbol ≢ 42
  short : letters_in text ≤ 6

head-of : (n : List ℕ) (c : ℕ) (more : List ℕ) → list_all is_capital_or_digit n ≡ true → is_capital_or_digit c ≡ false → (symbol_in (n ++ c ∷ more) ≡ Some c) × (letters_in (n ++ c ∷ more) ≡ length n)
unfolding letters_in symbol_in
head-of [] c more h k = (rw k refl, rw k refl)
head-of (d ∷ n) c more h k =
    let p = and_parts (is_capital_or_digit d) (list_all is_capital_or_digit n) h in
    let r = head-of n c more p.1 k in
    (rw p.0 r.0, rw p.0 (ap suc r.1))

name-short : (n : List ℕ) → is_name n ≡ true → length n ≤ 6
name-short [] h = omega arith
name-short (c ∷ cs) h =
    let p = and_parts (is_capital c && nat_le (length cs) 5) (list_all is_capital_or_digit cs) h in
    let low : nat_le (length cs) 5 ≡ true = (and_parts (is_capital c) (nat_le (length cs) 5) p.0).1 in
    grind (arith, nat_tests)

head-at : (n : List ℕ) (c : ℕ) (more : List ℕ) → is_name n ≡ true → is_capital_or_digit c ≡ false → c ≢ 42 → Head (n ++ c ∷ more)
head-at n c more h k s =
    let r = head-of n c more (name-letters n h) k in
    let short = name-short n h in
    record { symbol = c; found = r.0; no_star = s; short = omega (arith, r.1, short) }

assignment-head : (a : AssignmentForm) → is_assignment a ≡ true → Head (assignment_text a)
assignment-head a g = by_target a.target.name a.target.arguments (and_parts (is_target a.target) (is_expression sum a.value) g).0
  where
    by_target : (n : List ℕ) (all : ArgumentForms) → (is_name n && are_expressions all) ≡ true → Head (expression_text (target_expression (record { name = n; arguments = all })) ++ 61 ∷ expression_text a.value)
    by_target n no_more g = head-at n 61 (expression_text a.value) (and_parts (is_name n) true g).0 refl (omega arith)
    by_target n (one_more e more) g = subst Head (sym (append_assoc_four n (40 ∷ (expression_text e ++ arguments_text more)) (41 ∷ []) (61 ∷ expression_text a.value)))
        (head-at n 40 ((expression_text e ++ arguments_text more) ++ ((41 ∷ []) ++ (61 ∷ expression_text a.value))) (and_parts (is_name n) (is_expression sum e && are_expressions more) g).0 refl (omega arith))

not_true : (b : Bool) → (b ≡ true → ⊥) → b ≡ false
not_true true h = absurd (h refl)
not_true false h = refl

-- a text that begins with a word of seven letters
long-apart : (text word : List ℕ) → Head text → ((x : List ℕ) → 7 ≤ letters_in (word ++ x)) → begins_with word text ≡ false
long-apart text word head long = not_true (begins_with word text) (λ h.
    let whole = word-front word text h in
    let same : letters_in (word ++ drop (length word) text) ≡ letters_in text = ap letters_in whole in
    let low = long (drop (length word) text) in
    let short = head.short in
    omega arith)

-- a text that is a word
word-apart : (text word : List ℕ) → Head text → symbol_in word ≡ None → bytes_eq text word ≡ false
word-apart text word head none = not_true (bytes_eq text word) (λ h.
    let same : symbol_in text ≡ symbol_in word = ap symbol_in (same_bytes text word h) in
    let found = head.found in
    cc)

print-apart : (text : List ℕ) → Head text → begins_with (codes "PRINT*") text ≡ false
unfolding symbol_in
print-apart text head = not_true (begins_with (codes "PRINT*") text) (λ h.
    let star : Some 42 ≡ symbol_in text = ap symbol_in (word-front (codes "PRINT*") text h) in
    let found = head.found in
    let same : head.symbol ≡ 42 = cc in
    head.no_star same)

assignment-statement : (a : AssignmentForm) → is_assignment a ≡ true → statement_at (assignment_text a) ≡ Some (assign a)
unfolding statement_at declared_at executed_at letters_in symbol_in
assignment-statement a g =
    let text = assignment_text a in
    let head = assignment-head a g in
    rw (
      word-apart text (codes "CONTINUE") head refl,
      word-apart text (codes "STOP") head refl,
      word-apart text (codes "END") head refl,
      long-apart text (codes "PROGRAM") head (λ x. omega arith),
      long-apart text (codes "INTEGER") head (λ x. omega arith),
      long-apart text (codes "DIMENSION") head (λ x. omega arith),
      long-apart text (codes "PARAMETER(") head (λ x. omega arith),
      print-apart text head,
      assign-again a g,
    ) refl

-- ---- all statements

-- what is made of an answer
made : {A B C : Type 0} (o : Option A) (f : A → Option B) (g : B → Option C) (y : B) → (o >>= f) ≡ Some y → (o >>= λ x. f x >>= g) ≡ g y
made None f g y h = absurd cc
made (Some x) f g y h = ap (λ (o : Option _). o >>= g) h

parenthesis-again : (inside : List ℕ) → before_parenthesis (inside ++ codes ")") ≡ Some inside
unfolding before_parenthesis
parenthesis-again inside =
    let all : length (inside ++ codes ")") - 1 ≡ length inside = omega (arith, length-append inside (codes ")")) in
    let last : drop (length inside) (inside ++ codes ")") ≡ codes ")" = drop-append_seam inside (codes ")") in
    let front : take (length inside) (inside ++ codes ")") ≡ inside = take-append_seam inside (codes ")") in
    rw (all, last, front) refl

do-statement : (d : DoForm) → is_do d ≡ true → statement_at (codes "DO" ++ behind_do d) ≡ Some (do_loop d)
unfolding statement_at declared_at executed_at branch_at
do-statement d g = rw (do-no_assignment d g, do-again d g) refl

if-statement : (c : ComparisonForm) (a : AssignmentForm) → is_comparison c ≡ true → is_assignment a ≡ true → statement_at (codes "IF(" ++ if_text c a) ≡ Some (logical_if c a)
unfolding statement_at declared_at executed_at branch_at
if-statement c a g h = rw (if-no_assignment c a g, if-again c a g h) refl

pub statement-again : (f : StatementForm) → is_statement f ≡ true → statement_at (statement_text f) ≡ Some f
unfolding statement_at declared_at executed_at branch_at program_at declarators_at parameter_at print_at if_text
statement-again (program n) g = rw g refl
statement-again (integer ds) g =
    let p = and_parts (nat_lt 0 (length ds)) (list_all is_declarator ds) g in
    rw (listed-again true (declarator_next false) declarator_text is_declarator integer-taken ds p.0 p.1) refl
statement-again (dimension ds) g =
    let p = and_parts (nat_lt 0 (length ds)) (list_all (λ d. is_declarator d && has_bounds d) ds) g in
    rw (listed-again true (declarator_next true) declarator_text (λ d. is_declarator d && has_bounds d) dimension-taken ds p.0 p.1) refl
statement-again (parameter ds) g =
    let p = and_parts (nat_lt 0 (length ds)) (list_all is_definition ds) g in
    rw (parenthesis-again (between_commas definition_text ds)) (made (pieces_at false (between_commas definition_text ds)) (λ ps. listed definition_next ps) (λ ds. Some (parameter ds)) ds (listed-again false definition_next definition_text is_definition definition-taken ds p.0 p.1))
statement-again (do_loop d) g = ap statement_at (do-text d) ∙ do-statement d g
statement-again (assign a) g = assignment-statement a g
statement-again (logical_if c a) g =
    let p = and_parts (is_comparison c) (is_assignment a) g in
    if-statement c a p.0 p.1
statement-again (print []) g = refl
statement-again (print (p ∷ ps)) g =
    made (pieces_at false (between_commas printed_text (p ∷ ps))) (λ qs. listed printed_next qs) (λ items. Some (print items)) (p ∷ ps) (listed-again false printed_next printed_text is_printed printed-taken (p ∷ ps) (let some : 0 < length (p ∷ ps) = omega arith in grind (arith, nat_tests)) g)
statement-again continue g = refl
statement-again stop g = refl
statement-again end g = refl
