-- What is read is written: a state prints as the characters that were read, and holds only what may be written.
use Rattle.std.proofs.Common.{◌≡◌, ℕ, ◌<◌, Bool, true, false, ◌&&◌, List, [], ◌∷◌, ◌++◌, drop, length, Option, Some, None, refl, sym, ap, subst, ◌∙◌, append_assoc, append-nil, if◌then◌else◌, inl, inr, arith}
use Rattle.std.specs.Prelude.{not, ◌==◌, ◌⊎◌, is_some, nat_lt}
use Rattle.std.specs.List.{list_all}
use Rattle.std.proofs.lemmas.List.Folds.{list_all-append}
use Rattle.std.proofs.lemmas.Bool.Decides.{nat_tests}
use borrow.Author.Tests.{eqb-true}
use Rattle.f77_forms.specs.declared.form.Sign.{Sign}
use Rattle.f77_forms.specs.declared.form.Sign.TheVariants.{Plus, Minus}
use Rattle.f77_forms.specs.declared.form.Operator.{Operator}
use Rattle.f77_forms.specs.declared.form.Operator.TheVariants.{Add, Subtract, Multiply, Divide}
use Rattle.f77_forms.specs.Characters.{is_capital_or_digit, is_name, is_number}
use Rattle.f77_forms.specs.Form.{ExpressionForm, number, name, call, parenthesized, signed, binary, arguments_in, BoundForm, value, constant}
use Rattle.f77_forms.specs.Text.{sign_code, operator_code, expression_text, arguments_text, behind_commas, between_commas, lower_text, bound_text, bounds_text, declarator_text, doubled, printed_text, Rank, factor, term, sum, makes, is_expression, are_expressions, has_more, is_optional, is_bound, is_declarator, has_bounds, is_printed}
use Rattle.f77_forms.specs.Reading.{◌>>=◌, PendingForm, nothing, lead, left, ItemForm, printed, declared, PieceForm, OpenerForm, pieces, group, arguments, bounds, LevelForm, bare, OperandForm, missing, word, whole, declarator, quoted, closed, StateForm, combined, word_value, operand_value, term_value, sum_value, item_value, is_nothing, is_missing, is_outermost, additive, pending_sum, add_step, multiply_step, opened, opener_at, open_step, is_separator, bounds_behind, opener_behind, separate_step, enclosed, left_to, close_step, quote_step, symbol_step, letter_at, plain_step, quoted_at, step_at, step, ended, finished, run, start, pieces_at}
use Rattle.f77_forms.proofs.Read.{and_parts, and_from, at, waits}

-- ---- options

pub bind_some : {A B : Type 0} (o : Option A) (f : A → Option B) (y : B) → (o >>= f) ≡ Some y → (x : A) × (o ≡ Some x) × (f x ≡ Some y)
bind_some None f y e = absurd cc
bind_some (Some x) f y e = (x, refl, e)

pub guard_some : {A : Type 0} (b : Bool) (o : Option A) (y : A) → (if b then o else None) ≡ Some y → (b ≡ true) × (o ≡ Some y)
guard_some true o y e = (refl, e)
guard_some false o y e = absurd cc

pub some_is : {A : Type 0} (x y : A) → Some x ≡ Some y → x ≡ y
some_is x y h = cc

-- ---- the characters that a state stands for

pub pending_text : PendingForm → List ℕ
pending_text nothing = []
pending_text (lead sign) = sign_code sign ∷ []
pending_text (left e op) = expression_text e ++ operator_code op ∷ []

abbrev pub item_text : ItemForm → List ℕ
item_text (printed p) = printed_text p
item_text (declared d) = declarator_text d

-- each behind its separator
abbrev pub pieces_text : List PieceForm → List ℕ
pieces_text [] = []
pieces_text (p ∷ ps) = p.separator ∷ item_text p.item ++ pieces_text ps

-- each in front of a comma
before_commas : {A : Type 0} → (A → List ℕ) → List A → List ℕ
before_commas text_of [] = []
before_commas text_of (x ∷ xs) = text_of x ++ 44 ∷ before_commas text_of xs

opener_text : OpenerForm → List ℕ
opener_text (pieces declares front separator) = pieces_text front ++ separator ∷ []
opener_text group = 40 ∷ []
opener_text (arguments n front) = n ++ 40 ∷ before_commas expression_text front
opener_text (bounds n front lower) = n ++ 40 ∷ before_commas bound_text front ++ lower_text lower

operand_text : OperandForm → List ℕ
operand_text missing = []
operand_text (word w) = w
operand_text (whole e) = expression_text e
operand_text (declarator d) = declarator_text d
operand_text (quoted cs) = 39 ∷ doubled cs
operand_text (closed cs) = 39 ∷ doubled cs ++ 39 ∷ []

-- what stands in an innermost level
abbrev inner_text : PendingForm → PendingForm → OperandForm → List ℕ
inner_text s p x = pending_text s ++ (pending_text p ++ operand_text x)

-- the levels round the innermost
outer_text : List LevelForm → List ℕ
outer_text [] = []
outer_text (l ∷ ls) = outer_text ls ++ (opener_text l.opener ++ (pending_text l.sum ++ pending_text l.product))

state_text : StateForm → List ℕ
state_text s = outer_text s.outer ++ (opener_text s.level.opener ++ inner_text s.level.sum s.level.product s.operand)

-- ---- what a state may hold

good_sum : PendingForm → Bool
good_sum nothing = true
good_sum (lead sign) = true
good_sum (left e op) = not (makes term op) && is_expression sum e

good_product : PendingForm → Bool
good_product nothing = true
good_product (lead sign) = false
good_product (left e op) = makes term op && is_expression term e

abbrev pub good_item : ItemForm → Bool
good_item (printed p) = is_printed p
good_item (declared d) = is_declarator d && has_bounds d

abbrev pub good_piece : PieceForm → Bool
good_piece p = good_item p.item

good_opener : OpenerForm → Bool
good_opener (pieces declares front separator) = list_all good_piece front
good_opener group = true
good_opener (arguments n front) = is_name n && list_all (is_expression sum) front
good_opener (bounds n front lower) = is_name n && list_all is_bound front && is_optional lower

good_operand : OperandForm → Bool
good_operand missing = true
good_operand (word w) = true
good_operand (whole e) = is_expression factor e
good_operand (declarator d) = is_declarator d && has_bounds d
good_operand (quoted cs) = true
good_operand (closed cs) = true

record GoodLevel (l : LevelForm) : Type 0 where
  opener : good_opener l.opener ≡ true
  sum : good_sum l.sum ≡ true
  product : good_product l.product ≡ true

AllGood : List LevelForm → Type 0
AllGood [] = Unit {0}
AllGood (l ∷ ls) = GoodLevel l × AllGood ls

record Good (s : StateForm) : Type 0 where
  outer : AllGood s.outer
  level : GoodLevel s.level
  operand : good_operand s.operand ≡ true

-- ---- what operands end

-- an expression of a rank, written as a text
pub record Value (r : Rank) (text : List ℕ) (e : ExpressionForm) : Type 0 where
  pub written : expression_text e ≡ text
  pub good : is_expression r e ≡ true

factor-term : (e : ExpressionForm) → is_expression factor e ≡ true → is_expression term e ≡ true
factor-term (number n) h = h
factor-term (name n) h = h
factor-term (call n all) h = h
factor-term (parenthesized e) h = h
factor-term (signed sign e) h = absurd cc
factor-term (binary op a b) h = absurd cc

term-sum : (e : ExpressionForm) → is_expression term e ≡ true → is_expression sum e ≡ true
term-sum (number n) h = h
term-sum (name n) h = h
term-sum (call n all) h = h
term-sum (parenthesized e) h = h
term-sum (signed sign e) h = absurd cc
term-sum (binary Add a b) h = absurd cc
term-sum (binary Subtract a b) h = absurd cc
term-sum (binary Multiply a b) h = h
term-sum (binary Divide a b) h = h

in_product : (p : PendingForm) (text : List ℕ) (e : ExpressionForm) → good_product p ≡ true → Value factor text e → Value term (pending_text p ++ text) (combined p e)
unfolding pending_text good_product combined
in_product nothing text e g v = record { written = v.written; good = factor-term e v.good }
in_product (lead sign) text e g v = absurd cc
in_product (left l Add) text e g v = absurd cc
in_product (left l Subtract) text e g v = absurd cc
in_product (left l Multiply) text e g v = record { written = ap (λ x. expression_text l ++ 42 ∷ x) v.written ∙ sym (append_assoc (expression_text l) (42 ∷ []) text); good = and_from (is_expression term l) (is_expression factor e) g v.good }
in_product (left l Divide) text e g v = record { written = ap (λ x. expression_text l ++ 47 ∷ x) v.written ∙ sym (append_assoc (expression_text l) (47 ∷ []) text); good = and_from (is_expression term l) (is_expression factor e) g v.good }

in_sum : (s : PendingForm) (text : List ℕ) (e : ExpressionForm) → good_sum s ≡ true → Value term text e → Value sum (pending_text s ++ text) (combined s e)
unfolding pending_text good_sum combined
in_sum nothing text e g v = record { written = v.written; good = term-sum e v.good }
in_sum (lead sign) text e g v = record { written = ap (λ x. sign_code sign ∷ x) v.written; good = v.good }
in_sum (left l Add) text e g v = record { written = ap (λ x. expression_text l ++ 43 ∷ x) v.written ∙ sym (append_assoc (expression_text l) (43 ∷ []) text); good = and_from (is_expression sum l) (is_expression term e) g v.good }
in_sum (left l Subtract) text e g v = record { written = ap (λ x. expression_text l ++ 45 ∷ x) v.written ∙ sym (append_assoc (expression_text l) (45 ∷ []) text); good = and_from (is_expression sum l) (is_expression term e) g v.good }
in_sum (left l Multiply) text e g v = absurd cc
in_sum (left l Divide) text e g v = absurd cc

word-value : (w : List ℕ) (e : ExpressionForm) → word_value w ≡ Some e → Value factor w e
unfolding word_value
word-value w e h = by_name (is_name w) refl
  where
    by_number : is_name w ≡ false → Value factor w e
    by_number n =
        let g = guard_some (is_number w) (Some (number w)) e (sym (ap (λ b. if b then Some (name w) else (if is_number w then Some (number w) else None)) n) ∙ h) in
        subst (Value factor w) (some_is (number w) e g.1) (record { written = refl; good = g.0 })

    by_name : (b : Bool) → is_name w ≡ b → Value factor w e
    by_name true n =
        let is : Some (name w) ≡ Some e = sym (ap (λ b. if b then Some (name w) else (if is_number w then Some (number w) else None)) n) ∙ h in
        subst (Value factor w) (some_is (name w) e is) (record { written = refl; good = n })
    by_name false n = by_number n

operand-value : (x : OperandForm) (e : ExpressionForm) → good_operand x ≡ true → operand_value x ≡ Some e → Value factor (operand_text x) e
unfolding operand_value operand_text good_operand
operand-value missing e g h = absurd cc
operand-value (word w) e g h = word-value w e h
operand-value (whole f) e g h = subst (Value factor (expression_text f)) (some_is f e h) (record { written = refl; good = g })
operand-value (declarator d) e g h = absurd cc
operand-value (quoted cs) e g h = absurd cc
operand-value (closed cs) e g h = absurd cc

term-value : (p : PendingForm) (x : OperandForm) (e : ExpressionForm) → good_product p ≡ true → good_operand x ≡ true → term_value p x ≡ Some e → Value term (pending_text p ++ operand_text x) e
unfolding term_value
term-value p x e gp gx h =
    let b = bind_some (operand_value x) (λ f. Some (combined p f)) e h in
    subst (Value term (pending_text p ++ operand_text x)) (some_is (combined p b.0) e b.2) (in_product p (operand_text x) b.0 gp (operand-value x b.0 gx b.1))

sum-value : (s p : PendingForm) (x : OperandForm) (e : ExpressionForm) → good_sum s ≡ true → good_product p ≡ true → good_operand x ≡ true → sum_value s p x ≡ Some e → Value sum (inner_text s p x) e
unfolding sum_value
sum-value s p x e gs gp gx h =
    let b = bind_some (term_value p x) (λ f. Some (combined s f)) e h in
    subst (Value sum (inner_text s p x)) (some_is (combined s b.0) e b.2) (in_sum s (pending_text p ++ operand_text x) b.0 gs (term-value p x b.0 gp gx b.1))

-- nothing waits
alone : (s p : PendingForm) (x : OperandForm) → is_nothing s ≡ true → is_nothing p ≡ true → operand_text x ≡ inner_text s p x
unfolding pending_text
alone nothing nothing x h k = refl
alone nothing (lead sign) x h k = absurd cc
alone nothing (left e op) x h k = absurd cc
alone (lead sign) p x h k = absurd cc
alone (left e op) p x h k = absurd cc

nothing-text : (x : OperandForm) → is_missing x ≡ true → operand_text x ≡ []
unfolding operand_text
nothing-text missing h = refl
nothing-text (word w) h = absurd cc
nothing-text (whole e) h = absurd cc
nothing-text (declarator d) h = absurd cc
nothing-text (quoted cs) h = absurd cc
nothing-text (closed cs) h = absurd cc

item-value : (s p : PendingForm) (x : OperandForm) (i : ItemForm) → good_sum s ≡ true → good_product p ≡ true → good_operand x ≡ true → item_value s p x ≡ Some i → (item_text i ≡ inner_text s p x) × (good_item i ≡ true)
unfolding item_value good_operand pending_text operand_text
item-value s p missing i gs gp gx h = absurd cc
item-value s p (word w) i gs gp gx h =
    let b = bind_some (sum_value s p (word w)) (λ e. Some (printed (value e))) i h in
    let v = sum-value s p (word w) b.0 gs gp refl b.1 in
    let is = some_is (printed (value b.0)) i b.2 in
    (ap item_text (sym is) ∙ v.written, ap good_item (sym is) ∙ v.good)
item-value s p (whole f) i gs gp gx h =
    let b = bind_some (sum_value s p (whole f)) (λ e. Some (printed (value e))) i h in
    let v = sum-value s p (whole f) b.0 gs gp gx b.1 in
    let is = some_is (printed (value b.0)) i b.2 in
    (ap item_text (sym is) ∙ v.written, ap good_item (sym is) ∙ v.good)
item-value s p (declarator d) i gs gp gx h =
    let g = guard_some (is_nothing s && is_nothing p) (Some (declared d)) i h in
    let is = some_is (declared d) i g.1 in
    let q = and_parts (is_nothing s) (is_nothing p) g.0 in
    (ap item_text (sym is) ∙ alone s p (declarator d) q.0 q.1, ap good_item (sym is) ∙ gx)
item-value s p (quoted cs) i gs gp gx h = absurd cc
item-value s p (closed cs) i gs gp gx h =
    let g = guard_some (is_nothing s && is_nothing p && nat_lt 0 (length cs)) (Some (printed (constant cs))) i h in
    let is = some_is (printed (constant cs)) i g.1 in
    let q = and_parts (is_nothing s && is_nothing p) (nat_lt 0 (length cs)) g.0 in
    let r = and_parts (is_nothing s) (is_nothing p) q.0 in
    (ap item_text (sym is) ∙ alone s p (closed cs) r.0 r.1, ap good_item (sym is) ∙ q.1)

-- ---- steps

-- the state after one more character
record Extends (s : StateForm) (c : ℕ) (t : StateForm) : Type 0 where
  text : state_text t ≡ state_text s ++ c ∷ []
  good : Good t

pending-sum : (s p : PendingForm) (x : OperandForm) (sign : Sign) (q : PendingForm) → good_sum s ≡ true → good_product p ≡ true → good_operand x ≡ true → pending_sum s p x sign ≡ Some q → (pending_text q ≡ inner_text s p x ++ sign_code sign ∷ []) × (good_sum q ≡ true)
unfolding pending_sum pending_text good_sum
pending-sum s p x sign q gs gp gx h = by_missing (is_missing x) refl
  where
    led : Option PendingForm
    led = if is_nothing s && is_nothing p then Some (lead sign) else None

    summed : Option PendingForm
    summed = sum_value s p x >>= λ e. Some (left e (additive sign))

    same_code : (t : Sign) → operator_code (additive t) ≡ sign_code t
    same_code Plus = refl
    same_code Minus = refl

    is_sum : (t : Sign) → not (makes term (additive t)) ≡ true
    is_sum Plus = refl
    is_sum Minus = refl

    by_missing : (b : Bool) → is_missing x ≡ b → (pending_text q ≡ inner_text s p x ++ sign_code sign ∷ []) × (good_sum q ≡ true)
    by_missing true m =
        let chosen : led ≡ Some q = sym (ap (λ b. if b then led else summed) m) ∙ h in
        let g = guard_some (is_nothing s && is_nothing p) (Some (lead sign)) q chosen in
        let r = and_parts (is_nothing s) (is_nothing p) g.0 in
        let is = some_is (lead sign) q g.1 in
        (ap pending_text (sym is) ∙ ap (λ t. t ++ sign_code sign ∷ []) (sym (sym (alone s p x r.0 r.1) ∙ nothing-text x m)), ap good_sum (sym is))
    by_missing false m =
        let chosen : summed ≡ Some q = sym (ap (λ b. if b then led else summed) m) ∙ h in
        let b = bind_some (sum_value s p x) (λ e. Some (left e (additive sign))) q chosen in
        let v = sum-value s p x b.0 gs gp gx b.1 in
        let is = some_is (left b.0 (additive sign)) q b.2 in (
          ap pending_text (sym is) ∙ ap (λ t. t ++ operator_code (additive sign) ∷ []) v.written ∙ ap (λ c. inner_text s p x ++ c ∷ []) (same_code sign),
          ap good_sum (sym is) ∙ and_from (not (makes term (additive sign))) (is_expression sum b.0) (is_sum sign) v.good,
        )

add-extends : (s t : StateForm) (sign : Sign) → Good s → add_step s sign ≡ Some t → Extends s (sign_code sign) t
unfolding add_step state_text pending_text operand_text good_product good_operand
add-extends s t sign g h =
    let b = bind_some (pending_sum s.level.sum s.level.product s.operand sign) (λ p. Some (at s.outer (waits s.level.opener p nothing) missing)) t h in
    let v = pending-sum s.level.sum s.level.product s.operand sign b.0 g.level.sum g.level.product g.operand b.1 in
    subst (Extends s (sign_code sign)) (some_is (at s.outer (waits s.level.opener b.0 nothing) missing) t b.2) (record {
      text = rw v.0 (simp (append_assoc, append-nil));
      good = record { outer = g.outer; level = record { opener = g.level.opener; sum = v.1; product = refl }; operand = refl };
    })

multiply-extends : (s t : StateForm) (op : Operator) → makes term op ≡ true → Good s → multiply_step s op ≡ Some t → Extends s (operator_code op) t
unfolding multiply_step state_text pending_text operand_text good_product good_operand
multiply-extends s t op m g h =
    let b = bind_some (term_value s.level.product s.operand) (λ e. Some (at s.outer (waits s.level.opener s.level.sum (left e op)) missing)) t h in
    let v = term-value s.level.product s.operand b.0 g.level.product g.operand b.1 in
    subst (Extends s (operator_code op)) (some_is (at s.outer (waits s.level.opener s.level.sum (left b.0 op)) missing) t b.2) (record {
      text = rw v.written (simp (append_assoc, append-nil));
      good = record { outer = g.outer; level = record { opener = g.level.opener; sum = g.level.sum; product = and_from (makes term op) (is_expression term b.0) m v.good }; operand = refl };
    })

-- ---- parentheses

pub pieces-last : (ps : List PieceForm) (p : PieceForm) → pieces_text (ps ++ p ∷ []) ≡ pieces_text ps ++ p.separator ∷ item_text p.item
pieces-last [] p = append-nil (p.separator ∷ item_text p.item)
pieces-last (q ∷ ps) p = ap (λ t. q.separator ∷ item_text q.item ++ t) (pieces-last ps p) ∙ sym (append_assoc (q.separator ∷ item_text q.item) (pieces_text ps) (p.separator ∷ item_text p.item))

arguments-list : (es : List ExpressionForm) → arguments_text (arguments_in es) ≡ behind_commas expression_text es
arguments-list [] = refl
arguments-list (e ∷ es) = ap (λ t. 44 ∷ expression_text e ++ t) (arguments-list es)

-- one more behind those in front of commas
commas-last : {A : Type 0} (text_of : A → List ℕ) (xs : List A) (y : A) → behind_commas text_of (xs ++ y ∷ []) ≡ 44 ∷ (before_commas text_of xs ++ text_of y)
unfolding before_commas
commas-last text_of [] y = ap (λ t. 44 ∷ t) (append-nil (text_of y))
commas-last text_of (x ∷ xs) y = ap (λ t. 44 ∷ text_of x ++ t) (commas-last text_of xs y) ∙ ap (λ t. 44 ∷ t) (sym (append_assoc (text_of x) (44 ∷ before_commas text_of xs) (text_of y)))

before_commas-last : {A : Type 0} (text_of : A → List ℕ) (xs : List A) (y : A) → before_commas text_of (xs ++ y ∷ []) ≡ before_commas text_of xs ++ (text_of y ++ 44 ∷ [])
unfolding before_commas
before_commas-last text_of [] y = refl
before_commas-last text_of (x ∷ xs) y = ap (λ t. text_of x ++ 44 ∷ t) (before_commas-last text_of xs y) ∙ sym (append_assoc (text_of x) (44 ∷ before_commas text_of xs) (text_of y ++ 44 ∷ []))

arguments-good : (es : List ExpressionForm) → are_expressions (arguments_in es) ≡ list_all (is_expression sum) es
arguments-good [] = refl
arguments-good (e ∷ es) = ap (λ b. is_expression sum e && b) (arguments-good es)

arguments-more : (es : List ExpressionForm) (e : ExpressionForm) → has_more (arguments_in (es ++ e ∷ [])) ≡ true
arguments-more [] e = refl
arguments-more (d ∷ es) e = refl

bounds-more : (bs : List BoundForm) (b : BoundForm) → (n : List ℕ) → has_bounds (record { name = n; bounds = bs ++ b ∷ [] }) ≡ true
bounds-more [] b n = refl
bounds-more (a ∷ bs) b n = (let some : 0 < length (a ∷ (bs ++ b ∷ [])) = omega arith in grind (arith, nat_tests))

bounds-last : (bs : List BoundForm) (b : BoundForm) → bounds_text (bs ++ b ∷ []) ≡ 40 ∷ (before_commas bound_text bs ++ (bound_text b ++ 41 ∷ []))
bounds-last bs b = by_bounds bs ∙ ap (λ t. (40 ∷ drop 1 t) ++ 41 ∷ []) (commas-last bound_text bs b) ∙ ap (λ t. 40 ∷ t) (append_assoc (before_commas bound_text bs) (bound_text b) (41 ∷ []))
  where
    by_bounds : (front : List BoundForm) → bounds_text (front ++ b ∷ []) ≡ (40 ∷ between_commas bound_text (front ++ b ∷ [])) ++ 41 ∷ []
    by_bounds [] = refl
    by_bounds (a ∷ front) = refl

pub all-last : {A : Type 0} (p : A → Bool) (xs : List A) (y : A) → list_all p xs ≡ true → p y ≡ true → list_all p (xs ++ y ∷ []) ≡ true
all-last p xs y h k = list_all-append p xs (y ∷ []) ∙ and_from (list_all p xs) (p y && true) h (and_from (p y) true k refl)

-- the operand behind the parenthesis that ends an inner level
enclosed-extends : (opener : OpenerForm) (e : ExpressionForm) (text : List ℕ) → is_outermost opener ≡ false → good_opener opener ≡ true → Value sum text e → (operand_text (enclosed opener e) ≡ opener_text opener ++ (text ++ 41 ∷ [])) × (good_operand (enclosed opener e) ≡ true)
unfolding enclosed operand_text opener_text good_opener good_operand
enclosed-extends (pieces declares front separator) e text inner g v = absurd cc
enclosed-extends group e text inner g v = (ap (λ t. 40 ∷ t ++ 41 ∷ []) v.written, v.good)
enclosed-extends (arguments n front) e text inner g v =
    let q = and_parts (is_name n) (list_all (is_expression sum) front) g in
    let listed : drop 1 (arguments_text (arguments_in (front ++ e ∷ []))) ≡ before_commas expression_text front ++ text = ap (drop 1) (arguments-list (front ++ e ∷ []) ∙ commas-last expression_text front e) ∙ ap (λ t. before_commas expression_text front ++ t) v.written in
    let all : are_expressions (arguments_in (front ++ e ∷ [])) ≡ true = arguments-good (front ++ e ∷ []) ∙ all-last (is_expression sum) front e q.1 v.good in
    (rw listed (simp append_assoc), rw (q.0, arguments-more front e, all) refl)
enclosed-extends (bounds n front lower) e text inner g v =
    let q = and_parts (is_name n && list_all is_bound front) (is_optional lower) g in
    let r = and_parts (is_name n) (list_all is_bound front) q.0 in
    let b : BoundForm = record { lower = lower; upper = e } in
    let all : list_all is_bound (front ++ b ∷ []) ≡ true = all-last is_bound front b r.1 (and_from (is_optional lower) (is_expression sum e) q.1 v.good) in
    (ap (λ t. n ++ t) (bounds-last front b) ∙ rw v.written (simp append_assoc), and_from (is_name n && list_all is_bound (front ++ b ∷ [])) (has_bounds (record { name = n; bounds = front ++ b ∷ [] })) (and_from (is_name n) (list_all is_bound (front ++ b ∷ [])) r.0 all) (bounds-more front b n))

opener-at : (outside opener : OpenerForm) (x : OperandForm) → opener_at outside x ≡ Some opener → (opener_text opener ≡ operand_text x ++ 40 ∷ []) × (good_opener opener ≡ true)
unfolding opener_at opened operand_text opener_text before_commas good_opener
opener-at outside opener missing h = (ap opener_text (sym (some_is group opener h)), ap good_opener (sym (some_is group opener h)))
opener-at outside opener (word w) h =
    let g = guard_some (is_name w) (Some (opened outside w)) opener h in
    let is = some_is (opened outside w) opener g.1 in
    (ap opener_text (sym is) ∙ (opens outside).0, ap good_opener (sym is) ∙ (opens outside).1 ∙ g.0)
  where
    always : (b : Bool) → (b && true) ≡ b
    always true = refl
    always false = refl

    opens : (o : OpenerForm) → (opener_text (opened o w) ≡ w ++ 40 ∷ []) × (good_opener (opened o w) ≡ is_name w)
    opens (pieces true front separator) = (append-nil (w ++ 40 ∷ []), rw (always (is_name w), always (is_name w)) refl)
    opens (pieces false front separator) = (refl, always (is_name w))
    opens group = (refl, always (is_name w))
    opens (arguments n front) = (refl, always (is_name w))
    opens (bounds n front lower) = (refl, always (is_name w))
opener-at outside opener (whole e) h = absurd cc
opener-at outside opener (declarator d) h = absurd cc
opener-at outside opener (quoted cs) h = absurd cc
opener-at outside opener (closed cs) h = absurd cc

open-extends : (s t : StateForm) → Good s → open_step s ≡ Some t → Extends s 40 t
unfolding open_step state_text outer_text pending_text operand_text good_sum good_product good_operand AllGood
open-extends s t g h =
    let b = bind_some (opener_at s.level.opener s.operand) (λ opener. Some (at (s.level ∷ s.outer) (bare opener) missing)) t h in
    let v = opener-at s.level.opener b.0 s.operand b.1 in
    subst (Extends s 40) (some_is (at (s.level ∷ s.outer) (bare b.0) missing) t b.2) (record {
      text = rw v.0 (simp (append_assoc, append-nil));
      good = record { outer = (g.level, g.outer); level = record { opener = v.1; sum = refl; product = refl }; operand = refl };
    })

close-extends : (s t : StateForm) → Good s → is_outermost s.level.opener ≡ false → (sum_value s.level.sum s.level.product s.operand >>= λ e. left_to s.outer (enclosed s.level.opener e)) ≡ Some t → Extends s 41 t
unfolding left_to state_text outer_text AllGood
close-extends s t g inner h =
    let b = bind_some (sum_value s.level.sum s.level.product s.operand) (λ e. left_to s.outer (enclosed s.level.opener e)) t h in
    let v = sum-value s.level.sum s.level.product s.operand b.0 g.level.sum g.level.product g.operand b.1 in
    let x = enclosed-extends s.level.opener b.0 (inner_text s.level.sum s.level.product s.operand) inner g.level.opener v in
    leave s.outer refl g.outer (enclosed s.level.opener b.0) x.0 x.1 b.2
  where
    leave : (o : List LevelForm) → s.outer ≡ o → AllGood o → (x : OperandForm) → operand_text x ≡ opener_text s.level.opener ++ (inner_text s.level.sum s.level.product s.operand ++ 41 ∷ []) → good_operand x ≡ true → left_to o x ≡ Some t → Extends s 41 t
    leave [] e all x w k h = absurd cc
    leave (l ∷ o) e all x w k h = subst (Extends s 41) (some_is (at o l x) t h) (record {
      text = rw (e, w) (simp append_assoc);
      good = record { outer = all.1; level = all.0; operand = k };
    })

bounds-behind : (n : List ℕ) (front : List BoundForm) (lower : Option ExpressionForm) (e : ExpressionForm) (c : ℕ) (opener : OpenerForm) (text : List ℕ) → good_opener (bounds n front lower) ≡ true → Value sum text e → bounds_behind n front lower e c ≡ Some opener
    → (opener_text opener ≡ opener_text (bounds n front lower) ++ (text ++ c ∷ [])) × (good_opener opener ≡ true)
unfolding bounds_behind opener_text good_opener
bounds-behind n front lower e c opener text g v h = by_comma (c == 44) refl
  where
    b : BoundForm
    b = record { lower = lower; upper = e }

    more : Option OpenerForm
    more = Some (bounds n (front ++ b ∷ []) None)

    first : Option OpenerForm
    first = if (c == 58) && not (is_some lower) then Some (bounds n front (Some e)) else None

    no_lower : (l : Option ExpressionForm) → not (is_some l) ≡ true → lower_text l ≡ []
    no_lower None h = refl
    no_lower (Some l) h = absurd cc

    name_good : is_name n ≡ true
    name_good = (and_parts (is_name n) (list_all is_bound front) (and_parts (is_name n && list_all is_bound front) (is_optional lower) g).0).0

    front_good : list_all is_bound front ≡ true
    front_good = (and_parts (is_name n) (list_all is_bound front) (and_parts (is_name n && list_all is_bound front) (is_optional lower) g).0).1

    lower_good : is_optional lower ≡ true
    lower_good = (and_parts (is_name n && list_all is_bound front) (is_optional lower) g).1

    by_comma : (k : Bool) → (c == 44) ≡ k → (opener_text opener ≡ opener_text (bounds n front lower) ++ (text ++ c ∷ [])) × (good_opener opener ≡ true)
    by_comma true k =
        let is = some_is (bounds n (front ++ b ∷ []) None) opener (sym (ap (λ (x : Bool). if x then more else first) k) ∙ h) in
        let all : list_all is_bound (front ++ b ∷ []) ≡ true = all-last is_bound front b front_good (and_from (is_optional lower) (is_expression sum e) lower_good v.good) in
        (ap opener_text (sym is) ∙ rw (before_commas-last bound_text front b, v.written, eqb-true c 44 k) (simp (append_assoc, append-nil)), ap good_opener (sym is) ∙ rw (name_good, all) refl)
    by_comma false k =
        let q = guard_some ((c == 58) && not (is_some lower)) (Some (bounds n front (Some e))) opener (sym (ap (λ (x : Bool). if x then more else first) k) ∙ h) in
        let r = and_parts (c == 58) (not (is_some lower)) q.0 in
        let is = some_is (bounds n front (Some e)) opener q.1 in
        (ap opener_text (sym is) ∙ rw (v.written, no_lower lower r.1, eqb-true c 58 r.0) (simp (append_assoc, append-nil)), ap good_opener (sym is) ∙ rw (name_good, front_good, v.good) refl)

opener-behind : (opener after : OpenerForm) (s p : PendingForm) (x : OperandForm) (c : ℕ) → good_opener opener ≡ true → good_sum s ≡ true → good_product p ≡ true → good_operand x ≡ true → opener_behind opener s p x c ≡ Some after
    → (opener_text after ≡ opener_text opener ++ (inner_text s p x ++ c ∷ [])) × (good_opener after ≡ true)
unfolding opener_behind opener_text good_opener
opener-behind (pieces declares front separator) after s p x c g gs gp gx h =
    let q = guard_some (is_separator c) (item_value s p x >>= λ i. Some (pieces declares (front ++ record { separator = separator; item = i } ∷ []) c)) after h in
    let b = bind_some (item_value s p x) (λ i. Some (pieces declares (front ++ record { separator = separator; item = i } ∷ []) c)) after q.1 in
    let v = item-value s p x b.0 gs gp gx b.1 in
    let is = some_is (pieces declares (front ++ record { separator = separator; item = b.0 } ∷ []) c) after b.2 in
    (ap opener_text (sym is) ∙ rw (pieces-last front (record { separator = separator; item = b.0 }), v.0) (simp append_assoc), ap good_opener (sym is) ∙ all-last good_piece front (record { separator = separator; item = b.0 }) g v.1)
opener-behind group after s p x c g gs gp gx h = absurd cc
opener-behind (arguments n front) after s p x c g gs gp gx h =
    let q = guard_some (c == 44) (sum_value s p x >>= λ e. Some (arguments n (front ++ e ∷ []))) after h in
    let b = bind_some (sum_value s p x) (λ e. Some (arguments n (front ++ e ∷ []))) after q.1 in
    let v = sum-value s p x b.0 gs gp gx b.1 in
    let is = some_is (arguments n (front ++ b.0 ∷ [])) after b.2 in
    let r = and_parts (is_name n) (list_all (is_expression sum) front) g in
    (ap opener_text (sym is) ∙ rw (before_commas-last expression_text front b.0, v.written, eqb-true c 44 q.0) (simp append_assoc), ap good_opener (sym is) ∙ and_from (is_name n) (list_all (is_expression sum) (front ++ b.0 ∷ [])) r.0 (all-last (is_expression sum) front b.0 r.1 v.good))
opener-behind (bounds n front lower) after s p x c g gs gp gx h =
    let b = bind_some (sum_value s p x) (λ e. bounds_behind n front lower e c) after h in
    let v = sum-value s p x b.0 gs gp gx b.1 in
    bounds-behind n front lower b.0 c after (inner_text s p x) g v b.2

separate-extends : (s t : StateForm) (c : ℕ) → Good s → separate_step s c ≡ Some t → Extends s c t
unfolding separate_step state_text pending_text operand_text good_sum good_product good_operand
separate-extends s t c g h =
    let b = bind_some (opener_behind s.level.opener s.level.sum s.level.product s.operand c) (λ opener. Some (at s.outer (bare opener) missing)) t h in
    let v = opener-behind s.level.opener b.0 s.level.sum s.level.product s.operand c g.level.opener g.level.sum g.level.product g.operand b.1 in
    subst (Extends s c) (some_is (at s.outer (bare b.0) missing) t b.2) (record {
      text = rw v.0 (simp (append_assoc, append-nil));
      good = record { outer = g.outer; level = record { opener = v.1; sum = refl; product = refl }; operand = refl };
    })

-- one of two choices
pub chosen : {A : Type 0} (b : Bool) (x y : Option A) (t : A) → (if b then x else y) ≡ Some t → ((b ≡ true) × (x ≡ Some t)) ⊎ ((b ≡ false) × (y ≡ Some t))
chosen true x y t h = inl (refl, h)
chosen false x y t h = inr (refl, h)

close-step : (s t : StateForm) → Good s → close_step s ≡ Some t → Extends s 41 t
unfolding close_step
close-step s t g h = elim (chosen (is_outermost s.level.opener) (separate_step s 41) (sum_value s.level.sum s.level.product s.operand >>= λ e. left_to s.outer (enclosed s.level.opener e)) t h) [
  | inl p ↦ separate-extends s t 41 g p.1
  | inr q ↦ close-extends s t g q.0 q.1
]

quote-extends : (s t : StateForm) → Good s → quote_step s ≡ Some t → Extends s 39 t
unfolding quote_step state_text operand_text good_operand
quote-extends s t g h =
    let q = guard_some (is_outermost s.level.opener && is_missing s.operand && is_nothing s.level.sum && is_nothing s.level.product) (Some (at s.outer s.level (quoted []))) t h in
    let r = and_parts (is_outermost s.level.opener && is_missing s.operand && is_nothing s.level.sum) (is_nothing s.level.product) q.0 in
    let u = and_parts (is_outermost s.level.opener && is_missing s.operand) (is_nothing s.level.sum) r.0 in
    let w = and_parts (is_outermost s.level.opener) (is_missing s.operand) u.0 in
    subst (Extends s 39) (some_is (at s.outer s.level (quoted [])) t q.1) (record {
      text = rw (nothing-text s.operand w.1) (simp (append_assoc, append-nil));
      good = record { outer = g.outer; level = g.level; operand = refl };
    })

symbol-extends : (s t : StateForm) (c : ℕ) → Good s → symbol_step s c ≡ Some t → Extends s c t
unfolding symbol_step
symbol-extends s t c g h = elim (chosen (c == 43) (add_step s Plus) _ t h) [
  | inl p ↦ rw (eqb-true c 43 p.0) (add-extends s t Plus g p.1)
  | inr h ↦ elim (chosen (c == 45) (add_step s Minus) _ t h.1) [
    | inl p ↦ rw (eqb-true c 45 p.0) (add-extends s t Minus g p.1)
    | inr h ↦ elim (chosen (c == 42) (multiply_step s Multiply) _ t h.1) [
      | inl p ↦ rw (eqb-true c 42 p.0) (multiply-extends s t Multiply refl g p.1)
      | inr h ↦ elim (chosen (c == 47) (multiply_step s Divide) _ t h.1) [
        | inl p ↦ rw (eqb-true c 47 p.0) (multiply-extends s t Divide refl g p.1)
        | inr h ↦ elim (chosen (c == 40) (open_step s) _ t h.1) [
          | inl p ↦ rw (eqb-true c 40 p.0) (open-extends s t g p.1)
          | inr h ↦ elim (chosen (c == 41) (close_step s) _ t h.1) [
            | inl p ↦ rw (eqb-true c 41 p.0) (close-step s t g p.1)
            | inr h ↦ elim (chosen (c == 39) (quote_step s) _ t h.1) [
              | inl p ↦ rw (eqb-true c 39 p.0) (quote-extends s t g p.1)
              | inr h ↦ separate-extends s t c g h.1
            ]
          ]
        ]
      ]
    ]
  ]
]

letter-at : (x y : OperandForm) (c : ℕ) → letter_at x c ≡ Some y → (operand_text y ≡ operand_text x ++ c ∷ []) × (good_operand y ≡ true)
unfolding letter_at operand_text good_operand
letter-at missing y c h = (ap operand_text (sym (some_is (word (c ∷ [])) y h)), ap good_operand (sym (some_is (word (c ∷ [])) y h)))
letter-at (word w) y c h = (ap operand_text (sym (some_is (word (w ++ c ∷ [])) y h)), ap good_operand (sym (some_is (word (w ++ c ∷ [])) y h)))
letter-at (whole e) y c h = absurd cc
letter-at (declarator d) y c h = absurd cc
letter-at (quoted cs) y c h = absurd cc
letter-at (closed cs) y c h = absurd cc

-- another operand with one more character
operand-extends : (s : StateForm) (y : OperandForm) (c : ℕ) → Good s → operand_text y ≡ operand_text s.operand ++ c ∷ [] → good_operand y ≡ true → Extends s c (at s.outer s.level y)
unfolding state_text
operand-extends s y c g e k = record { text = rw e (simp append_assoc); good = record { outer = g.outer; level = g.level; operand = k } }

plain-extends : (s t : StateForm) (c : ℕ) → Good s → plain_step s c ≡ Some t → Extends s c t
unfolding plain_step
plain-extends s t c g h = elim (chosen (is_capital_or_digit c) (letter_at s.operand c >>= λ operand. Some (at s.outer s.level operand)) (symbol_step s c) t h) [
  | inl p ↦ (
      let b = bind_some (letter_at s.operand c) (λ operand. Some (at s.outer s.level operand)) t p.1 in
      let v = letter-at s.operand b.0 c b.1 in
      subst (Extends s c) (some_is (at s.outer s.level b.0) t b.2) (operand-extends s b.0 c g v.0 v.1))
  | inr q ↦ symbol-extends s t c g q.1
]

doubled-on : (d : ℕ) (all front more : List ℕ) → doubled all ≡ doubled front ++ more → doubled (d ∷ all) ≡ doubled (d ∷ front) ++ more
doubled-on d all front more h = by_quote (d == 39)
  where
    by_quote : (b : Bool) → (if b then 39 ∷ 39 ∷ doubled all else d ∷ doubled all) ≡ (if b then 39 ∷ 39 ∷ doubled front else d ∷ doubled front) ++ more
    by_quote true = ap (λ t. 39 ∷ 39 ∷ t) h
    by_quote false = ap (λ t. d ∷ t) h

-- the characters of a constant, one of them doubled
doubled-more : (cs : List ℕ) (c : ℕ) → (c == 39) ≡ false → doubled (cs ++ c ∷ []) ≡ doubled cs ++ c ∷ []
doubled-more [] c h = rw h refl
doubled-more (d ∷ cs) c h = doubled-on d (cs ++ c ∷ []) cs (c ∷ []) (doubled-more cs c h)

doubled-quote : (cs : List ℕ) → doubled (cs ++ 39 ∷ []) ≡ doubled cs ++ 39 ∷ 39 ∷ []
doubled-quote [] = refl
doubled-quote (d ∷ cs) = doubled-on d (cs ++ 39 ∷ []) cs (39 ∷ 39 ∷ []) (doubled-quote cs)

quoted-at : (cs : List ℕ) (c : ℕ) → (operand_text (quoted_at cs c) ≡ operand_text (quoted cs) ++ c ∷ []) × (good_operand (quoted_at cs c) ≡ true)
unfolding operand_text good_operand
quoted-at cs c = by_quote (c == 39) refl
  where
    by_quote : (b : Bool) → (c == 39) ≡ b → (operand_text (if c == 39 then closed cs else quoted (cs ++ c ∷ [])) ≡ (39 ∷ doubled cs) ++ c ∷ []) × (good_operand (if c == 39 then closed cs else quoted (cs ++ c ∷ [])) ≡ true)
    by_quote true h = rw (eqb-true c 39 h) (refl, refl)
    by_quote false h = rw h (ap (λ t. 39 ∷ t) (doubled-more cs c h), refl)

quoted-good : (cs : List ℕ) → good_operand (quoted cs) ≡ true
unfolding good_operand
quoted-good cs = refl

quoted-again : (cs : List ℕ) → operand_text (quoted (cs ++ 39 ∷ [])) ≡ operand_text (closed cs) ++ 39 ∷ []
unfolding operand_text
quoted-again cs = ap (λ t. 39 ∷ t) (doubled-quote cs ∙ sym (append_assoc (doubled cs) (39 ∷ []) (39 ∷ [])))

-- a step at a state with this operand
step-at : (x : OperandForm) (s t : StateForm) (c : ℕ) → Good s → s.operand ≡ x → step_at x s c ≡ Some t → Extends s c t
unfolding step_at
step-at missing s t c g e h = plain-extends s t c g h
step-at (word w) s t c g e h = plain-extends s t c g h
step-at (whole f) s t c g e h = plain-extends s t c g h
step-at (declarator d) s t c g e h = plain-extends s t c g h
step-at (quoted cs) s t c g e h =
    let v = quoted-at cs c in
    subst (Extends s c) (some_is (at s.outer s.level (quoted_at cs c)) t h) (operand-extends s (quoted_at cs c) c g (v.0 ∙ ap (λ y. operand_text y ++ c ∷ []) (sym e)) v.1)
step-at (closed cs) s t c g e h = elim (chosen (c == 39) (Some (at s.outer s.level (quoted (cs ++ 39 ∷ [])))) (plain_step s c) t h) [
  | inl p ↦ rw (eqb-true c 39 p.0) (subst (Extends s 39) (some_is (at s.outer s.level (quoted (cs ++ 39 ∷ []))) t p.1) (operand-extends s (quoted (cs ++ 39 ∷ [])) 39 g (quoted-again cs ∙ ap (λ y. operand_text y ++ 39 ∷ []) (sym e)) (quoted-good (cs ++ 39 ∷ []))))
  | inr q ↦ plain-extends s t c g q.1
]

step-extends : (s t : StateForm) (c : ℕ) → Good s → step s c ≡ Some t → Extends s c t
unfolding step
step-extends s t c g h = step-at s.operand s t c g refl h

-- ---- whole texts

-- pieces that are written as a text
pub record Written (all : List ℕ) (ps : List PieceForm) : Type 0 where
  pub text : pieces_text ps ≡ all
  pub good : list_all good_piece ps ≡ true

ended-written : (o : List LevelForm) (opener : OpenerForm) (s p : PendingForm) (x : OperandForm) (ps : List PieceForm) → good_opener opener ≡ true → good_sum s ≡ true → good_product p ≡ true → good_operand x ≡ true → ended o opener (item_value s p x) ≡ Some ps
    → Written (outer_text o ++ (opener_text opener ++ inner_text s p x)) ps
unfolding ended outer_text opener_text good_opener
ended-written [] (pieces declares front separator) s p x ps g gs gp gx h =
    let b = bind_some (item_value s p x) (λ i. Some (front ++ record { separator = separator; item = i } ∷ [])) ps h in
    let v = item-value s p x b.0 gs gp gx b.1 in
    subst (Written ((pieces_text front ++ separator ∷ []) ++ inner_text s p x)) (some_is (front ++ record { separator = separator; item = b.0 } ∷ []) ps b.2) (record {
      text = rw (pieces-last front (record { separator = separator; item = b.0 }), v.0) (simp append_assoc);
      good = all-last good_piece front (record { separator = separator; item = b.0 }) g v.1;
    })
ended-written [] group s p x ps g gs gp gx h = absurd cc
ended-written [] (arguments n front) s p x ps g gs gp gx h = absurd cc
ended-written [] (bounds n front lower) s p x ps g gs gp gx h = absurd cc
ended-written (l ∷ o) opener s p x ps g gs gp gx h = absurd cc

run-written : (s : StateForm) (cs : List ℕ) (ps : List PieceForm) → Good s → run s cs ≡ Some ps → Written (state_text s ++ cs) ps
unfolding run finished state_text
run-written s [] ps g h = subst (λ t. Written t ps) (sym (append-nil (outer_text s.outer ++ (opener_text s.level.opener ++ inner_text s.level.sum s.level.product s.operand)))) (ended-written s.outer s.level.opener s.level.sum s.level.product s.operand ps g.level.opener g.level.sum g.level.product g.operand h)
run-written s (c ∷ cs) ps g h =
    let b = bind_some (step s c) (λ t. run t cs) ps h in
    let e = step-extends s b.0 c g b.1 in
    subst (λ t. Written t ps) (ap (λ t. t ++ cs) e.text ∙ append_assoc (state_text s) (c ∷ []) cs) (run-written b.0 cs ps e.good b.2)

-- the pieces of a text print as the text behind a comma
pub pieces-written : (declares : Bool) (text : List ℕ) (ps : List PieceForm) → pieces_at declares text ≡ Some ps → Written (44 ∷ text) ps
unfolding pieces_at state_text outer_text opener_text pending_text operand_text good_opener good_sum good_product good_operand AllGood
pieces-written declares text ps h = run-written (start declares) text ps (record { outer = tt; level = record { opener = refl; sum = refl; product = refl }; operand = refl }) h
