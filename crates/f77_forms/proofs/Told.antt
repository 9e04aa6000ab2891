-- A statement that is read from a text is written as it.
use Rattle.std.proofs.Common.{◌≡◌, ℕ, zero, suc, ◌<◌, Bool, true, false, ◌&&◌, List, [], ◌∷◌, ◌++◌, drop, take, ◌-◌, length, take-append-drop, Option, Some, None, refl, sym, ap, subst, ◌∙◌, append_assoc, append-nil, if◌then◌else◌, inl, inr, arith}
use Rattle.std.specs.Prelude.{not, ◌==◌, nat_lt, codes}
use Rattle.std.specs.List.{list_all}
use Rattle.std.specs.Option.{option_or}
use Rattle.std.specs.Str.{bytes_eq}
use Rattle.std.proofs.lemmas.Bool.Decides.{nat_tests}
use Rattle.std.proofs.lemmas.Slice.Eq.{bytes_eq-Decides}
use borrow.Author.Tests.{eqb-true}
use Rattle.f77_forms.specs.declared.form.Compare.{Compare}
use Rattle.f77_forms.specs.declared.form.Compare.TheVariants.{Lt, Le, Eq, Ge, Gt}
use Rattle.f77_forms.specs.Characters.{is_digit, is_name}
use Rattle.f77_forms.specs.Form.{ExpressionForm, number, name, call, parenthesized, signed, binary, no_more, one_more, DeclaratorForm, DefinitionForm, TargetForm, AssignmentForm, ComparisonForm, PrintedForm, value, constant, StatementForm, program, integer, dimension, parameter, do_loop, assign, logical_if, print, continue, stop, end}
use Rattle.f77_forms.specs.Text.{expression_text, behind_commas, between_commas, declarator_text, definition_text, target_expression, assignment_text, compare_text, comparison_text, comma_text, step_text, printed_text, statement_text, sum, is_expression, are_expressions, is_optional, is_declarator, has_bounds, is_definition, is_target, is_assignment, is_comparison, is_label, is_printed, is_statement}
use Rattle.f77_forms.specs.Reading.{◌>>=◌, ItemForm, printed, declared, PieceForm, pieces_at}
use Rattle.f77_forms.specs.Statements.{Next, name_of, target_from, printed_in, value_in, declarator_in, compare_from, item_next, value_next, name_next, compare_next, assignment_next, comparison_next, step_next, all_taken, declarator_next, printed_next, definition_next, listed_from, listed, program_at, declarators_at, before_parenthesis, parameter_at, print_at, assign_at, if_at, digits_in, behind_digits, label_at, has_comma, behind_comma, loop_at, do_at, begins_with, branch_at, executed_at, declared_at, statement_at}
use Rattle.f77_forms.proofs.Read.{and_parts, and_from}
use Rattle.f77_forms.proofs.Written.{bind_some, guard_some, some_is, item_text, pieces_text, good_item, good_piece, pieces-written, chosen, all-last}

-- ---- what was taken from pieces

-- pieces begin with a text, and those behind it are good
record Took (ps : List PieceForm) (front : List ℕ) (rest : List PieceForm) : Type 0 where
  text : pieces_text ps ≡ front ++ pieces_text rest
  good : list_all good_piece rest ≡ true

both : (ps : List PieceForm) (a b : List ℕ) (qs rs : List PieceForm) → Took ps a qs → Took qs b rs → Took ps (a ++ b) rs
both ps a b qs rs s t = record { text = s.text ∙ ap (λ x. a ++ x) t.text ∙ sym (append_assoc a b (pieces_text rs)); good = t.good }

record ItemTook (separator : ℕ) (ps : List PieceForm) (r : ItemForm × List PieceForm) : Type 0 where
  took : Took ps (separator ∷ item_text r.0) r.1
  good : good_item r.0 ≡ true

item-took : (separator : ℕ) (ps : List PieceForm) (r : ItemForm × List PieceForm) → list_all good_piece ps ≡ true → item_next separator ps ≡ Some r → ItemTook separator ps r
unfolding item_next
item-took separator [] r g h = absurd cc
item-took separator (p ∷ ps) r g h =
    let q = guard_some (p.separator == separator) (Some (p.item, ps)) r h in
    let k = and_parts (good_piece p) (list_all good_piece ps) g in
    subst (ItemTook separator (p ∷ ps)) (some_is (p.item, ps) r q.1) (record { took = record { text = ap (λ c. c ∷ item_text p.item ++ pieces_text ps) (eqb-true p.separator separator q.0); good = k.1 }; good = k.0 })

record ValueTook (separator : ℕ) (ps : List PieceForm) (r : ExpressionForm × List PieceForm) : Type 0 where
  took : Took ps (separator ∷ expression_text r.0) r.1
  good : is_expression sum r.0 ≡ true

value-took : (separator : ℕ) (ps : List PieceForm) (r : ExpressionForm × List PieceForm) → list_all good_piece ps ≡ true → value_next separator ps ≡ Some r → ValueTook separator ps r
unfolding value_next
value-took separator ps r g h =
    let i = bind_some (item_next separator ps) (λ i. value_in i.0 >>= λ e. Some (e, i.1)) r h in
    let e = bind_some (value_in i.0.0) (λ e. Some (e, i.0.1)) r i.2 in
    let t = item-took separator ps i.0 g i.1 in
    let is = value-item i.0.0 e.0 e.1 in
    subst (ValueTook separator ps) (some_is (e.0, i.0.1) r e.2) (record {
      took = record { text = t.took.text ∙ ap (λ x. separator ∷ item_text x ++ pieces_text i.0.1) is; good = t.took.good };
      good = sym (ap good_item is) ∙ t.good;
    })
  where
    value-item : (i : ItemForm) (e : ExpressionForm) → value_in i ≡ Some e → i ≡ printed (value e)
    value-item (printed (value f)) e k = ap (λ x. printed (value x)) (some_is f e k)
    value-item (printed (constant cs)) e k = absurd cc
    value-item (declared d) e k = absurd cc

record NameTook (separator : ℕ) (ps : List PieceForm) (r : List ℕ × List PieceForm) : Type 0 where
  took : Took ps (separator ∷ r.0) r.1
  good : is_name r.0 ≡ true

name-is : (e : ExpressionForm) (n : List ℕ) → name_of e ≡ Some n → e ≡ name n
name-is (number ds) n h = absurd cc
name-is (name m) n h = ap name (some_is m n h)
name-is (call m all) n h = absurd cc
name-is (parenthesized e) n h = absurd cc
name-is (signed sign e) n h = absurd cc
name-is (binary op a b) n h = absurd cc

name-took : (separator : ℕ) (ps : List PieceForm) (r : List ℕ × List PieceForm) → list_all good_piece ps ≡ true → name_next separator ps ≡ Some r → NameTook separator ps r
unfolding name_next
name-took separator ps r g h =
    let e = bind_some (value_next separator ps) (λ e. name_of e.0 >>= λ n. Some (n, e.1)) r h in
    let n = bind_some (name_of e.0.0) (λ n. Some (n, e.0.1)) r e.2 in
    let t = value-took separator ps e.0 g e.1 in
    let is = name-is e.0.0 n.0 n.1 in
    subst (NameTook separator ps) (some_is (n.0, e.0.1) r n.2) (record {
      took = record { text = t.took.text ∙ ap (λ x. separator ∷ expression_text x ++ pieces_text e.0.1) is; good = t.took.good };
      good = sym (ap (is_expression sum) is) ∙ t.good;
    })

-- ---- assignments and comparisons

target-is : (e : ExpressionForm) (t : TargetForm) → is_expression sum e ≡ true → target_from e ≡ Some t → (target_expression t ≡ e) × (is_target t ≡ true)
target-is (number ds) t g h = absurd cc
target-is (name n) t g h = (ap target_expression (sym (some_is (record { name = n; arguments = no_more }) t h)), ap is_target (sym (some_is (record { name = n; arguments = no_more }) t h)) ∙ and_from (is_name n) true g refl)
target-is (call n no_more) t g h =
    let p = and_parts (is_name n && false) true g in
    let q = and_parts (is_name n) false p.0 in
    absurd cc
target-is (call n (one_more e more)) t g h =
    let p = and_parts (is_name n && true) (is_expression sum e && are_expressions more) g in
    let q = and_parts (is_name n) true p.0 in
    let is = some_is (record { name = n; arguments = one_more e more }) t h in
    (ap target_expression (sym is), ap is_target (sym is) ∙ and_from (is_name n) (is_expression sum e && are_expressions more) q.0 p.1)
target-is (parenthesized e) t g h = absurd cc
target-is (signed sign e) t g h = absurd cc
target-is (binary op a b) t g h = absurd cc

record AssignmentTook (separator : ℕ) (ps : List PieceForm) (r : AssignmentForm × List PieceForm) : Type 0 where
  took : Took ps (separator ∷ assignment_text r.0) r.1
  good : is_assignment r.0 ≡ true

assignment-took : (separator : ℕ) (ps : List PieceForm) (r : AssignmentForm × List PieceForm) → list_all good_piece ps ≡ true → assignment_next separator ps ≡ Some r → AssignmentTook separator ps r
unfolding assignment_next
assignment-took separator ps r g h =
    let l = bind_some (value_next separator ps) (λ t. target_from t.0 >>= λ target. value_next 61 t.1 >>= λ v. Some (record { target = target; value = v.0 }, v.1)) r h in
    let t = bind_some (target_from l.0.0) (λ target. value_next 61 l.0.1 >>= λ v. Some (record { target = target; value = v.0 }, v.1)) r l.2 in
    let v = bind_some (value_next 61 l.0.1) (λ v. Some (record { target = t.0; value = v.0 }, v.1)) r t.2 in
    let left = value-took separator ps l.0 g l.1 in
    let right = value-took 61 l.0.1 v.0 left.took.good v.1 in
    let target = target-is l.0.0 t.0 left.good t.1 in
    let whole = both ps (separator ∷ expression_text l.0.0) (61 ∷ expression_text v.0.0) l.0.1 v.0.1 left.took right.took in
    subst (AssignmentTook separator ps) (some_is (record { target = t.0; value = v.0.0 }, v.0.1) r v.2) (record {
      took = record { text = whole.text ∙ ap (λ x. ((separator ∷ expression_text x) ++ 61 ∷ expression_text v.0.0) ++ pieces_text v.0.1) (sym target.0); good = whole.good };
      good = and_from (is_target t.0) (is_expression sum v.0.0) target.1 right.good;
    })

pub same_bytes : (a b : List ℕ) → bytes_eq a b ≡ true → a ≡ b
same_bytes a b h = (bytes_eq-Decides a b).0 h

compare-is : (n : List ℕ) (c : Compare) → compare_from n ≡ Some c → compare_text c ≡ 46 ∷ n ++ 46 ∷ []
unfolding compare_from
compare-is n c h = elim (chosen (bytes_eq n (codes "LT")) (Some Lt) _ c h) [
  | inl p ↦ letters Lt (codes "LT") refl p.0 p.1
  | inr h ↦ elim (chosen (bytes_eq n (codes "LE")) (Some Le) _ c h.1) [
    | inl p ↦ letters Le (codes "LE") refl p.0 p.1
    | inr h ↦ elim (chosen (bytes_eq n (codes "EQ")) (Some Eq) _ c h.1) [
      | inl p ↦ letters Eq (codes "EQ") refl p.0 p.1
      | inr h ↦ elim (chosen (bytes_eq n (codes "GE")) (Some Ge) _ c h.1) [
        | inl p ↦ letters Ge (codes "GE") refl p.0 p.1
        | inr h ↦ (
            let g = guard_some (bytes_eq n (codes "GT")) (Some Gt) c h.1 in
            letters Gt (codes "GT") refl g.0 g.1)
      ]
    ]
  ]
]
  where
    letters : (d : Compare) (w : List ℕ) → compare_text d ≡ 46 ∷ w ++ 46 ∷ [] → bytes_eq n w ≡ true → Some d ≡ Some c → compare_text c ≡ 46 ∷ n ++ 46 ∷ []
    letters d w e k s = ap compare_text (sym (some_is d c s)) ∙ e ∙ ap (λ x. 46 ∷ x ++ 46 ∷ []) (sym (same_bytes n w k))

dotted-text : (l n r : List ℕ) → ((44 ∷ l) ++ 46 ∷ n) ++ 46 ∷ r ≡ 44 ∷ ((l ++ (46 ∷ n ++ 46 ∷ [])) ++ r)
dotted-text l n r = simp append_assoc

record ComparisonTook (ps : List PieceForm) (r : ComparisonForm × List PieceForm) : Type 0 where
  took : Took ps (44 ∷ comparison_text r.0) r.1
  good : is_comparison r.0 ≡ true

comparison-took : (ps : List PieceForm) (r : ComparisonForm × List PieceForm) → list_all good_piece ps ≡ true → comparison_next ps ≡ Some r → ComparisonTook ps r
unfolding comparison_next compare_next
comparison-took ps r g h =
    let l = bind_some (value_next 44 ps) (λ l. compare_next l.1 >>= λ c. value_next 46 c.1 >>= λ r. Some (record { left = l.0; compare = c.0; right = r.0 }, r.1)) r h in
    let c = bind_some (compare_next l.0.1) (λ c. value_next 46 c.1 >>= λ r. Some (record { left = l.0.0; compare = c.0; right = r.0 }, r.1)) r l.2 in
    let v = bind_some (value_next 46 c.0.1) (λ v. Some (record { left = l.0.0; compare = c.0.0; right = v.0 }, v.1)) r c.2 in
    let n = bind_some (name_next 46 l.0.1) (λ n. compare_from n.0 >>= λ c. Some (c, n.1)) c.0 c.1 in
    let o = bind_some (compare_from n.0.0) (λ c. Some (c, n.0.1)) c.0 n.2 in
    let same : (o.0, n.0.1) ≡ c.0 = some_is (o.0, n.0.1) c.0 o.2 in
    let left = value-took 44 ps l.0 g l.1 in
    let dotted = name-took 46 l.0.1 n.0 left.took.good n.1 in
    let rest : n.0.1 ≡ c.0.1 = ap (λ x. x.1) same in
    let right = value-took 46 c.0.1 v.0 (sym (ap (list_all good_piece) rest) ∙ dotted.took.good) v.1 in
    let letters : compare_text c.0.0 ≡ 46 ∷ n.0.0 ++ 46 ∷ [] = ap (λ x. compare_text x.0) (sym same) ∙ compare-is n.0.0 o.0 o.1 in
    let named : Took ps ((44 ∷ expression_text l.0.0) ++ 46 ∷ n.0.0) c.0.1 = subst (Took ps ((44 ∷ expression_text l.0.0) ++ 46 ∷ n.0.0)) rest (both ps (44 ∷ expression_text l.0.0) (46 ∷ n.0.0) l.0.1 n.0.1 left.took dotted.took) in
    let whole = both ps ((44 ∷ expression_text l.0.0) ++ 46 ∷ n.0.0) (46 ∷ expression_text v.0.0) c.0.1 v.0.1 named right.took in
    let spelled : ((44 ∷ expression_text l.0.0) ++ 46 ∷ n.0.0) ++ 46 ∷ expression_text v.0.0 ≡ 44 ∷ ((expression_text l.0.0 ++ compare_text c.0.0) ++ expression_text v.0.0) =
    dotted-text (expression_text l.0.0) n.0.0 (expression_text v.0.0) ∙ ap (λ x. 44 ∷ ((expression_text l.0.0 ++ x) ++ expression_text v.0.0)) (sym letters) in
    subst (ComparisonTook ps) (some_is (record { left = l.0.0; compare = c.0.0; right = v.0.0 }, v.0.1) r v.2) (record {
      took = record { text = whole.text ∙ ap (λ x. x ++ pieces_text v.0.1) spelled; good = whole.good };
      good = and_from (is_expression sum l.0.0) (is_expression sum v.0.0) left.good right.good;
    })

-- ---- lists

commas-push : {A : Type 0} (text_of : A → List ℕ) (xs : List A) (y : A) → behind_commas text_of (xs ++ y ∷ []) ≡ behind_commas text_of xs ++ 44 ∷ text_of y
commas-push text_of [] y = append-nil (44 ∷ text_of y)
commas-push text_of (x ∷ xs) y = ap (λ t. 44 ∷ text_of x ++ t) (commas-push text_of xs y) ∙ sym (append_assoc (44 ∷ text_of x) (behind_commas text_of xs) (44 ∷ text_of y))

listed-told : {A : Type 0} (next : List PieceForm → Next A) (text_of : A → List ℕ) (good : A → Bool)
    → ((ps : List PieceForm) (r : A × List PieceForm) → list_all good_piece ps ≡ true → next ps ≡ Some r → Took ps (44 ∷ text_of r.0) r.1 × (good r.0 ≡ true))
    → (count : ℕ) (front : List A) (ps : List PieceForm) (all : List A) → list_all good_piece ps ≡ true → list_all good front ≡ true → listed_from next count front ps ≡ Some all
    → (behind_commas text_of all ≡ behind_commas text_of front ++ pieces_text ps) × (list_all good all ≡ true)
unfolding listed_from
listed-told next text_of good tells count front [] all g k h =
    let is = some_is front all h in
    (ap (behind_commas text_of) (sym is) ∙ sym (append-nil (behind_commas text_of front)), sym (ap (list_all good) is) ∙ k)
listed-told next text_of good tells zero front (p ∷ ps) all g k h = absurd cc
listed-told next text_of good tells (suc count) front (p ∷ ps) all g k h =
    let r = bind_some (next (p ∷ ps)) (λ r. listed_from next count (front ++ r.0 ∷ []) r.1) all h in
    let t = tells (p ∷ ps) r.0 g r.1 in
    let rest = listed-told next text_of good tells count (front ++ r.0.0 ∷ []) r.0.1 all t.0.good (all-last good front r.0.0 k t.1) r.2 in
    (rest.0 ∙ ap (λ x. x ++ pieces_text r.0.1) (commas-push text_of front r.0.0) ∙ append_assoc (behind_commas text_of front) (44 ∷ text_of r.0.0) (pieces_text r.0.1) ∙ ap (λ x. behind_commas text_of front ++ x) (sym t.0.text), rest.1)

unless : {A : Type 0} (b : Bool) (x y : A) → (if b then None else Some x) ≡ Some y → (b ≡ false) × (x ≡ y)
unless true x y h = absurd cc
unless false x y h = (refl, some_is x y h)

declarator-is : (i : ItemForm) (d : DeclaratorForm) → good_item i ≡ true → declarator_in i ≡ Some d → (item_text i ≡ declarator_text d) × (is_declarator d ≡ true)
unfolding declarator_in
declarator-is (printed (value e)) d g h =
    let n = bind_some (name_of e) (λ n. Some (record { name = n; bounds = [] })) d h in
    let named = name-is e n.0 n.1 in
    let is = some_is (record { name = n.0; bounds = [] }) d n.2 in
    let good : is_name n.0 ≡ true = sym (ap (is_expression sum) named) ∙ g in
    (ap expression_text named ∙ sym (append-nil n.0) ∙ ap declarator_text is, sym (ap is_declarator is) ∙ and_from (is_name n.0) true good refl)
declarator-is (printed (constant cs)) d g h = absurd cc
declarator-is (declared e) d g h =
    let is = some_is e d h in
    let p = and_parts (is_declarator e) (has_bounds e) g in
    (ap declarator_text is, sym (ap is_declarator is) ∙ p.0)

record DeclaratorTook (bounded : Bool) (ps : List PieceForm) (r : DeclaratorForm × List PieceForm) : Type 0 where
  took : Took ps (44 ∷ declarator_text r.0) r.1
  good : is_declarator r.0 ≡ true
  there : (bounded && not (has_bounds r.0)) ≡ false

declarator-took : (bounded : Bool) (ps : List PieceForm) (r : DeclaratorForm × List PieceForm) → list_all good_piece ps ≡ true → declarator_next bounded ps ≡ Some r → DeclaratorTook bounded ps r
unfolding declarator_next
declarator-took bounded ps r g h =
    let i = bind_some (item_next 44 ps) (λ i. declarator_in i.0 >>= λ d. (if bounded && not (has_bounds d) then None else Some (d, i.1))) r h in
    let d = bind_some (declarator_in i.0.0) (λ d. (if bounded && not (has_bounds d) then None else Some (d, i.0.1))) r i.2 in
    let t = item-took 44 ps i.0 g i.1 in
    let u = unless (bounded && not (has_bounds d.0)) (d.0, i.0.1) r d.2 in
    let is = declarator-is i.0.0 d.0 t.good d.1 in
    subst (DeclaratorTook bounded ps) u.1 (record {
      took = record { text = t.took.text ∙ ap (λ x. 44 ∷ x ++ pieces_text i.0.1) is.0; good = t.took.good };
      good = is.1;
      there = u.0;
    })

integer-took : (ps : List PieceForm) (r : DeclaratorForm × List PieceForm) → list_all good_piece ps ≡ true → declarator_next false ps ≡ Some r → Took ps (44 ∷ declarator_text r.0) r.1 × (is_declarator r.0 ≡ true)
integer-took ps r g h = (let t = declarator-took false ps r g h in (t.took, t.good))

dimension-took : (ps : List PieceForm) (r : DeclaratorForm × List PieceForm) → list_all good_piece ps ≡ true → declarator_next true ps ≡ Some r → Took ps (44 ∷ declarator_text r.0) r.1 × ((is_declarator r.0 && has_bounds r.0) ≡ true)
dimension-took ps r g h =
    let t = declarator-took true ps r g h in
    (t.took, and_from (is_declarator r.0) (has_bounds r.0) t.good (unnot (has_bounds r.0) t.there))
  where
    unnot : (b : Bool) → not b ≡ false → b ≡ true
    unnot true k = refl
    unnot false k = absurd cc

printed-took : (ps : List PieceForm) (r : PrintedForm × List PieceForm) → list_all good_piece ps ≡ true → printed_next ps ≡ Some r → Took ps (44 ∷ printed_text r.0) r.1 × (is_printed r.0 ≡ true)
unfolding printed_next
printed-took ps r g h =
    let i = bind_some (item_next 44 ps) (λ i. printed_in i.0 >>= λ p. Some (p, i.1)) r h in
    let p = bind_some (printed_in i.0.0) (λ p. Some (p, i.0.1)) r i.2 in
    let t = item-took 44 ps i.0 g i.1 in
    let is = printed-is i.0.0 p.0 p.1 in
    subst (λ r. Took ps (44 ∷ printed_text r.0) r.1 × (is_printed r.0 ≡ true)) (some_is (p.0, i.0.1) r p.2)
    (record { text = t.took.text ∙ ap (λ x. 44 ∷ item_text x ++ pieces_text i.0.1) is; good = t.took.good }, sym (ap good_item is) ∙ t.good)
  where
    printed-is : (i : ItemForm) (p : PrintedForm) → printed_in i ≡ Some p → i ≡ printed p
    printed-is (printed q) p k = ap printed (some_is q p k)
    printed-is (declared d) p k = absurd cc

definition-took : (ps : List PieceForm) (r : DefinitionForm × List PieceForm) → list_all good_piece ps ≡ true → definition_next ps ≡ Some r → Took ps (44 ∷ definition_text r.0) r.1 × (is_definition r.0 ≡ true)
unfolding definition_next
definition-took ps r g h =
    let n = bind_some (name_next 44 ps) (λ n. value_next 61 n.1 >>= λ v. Some (record { name = n.0; value = v.0 }, v.1)) r h in
    let v = bind_some (value_next 61 n.0.1) (λ v. Some (record { name = n.0.0; value = v.0 }, v.1)) r n.2 in
    let named = name-took 44 ps n.0 g n.1 in
    let valued = value-took 61 n.0.1 v.0 named.took.good v.1 in
    let whole = both ps (44 ∷ n.0.0) (61 ∷ expression_text v.0.0) n.0.1 v.0.1 named.took valued.took in
    subst (λ r. Took ps (44 ∷ definition_text r.0) r.1 × (is_definition r.0 ≡ true)) (some_is (record { name = n.0.0; value = v.0.0 }, v.0.1) r v.2)
    (whole, and_from (is_name n.0.0) (is_expression sum v.0.0) named.good valued.good)

-- ---- statements

-- a form that may be written, and is written so
pub record Tells (text : List ℕ) (f : StatementForm) : Type 0 where
  pub written : statement_text f ≡ text
  pub good : is_statement f ≡ true

-- a list that is read is no empty one
listed-some : {A : Type 0} (text_of : A → List ℕ) (all : List A) (text : List ℕ) → behind_commas text_of all ≡ 44 ∷ text → (between_commas text_of all ≡ text) × (nat_lt 0 (length all) ≡ true)
listed-some text_of [] text h = absurd cc
listed-some text_of (x ∷ xs) text h = (ap (drop 1) h, (let some : 0 < length (x ∷ xs) = omega arith in grind (arith, nat_tests)))

-- the pieces of a text, listed
listed-whole : {A : Type 0} (declares : Bool) (next : List PieceForm → Next A) (text_of : A → List ℕ) (good : A → Bool)
    → ((ps : List PieceForm) (r : A × List PieceForm) → list_all good_piece ps ≡ true → next ps ≡ Some r → Took ps (44 ∷ text_of r.0) r.1 × (good r.0 ≡ true))
    → (text : List ℕ) (all : List A) → (pieces_at declares text >>= λ ps. listed next ps) ≡ Some all
    → (behind_commas text_of all ≡ 44 ∷ text) × (list_all good all ≡ true)
listed-whole declares next text_of good tells text all h =
    let ps = bind_some (pieces_at declares text) (λ ps. listed next ps) all h in
    let w = pieces-written declares text ps.0 ps.1 in
    let t = listed-told next text_of good tells (length ps.0) [] ps.0 all w.good refl ps.2 in
    (t.0 ∙ w.text, t.1)

taken-none : {A : Type 0} (x y : A) (ps : List PieceForm) → all_taken x ps ≡ Some y → (ps ≡ []) × (x ≡ y)
unfolding all_taken
taken-none x y [] h = (refl, some_is x y h)
taken-none x y (p ∷ ps) h = absurd cc

program-told : (n : List ℕ) (f : StatementForm) → program_at n ≡ Some f → Tells (codes "PROGRAM" ++ n) f
unfolding program_at
program-told n f h =
    let g = guard_some (is_name n) (Some (program n)) f h in
    subst (Tells (codes "PROGRAM" ++ n)) (some_is (program n) f g.1) (record { written = refl; good = g.0 })

integer-told : (text : List ℕ) (f : StatementForm) → (declarators_at false text >>= λ ds. Some (integer ds)) ≡ Some f → Tells (codes "INTEGER" ++ text) f
unfolding declarators_at
integer-told text f h =
    let ds = bind_some (declarators_at false text) (λ ds. Some (integer ds)) f h in
    let w = listed-whole true (declarator_next false) declarator_text is_declarator integer-took text ds.0 ds.1 in
    let s = listed-some declarator_text ds.0 text w.0 in
    subst (Tells (codes "INTEGER" ++ text)) (some_is (integer ds.0) f ds.2) (record { written = ap (λ x. codes "INTEGER" ++ x) s.0; good = and_from (nat_lt 0 (length ds.0)) (list_all is_declarator ds.0) s.1 w.1 })

dimension-told : (text : List ℕ) (f : StatementForm) → (declarators_at true text >>= λ ds. Some (dimension ds)) ≡ Some f → Tells (codes "DIMENSION" ++ text) f
unfolding declarators_at
dimension-told text f h =
    let ds = bind_some (declarators_at true text) (λ ds. Some (dimension ds)) f h in
    let w = listed-whole true (declarator_next true) declarator_text (λ d. is_declarator d && has_bounds d) dimension-took text ds.0 ds.1 in
    let s = listed-some declarator_text ds.0 text w.0 in
    subst (Tells (codes "DIMENSION" ++ text)) (some_is (dimension ds.0) f ds.2) (record { written = ap (λ x. codes "DIMENSION" ++ x) s.0; good = and_from (nat_lt 0 (length ds.0)) (list_all (λ d. is_declarator d && has_bounds d) ds.0) s.1 w.1 })

before-parenthesis : (text inside : List ℕ) → before_parenthesis text ≡ Some inside → text ≡ inside ++ codes ")"
unfolding before_parenthesis
before-parenthesis text inside h =
    let g = guard_some (bytes_eq (drop (length text - 1) text) (codes ")")) (Some (take (length text - 1) text)) inside h in
    sym (take-append-drop (length text - 1) text) ∙ ap (λ x. take (length text - 1) text ++ x) (same_bytes (drop (length text - 1) text) (codes ")") g.0) ∙ ap (λ x. x ++ codes ")") (some_is (take (length text - 1) text) inside g.1)

parameter-told : (text : List ℕ) (f : StatementForm) → parameter_at text ≡ Some f → Tells (codes "PARAMETER(" ++ text) f
unfolding parameter_at
parameter-told text f h =
    let i = bind_some (before_parenthesis text) (λ inside. pieces_at false inside >>= λ ps. listed definition_next ps >>= λ ds. Some (parameter ds)) f h in
    let ps = bind_some (pieces_at false i.0) (λ ps. listed definition_next ps >>= λ ds. Some (parameter ds)) f i.2 in
    let ds = bind_some (listed definition_next ps.0) (λ ds. Some (parameter ds)) f ps.2 in
    let w = listed-whole false definition_next definition_text is_definition definition-took i.0 ds.0 (ap (λ (o : Option (List PieceForm)). o >>= λ ps. listed definition_next ps) ps.1 ∙ ds.1) in
    let s = listed-some definition_text ds.0 i.0 w.0 in
    subst (Tells (codes "PARAMETER(" ++ text)) (some_is (parameter ds.0) f ds.2) (record {
      written = ap (λ x. codes "PARAMETER(" ++ x ++ codes ")") s.0 ∙ append_assoc (codes "PARAMETER(") i.0 (codes ")") ∙ ap (λ x. codes "PARAMETER(" ++ x) (sym (before-parenthesis text i.0 i.1));
      good = and_from (nat_lt 0 (length ds.0)) (list_all is_definition ds.0) s.1 w.1;
    })

print-told : (text : List ℕ) (f : StatementForm) → print_at text ≡ Some f → Tells (codes "PRINT*" ++ text) f
unfolding print_at
print-told [] f h = subst (Tells (codes "PRINT*")) (some_is (print []) f h) (record { written = refl; good = refl })
print-told (c ∷ cs) f h =
    let g = guard_some (c == 44) (pieces_at false cs >>= λ ps. listed printed_next ps >>= λ items. Some (print items)) f h in
    let ps = bind_some (pieces_at false cs) (λ ps. listed printed_next ps >>= λ items. Some (print items)) f g.1 in
    let items = bind_some (listed printed_next ps.0) (λ items. Some (print items)) f ps.2 in
    let w = listed-whole false printed_next printed_text is_printed printed-took cs items.0 (ap (λ (o : Option (List PieceForm)). o >>= λ ps. listed printed_next ps) ps.1 ∙ items.1) in
    subst (Tells (codes "PRINT*" ++ c ∷ cs)) (some_is (print items.0) f items.2) (record { written = ap (λ x. codes "PRINT*" ++ x) (w.0 ∙ ap (λ d. d ∷ cs) (sym (eqb-true c 44 g.0))); good = w.1 })

assign-told : (text : List ℕ) (f : StatementForm) → assign_at text ≡ Some f → Tells text f
unfolding assign_at
assign-told text f h =
    let ps = bind_some (pieces_at false text) (λ ps. assignment_next 44 ps >>= λ a. all_taken (assign a.0) a.1) f h in
    let a = bind_some (assignment_next 44 ps.0) (λ a. all_taken (assign a.0) a.1) f ps.2 in
    let w = pieces-written false text ps.0 ps.1 in
    let t = assignment-took 44 ps.0 a.0 w.good a.1 in
    let none = taken-none (assign a.0.0) f a.0.1 a.2 in
    let whole : 44 ∷ assignment_text a.0.0 ≡ 44 ∷ text = sym (append-nil (44 ∷ assignment_text a.0.0)) ∙ ap (λ x. (44 ∷ assignment_text a.0.0) ++ pieces_text x) (sym none.0) ∙ sym t.took.text ∙ w.text in
    subst (Tells text) none.1 (record { written = ap (drop 1) whole; good = t.good })

if-told : (text : List ℕ) (f : StatementForm) → if_at text ≡ Some f → Tells (codes "IF(" ++ text) f
unfolding if_at
if-told text f h =
    let ps = bind_some (pieces_at false text) (λ ps. comparison_next ps >>= λ c. assignment_next 41 c.1 >>= λ a. all_taken (logical_if c.0 a.0) a.1) f h in
    let c = bind_some (comparison_next ps.0) (λ c. assignment_next 41 c.1 >>= λ a. all_taken (logical_if c.0 a.0) a.1) f ps.2 in
    let a = bind_some (assignment_next 41 c.0.1) (λ a. all_taken (logical_if c.0.0 a.0) a.1) f c.2 in
    let w = pieces-written false text ps.0 ps.1 in
    let compared = comparison-took ps.0 c.0 w.good c.1 in
    let assigned = assignment-took 41 c.0.1 a.0 compared.took.good a.1 in
    let none = taken-none (logical_if c.0.0 a.0.0) f a.0.1 a.2 in
    let taken = both ps.0 (44 ∷ comparison_text c.0.0) (41 ∷ assignment_text a.0.0) c.0.1 a.0.1 compared.took assigned.took in
    let whole : 44 ∷ (comparison_text c.0.0 ++ 41 ∷ assignment_text a.0.0) ≡ 44 ∷ text = sym (append-nil (44 ∷ (comparison_text c.0.0 ++ 41 ∷ assignment_text a.0.0))) ∙ ap (λ x. (44 ∷ (comparison_text c.0.0 ++ 41 ∷ assignment_text a.0.0)) ++ pieces_text x) (sym none.0) ∙ sym taken.text ∙ w.text in
    subst (Tells (codes "IF(" ++ text)) none.1 (record {
      written = append_assoc (codes "IF(" ++ comparison_text c.0.0) (codes ")") (assignment_text a.0.0) ∙ append_assoc (codes "IF(") (comparison_text c.0.0) (41 ∷ assignment_text a.0.0) ∙ ap (λ x. codes "IF(" ++ drop 1 x) whole;
      good = and_from (is_comparison c.0.0) (is_assignment a.0.0) compared.good assigned.good;
    })

-- the step of a DO behind its comma
step-took : (ps : List PieceForm) (r : Option ExpressionForm × List PieceForm) → list_all good_piece ps ≡ true → step_next ps ≡ Some r → Took ps (step_text r.0) r.1 × (is_optional r.0 ≡ true)
unfolding step_next
step-took [] r g h = subst (λ r. Took [] (step_text r.0) r.1 × (is_optional r.0 ≡ true)) (some_is (None, []) r h) (record { text = refl; good = refl }, refl)
step-took (p ∷ ps) r g h =
    let e = bind_some (value_next 44 (p ∷ ps)) (λ e. Some (Some e.0, e.1)) r h in
    let t = value-took 44 (p ∷ ps) e.0 g e.1 in
    subst (λ r. Took (p ∷ ps) (step_text r.0) r.1 × (is_optional r.0 ≡ true)) (some_is (Some e.0.0, e.0.1) r e.2) (t.took, t.good)

loop-told : (label : List ℕ) (comma : Bool) (text : List ℕ) (f : StatementForm) → is_label label ≡ true → loop_at label comma text ≡ Some f → Tells (codes "DO" ++ label ++ comma_text comma ++ text) f
unfolding loop_at
loop-told label comma text f l h =
    let ps = bind_some (pieces_at false text) (λ ps. name_next 44 ps >>= λ v. value_next 61 v.1 >>= λ a. value_next 44 a.1 >>= λ b. step_next b.1 >>= λ s. all_taken (do_loop (record { label = label; comma = comma; variable = v.0; first = a.0; last = b.0; step = s.0 })) s.1) f h in
    let v = bind_some (name_next 44 ps.0) (λ v. value_next 61 v.1 >>= λ a. value_next 44 a.1 >>= λ b. step_next b.1 >>= λ s. all_taken (do_loop (record { label = label; comma = comma; variable = v.0; first = a.0; last = b.0; step = s.0 })) s.1) f ps.2 in
    let a = bind_some (value_next 61 v.0.1) (λ a. value_next 44 a.1 >>= λ b. step_next b.1 >>= λ s. all_taken (do_loop (record { label = label; comma = comma; variable = v.0.0; first = a.0; last = b.0; step = s.0 })) s.1) f v.2 in
    let b = bind_some (value_next 44 a.0.1) (λ b. step_next b.1 >>= λ s. all_taken (do_loop (record { label = label; comma = comma; variable = v.0.0; first = a.0.0; last = b.0; step = s.0 })) s.1) f a.2 in
    let s = bind_some (step_next b.0.1) (λ s. all_taken (do_loop (record { label = label; comma = comma; variable = v.0.0; first = a.0.0; last = b.0.0; step = s.0 })) s.1) f b.2 in
    let w = pieces-written false text ps.0 ps.1 in
    let named = name-took 44 ps.0 v.0 w.good v.1 in
    let first = value-took 61 v.0.1 a.0 named.took.good a.1 in
    let last = value-took 44 a.0.1 b.0 first.took.good b.1 in
    let stepped = step-took b.0.1 s.0 last.took.good s.1 in
    let none = taken-none (do_loop (record { label = label; comma = comma; variable = v.0.0; first = a.0.0; last = b.0.0; step = s.0.0 })) f s.0.1 s.2 in
    let whole : 44 ∷ (v.0.0 ++ (61 ∷ expression_text a.0.0 ++ (44 ∷ expression_text b.0.0 ++ step_text s.0.0))) ≡ 44 ∷ text =
    sym (rw (named.took.text, first.took.text, last.took.text, stepped.0.text, none.0, append-nil (step_text s.0.0)) refl) ∙ w.text in
    subst (Tells (codes "DO" ++ label ++ comma_text comma ++ text)) none.1 (record {
      written = sym (ap (λ x. codes "DO" ++ label ++ comma_text comma ++ drop 1 x) (sym whole) ∙ simp append_assoc);
      good = rw (l, named.good, first.good, last.good, stepped.1) refl;
    })

digits-split : (text : List ℕ) → digits_in text ++ behind_digits text ≡ text
unfolding digits_in behind_digits
digits-split [] = refl
digits-split (c ∷ cs) = by_digit (is_digit c) (digits-split cs)
  where
    by_digit : (b : Bool) → digits_in cs ++ behind_digits cs ≡ cs → (if b then c ∷ digits_in cs else []) ++ (if b then behind_digits cs else c ∷ cs) ≡ c ∷ cs
    by_digit true rest = ap (λ x. c ∷ x) rest
    by_digit false rest = refl

comma-split : (text : List ℕ) → comma_text (has_comma text) ++ behind_comma text ≡ text
unfolding has_comma behind_comma
comma-split [] = refl
comma-split (c ∷ cs) = by_comma (c == 44) refl
  where
    by_comma : (b : Bool) → (c == 44) ≡ b → comma_text (c == 44) ++ (if c == 44 then cs else c ∷ cs) ≡ c ∷ cs
    by_comma true e = rw e (ap (λ d. d ∷ cs) (sym (eqb-true c 44 e)))
    by_comma false e = rw e refl

do-told : (text : List ℕ) (f : StatementForm) → do_at text ≡ Some f → Tells (codes "DO" ++ text) f
unfolding do_at label_at
do-told text f h =
    let after = behind_digits text in
    let l = bind_some (label_at (digits_in text)) (λ label. loop_at label (has_comma after) (behind_comma after)) f h in
    let g = guard_some (is_label (digits_in text)) (Some (digits_in text)) l.0 l.1 in
    let is = some_is (digits_in text) l.0 g.1 in
    let t = loop-told l.0 (has_comma after) (behind_comma after) f (sym (ap is_label is) ∙ g.0) l.2 in
    subst (λ x. Tells x f) (append_assoc (codes "DO" ++ l.0) (comma_text (has_comma after)) (behind_comma after) ∙ ap (λ x. (codes "DO" ++ l.0) ++ x) (comma-split after) ∙ append_assoc (codes "DO") l.0 after ∙ ap (λ x. codes "DO" ++ (x ++ after)) (sym is) ∙ ap (λ x. codes "DO" ++ x) (digits-split text)) t

-- a text that begins with a word
pub word-front : (word text : List ℕ) → begins_with word text ≡ true → word ++ drop (length word) text ≡ text
word-front word text h = ap (λ x. x ++ drop (length word) text) (sym (same_bytes (take (length word) text) word h)) ∙ take-append-drop (length word) text

branch-told : (text : List ℕ) (f : StatementForm) → branch_at text ≡ Some f → Tells text f
unfolding branch_at
branch-told text f h = elim (chosen (begins_with (codes "IF(") text) (if_at (drop 3 text)) _ f h) [
  | inl p ↦ subst (λ x. Tells x f) (word-front (codes "IF(") text p.0) (if-told (drop 3 text) f p.1)
  | inr h ↦ (
      let g = guard_some (begins_with (codes "DO") text) (do_at (drop 2 text)) f h.1 in
      subst (λ x. Tells x f) (word-front (codes "DO") text g.0) (do-told (drop 2 text) f g.1))
]

executed-told : (text : List ℕ) (f : StatementForm) → executed_at text ≡ Some f → Tells text f
unfolding executed_at
executed-told text f h = elim (chosen (begins_with (codes "PRINT*") text) (print_at (drop 6 text)) (option_or (assign_at text) (branch_at text)) f h) [
  | inl p ↦ subst (λ x. Tells x f) (word-front (codes "PRINT*") text p.0) (print-told (drop 6 text) f p.1)
  | inr h ↦ either (assign_at text) refl h.1
]
  where
    either : (o : Option StatementForm) → assign_at text ≡ o → option_or o (branch_at text) ≡ Some f → Tells text f
    either None e k = branch-told text f k
    either (Some g) e k = assign-told text f (e ∙ k)

declared-told : (text : List ℕ) (f : StatementForm) → declared_at text ≡ Some f → Tells text f
unfolding declared_at
declared-told text f h = elim (chosen (begins_with (codes "PROGRAM") text) (program_at (drop 7 text)) _ f h) [
  | inl p ↦ subst (λ x. Tells x f) (word-front (codes "PROGRAM") text p.0) (program-told (drop 7 text) f p.1)
  | inr h ↦ elim (chosen (begins_with (codes "INTEGER") text) (declarators_at false (drop 7 text) >>= λ ds. Some (integer ds)) _ f h.1) [
    | inl p ↦ subst (λ x. Tells x f) (word-front (codes "INTEGER") text p.0) (integer-told (drop 7 text) f p.1)
    | inr h ↦ elim (chosen (begins_with (codes "DIMENSION") text) (declarators_at true (drop 9 text) >>= λ ds. Some (dimension ds)) _ f h.1) [
      | inl p ↦ subst (λ x. Tells x f) (word-front (codes "DIMENSION") text p.0) (dimension-told (drop 9 text) f p.1)
      | inr h ↦ elim (chosen (begins_with (codes "PARAMETER(") text) (parameter_at (drop 10 text)) (executed_at text) f h.1) [
        | inl p ↦ subst (λ x. Tells x f) (word-front (codes "PARAMETER(") text p.0) (parameter-told (drop 10 text) f p.1)
        | inr h ↦ executed-told text f h.1
      ]
    ]
  ]
]

pub statement-told : (text : List ℕ) (f : StatementForm) → statement_at text ≡ Some f → Tells text f
unfolding statement_at
statement-told text f h = elim (chosen (bytes_eq text (codes "CONTINUE")) (Some continue) _ f h) [
  | inl p ↦ subst (Tells text) (some_is continue f p.1) (record { written = sym (same_bytes text (codes "CONTINUE") p.0); good = refl })
  | inr h ↦ elim (chosen (bytes_eq text (codes "STOP")) (Some stop) _ f h.1) [
    | inl p ↦ subst (Tells text) (some_is stop f p.1) (record { written = sym (same_bytes text (codes "STOP") p.0); good = refl })
    | inr h ↦ elim (chosen (bytes_eq text (codes "END")) (Some end) _ f h.1) [
      | inl p ↦ subst (Tells text) (some_is end f p.1) (record { written = sym (same_bytes text (codes "END") p.0); good = refl })
      | inr h ↦ declared-told text f h.1
    ]
  ]
]
