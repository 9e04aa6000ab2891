-- Rows behind one another, and those that are left.
use Rattle.std.proofs.Common.{◌≡◌, ℕ, zero, suc, true, take, ◌+◌, ◌*◌, ◌<◌, List, [], ◌∷◌, ◌++◌, append_assoc, length, map, drop, get_or, refl, ap, sym, ◌∙◌, arith}
use Rattle.std.specs.List.{flat_map, list_all}
use Rattle.std.proofs.lemmas.Bool.{and_parts}
use Rattle.std.proofs.lemmas.List.{drop_more, map-append}
use Rattle.nest_tree.specs.Form.{is_small}
use Rattle.nest_tree.specs.declared.tree.Item.{Item}
use Rattle.nest_tree.specs.Tree.{Head}
use Rattle.nest_tree.specs.View.{head_of, statement_of, statements_from}
use Rattle.nest_tree.specs.declared.tree.Parameter.{Parameter}
use Rattle.farkas_cert.specs.Inequalities.{Inequalities}
use Rattle.nest_rows.specs.declared.constraint.Constraint.{Constraint}
use Rattle.nest_rows.specs.declared.constraint.Sign.TheVariants.{Plus, Minus}
use Rattle.nest_rows.specs.declared.terms.Around.{Around}
use Rattle.nest_rows.specs.Constraints.{row_of}
use Rattle.nest_rows.specs.Groups.{constants_have, equal, loop_has, loops_have}
use Rattle.nest_rows.specs.More.{HasMore}
use Rattle.nest_rows.specs.Nested.{nested_among, nested_in}
use Rattle.nest_walk.proofs.TableParts.{pieces_taken}
use Rattle.nest_rows.specs.Views.{heads_of}

pub more-both : (xs ys : List Constraint) (old middle new : Inequalities) → HasMore xs old middle → HasMore ys middle new → HasMore (xs ++ ys) old new
more-both xs ys old middle new h k =
    let vars : middle.vars ≡ old.vars = ap (λ (s : Inequalities). s.vars) h in
    let rows = ap (λ (s : Inequalities). s.rows) h in
    k ∙ ap (λ n. record { vars = n; rows = middle.rows ++ map (row_of n) ys }) vars
    ∙ ap (λ rs. record { vars = old.vars; rows = rs ++ map (row_of old.vars) ys }) rows
    ∙ ap (λ rs. record { vars = old.vars; rows = rs }) (append_assoc old.rows (map (row_of old.vars) xs) (map (row_of old.vars) ys) ∙ ap (λ rs. old.rows ++ rs) (sym (map-append (row_of old.vars) xs ys)))

-- what is left of all constraints behind those that stand already
pub record AreLeft (all : List Constraint) (old new : Inequalities) (left : List Constraint) : Type 0 where
  pub done : List Constraint
  pub has : HasMore done old new
  pub whole : done ++ left ≡ all

pub left-more : (all : List Constraint) (old middle new : Inequalities) (left xs rest : List Constraint) → AreLeft all old middle left → left ≡ xs ++ rest → HasMore xs middle new → AreLeft all old new rest
left-more all old middle new left xs rest h is more = record {
  done = h.done ++ xs;
  has = more-both h.done xs old middle new h.has more;
  whole = append_assoc h.done xs rest ∙ ap (λ cs. h.done ++ cs) (sym is) ∙ h.whole;
}

pub constants-more : (params : List Parameter) (k : ℕ) (p : Parameter) → k < length params → p ≡ get_or params k p →
    constants_have (k + 1) (map (λ (q : Parameter). q.value) (drop k params)) ≡ (equal Plus (k + 1) p.value ∷ equal Minus (k + 1) p.value ∷ []) ++ constants_have (k + 1 + 1) (map (λ (q : Parameter). q.value) (drop (k + 1) params))
constants-more params k p lt is =
    let next : suc (k + 1) ≡ k + 1 + 1 = omega arith in
    ap (λ ps. constants_have (k + 1) (map (λ (q : Parameter). q.value) ps)) (drop_more params k p lt)
    ∙ ap (λ (q : Parameter). constants_have (k + 1) (q.value ∷ map (λ (q : Parameter). q.value) (drop (k + 1) params))) (sym is)
    ∙ ap (λ n. equal Plus (k + 1) p.value ∷ equal Minus (k + 1) p.value ∷ constants_have n (map (λ (q : Parameter). q.value) (drop (k + 1) params))) next

pub loops-more : (first : ℕ) (heads : List Head) (around : List Around) (k : ℕ) (a : Around) → k < length around → a ≡ get_or around k a →
    loops_have first heads (first + 2 * k) (heads_of (drop k around)) ≡ loop_has first heads (first + 2 * k) (head_of a.nest.now) ++ loops_have first heads (first + 2 * (k + 1)) (heads_of (drop (k + 1) around))
loops-more first heads around k a lt is =
    let next : first + 2 * k + 2 ≡ first + 2 * (k + 1) = omega arith in
    ap (λ xs. loops_have first heads (first + 2 * k) (heads_of xs)) (drop_more around k a lt)
    ∙ ap (λ (x : Around). loops_have first heads (first + 2 * k) (head_of x.nest.now ∷ heads_of (drop (k + 1) around))) (sym is)
    ∙ ap (λ n. loop_has first heads (first + 2 * k) (head_of a.nest.now) ++ loops_have first heads n (heads_of (drop (k + 1) around))) next

pub small-step : (around : List Around) (k : ℕ) (a : Around) → k < length around → a ≡ get_or around k a → list_all (λ (h : Head). is_small h.step) (heads_of around) ≡ true → is_small a.nest.now.step ≡ true
small-step [] k a lt is all = absurd (omega arith)
small-step (x ∷ around) zero a lt is all = ap (λ (y : Around). is_small y.nest.now.step) is ∙ (and_parts (is_small x.nest.now.step) (list_all (λ (h : Head). is_small h.step) (heads_of around)) all).0
small-step (x ∷ around) (suc k) a lt is all = small-step around k a (omega (arith, lt)) is (and_parts (is_small x.nest.now.step) (list_all (λ (h : Head). is_small h.step) (heads_of around)) all).1

nested-pieces : (heads : List Head) (items : List Item) → nested_among heads (statements_from items) ≡ flat_map (λ (i : Item). nested_in heads (statement_of i)) items
nested-pieces heads [] = refl
nested-pieces heads (i ∷ items) = ap (λ ns. nested_in heads (statement_of i) ++ ns) (nested-pieces heads items)

-- the pieces of work of one statement more
pub nested-taken : (heads : List Head) (items : List Item) (i : ℕ) (item : Item) → i < length items → item ≡ get_or items i item →
    nested_among heads (statements_from (take (i + 1) items)) ≡ nested_among heads (statements_from (take i items)) ++ nested_in heads (statement_of item)
nested-taken heads items i item lt is =
    nested-pieces heads (take (i + 1) items) ∙ pieces_taken (λ (x : Item). nested_in heads (statement_of x)) items i item lt is
    ∙ ap (λ ns. ns ++ nested_in heads (statement_of item)) (sym (nested-pieces heads (take i items)))
