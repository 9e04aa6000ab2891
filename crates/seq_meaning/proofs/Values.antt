-- What the proofs on the values of expressions share.
use Rattle.std.proofs.Common.{◌≡◌, ℕ, ◌+◌, ◌≤◌, ◌<◌, ◌-◌, take, get_or, drop-drop, drop-cons, add-one, ℤ, List, [], ◌∷◌, length, drop, length-append, length-drop, length-take, get_or-take, get_or-drop, IsTrue, ap, sym, ◌∙◌, w64, to_z, of_z, FitsSigned, arith}
use Rattle.std.specs.Prelude.{fold}
use Rattle.std.proofs.lemmas.Bool.{and_parts}
use Rattle.std.proofs.lemmas.Int.{to_z-of_z}
use Rattle.nest_tree.specs.Tree.{least_of, greatest_of}
use Rattle.nest_tree.specs.declared.tree.Access.{Access}
use Rattle.nest_tree.specs.View.{expression_of, expressions_from}
use Rattle.nest_tree.specs.declared.tree.Expr.{Expr}
use Rattle.nest_model.specs.Meaning.{has_value, have_values, value_of, values_of}
use Rattle.nest_tree.specs.Loads.{loads_in, loads_among}
use denote.Param.Weighed.{most}
use Rattle.flat_code.proofs.Arguments.{most_at}

-- what is left to do of a MIN or a MAX: the arguments `left`, whose loads gave what `rest` begins with
pub record Remains (pick : ℤ → ℤ → ℤ) (best : ℤ) (left : List Expr) (loops params rest : List ℤ) (value : ℤ) (behind : List ℤ) : Type 0 where
  pub valued : IsTrue (have_values (length loops) (length params) (expressions_from left))
  pub loads : length (loads_among (expressions_from left)) ≤ length rest
  pub picked : fold pick best (values_of (expressions_from left) loops params rest) ≡ value
  pub read : drop (length (loads_among (expressions_from left))) rest ≡ behind

Remains-next : (pick : ℤ → ℤ → ℤ) (best : ℤ) (e : Expr) (left : List Expr) (loops params rest : List ℤ) (value : ℤ) (behind : List ℤ) →
    Remains pick best (e ∷ left) loops params rest value behind →
    Remains pick (pick best (value_of (expression_of e) loops params rest)) left loops params (drop (length (loads_in (expression_of e))) rest) value behind
Remains-next pick best e left loops params rest value behind r = record {
  valued = (and_parts _ _ r.valued).1;
  loads = omega (arith, length-drop {A = ℤ}, length-append (loads_in (expression_of e)) (loads_among (expressions_from left)), r.loads);
  picked = r.picked;
  read = drop-drop _ (length (loads_in (expression_of e))) rest ∙ ap (λ n. drop n rest) (sym (length-append (loads_in (expression_of e)) (loads_among (expressions_from left)))) ∙ r.read;
}

-- the next argument's value is taken in
Remains-step : (pick : ℤ → ℤ → ℤ) (best x next : ℤ) (items : List Expr) (i : ℕ) (e : Expr) (loops params rest after : List ℤ) (value : ℤ) (behind : List ℤ) →
    i < length items → e ≡ get_or items i e → next ≡ pick best x → x ≡ value_of (expression_of e) loops params rest →
    after ≡ drop (length (loads_in (expression_of e))) rest →
    Remains pick best (drop i items) loops params rest value behind → Remains pick next (drop (i + 1) items) loops params after value behind
Remains-step pick best x next items i e loops params rest after value behind lt is p q f r =
    let h = rw (drop-cons items i e, ← is, ← add-one) at r in
    rw (p, q, f) (Remains-next pick best e (drop (i + 1) items) loops params rest value behind h)

-- the same, where the code casts the two values to their bits and back
pub Remains-cast : (pick : ℤ → ℤ → ℤ) (best x next : ℤ) (items : List Expr) (i : ℕ) (e : Expr) (loops params rest after : List ℤ) (value : ℤ) (behind : List ℤ) →
    i < length items → e ≡ get_or items i e → FitsSigned w64 x → x ≡ value_of (expression_of e) loops params rest →
    after ≡ drop (length (loads_in (expression_of e))) rest → Remains pick best (drop i items) loops params rest value behind →
    FitsSigned w64 next → next ≡ pick best (to_z w64 (of_z w64 x)) →
    Remains pick (to_z w64 (of_z w64 next)) (drop (i + 1) items) loops params after value behind
Remains-cast pick best x next items i e loops params rest after value behind lt is g q f r h p =
    rw (to_z-of_z w64 next h) (Remains-step pick best x next items i e loops params rest after value behind lt is (rw (to_z-of_z w64 x g) at p) q f r)

-- the next argument has a value, and enough was loaded for it
pub Remains-head : (pick : ℤ → ℤ → ℤ) (best : ℤ) (items : List Expr) (i : ℕ) (e : Expr) (loops params rest : List ℤ) (value : ℤ) (behind : List ℤ) →
    i < length items → e ≡ get_or items i e → Remains pick best (drop i items) loops params rest value behind →
    IsTrue (has_value (length loops) (length params) (expression_of e)) × (length (loads_in (expression_of e)) ≤ length rest)
Remains-head pick best items i e loops params rest value behind lt is r =
    let h = rw (drop-cons items i e, ← is) at r in
    ((and_parts _ _ h.valued).0, omega (arith, length-append {A = Access}, h.loads))

-- MIN has an argument, and each has a value
pub arguments_valued-Min : (loops params : ℕ) (arguments : List Expr) → IsTrue (has_value loops params (least_of (expressions_from arguments))) →
    (0 < length arguments) × IsTrue (have_values loops params (expressions_from arguments))
arguments_valued-Min loops params [] v = cc
arguments_valued-Min loops params (e ∷ rest) v = (omega arith, v)

pub arguments_valued-Max : (loops params : ℕ) (arguments : List Expr) → IsTrue (has_value loops params (greatest_of (expressions_from arguments))) →
    (0 < length arguments) × IsTrue (have_values loops params (expressions_from arguments))
arguments_valued-Max loops params [] v = cc
arguments_valued-Max loops params (e ∷ rest) v = (omega arith, v)

-- so does no argument behind the first
pub most_behind_first : (weight : Expr → ℕ) (items : List Expr) (i : ℕ) (e : Expr) → i < length (take (length items - 1) (drop 1 items)) →
    e ≡ get_or (take (length items - 1) (drop 1 items)) i e → weight e ≤ most weight items
most_behind_first weight items i e lt is =
    let short : i < length items - 1 = omega (arith, length-take {A = Expr}, length-drop {A = Expr}) in
    let at : e ≡ get_or items (1 + i) e = is ∙ get_or-take (length items - 1) (drop 1 items) i e short ∙ get_or-drop 1 items i e in
    rw (ap weight at) (most_at weight items (1 + i) e (omega arith))
