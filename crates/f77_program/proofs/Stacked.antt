-- Going over the parts of an expression from the last to the first.
use Rattle.std.proofs.Common.{◌≡◌, ℕ, zero, suc, ◌+◌, ◌-◌, ◌<◌, ◌≤◌, List, [], ◌∷◌, ◌++◌, length, map, reverse, get_or, drop, refl, sym, ap, subst, ◌∙◌, arith, add-one, append_assoc, Bor}
use Rattle.std.proofs.Math.Seq.{drop-cons}
use Rattle.std.proofs.Math.ListN.{get_or-map}
use Rattle.std.proofs.lemmas.List.{append-nil, reverse-append, length-map}
use Rattle.std.specs.List.{flat_map}
use Rattle.f77_forms.specs.declared.form.Expression.{Expression}
use Rattle.f77_forms.specs.View.{expression_of}
use Rattle.f77_forms.specs.Form.{ExpressionForm, number, name, call, parenthesized, signed, binary, ArgumentForms, no_more, one_more}
use Rattle.f77_scene.specs.Expressions.{parts_of, parts_among, list_of}
use Rattle.f77_program.specs.Operands.{operands_of, forms_of}
use Rattle.f77_program.specs.Stacks.{stacked, AreFollowed}
use Rattle.f77_program.proofs.Parted.{parts_among-list}

drop-mapped : {X : Type 0} (f : ExpressionForm → X) (es : List ExpressionForm) (rest : List X) → drop (length es) (map f es ++ rest) ≡ rest
drop-mapped f [] rest = refl
drop-mapped f (e ∷ es) rest = drop-mapped f es rest

-- ---- what lies on the stack

mutual
  pub stacked-parts : {X : Type 0} (f : ExpressionForm → X) (e : ExpressionForm) (rest : List ExpressionForm) → stacked f (parts_of e ++ rest) ≡ f e ∷ stacked f rest
  stacked-parts f (number ds) rest = refl
  stacked-parts f (name n) rest = refl
  stacked-parts f (call n es) rest = ap (λ st. f (call n es) ∷ drop (length (list_of es)) st) (stacked-among f es rest) ∙ ap (λ st. f (call n es) ∷ st) (drop-mapped f (list_of es) (stacked f rest))
  stacked-parts f (parenthesized e) rest = ap (λ st. f (parenthesized e) ∷ drop 1 st) (stacked-parts f e rest)
  stacked-parts f (signed sign e) rest = ap (λ st. f (signed sign e) ∷ drop 1 st) (stacked-parts f e rest)
  stacked-parts f (binary op a b) rest =
      ap (λ ps. f (binary op a b) ∷ drop 2 (stacked f ps)) (append_assoc (parts_of a) (parts_of b) rest)
      ∙ ap (λ st. f (binary op a b) ∷ drop 2 st) (stacked-parts f a (parts_of b ++ rest) ∙ ap (λ st. f a ∷ st) (stacked-parts f b rest))

  stacked-among : {X : Type 0} (f : ExpressionForm → X) (es : ArgumentForms) (rest : List ExpressionForm) → stacked f (parts_among es ++ rest) ≡ map f (list_of es) ++ stacked f rest
  stacked-among f no_more rest = refl
  stacked-among f (one_more e es) rest =
      ap (stacked f) (append_assoc (parts_of e) (parts_among es) rest) ∙ stacked-parts f e (parts_among es ++ rest) ∙ ap (λ st. f e ∷ st) (stacked-among f es rest)

stacked-operands : {X : Type 0} (f : ExpressionForm → X) (es rest : List ExpressionForm) → stacked f (flat_map parts_of es ++ rest) ≡ map f es ++ stacked f rest
stacked-operands f [] rest = refl
stacked-operands f (e ∷ es) rest = ap (stacked f) (append_assoc (parts_of e) (flat_map parts_of es) rest) ∙ stacked-parts f e (flat_map parts_of es ++ rest) ∙ ap (λ st. f e ∷ st) (stacked-operands f es rest)

-- ---- behind each part stand the parts of its operands

mutual
  followed : (e : ExpressionForm) (rest : List ExpressionForm) → AreFollowed rest → AreFollowed (parts_of e ++ rest)
  followed (number ds) rest h = ((rest, refl), h)
  followed (name n) rest h = ((rest, refl), h)
  followed (call n es) rest h = ((rest, ap (λ ps. ps ++ rest) (parts_among-list es)), followed_among es rest h)
  followed (parenthesized e) rest h = ((rest, ap (λ ps. ps ++ rest) (sym (append-nil (parts_of e)))), followed e rest h)
  followed (signed sign e) rest h = ((rest, ap (λ ps. ps ++ rest) (sym (append-nil (parts_of e)))), followed e rest h)
  followed (binary op a b) rest h =
      ((rest, ap (λ ps. (parts_of a ++ ps) ++ rest) (sym (append-nil (parts_of b)))), subst AreFollowed (sym (append_assoc (parts_of a) (parts_of b) rest)) (followed a (parts_of b ++ rest) (followed b rest h)))

  followed_among : (es : ArgumentForms) (rest : List ExpressionForm) → AreFollowed rest → AreFollowed (parts_among es ++ rest)
  followed_among no_more rest h = h
  followed_among (one_more e es) rest h = subst AreFollowed (sym (append_assoc (parts_of e) (parts_among es) rest)) (followed e (parts_among es ++ rest) (followed_among es rest h))

pub parts-followed : (e : ExpressionForm) → AreFollowed (parts_of e)
parts-followed e = subst AreFollowed (append-nil (parts_of e)) (followed e [] tt)

followed_at : (ps : List ExpressionForm) (i : ℕ) (d : ExpressionForm) → AreFollowed ps → i < length ps → (more : List ExpressionForm) × (drop (suc i) ps ≡ flat_map parts_of (operands_of (get_or ps i d)) ++ more)
followed_at [] i d h lt = absurd (omega arith)
followed_at (p ∷ ps) zero d h lt = h.0
followed_at (p ∷ ps) (suc i) d h lt = followed_at ps i d h.1 (omega arith)

-- ---- one part more

-- what lies on the stack in front of a part and behind it, the top last
pub record Turns {X : Type 0} (f : ExpressionForm → X) (ps : List ExpressionForm) (i : ℕ) (p : ExpressionForm) : Type 0 where
  pub below : List X
  pub operands : reverse (stacked f (drop (i + 1) ps)) ≡ below ++ reverse (map f (operands_of p))
  pub behind : reverse (stacked f (drop i ps)) ≡ below ++ f p ∷ []

turn : {X : Type 0} (f : ExpressionForm → X) (ps : List ExpressionForm) (i : ℕ) (p : ExpressionForm) → AreFollowed ps → i < length ps → p ≡ get_or ps i p → Turns f ps i p
turn f ps i p h lt is =
    let at = followed_at ps i p h lt in
    let rest : stacked f (drop (suc i) ps) ≡ map f (operands_of p) ++ stacked f at.0 =
    ap (stacked f) (at.1 ∙ ap (λ q. flat_map parts_of (operands_of q) ++ at.0) (sym is)) ∙ stacked-operands f (operands_of p) at.0 in
    let whole : drop i ps ≡ p ∷ drop (suc i) ps = drop-cons ps i p lt ∙ ap (λ q. q ∷ drop (suc i) ps) (sym is) in
    record {
      below = reverse (stacked f at.0);
      operands = rw (add-one) (ap reverse rest ∙ reverse-append (map f (operands_of p)) (stacked f at.0));
      behind = ap (λ qs. reverse (stacked f qs)) whole ∙ ap (λ st. reverse (f p ∷ drop (length (operands_of p)) st)) rest ∙ ap (λ st. reverse (f p ∷ st)) (drop-mapped f (operands_of p) (stacked f at.0)) ∙ reverse-append (f p ∷ []) (stacked f at.0);
    }

-- the same by references to the parts, of which `place` and those behind it have been gone over
pub turn_back : {X : Type 0} (f : ExpressionForm → X) (parts : List (Bor Expression)) (place : ℕ) (p : Bor Expression) → ((e : ExpressionForm) × (forms_of parts ≡ parts_of e)) → 0 < place → place ≤ length parts → p ≡ get_or parts (place - 1) p
    → (below : List X) × (reverse (stacked f (drop place (forms_of parts))) ≡ below ++ reverse (map f (operands_of (expression_of p.now)))) × (reverse (stacked f (drop (place - 1) (forms_of parts))) ≡ below ++ f (expression_of p.now) ∷ [])
turn_back f parts place p whole some within is =
    let form : Bor Expression → ExpressionForm = λ e. expression_of e.now in
    let good : AreFollowed (forms_of parts) = subst AreFollowed (sym whole.1) (parts-followed whole.0) in
    let at : form p ≡ get_or (forms_of parts) (place - 1) (form p) = ap form is ∙ sym (get_or-map form parts (place - 1) p) in
    let t = turn f (forms_of parts) (place - 1) (form p) good (omega (arith, length-map parts form)) at in
    let next : place - 1 + 1 ≡ place = omega arith in
    (t.below, ap (λ k. reverse (stacked f (drop k (forms_of parts)))) (sym next) ∙ t.operands, t.behind)

-- all parts of an expression leave one thing
pub all_parts : {X : Type 0} (f : ExpressionForm → X) (e : ExpressionForm) → reverse (stacked f (parts_of e)) ≡ f e ∷ []
all_parts f e = ap (λ ps. reverse (stacked f ps)) (sym (append-nil (parts_of e))) ∙ ap reverse (stacked-parts f e [])
