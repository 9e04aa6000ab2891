-- Anchors that say the same name one processor.
use Rattle.std.proofs.Common.{◌≡◌, ℕ, ℤ, pos, ◌+ℤ◌, Bool, true, false, ◌&&◌, List, [], ◌∷◌, length, Option, Some, None, if◌then◌else◌, refl, ap, sym, ◌∙◌, arith}
use Rattle.std.specs.Cmp.Lexicographic.{pointwise}
use Rattle.std.specs.Ordering.{int_eq}
use Rattle.std.proofs.lemmas.Bool.{and_parts}
use Rattle.std.proofs.lemmas.Bool.Decides.{Decides-int_eq}
use Rattle.std.proofs.lemmas.Int.{ints}
use Rattle.nest_tree.specs.Form.{Form, dot, form_value, reach_within}
use Rattle.nest_tree.specs.Layout.{count_of}
use Rattle.owner_partition.specs.declared.anchor.Anchor.{Anchor}
use Rattle.owner_partition.specs.Owners.{anchor_owner, dealt, has_places, is_same_dist, is_same_pair}
use Rattle.owner_partition.proofs.Anchors.{same_pairs, same_dist}
use Rattle.maker_candidates.specs.Same.{fixed_value, is_same_deal, is_same_one, says_same}

fixed_is : (values : List ℤ) (f : Form) (v : ℤ) → fixed_value values f ≡ Some v → f.constant +ℤ dot f.params values ≡ v
fixed_is values f v e = by (reach_within (length values) f.params) e
  where
    by : (b : Bool) → (if b then Some (f.constant +ℤ dot f.params values) else None) ≡ Some v → f.constant +ℤ dot f.params values ≡ v
    by true h = cc
    by false h = absurd (let no : None ≡ Some v = h in cc)

module _ (values : List ℤ) (workers : ℕ) (a b : Anchor) (loops : List ℤ) where
  abbrev AreOne : Type 0
  AreOne = anchor_owner a workers loops values ≡ anchor_owner b workers loops values

  module _ (v w : ℤ) (left : a.form.constant +ℤ dot a.form.params values ≡ v) (right : b.form.constant +ℤ dot b.form.params values ≡ w) where
    of_deal : (named : List (ℕ × ℤ)) → a.form.loops ≡ named → b.form.loops ≡ named → is_same_deal workers named a.dist v b.dist w ≡ true → AreOne
    of_deal [] one other h =
        let parts = and_parts (has_places a.dist && has_places b.dist) (int_eq (dealt a.dist workers v) (dealt b.dist workers w)) h in
        let places : dealt a.dist workers v ≡ dealt b.dist workers w = (Decides-int_eq (dealt a.dist workers v) (dealt b.dist workers w)).0 parts.1 in
        let none : dot a.form.loops loops ≡ pos 0 = ap (λ ps. dot ps loops) one in
        let none' : dot b.form.loops loops ≡ pos 0 = ap (λ ps. dot ps loops) other in
        let first : form_value a.form loops values ≡ v = omega (arith, ints, left, none) in
        let second : form_value b.form loops values ≡ w = omega (arith, ints, right, none') in
        ap (λ z. count_of (dealt a.dist workers z)) first ∙ ap count_of places ∙ sym (ap (λ z. count_of (dealt b.dist workers z)) second)
    of_deal (l ∷ named) one other h =
        let parts = and_parts (is_same_dist a.dist b.dist) (int_eq v w) h in
        let same : v ≡ w = (Decides-int_eq v w).0 parts.1 in
        let alike : dot a.form.loops loops ≡ dot b.form.loops loops = ap (λ ps. dot ps loops) (one ∙ sym other) in
        let values_are : form_value a.form loops values ≡ form_value b.form loops values = omega (arith, ints, left, right, same, alike) in
        ap (λ z. count_of (dealt a.dist workers z)) values_are ∙ ap (λ d. count_of (dealt d workers (form_value b.form loops values))) (same_dist a.dist b.dist parts.0)

  pub same_owner : says_same values workers a b ≡ true → AreOne
  same_owner h =
      let parts = and_parts (pointwise is_same_pair a.form.loops b.form.loops) (is_same_one workers a.form.loops a.dist (fixed_value values a.form) b.dist (fixed_value values b.form)) h in
      by (fixed_value values a.form) (fixed_value values b.form) refl refl parts.1 ((same_pairs a.form.loops b.form.loops).0 parts.0)
    where
      by : (o q : Option ℤ) → fixed_value values a.form ≡ o → fixed_value values b.form ≡ q → is_same_one workers a.form.loops a.dist o b.dist q ≡ true → a.form.loops ≡ b.form.loops → AreOne
      by None q e e' h' loops_are = absurd (let no : false ≡ true = h' in cc)
      by (Some v) None e e' h' loops_are = absurd (let no : false ≡ true = h' in cc)
      by (Some v) (Some w) e e' h' loops_are = of_deal v w (fixed_is values a.form v e) (fixed_is values b.form w e') a.form.loops refl (sym loops_are) h'
