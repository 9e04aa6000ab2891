-- Anchors that are the same.
use Rattle.std.proofs.Common.{◌≡◌, ℕ, ◌==◌, ℤ, Bool, true, ◌&&◌, List, refl, ap, subst}
use Rattle.std.specs.Bool.{Decides}
use Rattle.std.specs.Cmp.Lexicographic.{pointwise}
use Rattle.std.specs.Ordering.{int_eq}
use Rattle.std.proofs.lemmas.Bool.{and_from, and_parts}
use Rattle.std.proofs.lemmas.Bool.Decides.{Decides-eqb, Decides-int_eq}
use Rattle.std.proofs.lemmas.Slice.Eq.{slice_eq-Decides}
use Rattle.owner_partition.specs.declared.anchor.Anchor.{Anchor}
use Rattle.owner_partition.specs.declared.anchor.Dist.{Dist}
use Rattle.owner_partition.specs.declared.anchor.Dist.TheVariants.{Block, Cyclic}
use Rattle.owner_partition.specs.Owners.{is_same_anchor, is_same_dist, is_same_pair}

both : {P Q : Type 0} → (r s : Bool) → Decides r P → Decides s Q → Decides (r && s) (P × Q)
both r s p q = (λ h. let parts = and_parts r s h in (p.0 parts.0, q.0 parts.1), λ so. and_from r s (p.1 so.0) (q.1 so.1))

pub same_pair : (p q : ℕ × ℤ) → Decides (is_same_pair p q) (p ≡ q)
same_pair p q =
    let d = both (p.0 == q.0) (int_eq p.1 q.1) (Decides-eqb p.0 q.0) (Decides-int_eq p.1 q.1) in
    (λ h. let so = d.0 h in λ i. (so.0 i, so.1 i), λ e. d.1 (ap (λ (r : ℕ × ℤ). r.0) e, ap (λ (r : ℕ × ℤ). r.1) e))

pub same_pairs : (xs ys : List (ℕ × ℤ)) → Decides (pointwise is_same_pair xs ys) (xs ≡ ys)
same_pairs xs ys = slice_eq-Decides same_pair xs ys (pointwise is_same_pair xs ys) refl

itself : (d : Dist) → is_same_dist d d ≡ true
itself (Block b) = (Decides-eqb b b).1 refl
itself Cyclic = refl

pub same_dist : (a b : Dist) → is_same_dist a b ≡ true → a ≡ b
same_dist (Block b) (Block c) h = ap (λ n. Block n) ((Decides-eqb b c).0 h)
same_dist (Block b) Cyclic h = absurd (cc)
same_dist Cyclic (Block c) h = absurd (cc)
same_dist Cyclic Cyclic h = refl

pub same_anchor : (a b : Anchor) → Decides (is_same_anchor a b) (a ≡ b)
same_anchor a b =
    let dists : Decides (is_same_dist a.dist b.dist) (a.dist ≡ b.dist) = (same_dist a.dist b.dist, λ e. subst (λ d. is_same_dist a.dist d ≡ true) e (itself a.dist)) in
    let constants = Decides-int_eq a.form.constant b.form.constant in
    let d = both _ _ (both _ _ (both _ _ constants (same_pairs a.form.loops b.form.loops)) (same_pairs a.form.params b.form.params)) dists in (
      λ h. let so = d.0 h in λ i. record { form = record { constant = so.0.0.0 i; loops = so.0.0.1 i; params = so.0.1 i }; dist = so.1 i },
      λ e. d.1 (((ap (λ (x : Anchor). x.form.constant) e, ap (λ (x : Anchor). x.form.loops) e), ap (λ (x : Anchor). x.form.params) e), ap (λ (x : Anchor). x.dist) e),
    )
