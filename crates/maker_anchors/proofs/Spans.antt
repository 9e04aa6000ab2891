-- The interval of a loop, by the placement of its value in blocks of no place.
use Rattle.std.proofs.Common.{◌≡◌, ℕ, ◌*◌, nat_lt, nat_le, ℤ, Bool, true, false, ◌&&◌, ◌||◌, List, Option, Some, None, if◌then◌else◌, refl, ap, sym, ◌∙◌, arith}
use Rattle.std.specs.Prelude.{pos, negsuc, int_lt, int_le, ◌+ℤ◌, ◌*ℤ◌}
use Rattle.std.proofs.lemmas.Int.{ints}
use Rattle.std.proofs.lemmas.Bool.Decides.{nat_tests}
use Rattle.nest_tree.specs.Intervals.{ends_of, form_interval}
use Rattle.nest_tree.specs.Layout.{extent}
use Rattle.nest_tree.specs.Limits.{is_empty}
use Rattle.owner_partition.specs.declared.anchor.Anchor.{Anchor}
use Rattle.owner_partition.specs.declared.anchor.Dist.TheVariants.{Block}
use Rattle.owner_partition.specs.declared.placement.Placement.{Placement}
use Rattle.owner_partition.specs.Owners.{reaches}
use Rattle.owner_partition.specs.Placement.{misplaced_at, misplaced_within}
use Rattle.maker_anchors.specs.Anchors.{span_of, span_within, value_of}

-- the value of a loop in blocks of no place
abbrev pub probe : ℕ → Anchor
probe n = record { form = value_of n; dist = Block 0 }

-- a placement's ends are those of a loop, where there are such intervals
pub record IsPlacedAt (o : Option (List (ℤ × ℤ))) (n : ℕ) (p : Placement) : Type 0 where
  pub ends : List (ℤ × ℤ)
  pub is : o ≡ Some ends
  pub low : p.low ≡ (ends_of ends n).0
  pub high : p.high ≡ (ends_of ends n).1

value_ends : (params : List ℤ) (ends : List (ℤ × ℤ)) (n : ℕ) → form_interval (value_of n) ends params ≡ ends_of ends n
value_ends params ends n = by (ends_of ends n)
  where
    by : (e : ℤ × ℤ) → ◌≡◌ {A = ℤ × ℤ} (pos 0 +ℤ pos 0 +ℤ (pos 1 *ℤ e.0 +ℤ pos 0), pos 0 +ℤ pos 0 +ℤ (pos 1 *ℤ e.1 +ℤ pos 0)) e
    by (low, high) =
        let l : pos 0 +ℤ pos 0 +ℤ (pos 1 *ℤ low +ℤ pos 0) ≡ low = omega (arith, ints) in
        let h : pos 0 +ℤ pos 0 +ℤ (pos 1 *ℤ high +ℤ pos 0) ≡ high = omega (arith, ints) in
        λ i. (l i, h i)

and_false : (b : Bool) → (b && false) ≡ false
and_false true = refl
and_false false = refl

-- no interval that isn't empty lies within them
reach_nothing : (w : ℕ) (low high : ℤ) → int_lt high low ≡ false → (int_le (pos 0) low && int_lt high (pos (0 * w))) ≡ false
reach_nothing w (pos l) (pos h) e =
    let none : 0 * w ≡ 0 = omega arith in
    let below : nat_lt h 0 ≡ false = grind (arith, nat_tests) in
    ap (λ n. nat_le 0 l && nat_lt h n) none ∙ ap (λ b. nat_le 0 l && b) below ∙ and_false (nat_le 0 l)
reach_nothing w (pos l) (negsuc h) e = absurd (let no : true ≡ false = e in cc)
reach_nothing w (negsuc l) high e = refl

leaves : (w : ℕ) (e : ℤ × ℤ) → is_empty e ≡ false → reaches (Block 0) w e ≡ false
leaves w (low, high) h = reach_nothing w low high h

module _ (params : List ℤ) (w u n : ℕ) where
  -- where a loop isn't empty its value leaves them at its ends
  found : (ends : List (ℤ × ℤ)) → is_empty (ends_of ends n) ≡ false → misplaced_within params w u (probe n) ends ≡ Some (record { phase = u; low = (ends_of ends n).0; high = (ends_of ends n).1 })
  found ends h =
      let e = value_ends params ends n in
      ap (λ b. if b || false then None else if reaches (Block 0) w (form_interval (value_of n) ends params) then None else Some (record { phase = u; low = (form_interval (value_of n) ends params).0; high = (form_interval (value_of n) ends params).1 })) h
      ∙ ap (λ (x : ℤ × ℤ). if reaches (Block 0) w x then None else Some (record { phase = u; low = x.0; high = x.1 })) e
      ∙ ap (λ b. if b then None else Some (record { phase = u; low = (ends_of ends n).0; high = (ends_of ends n).1 })) (leaves w (ends_of ends n) h)

  empty : (ends : List (ℤ × ℤ)) → is_empty (ends_of ends n) ≡ true → misplaced_within params w u (probe n) ends ≡ None
  empty ends e = ap (λ b. if b || false then None else if reaches (Block 0) w (form_interval (value_of n) ends params) then None else Some (record { phase = u; low = (form_interval (value_of n) ends params).0; high = (form_interval (value_of n) ends params).1 })) e

  pub span_none : (o : Option (List (ℤ × ℤ))) → misplaced_at params w u (probe n) o ≡ None → span_of n o ≡ (pos 0, 0)
  span_none None h = refl
  span_none (Some ends) h = by (is_empty (ends_of ends n)) refl
    where
      by : (b : Bool) → is_empty (ends_of ends n) ≡ b → span_within (ends_of ends n) ≡ (pos 0, 0)
      by true e = ap (λ (b : Bool). if b then (pos 0, 0) else ((ends_of ends n).0, extent (ends_of ends n))) e
      by false e = absurd (let no = sym h ∙ found ends e in cc)

  pub span_some : (o : Option (List (ℤ × ℤ))) (p : Placement) → misplaced_at params w u (probe n) o ≡ Some p → span_of n o ≡ (p.low, extent (p.low, p.high))
  span_some None p h = absurd (cc)
  span_some (Some ends) p h = by (is_empty (ends_of ends n)) refl
    where
      by : (b : Bool) → is_empty (ends_of ends n) ≡ b → span_within (ends_of ends n) ≡ (p.low, extent (p.low, p.high))
      by true e = absurd (let no = sym h ∙ empty ends e in cc)
      by false e =
          let at = sym (found ends e) ∙ h in
          let same : record { phase = u; low = (ends_of ends n).0; high = (ends_of ends n).1 } ≡ p = cc in
          ap (λ (b : Bool). if b then (pos 0, 0) else ((ends_of ends n).0, extent (ends_of ends n))) e ∙ ap (λ (q : Placement). (q.low, extent (q.low, q.high))) same

  -- they are those of the loop
  pub placed_ends : (o : Option (List (ℤ × ℤ))) (p : Placement) → misplaced_at params w u (probe n) o ≡ Some p → IsPlacedAt o n p
  placed_ends None p h = absurd (cc)
  placed_ends (Some ends) p h = by (is_empty (ends_of ends n)) refl
    where
      by : (b : Bool) → is_empty (ends_of ends n) ≡ b → IsPlacedAt (Some ends) n p
      by true e = absurd (let no = sym h ∙ empty ends e in cc)
      by false e =
          let at = sym (found ends e) ∙ h in
          let same : record { phase = u; low = (ends_of ends n).0; high = (ends_of ends n).1 } ≡ p = cc in
          record { ends = ends; is = refl; low = sym (ap (λ (q : Placement). q.low) same); high = sym (ap (λ (q : Placement). q.high) same) }
