-- The intervals of the loops at a static phase have small ends.
use Rattle.std.proofs.Common.{◌≡◌, ℕ, zero, suc, ◌-◌, ℤ, Bool, true, false, nat_lt, List, [], ◌∷◌, Option, Some, None, if◌then◌else◌, get_or, set, refl, ap, sym, ◌∙◌, subst}
use Rattle.std.specs.Prelude.{pos, int_le}
use Rattle.nest_tree.specs.Form.{is_small}
use Rattle.nest_tree.specs.Intervals.{ends_of, form_interval, head_interval, with_ends}
use Rattle.nest_tree.specs.Limits.{IsWithinLimits, is_empty, no_ends, wide_at, wide_end, wide_forms, wide_in, wide_of}
use Rattle.nest_tree.specs.Tree.{Head, Statement, Statements, do_loop, work, continue, done, next, Tree, param_values}
use Rattle.nest_tree.specs.WellFormed.{is_value}
use Rattle.nest_tree.proofs.FirstLimits.{kept, neither, no_ends-at}
use Rattle.nest_tree.proofs.Good.{small-value}
use Rattle.nest_model.specs.Visits.{stops_in}
use Rattle.nest_model.proofs.Within.{choices}
use Rattle.nest_model.proofs.Small.{no_line}
use Rattle.owner_partition.specs.declared.cut.Mark.{Mark}
use Rattle.owner_partition.specs.declared.placement.Placement.{Placement}
use Rattle.owner_partition.specs.Marks.{enters_outer}
use Rattle.owner_partition.specs.Placement.{ends_among, ends_in, misplaced, phase_ends}
use Rattle.maker_anchors.proofs.Spans.{placed_ends, probe}

pub record IsNear (e : ℤ × ℤ) : Type 0 where
  pub low : is_small e.0 ≡ true
  pub high : is_small e.1 ≡ true

AreNear : List (ℤ × ℤ) → Type 0
AreNear ends = (n : ℕ) → IsNear (ends_of ends n)

near-end : (e : ℤ × ℤ) → wide_end e ≡ None → IsNear e
near-end (low, high) h = let both = choices (is_small low) (is_small high) low high h in record { low = both.0; high = both.1 }

near-head : (params : List ℤ) (ends : List (ℤ × ℤ)) (head : Head) → wide_forms params ends (head.m1 ∷ head.m2 ∷ []) ≡ None → IsNear (head_interval params ends head)
near-head params ends head h =
    let first = neither (wide_end (form_interval head.m1 ends params)) (wide_forms params ends (head.m2 ∷ [])) h in
    let last = neither (wide_end (form_interval head.m2 ends params)) (wide_forms params ends []) first.1 in
    let a = near-end (form_interval head.m1 ends params) first.0 in
    let b = near-end (form_interval head.m2 ends params) last.0 in
    elim (int_le (pos 0) head.step) as (λ c. IsNear (if c then ((form_interval head.m1 ends params).0, (form_interval head.m2 ends params).1) else ((form_interval head.m2 ends params).0, (form_interval head.m1 ends params).1)))
    [ true ↦ record { low = a.low; high = b.high } | false ↦ record { low = b.low; high = a.high } ]

set-keeps : {X : Type 0} (P : X → Type 0) (xs : List X) (j k : ℕ) (v d : X) → P v → P (get_or xs k d) → P (get_or (set xs j v) k d)
set-keeps P [] j k v d new old = old
set-keeps P (x ∷ xs) zero zero v d new old = new
set-keeps P (x ∷ xs) zero (suc k) v d new old = old
set-keeps P (x ∷ xs) (suc j) zero v d new old = old
set-keeps P (x ∷ xs) (suc j) (suc k) v d new old = set-keeps P xs j k v d new old

near-set : (ends : List (ℤ × ℤ)) (n : ℕ) (e : ℤ × ℤ) → AreNear ends → IsNear e → AreNear (with_ends ends n e)
unfolding AreNear
near-set ends n e old new = λ k. set-keeps IsNear ends (n - 1) (k - 1) e (pos 0, pos 0) new (old k)

inside-or-here : (enters empty : Bool) (inside : List (ℤ × ℤ)) (later : Option (List (ℤ × ℤ))) (found : List (ℤ × ℤ)) (P : List (ℤ × ℤ) → Type 0) → P inside → (empty ≡ false → later ≡ Some found → P found) → (if enters then if empty then None else later else Some inside) ≡ Some found → P found
inside-or-here false empty inside later found P here behind h = let same : inside ≡ found = cc in subst P same here
inside-or-here true true inside later found P here behind h = absurd (cc)
inside-or-here true false inside later found P here behind h = behind refl h

either-way : (b : Bool) (x y : Option (List (ℤ × ℤ))) (found : List (ℤ × ℤ)) (P : List (ℤ × ℤ) → Type 0) → (x ≡ Some found → P found) → (y ≡ Some found → P found) → (if b then x else y) ≡ Some found → P found
either-way true x y found P one other h = one h
either-way false x y found P one other h = other h

module _ (params : List ℤ) (enters : ℕ → Bool) where
  mutual
    near-in : (ends found : List (ℤ × ℤ)) (s : Statement) (place : ℕ) → wide_in params ends s ≡ None → AreNear ends → ends_in params enters ends s place ≡ Some found → AreNear found
    near-in ends found (do_loop head body) place narrow near at =
        let interval = head_interval params ends head in
        let inside = with_ends ends head.number interval in
        let parts = neither (wide_at head.line (wide_forms params ends (head.m1 ∷ head.m2 ∷ []))) (if is_empty interval then None else wide_of params inside body) narrow in
        let here = near-set ends head.number interval near (near-head params ends head (no_line head.line (wide_forms params ends (head.m1 ∷ head.m2 ∷ [])) parts.0)) in
        inside-or-here (enters head.number) (is_empty interval) inside (ends_among params enters inside body place) found AreNear here
        (λ some later. near-among inside found body place (sym (ap (λ b. if b then None else wide_of params inside body) some) ∙ parts.1) here later) at
    near-in ends found (work w) place narrow near at = let same : ends ≡ found = cc in subst AreNear same near
    near-in ends found (continue line) place narrow near at = absurd (cc)

    near-among : (ends found : List (ℤ × ℤ)) (ss : Statements) (place : ℕ) → wide_of params ends ss ≡ None → AreNear ends → ends_among params enters ends ss place ≡ Some found → AreNear found
    near-among ends found done place narrow near at = absurd (cc)
    near-among ends found (next s rest) place narrow near at =
        let parts = neither (wide_in params ends s) (wide_of params ends rest) narrow in
        either-way (nat_lt place (stops_in enters s)) (ends_in params enters ends s place) (ends_among params enters ends rest (place - stops_in enters s)) found AreNear
        (λ h. near-in ends found s place parts.0 near h) (λ h. near-among ends found rest (place - stops_in enters s) parts.1 near h) at

none-near : AreNear no_ends
unfolding AreNear
none-near n = subst IsNear (sym (no_ends-at (n - 1))) (record { low = refl; high = refl })

-- the ends at which the value of a loop leaves blocks of no place are values
pub record AreValues (p : Placement) : Type 0 where
  pub low : is_value p.low ≡ true
  pub high : is_value p.high ≡ true

pub placed_values : (tree : Tree) (marks : List Mark) (w u n : ℕ) (p : Placement) → IsWithinLimits tree → misplaced tree marks w u (probe n) ≡ Some p → AreValues p
unfolding AreNear
placed_values tree marks w u n p limits at =
    let placed = placed_ends (param_values tree) w u n (phase_ends tree marks (u - 1)) p at in
    let near = near-among (param_values tree) (enters_outer marks) no_ends placed.ends tree.items (u - 1) (kept tree limits).forms none-near placed.is n in
    record {
      low = ap is_value placed.low ∙ small-value (ends_of placed.ends n).0 near.low;
      high = ap is_value placed.high ∙ small-value (ends_of placed.ends n).1 near.high;
    }
