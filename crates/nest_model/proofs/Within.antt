-- Values within intervals: forms at loops' values within theirs, and the values of a loop's trips.
use Rattle.std.proofs.Common.{◌≡◌, ℕ, zero, suc, ◌-◌, ◌<◌, ◌≤◌, ℤ, pos, negsuc, ◌+ℤ◌, ◌*ℤ◌, ◌≤ℤ◌, Bool, true, false, not, nat_le, int_le, List, [], ◌∷◌, length, get_or, Some, None, unsigned_abs, if◌then◌else◌, ⊎_elim, refl, sym, subst, arith}
use Rattle.std.proofs.lemmas.Bool.{and_parts, cases_eq, leb-true, le-leb}
use Rattle.std.proofs.lemmas.Int.{ints}
use Rattle.std.proofs.lemmas.List.{get_or-set_same, get_or-set_other, length-set}
use Rattle.std.proofs.Math.IntN.{zero-*ℤ, suc_ℤ-*ℤ, pred_ℤ-*ℤ}
use Rattle.nest_tree.specs.Form.{Form, dot, form_value, is_small, numbered}
use Rattle.nest_tree.specs.Intervals.{dot_ends, ends_of, form_interval, head_interval, multiple, with_ends}
use Rattle.nest_tree.specs.Limits.{wide_end, wide_forms}
use Rattle.nest_tree.specs.Tree.{Head}
use Rattle.nest_tree.specs.WellFormed.{is_number_of}
use Rattle.nest_tree.proofs.FirstLimits.{neither}
use Rattle.nest_model.specs.Instances.{trip_count, with_loop}
use Rattle.nest_model.proofs.Spans.{up, down}

-- a value within an interval
pub record Between (interval : ℤ × ℤ) (v : ℤ) : Type 0 where
  pub low : interval.0 ≤ℤ v
  pub high : v ≤ℤ interval.1

-- a positive multiple keeps the order, a negative one turns it round
mono_up : (k : ℕ) (a b : ℤ) → a ≤ℤ b → (pos k *ℤ a) ≤ℤ (pos k *ℤ b)
mono_up zero a b h = omega (arith, ints, zero-*ℤ a, zero-*ℤ b)
mono_up (suc k) a b h = let before = mono_up k a b h in omega (arith, ints, suc_ℤ-*ℤ (pos k) a, suc_ℤ-*ℤ (pos k) b, before)

mono_down : (k : ℕ) (a b : ℤ) → a ≤ℤ b → (negsuc k *ℤ b) ≤ℤ (negsuc k *ℤ a)
mono_down zero a b h = omega (arith, ints, zero-*ℤ a, zero-*ℤ b, pred_ℤ-*ℤ (pos zero) a, pred_ℤ-*ℤ (pos zero) b)
mono_down (suc k) a b h = let before = mono_down k a b h in omega (arith, ints, pred_ℤ-*ℤ (negsuc k) a, pred_ℤ-*ℤ (negsuc k) b, before)

multiple_between : (c : ℤ) (interval : ℤ × ℤ) (v : ℤ) → Between interval v → Between (multiple c interval) (c *ℤ v)
multiple_between (pos k) interval v h =
    let up_side : Between (pos k *ℤ interval.0, pos k *ℤ interval.1) (pos k *ℤ v) = record { low = mono_up k interval.0 v h.low; high = mono_up k v interval.1 h.high } in
    subst (λ b. Between (if b then (pos k *ℤ interval.0, pos k *ℤ interval.1) else (pos k *ℤ interval.1, pos k *ℤ interval.0)) (pos k *ℤ v)) (sym (le-leb 0 k (omega arith))) up_side
multiple_between (negsuc k) interval v h = record { low = mono_down k v interval.1 h.high; high = mono_down k interval.0 v h.low }

-- the loops' values lie within their intervals, by number
pub record IsInEnds (ends : List (ℤ × ℤ)) (loops : List ℤ) : Type 0 where
  pub long : length loops ≤ length ends
  pub inside : (n : ℕ) → Between (get_or ends n (pos 0, pos 0)) (get_or loops n (pos 0))

dot_between : (pairs : List (ℕ × ℤ)) (ends : List (ℤ × ℤ)) (loops : List ℤ) → IsInEnds ends loops → Between (dot_ends pairs ends) (dot pairs loops)
dot_between [] ends loops h = record { low = omega (arith, ints); high = omega (arith, ints) }
dot_between (p ∷ pairs) ends loops h =
    let first = multiple_between p.1 (ends_of ends p.0) (numbered loops p.0) (h.inside (p.0 - 1)) in
    let rest = dot_between pairs ends loops h in
    record { low = omega (arith, ints, first.low, rest.low); high = omega (arith, ints, first.high, rest.high) }

pub form_between : (f : Form) (ends : List (ℤ × ℤ)) (loops params : List ℤ) → IsInEnds ends loops → Between (form_interval f ends params) (form_value f loops params)
form_between f ends loops params h =
    let varying = dot_between f.loops ends loops h in
    record { low = omega (arith, ints, varying.low); high = omega (arith, ints, varying.high) }

-- a trip's value lies within its loop's interval
trip_between : (step : ℤ) (first last : ℤ × ℤ) (m1 m2 : ℤ) (n : ℕ) → Between first m1 → Between last m2 → 0 < unsigned_abs step → n < trip_count m1 m2 step →
    Between (if int_le (pos 0) step then (first.0, last.1) else (last.0, first.1)) (m1 +ℤ (pos n *ℤ step))
trip_between (pos zero) first last m1 m2 n h1 h2 moves lt = absurd (omega (arith, moves))
trip_between (pos (suc k)) first last m1 m2 n h1 h2 moves lt =
    let ends = up n k m1 m2 lt in
    let up_side : Between (first.0, last.1) (m1 +ℤ (pos n *ℤ pos (suc k))) = record { low = omega (arith, ints, h1.low, ends.0); high = omega (arith, ints, h2.high, ends.1) } in
    subst (λ b. Between (if b then (first.0, last.1) else (last.0, first.1)) (m1 +ℤ (pos n *ℤ pos (suc k)))) (sym (le-leb 0 (suc k) (omega arith))) up_side
trip_between (negsuc k) first last m1 m2 n h1 h2 moves lt =
    let ends = down n k m1 m2 lt in
    record { low = omega (arith, ints, h2.low, ends.0); high = omega (arith, ints, h1.high, ends.1) }

pub head_between : (head : Head) (ends : List (ℤ × ℤ)) (loops params : List ℤ) (n : ℕ) → IsInEnds ends loops → 0 < unsigned_abs head.step →
    n < trip_count (form_value head.m1 loops params) (form_value head.m2 loops params) head.step →
    Between (head_interval params ends head) (form_value head.m1 loops params +ℤ (pos n *ℤ head.step))
head_between head ends loops params n h moves lt =
    trip_between head.step (form_interval head.m1 ends params) (form_interval head.m2 ends params) (form_value head.m1 loops params) (form_value head.m2 loops params) n
    (form_between head.m1 ends loops params h) (form_between head.m2 ends loops params h) moves lt

-- a loop in its next trip
pub in_ends-step : (ends : List (ℤ × ℤ)) (loops : List ℤ) (n : ℕ) (interval : ℤ × ℤ) (v : ℤ) → IsInEnds ends loops → is_number_of (length loops) n ≡ true → Between interval v →
    IsInEnds (with_ends ends n interval) (with_loop loops n v)
in_ends-step ends loops n interval v h number b =
    let parts = and_parts (nat_le 1 n) (nat_le n (length loops)) number in
    let low = leb-true 1 n parts.0 in
    let high = leb-true n (length loops) parts.1 in
    let within : n - 1 < length loops = omega (arith, low, high) in
    let within_ends : n - 1 < length ends = omega (arith, within, h.long) in
    let here = λ (k : ℕ) (e : k ≡ n - 1).
    subst (λ j. Between (get_or (with_ends ends n interval) j (pos 0, pos 0)) (get_or (with_loop loops n v) j (pos 0))) (sym e)
    (subst (λ x. Between x (get_or (with_loop loops n v) (n - 1) (pos 0))) (sym (get_or-set_same ends (n - 1) interval (pos 0, pos 0) within_ends))
    (subst (λ x. Between interval x) (sym (get_or-set_same loops (n - 1) v (pos 0) within)) b)) in
    let there = λ (k : ℕ) (ne : k ≡ n - 1 → ⊥).
    subst (λ x. Between x (get_or (with_loop loops n v) k (pos 0))) (sym (get_or-set_other ends (n - 1) k interval (pos 0, pos 0) ne))
    (subst (λ x. Between (get_or ends k (pos 0, pos 0)) x) (sym (get_or-set_other loops (n - 1) k v (pos 0) ne)) (h.inside k)) in record {
      long = omega (arith, length-set loops (n - 1) v, length-set ends (n - 1) interval, h.long);
      inside = λ k. ⊎_elim (here k) (there k) (cases_eq k (n - 1));
    }

-- an interval whose ends are small
pub record IsSmallInterval (interval : ℤ × ℤ) : Type 0 where
  pub low : is_small interval.0 ≡ true
  pub high : is_small interval.1 ≡ true

pub choices : (a b : Bool) (x y : ℤ) → (if not a then Some x else if not b then Some y else None) ≡ None → (a ≡ true) × (b ≡ true)
choices true true x y h = (refl, refl)
choices true false x y h = cc
choices false b x y h = cc

wide_end-none : (interval : ℤ × ℤ) → wide_end interval ≡ None → IsSmallInterval interval
wide_end-none interval h = let parts = choices (is_small interval.0) (is_small interval.1) interval.0 interval.1 h in record { low = parts.0; high = parts.1 }

pub wide_first : (params : List ℤ) (ends : List (ℤ × ℤ)) (f : Form) (rest : List Form) → wide_forms params ends (f ∷ rest) ≡ None → IsSmallInterval (form_interval f ends params) × (wide_forms params ends rest ≡ None)
wide_first params ends f rest h =
    let parts = neither (wide_end (form_interval f ends params)) (wide_forms params ends rest) h in
    (wide_end-none (form_interval f ends params) parts.0, parts.1)

pub small_between : (interval : ℤ × ℤ) (v : ℤ) → IsSmallInterval interval → Between interval v → is_small v ≡ true
small_between interval v s b =
    let low = leb-true (unsigned_abs interval.0) 2147483647 s.low in
    let high = leb-true (unsigned_abs interval.1) 2147483647 s.high in
    le-leb (unsigned_abs v) 2147483647 (omega (arith, ints, low, high, b.low, b.high))

-- a loop's interval is small where those of its bounds are
pub head_small : (head : Head) (ends : List (ℤ × ℤ)) (params : List ℤ) → IsSmallInterval (form_interval head.m1 ends params) → IsSmallInterval (form_interval head.m2 ends params) → IsSmallInterval (head_interval params ends head)
head_small head ends params h1 h2 =
    let first = form_interval head.m1 ends params in
    let last = form_interval head.m2 ends params in
    elim (int_le (pos 0) head.step) as (λ b. IsSmallInterval (if b then (first.0, last.1) else (last.0, first.1))) [
      | true ↦ record { low = h1.low; high = h2.high }
      | false ↦ record { low = h2.low; high = h1.high }
    ]
