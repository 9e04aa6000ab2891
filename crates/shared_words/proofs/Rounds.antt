-- In each round less is left.
use Rattle.std.proofs.Common.{◌≡◌, ◌≢◌, ℕ, zero, suc, ◌<◌, ◌≤◌, ◌⊎◌, Bool, true, false, true≢false, length, refl, ap, sym, inl, inr, arith}
use Rattle.std.proofs.lemmas.Bool.{cases_Bool, cases_eq}
use Rattle.std.proofs.lemmas.Option.{slice_get_within}
use Rattle.nest_tree.specs.Tree.{Tree}
use Rattle.sync_plan.specs.declared.plan.Plan.{Plan}
use Rattle.spmd_model.specs.Free.{IsFree, IsInVain}
use Rattle.spmd_model.specs.Ordered.{IsSound}
use Rattle.spmd_model.specs.Machines.{machine_by}
use Rattle.spmd_model.specs.Timelines.{Machine}
use Rattle.spmd_model.specs.Acts.{await, acts_of}
use Rattle.spmd_model.specs.declared.style.Style.{Style}
use Rattle.spmd_model.specs.PlanProtocols.{acts_by}
use Rattle.shared_words.specs.Places.{total}
use Rattle.shared_words.specs.Rounds.{LeaveLess, Went, left_of, left_of_all}

-- one summand is less, and none is more
total_below : (f g : ℕ → ℕ) (n : ℕ) → ((q : ℕ) → q < n → f q ≤ g q) → total f n ≤ total g n
total_below f g zero most = omega arith
total_below f g (suc n) most = let rest = total_below f g n (λ q lt. most q (omega (arith, lt))) in let last = most n (omega arith) in omega (arith, rest, last)

pub total_less : (f g : ℕ → ℕ) (n p : ℕ) → ((q : ℕ) → q < n → f q ≤ g q) → p < n → f p < g p → total f n < total g n
total_less f g zero p most lt less = absurd (omega (arith, lt))
total_less f g (suc n) p most lt less = elim (cases_eq p n) [
  | inl e ↦ (let rest = total_below f g n (λ q below. most q (omega (arith, below))) in let fe : f n ≡ f p = ap f (sym e) in let ge : g n ≡ g p = ap g (sym e) in omega (arith, rest, less, fe, ge))
  | inr ne ↦ (let rest = total_less f g n p (λ q below. most q (omega (arith, below))) (omega (arith, lt, ne)) less in let last = most n (omega arith) in omega (arith, rest, last))
]

-- one that goes on, with acts left, or comes to its end
less_on : (l at new : ℕ) (e o : Bool) → at ≤ new → (e ≡ true → o ≡ true) → (at < l) × (at < new) → left_of l new o < left_of l at e
less_on l at new true true le stays on = let a = on.0 in let b = on.1 in omega (arith, a, b)
less_on l at new true false le stays on = absurd (true≢false (sym (stays refl)))
less_on l at new false true le stays on = let a = on.0 in let b = on.1 in omega (arith, a, b)
less_on l at new false false le stays on = let a = on.0 in let b = on.1 in omega (arith, a, b)

less_over : (l at new : ℕ) (e o : Bool) → at ≤ new → e ≡ false → o ≡ true → left_of l new o < left_of l at e
less_over l at new true o le is over = absurd (true≢false is)
less_over l at new false true le is over = omega (arith, le)
less_over l at new false false le is over = absurd (true≢false (sym over))

not_more : (l at new : ℕ) (e o : Bool) → at ≤ new → (e ≡ true → o ≡ true) → left_of l new o ≤ left_of l at e
not_more l at new true true le stays = omega (arith, le)
not_more l at new true false le stays = absurd (true≢false (sym (stays refl)))
not_more l at new false true le stays = omega (arith, le)
not_more l at new false false le stays = omega (arith, le)

module _ (m : Machine) (at new : ℕ → ℕ) (ended over : ℕ → Bool)
    (went : (p : ℕ) → p < m.workers → Went (IsInVain (acts_of m) at p (at p)) (at p) (new p) (ended p) (over p))
    (ends : (p : ℕ) → p < m.workers → ended p ≡ true → at p ≡ length (acts_of m p)) where
  kept : (q : ℕ) → q < m.workers → left_of (length (acts_of m q)) (new q) (over q) ≤ left_of (length (acts_of m q)) (at q) (ended q)
  kept q lt = let w = went q lt in not_more (length (acts_of m q)) (at q) (new q) (ended q) (over q) w.further w.stays

  by_one : (p : ℕ) → p < m.workers → left_of (length (acts_of m p)) (new p) (over p) < left_of (length (acts_of m p)) (at p) (ended p) → left_of_all (acts_of m) new over m.workers < left_of_all (acts_of m) at ended m.workers
  by_one p lt less = total_less (λ q. left_of (length (acts_of m q)) (new q) (over q)) (λ q. left_of (length (acts_of m q)) (at q) (ended q)) m.workers p kept lt less

  -- one that is over, where it wasn't, or one further on, with acts left
  step : (p : ℕ) → p < m.workers → ended p ≡ false → (IsInVain (acts_of m) at p (at p) → ⊥) → (new p ≢ at p → at p < length (acts_of m p)) → left_of_all (acts_of m) new over m.workers < left_of_all (acts_of m) at ended m.workers
  step p lt is free some = let w = went p lt in elim (cases_eq (new p) (at p)) [
    | inr moved ↦ by_one p lt (less_on (length (acts_of m p)) (at p) (new p) (ended p) (over p) w.further w.stays (some moved, (let le = w.further in omega (arith, le, moved))))
    | inl same ↦ elim (w.tells is same) [
      | inl done ↦ by_one p lt (less_over (length (acts_of m p)) (at p) (new p) (ended p) (over p) w.further is done)
      | inr vain ↦ absurd (free vain)
    ]
  ]

  -- where one hasn't ended, by what holds of every timeline
  less_left : (p : ℕ) → p < m.workers → ended p ≡ false → ((q : ℕ) → q < m.workers → new q ≤ length (acts_of m q)) → ((q : ℕ) → q < m.workers → length (acts_of m q) ≤ at q) ⊎ IsFree m at → left_of_all (acts_of m) new over m.workers < left_of_all (acts_of m) at ended m.workers
  less_left p lt is within (inl all) = step p lt is (λ v. let inside = slice_get_within (acts_of m p) (at p) (await v.0 v.1 v.2) v.3 in let past = all p lt in omega (arith, inside, past)) (λ moved. let w = (went p lt).further in let to = within p lt in let past = all p lt in absurd (omega (arith, w, moved, to, past)))
  less_left p lt is within (inr f) = step f.processor f.below (elim (cases_Bool (ended f.processor)) [
    | inl e ↦ (let whole = ends f.processor f.below e in let inside = f.inside in absurd (omega (arith, whole, inside)))
    | inr e ↦ e
  ]) f.free (λ moved. f.inside)

-- of a plan's machine in a style, by who can go on there
pub leave_less : (style : Style) (tree : Tree) (plan : Plan) → IsSound (machine_by style tree plan) → ((m : Machine) (at : ℕ → ℕ) → IsSound m → ((p : ℕ) → p < m.workers → length (acts_of m p) ≤ at p) ⊎ IsFree m at) → LeaveLess style tree plan
unfolding acts_by
leave_less style tree plan sound free at new ended over one went ends within lt is = less_left (machine_by style tree plan) at new ended over went ends one lt is within (free (machine_by style tree plan) at sound)
