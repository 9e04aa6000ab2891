-- Where a processor's acts stand along the timeline.
use Rattle.std.proofs.Common.{◌≡◌, ℕ, zero, suc, ◌+◌, ◌-◌, ◌≤◌, List, [], ◌∷◌, ◌++◌, length, take, drop, Some, None, refl, ap, sym, subst, ◌∙◌, inl, inr, arith, length-append, zero-add}
use Rattle.std.specs.Prelude.{slice_get}
use Rattle.std.proofs.lemmas.Bool.{cases_lt}
use Rattle.std.proofs.lemmas.List.{append-nil, append_assoc}
use Rattle.std.proofs.lemmas.Option.{slice_get_within}
use Rattle.list_lemmas.proofs.Gets.{get-front, get-behind}
use Rattle.spmd_model.specs.Timelines.{Machine, Moment}
use Rattle.spmd_model.specs.Acts.{Act, moment_acts, acts_from, act_at}
use Rattle.spmd_model.specs.Lawful.{acts_in_front}

-- the acts of a moment stand between those of the moments in front of it and those behind
pub acts_split : (p place : ℕ) (xs : List Moment) (t : ℕ) (x : Moment) (u : ℕ) → slice_get xs t ≡ Some x → place + t ≡ u →
    acts_from p place xs ≡ acts_from p place (take t xs) ++ (moment_acts p u x ++ acts_from p (suc u) (drop (suc t) xs))
acts_split p place [] t x u e at = let clash : None ≡ Some x = e in absurd (cc)
acts_split p place (y ∷ ys) zero x u e at =
    let same : Some y ≡ Some x = e in
    let is : y ≡ x = cc in
    let here : place ≡ u = omega (arith, at) in
    ap (λ z. moment_acts p place z ++ acts_from p (suc place) ys) is ∙ ap (λ n. moment_acts p n x ++ acts_from p (suc n) ys) here
acts_split p place (y ∷ ys) (suc t) x u e at =
    ap (λ l. moment_acts p place y ++ l) (acts_split p (suc place) ys t x u e (omega (arith, at)))
    ∙ sym (append_assoc (moment_acts p place y) (acts_from p (suc place) (take t ys)) (moment_acts p u x ++ acts_from p (suc u) (drop (suc t) ys)))

pub acts_one : (p place : ℕ) (xs : List Moment) (t : ℕ) (x : Moment) (u : ℕ) → slice_get xs t ≡ Some x → place + t ≡ u → acts_from p place (take (suc t) xs) ≡ acts_from p place (take t xs) ++ moment_acts p u x
acts_one p place [] t x u e at = let clash : None ≡ Some x = e in absurd (cc)
acts_one p place (y ∷ ys) zero x u e at =
    let same : Some y ≡ Some x = e in
    let is : y ≡ x = cc in
    let here : place ≡ u = omega (arith, at) in
    append-nil (moment_acts p place y) ∙ ap (λ z. moment_acts p place z) is ∙ ap (λ n. moment_acts p n x) here
acts_one p place (y ∷ ys) (suc t) x u e at =
    ap (λ l. moment_acts p place y ++ l) (acts_one p (suc place) ys t x u e (omega (arith, at)))
    ∙ sym (append_assoc (moment_acts p place y) (acts_from p (suc place) (take t ys)) (moment_acts p u x))

-- how many acts stand in front of the next moment
pub in_front-more : (m : Machine) (p t : ℕ) (x : Moment) → slice_get m.timeline t ≡ Some x → acts_in_front m p (suc t) ≡ acts_in_front m p t + length (moment_acts p t x)
in_front-more m p t x e = ap length (acts_one p 0 m.timeline t x t e (zero-add t)) ∙ length-append (acts_from p 0 (take t m.timeline)) (moment_acts p t x)

fronts_rise : (p place : ℕ) (xs : List Moment) (t u : ℕ) → t ≤ u → length (acts_from p place (take t xs)) ≤ length (acts_from p place (take u xs))
fronts_rise p place xs zero u le = omega arith
fronts_rise p place xs (suc t) zero le = absurd (omega arith)
fronts_rise p place [] (suc t) (suc u) le = omega arith
fronts_rise p place (y ∷ ys) (suc t) (suc u) le =
    let rest = fronts_rise p (suc place) ys t u (omega arith) in
    omega (arith, rest, length-append (moment_acts p place y) (acts_from p (suc place) (take t ys)), length-append (moment_acts p place y) (acts_from p (suc place) (take u ys)))

pub in_front-rises : (m : Machine) (p t u : ℕ) → t ≤ u → acts_in_front m p t ≤ acts_in_front m p u
in_front-rises m p t u le = fronts_rise p 0 m.timeline t u le

-- an act of a moment, among all acts
pub act_of_moment : (m : Machine) (p t i : ℕ) (x : Moment) (a : Act) → slice_get m.timeline t ≡ Some x → slice_get (moment_acts p t x) i ≡ Some a → act_at m p (acts_in_front m p t + i) ≡ Some a
act_of_moment m p t i x a e h =
    let within = slice_get_within (moment_acts p t x) i a h in
    let rest = acts_from p (suc t) (drop (suc t) m.timeline) in
    ap (λ acts. slice_get acts (acts_in_front m p t + i)) (acts_split p 0 m.timeline t x t e (zero-add t))
    ∙ get-behind (acts_from p 0 (take t m.timeline)) (moment_acts p t x ++ rest) i
    ∙ get-front (moment_acts p t x) rest i within ∙ h

-- the moment of an act
pub record Found (m : Machine) (p n : ℕ) (a : Act) : Type 0 where
  pub place : ℕ
  pub moment : Moment
  pub index : ℕ
  pub at : slice_get m.timeline place ≡ Some moment
  pub number : n ≡ acts_in_front m p place + index
  pub is : slice_get (moment_acts p place moment) index ≡ Some a

record FoundFrom (p place : ℕ) (xs : List Moment) (n : ℕ) (a : Act) : Type 0 where
  pub t : ℕ
  pub moment : Moment
  pub index : ℕ
  pub at : slice_get xs t ≡ Some moment
  pub number : n ≡ length (acts_from p place (take t xs)) + index
  pub is : slice_get (moment_acts p (place + t) moment) index ≡ Some a

found_from : (p place : ℕ) (xs : List Moment) (n : ℕ) (a : Act) → slice_get (acts_from p place xs) n ≡ Some a → FoundFrom p place xs n a
found_from p place [] n a e = let clash : None ≡ Some a = e in absurd (cc)
found_from p place (y ∷ ys) n a e =
    let here = moment_acts p place y in
    let later = acts_from p (suc place) ys in
    elim (cases_lt n (length here)) [
      | inl inside ↦
          let same : place ≡ place + 0 = omega arith in
          record {
            t = 0;
            moment = y;
            index = n;
            at = refl;
            number = omega arith;
            is = subst (λ k. slice_get (moment_acts p k y) n ≡ Some a) same (sym (get-front here later n inside) ∙ e);
          }
      | inr past ↦
          let more : length here + (n - length here) ≡ n = omega (arith, past) in
          let rest = found_from p (suc place) ys (n - length here) a (sym (ap (slice_get (here ++ later)) (sym more) ∙ get-behind here later (n - length here)) ∙ e) in
          let same : suc place + rest.t ≡ place + suc rest.t = omega arith in
          record {
            t = suc rest.t;
            moment = rest.moment;
            index = rest.index;
            at = rest.at;
            number = omega (arith, more, rest.number, length-append here (acts_from p (suc place) (take rest.t ys)));
            is = subst (λ k. slice_get (moment_acts p k rest.moment) rest.index ≡ Some a) same rest.is;
          }
    ]

pub found : (m : Machine) (p n : ℕ) (a : Act) → act_at m p n ≡ Some a → Found m p n a
found m p n a e =
    let f = found_from p 0 m.timeline n a e in
    record { place = f.t; moment = f.moment; index = f.index; at = f.at; number = f.number; is = subst (λ k. slice_get (moment_acts p k f.moment) f.index ≡ Some a) (zero-add f.t) f.is }
