-- Who awaits somebody at a barrier awaits all others there, and who has posted there has arrived as often as whoever awaits there.
use Rattle.std.proofs.Common.{◌≡◌, ◌≢◌, ℕ, zero, suc, ◌+◌, ◌-◌, ◌<◌, ◌≤◌, Bool, true, List, [], ◌∷◌, take, Some, refl, ap, subst, ◌∙◌, arith, if◌then◌else◌}
use Rattle.std.specs.Prelude.{slice_get}
use Rattle.std.specs.List.{All, Contains}
use Rattle.std.proofs.lemmas.List.Sums.{fold-append}
use Rattle.spmd_model.specs.Timelines.{Machine, Moment, Word, counter, boundary, job}
use Rattle.spmd_model.specs.Acts.{post, await, act_at, acts_of}
use Rattle.spmd_model.specs.Ordered.{IsSound}
use Rattle.spmd_model.specs.Lawful.{IsPosted, acts_in_front}
use Rattle.spmd_model.proofs.ActLists.{act_of_moment, found}
use Rattle.spmd_model.proofs.Lists.{take-more}
use Rattle.spmd_model.proofs.MomentActs.{IsAwaitIn, IsPostIn, await_there, tells}
use Rattle.spmd_model.proofs.Chains.{one_boundary}
use Rattle.spmd_model.specs.Protocols.{arrived, is_arrival}
use Rattle.spmd_model.proofs.Arrivals.{Joins, arrivals, await_reached, front, post_reached, weights}
use Rattle.spmd_model.proofs.PhaseJobs.{all_from}

-- at a boundary, p posts, awaits somebody, and awaits all others
pub record AwaitsAll (workers p : ℕ) (posts : ℕ → Bool) (awaits : ℕ → List ℕ) : Type 0 where
  pub does_post : posts p ≡ true
  pub some : (o : ℕ) × (rest : List ℕ) × (awaits p ≡ o ∷ rest)
  pub each : (q : ℕ) → q < workers → q ≢ p → Contains (awaits p) q

-- so does each processor at each boundary whose number is gathered
abbrev pub AreAll : Machine → (ℕ → Bool) → Type 0
AreAll m gathers =
    (t : ℕ) (w : Word) (n p : ℕ) (posts : ℕ → Bool) (awaits : ℕ → List ℕ) → slice_get m.timeline t ≡ Some (boundary w n posts awaits) → is_arrival gathers w n ≡ true → p < m.workers →
    AwaitsAll m.workers p posts awaits

-- so it joins at each moment
pub all_join : (m : Machine) (gathers : ℕ → Bool) → AreAll m gathers → (p : ℕ) → p < m.workers → All (Joins gathers p) m.timeline
all_join m gathers all p lt = all_from (Joins gathers p) m.timeline at
  where
    at : (t : ℕ) (x : Moment) → slice_get m.timeline t ≡ Some x → Joins gathers p x
    at t (boundary w n posts awaits) e = λ g. let h = all t w n p posts awaits e g lt in (h.does_post, h.some)
    at t (job j) e = tt

module _ (m : Machine) (gathers : ℕ → Bool) (sound : IsSound m) (all : AreAll m gathers) where
  pub awaits_all : (p q n on wanted : ℕ) → p < m.workers → q < m.workers → q ≢ p → act_at m p n ≡ Some (await counter on wanted) → gathers wanted ≡ true → (i : ℕ) × (act_at m p i ≡ Some (await counter q wanted))
  awaits_all p q n on wanted lt lq apart next g =
      let f = found m p n (await counter on wanted) next in
      let a : IsAwaitIn counter p on wanted f.moment = tells p f.place f.index f.moment (await counter on wanted) f.is in
      let there : slice_get m.timeline f.place ≡ Some (boundary counter wanted a.posts a.awaits) = f.at ∙ ap Some a.moment in
      let here = all f.place counter wanted p a.posts a.awaits there g lt in
      let i = await_there counter p f.place wanted q a.posts a.awaits (here.each q lq apart) in
      (acts_in_front m p f.place + i.0, act_of_moment m p f.place i.0 (boundary counter wanted a.posts a.awaits) (await counter q wanted) there i.1)

  pub has_arrived : (p q n on wanted k : ℕ) → p < m.workers → q < m.workers → act_at m p n ≡ Some (await counter on wanted) → gathers wanted ≡ true → IsPosted (acts_of m q) counter wanted k → arrivals gathers (take n (acts_of m p)) ≤ arrivals gathers (take k (acts_of m q))
  has_arrived p q n on wanted k lt lq next g posted =
      let r = await_reached gathers p 0 m.timeline (all_join m gathers all p lt) n counter on wanted next g in
      let a : IsAwaitIn counter p on wanted r.moment = tells p (0 + r.at) r.index r.moment (await counter on wanted) r.is in
      let j : ℕ = posted.0 in
      let s = post_reached gathers q 0 m.timeline (all_join m gathers all q lq) j counter wanted posted.2 in
      let b : IsPostIn counter q s.index wanted s.moment = tells q (0 + s.at) s.index s.moment (post counter wanted) s.is in
      let place : r.at ≡ s.at = one_boundary m counter r.at s.at wanted a.posts b.posts a.awaits b.awaits sound (r.there ∙ ap Some a.moment) (s.there ∙ ap Some b.moment) in
      let same : weights gathers (take r.at m.timeline) ≡ weights gathers (take s.at m.timeline) = ap (λ t. weights gathers (take t m.timeline)) place in
      let more : arrivals gathers (take (suc j) (acts_of m q)) ≡ arrivals gathers (take j (acts_of m q)) + 1 =
      ap (arrivals gathers) (take-more (acts_of m q) j (post counter wanted) posted.2) ∙ fold-append (arrived gathers) 0 (take j (acts_of m q)) (post counter wanted ∷ []) ∙ ap (λ b. if b then arrivals gathers (take j (acts_of m q)) + 1 else arrivals gathers (take j (acts_of m q))) g in
      let rise : arrivals gathers (take (suc j) (acts_of m q)) ≤ arrivals gathers (take k (acts_of m q)) = rises (suc j) k (let lt = posted.1 in omega (arith, lt)) in
      omega (arith, r.count, s.count, same, more, rise)
    where
      rises : (i l : ℕ) → i ≤ l → arrivals gathers (take i (acts_of m q)) ≤ arrivals gathers (take l (acts_of m q))
      rises i l le = subst (λ xs. arrivals gathers xs ≤ arrivals gathers (take l (acts_of m q))) (nested (acts_of m q) i l le) (front gathers (take l (acts_of m q)) i)
        where
          nested : {A : Type 0} (xs : List A) (i l : ℕ) → i ≤ l → take i (take l xs) ≡ take i xs
          nested xs zero l le = refl
          nested [] (suc i) zero le = refl
          nested [] (suc i) (suc l) le = refl
          nested (x ∷ xs) (suc i) zero le = absurd (omega (arith, le))
          nested (x ∷ xs) (suc i) (suc l) le = ap (λ ys. x ∷ ys) (nested xs i l (omega (arith, le)))
