-- What chains of waits say of who has come where.
use Rattle.std.proofs.Common.{◌≡◌, ℕ, suc, ◌+◌, ℤ, ◌<◌, ◌≤◌, Bool, List, [], ◌∷◌, Option, Some, None, refl, ap, sym, subst, ◌∙◌, ⊎_elim, arith}
use Rattle.std.specs.Prelude.{slice_get}
use Rattle.std.specs.List.{Contains}
use Rattle.std.proofs.lemmas.Bool.{cases_eq, cases_lt}
use Rattle.std.proofs.lemmas.Option.{slice_get_within}
use Rattle.spmd_model.specs.Timelines.{Job, Machine, Moment, Word, boundary, job}
use Rattle.spmd_model.specs.Acts.{post, await, act_at, moment_acts}
use Rattle.spmd_model.specs.Ordered.{Conflict, Hop, IsChain, IsOrderedMachine, IsSound, awaited_in, number_in}
use Rattle.spmd_model.specs.Lawful.{IsLawful, acts_in_front}
use Rattle.spmd_model.proofs.ActLists.{act_of_moment, found, in_front-more, in_front-rises}
use Rattle.spmd_model.proofs.MomentActs.{IsPostIn, await_there, tells}

-- boundaries with one number are one
pub one_boundary : (m : Machine) (w : Word) (s t n : ℕ) (f g : ℕ → Bool) (a b : ℕ → List ℕ) → IsSound m → slice_get m.timeline s ≡ Some (boundary w n f a) → slice_get m.timeline t ≡ Some (boundary w n g b) → s ≡ t
one_boundary m w s t n f g a b sound at at' = ⊎_elim (λ lt. absurd (omega (arith, sound.rising w s t n n f g a b lt at at'))) (λ le.
    ⊎_elim (λ lt. absurd (omega (arith, sound.rising w t s n n g f b a lt at' at))) (λ le'. omega (arith, le, le')) (cases_lt t s)) (cases_lt s t)

-- a post stands first at its boundary
pub post_place : (m : Machine) (w : Word) (q i t n : ℕ) (posts : ℕ → Bool) (awaits : ℕ → List ℕ) → IsSound m → slice_get m.timeline t ≡ Some (boundary w n posts awaits) → act_at m q i ≡ Some (post w n) → i ≡ acts_in_front m q t
post_place m w q i t n posts awaits sound at e =
    let f = found m q i (post w n) e in
    let k : IsPostIn w q f.index n f.moment = tells q f.place f.index f.moment (post w n) f.is in
    let same : f.place ≡ t = one_boundary m w f.place t n k.posts posts k.awaits awaits sound (f.at ∙ ap Some k.moment) at in
    let number : i ≡ acts_in_front m q f.place = omega (arith, f.number, k.first) in
    number ∙ ap (acts_in_front m q) same

-- and its moment is that boundary
pub post_moment : (m : Machine) (w : Word) (q i t n : ℕ) (posts : ℕ → Bool) (awaits : ℕ → List ℕ) → IsSound m → slice_get m.timeline t ≡ Some (boundary w n posts awaits) → (e : act_at m q i ≡ Some (post w n)) → (found m q i (post w n) e).place ≡ t
post_moment m w q i t n posts awaits sound at e =
    let f = found m q i (post w n) e in
    let k : IsPostIn w q f.index n f.moment = tells q f.place f.index f.moment (post w n) f.is in
    one_boundary m w f.place t n k.posts posts k.awaits awaits sound (f.at ∙ ap Some k.moment) at

-- whoever is past a boundary knows that those it awaits there have come to it, and posted
waited : (m : Machine) (cells : List ℤ) (at : ℕ → ℕ) (w : Word) (p q t n : ℕ) (posts : ℕ → Bool) (awaits : ℕ → List ℕ) → IsSound m → IsLawful m cells at → p < m.workers → slice_get m.timeline t ≡ Some (boundary w n posts awaits) → 0 < n →
    Contains (awaits p) q → acts_in_front m p (suc t) ≤ at p → acts_in_front m q t < at q
waited m cells at w p q t n posts awaits sound law inside here some among past =
    let h = await_there w p t n q posts awaits among in
    let within = slice_get_within (moment_acts p t (boundary w n posts awaits)) h.0 (await w q n) h.1 in
    let act = act_of_moment m p t h.0 (boundary w n posts awaits) (await w q n) here h.1 in
    let below : acts_in_front m p t + h.0 < at p = omega (arith, within, in_front-more m p t (boundary w n posts awaits) here, past) in
    ⊎_elim (λ none. absurd (omega (arith, none, some)))
    (λ posted. let place = post_place m w q posted.0 t n posts awaits sound here posted.2 in omega (arith, place, posted.1)) (law.awaited w p (acts_in_front m p t + h.0) q n inside below act)

pub waited_in : (m : Machine) (cells : List ℤ) (at : ℕ → ℕ) (p q t : ℕ) (o : Option Moment) → IsSound m → IsLawful m cells at → p < m.workers → slice_get m.timeline t ≡ o → 0 < number_in o → Contains (awaited_in o p) q → acts_in_front m p (suc t) ≤ at p →
    acts_in_front m q t < at q
waited_in m cells at p q t None sound law inside here some among past = absurd (omega (arith, some))
waited_in m cells at p q t (Some (boundary w n posts awaits)) sound law inside here some among past = waited m cells at w p q t n posts awaits sound law inside here some among past
waited_in m cells at p q t (Some (job j)) sound law inside here some among past = absurd (omega (arith, some))

-- where the last processor of a chain has come to its end, the first one is past its beginning
pub chain_back : (m : Machine) (cells : List ℤ) (at : ℕ → ℕ) (q t : ℕ) (hops : List Hop) (p u : ℕ) → IsSound m → IsLawful m cells at → IsChain m q t hops p u → acts_in_front m p u ≤ at p → acts_in_front m q (suc t) ≤ at q
chain_back m cells at q t [] p u sound law (same, lt) come =
    let rise = in_front-rises m p (suc t) u (omega (arith, lt)) in subst (λ k. acts_in_front m k (suc t) ≤ at k) (sym same) (omega (arith, rise, come))
chain_back m cells at q t (h ∷ hops) p u sound law (lt, inside, some, among, rest) come =
    let past = chain_back m cells at h.processor h.place hops p u sound law rest come in
    let posted = waited_in m cells at h.processor q h.place (slice_get m.timeline h.place) sound law inside refl some among past in
    let rise = in_front-rises m q (suc t) h.place (omega (arith, lt)) in
    omega (arith, rise, posted)

-- and of a chain with a hop, the first one has done its post at the first hop's boundary
pub chain_posted : (m : Machine) (cells : List ℤ) (at : ℕ → ℕ) (q t : ℕ) (h : Hop) (hops : List Hop) (p u : ℕ) → IsSound m → IsLawful m cells at → IsChain m q t (h ∷ hops) p u → acts_in_front m p u ≤ at p → (t < h.place) × (acts_in_front m q h.place < at q)
chain_posted m cells at q t h hops p u sound law (lt, inside, some, among, rest) come =
    (lt, waited_in m cells at h.processor q h.place (slice_get m.timeline h.place) sound law inside refl some among (chain_back m cells at h.processor h.place hops p u sound law rest come))

-- ---- conflicting jobs, where a processor stands in the middle of one of them

-- processor p's act n is of the job at this place
pub record IsAt (m : Machine) (p n t : ℕ) (j : Job) : Type 0 where
  pub at : slice_get m.timeline t ≡ Some (job j)
  pub owner : j.owner ≡ p
  pub from : acts_in_front m p t ≤ n
  pub to : n < acts_in_front m p (suc t)

-- the earlier ones are done
pub earlier_done : (m : Machine) (cells : List ℤ) (at : ℕ → ℕ) (p t u : ℕ) (j k : Job) → IsSound m → IsOrderedMachine m → IsLawful m cells at → IsAt m p (at p) t j → slice_get m.timeline u ≡ Some (job k) → u < t → Conflict k j →
    acts_in_front m k.owner (suc u) ≤ at k.owner
earlier_done m cells at p t u j k sound ordered law here there lt conflict = ⊎_elim
    (λ same. let rise = in_front-rises m p (suc u) t (omega (arith, lt)) in subst (λ o. acts_in_front m o (suc u) ≤ at o) (sym (same ∙ here.owner)) (omega (arith, rise, here.from)))
    (λ apart.
    let chain = ordered u t k j lt there here.at conflict apart in
    chain_back m cells at k.owner u chain.0 j.owner t sound law chain.1 (subst (λ o. acts_in_front m o t ≤ at o) (sym here.owner) here.from)) (cases_eq k.owner j.owner)

-- and the later ones are not
pub later_not : (m : Machine) (cells : List ℤ) (at : ℕ → ℕ) (p t u : ℕ) (j k : Job) → IsSound m → IsOrderedMachine m → IsLawful m cells at → IsAt m p (at p) t j → slice_get m.timeline u ≡ Some (job k) → t < u → Conflict j k →
    at k.owner < acts_in_front m k.owner (suc u)
later_not m cells at p t u j k sound ordered law here there lt conflict = ⊎_elim (λ less. less) (λ done. absurd (omega (arith, never done))) (cases_lt (at k.owner) (acts_in_front m k.owner (suc u)))
  where
    never : acts_in_front m k.owner (suc u) ≤ at k.owner → 1 ≤ 0
    never done = ⊎_elim
        (λ same. let rise = in_front-rises m p (suc t) (suc u) (omega (arith, lt)) in let mine : acts_in_front m p (suc u) ≤ at p = subst (λ o. acts_in_front m o (suc u) ≤ at o) (sym same ∙ here.owner) done in omega (arith, rise, mine, here.to))
        (λ apart.
        let chain = ordered t u j k lt here.at there conflict apart in
        let rise = in_front-rises m k.owner u (suc u) (omega arith) in
        let past = chain_back m cells at j.owner t chain.0 k.owner u sound law chain.1 (omega (arith, rise, done)) in
        let mine : acts_in_front m p (suc t) ≤ at p = subst (λ o. acts_in_front m o (suc t) ≤ at o) here.owner past in
        omega (arith, mine, here.to)) (cases_eq j.owner k.owner)
