-- What lawful places keep, act by act.
use Rattle.std.proofs.Common.{◌≡◌, ◌≢◌, nat_le, ℕ, suc, ◌+◌, ◌<◌, ◌≤◌, ℤ, true, false, true≢false, List, [], ◌∷◌, length, map, Option, Some, None, ap, sym, subst, ◌∙◌, inl, inr, ⊎_elim, arith}
use Rattle.std.specs.Prelude.{slice_get}
use Rattle.std.proofs.lemmas.Bool.{cases_Bool, cases_eq, cases_lt, eqb-true, le-leb, lt-leb, lt-ltb, le-ltb}
use Rattle.std.proofs.lemmas.List.{length-append, length-map}
use Rattle.std.proofs.lemmas.Option.{slice_get_within}
use Rattle.list_lemmas.proofs.Elements.{contains_at}
use Rattle.spmd_model.specs.Timelines.{Job, Machine, job}
use Rattle.spmd_model.specs.Acts.{Act, load, act_at, acts_of, last_act, moment_acts}
use Rattle.spmd_model.specs.Ordered.{Conflict, IsOrderedMachine, IsSound, Needs}
use Rattle.spmd_model.specs.Lawful.{IsLawful, Moves, acts_in_front, is_done, stores_to}
use Rattle.spmd_model.proofs.ActLists.{Found, in_front-more, in_front-rises}
use Rattle.spmd_model.proofs.MomentActs.{own_acts}
use Rattle.spmd_model.proofs.Chains.{IsAt, earlier_done, later_not}
use Rattle.spmd_model.proofs.LastValues.{Agree, in_front_of}

-- ---- where a processor stands

-- its act n is of the moment at this place
pub record Stands (m : Machine) (p n t : ℕ) : Type 0 where
  pub from : acts_in_front m p t ≤ n
  pub to : n < acts_in_front m p (suc t)

pub stands : (m : Machine) (p n : ℕ) (a : Act) (f : Found m p n a) → Stands m p n f.place
stands m p n a f =
    let within = slice_get_within (moment_acts p f.place f.moment) f.index a f.is in
    record { from = omega (arith, f.number); to = omega (arith, f.number, within, in_front-more m p f.place f.moment f.at) }

-- a job of the processor has acts
pub some_acts : (m : Machine) (p u : ℕ) (k : Job) → slice_get m.timeline u ≡ Some (job k) → k.owner ≡ p → acts_in_front m p u + length k.loads + 1 ≡ acts_in_front m p (suc u)
some_acts m p u k at own =
    let acts = ap length (own_acts p u k own) ∙ length-append (map (load u) k.loads) (last_act u k.store k.adds ∷ []) in
    omega (arith, in_front-more m p u (job k) at, acts, length-map k.loads (load u))

pub within_acts : (m : Machine) (p n : ℕ) (a : Act) → act_at m p n ≡ Some a → n < length (acts_of m p)
within_acts m p n a e = slice_get_within (acts_of m p) n a e

-- ---- one more act of a processor changes which jobs are done only at the place where it stands

pub same_elsewhere : (m : Machine) (at after : ℕ → ℕ) (p t u : ℕ) (k : Job) → Stands m p (at p) t → Moves at after p (at p + 1) → slice_get m.timeline u ≡ Some (job k) → u ≢ t → is_done m after u k ≡ is_done m at u k
same_elsewhere m at after p t u k here moves there apart = elim (cases_eq k.owner p) [
  | inl own ↦
      let now : at k.owner ≡ at p = ap at own in
      let then_is : after k.owner ≡ at p + 1 = ap after own ∙ moves.here in
      let end : acts_in_front m k.owner (suc u) ≡ acts_in_front m p (suc u) = ap (λ o. acts_in_front m o (suc u)) own in
      ⊎_elim
      (λ lt. let rise = in_front-rises m p (suc u) t (omega (arith, lt)) in
      le-leb (acts_in_front m k.owner (suc u)) (after k.owner) (omega (arith, end, then_is, rise, here.from)) ∙ sym (le-leb (acts_in_front m k.owner (suc u)) (at k.owner) (omega (arith, end, now, rise, here.from))))
      (λ le. let later : t < u = after_it le in let rise = in_front-rises m p (suc t) u (omega (arith, later)) in let acts = some_acts m p u k there own in
      lt-leb (acts_in_front m k.owner (suc u)) (after k.owner) (omega (arith, end, then_is, rise, acts, here.to)) ∙ sym (lt-leb (acts_in_front m k.owner (suc u)) (at k.owner) (omega (arith, end, now, rise, acts, here.to)))) (cases_lt u t)
  | inr other ↦ ap (nat_le (acts_in_front m k.owner (suc u))) (moves.others k.owner other)
]
  where
    after_it : t ≤ u → t < u
    after_it le = ⊎_elim (λ same. absurd (apart (sym same))) (λ more. omega (arith, more, le)) (cases_eq t u)

-- ---- conflicts with the job that a processor is at

pub loads_cell : (j : Job) (i cell : ℕ) → slice_get j.loads i ≡ Some cell → Needs j cell
loads_cell j i cell e = inl (contains_at j.loads i cell e)

pub stores_cell : (j : Job) (cell : ℕ) → j.store ≡ Some cell → j.adds ≡ false → Needs j cell
stores_cell j cell e plain = inr (e, plain)

pub store_is : (o : Option ℕ) (cell : ℕ) → stores_to o cell ≡ true → o ≡ Some cell
store_is None cell h = absurd (true≢false (sym h))
store_is (Some c) cell h = ap Some (eqb-true c cell h)

-- where a processor is at a job that needs the cell for itself, the jobs that change the cell are done exactly if they stand in front of it
pub agrees_in_front : (m : Machine) (cells : List ℤ) (at : ℕ → ℕ) (p t cell : ℕ) (j : Job) → IsSound m → IsOrderedMachine m → IsLawful m cells at → IsAt m p (at p) t j → Needs j cell → Agree m cell (is_done m at) (in_front_of t)
agrees_in_front m cells at p t cell j sound ordered law here among u k there stores =
    let stored = store_is k.store cell stores in
    ⊎_elim
    (λ lt. le-leb (acts_in_front m k.owner (suc u)) (at k.owner) (earlier_done m cells at p t u j k sound ordered law here there lt (record { cell = cell; clash = inr (stored, among) })) ∙ sym (lt-ltb u t lt))
    (λ le. lt-leb (acts_in_front m k.owner (suc u)) (at k.owner) (not_done le) ∙ sym (le-ltb u t le)) (cases_lt u t)
  where
    not_done : t ≤ u → at k.owner < acts_in_front m k.owner (suc u)
    not_done le = ⊎_elim
        (λ same.
        let is : Some (job j) ≡ Some (job k) = sym here.at ∙ ap (slice_get m.timeline) same ∙ there in
        let equal : j ≡ k = cc in
        let owner : k.owner ≡ p = ap (λ (x : Job). x.owner) (sym equal) ∙ here.owner in
        subst (λ o. at o < acts_in_front m o (suc u)) (sym owner) (subst (λ x. at p < acts_in_front m p (suc x)) same here.to))
        (λ apart. later_not m cells at p t u j k sound ordered law here there (omega (arith, le, apart)) (record { cell = cell; clash = inl (among, store_is k.store cell stores) }))
        (cases_eq t u)

-- where it is at a job that adds to the cell, a job that stores to it is done exactly if it stands in front of that
pub stores_in_front : (m : Machine) (cells : List ℤ) (at : ℕ → ℕ) (p t cell : ℕ) (j : Job) → IsSound m → IsOrderedMachine m → IsLawful m cells at → IsAt m p (at p) t j → j.store ≡ Some cell → (u : ℕ) (k : Job) → slice_get m.timeline u ≡ Some (job k) → stores_to k.store cell ≡ true → t < u → is_done m at u k ≡ true →
    k.adds ≡ true
stores_in_front m cells at p t cell j sound ordered law here changes u k there stores later done = elim (cases_Bool k.adds) [
  | inl adds ↦ adds
  | inr plain ↦
      let conflict : Conflict j k = record { cell = cell; clash = inr (changes, stores_cell k cell (store_is k.store cell stores) plain) } in
      let not_yet = later_not m cells at p t u j k sound ordered law here there later conflict in
      absurd (true≢false (sym done ∙ lt-leb (acts_in_front m k.owner (suc u)) (at k.owner) not_yet))
]
