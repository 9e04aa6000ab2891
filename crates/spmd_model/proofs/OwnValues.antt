-- What a cell holds that one processor alone stores to follows from that processor's acts.
use Rattle.std.proofs.Common.{◌≡◌, ◌==◌, ℕ, zero, suc, ◌+◌, ◌*◌, ◌<◌, ◌≤◌, ℤ, pos, Bool, true, false, true≢false, List, [], ◌∷◌, ◌++◌, length, map, Option, Some, None, refl, ap, sym, subst, ◌∙◌, inl, inr, arith, if◌then◌else◌, length-append}
use Rattle.std.specs.Prelude.{Contains, slice_get}
use Rattle.std.proofs.lemmas.Bool.{cases_Bool, eq-eqb, eqb-true}
use Rattle.std.proofs.lemmas.List.{get_or-replicate, length-map}
use Rattle.std.proofs.lemmas.Option.{slice_get_cases}
use Rattle.list_lemmas.proofs.Gets.{get-behind}
use Rattle.list_lemmas.proofs.Elements.{contains_at}
use Rattle.nest_tree.specs.Layout.{cell_count}
use Rattle.nest_tree.specs.Tree.{Tree}
use Rattle.nest_tree.specs.WellFormed.{IsWellFormed}
use Rattle.nest_model.specs.Memory.{cell_value}
use Rattle.nest_model.specs.Ranges.{IsInRange}
use Rattle.sync_plan.specs.declared.plan.Plan.{Plan}
use Rattle.sync_plan.specs.Fit.{IsFit}
use Rattle.spmd_model.specs.Cells.{changed, with_change}
use Rattle.spmd_model.specs.Lawful.{acts_in_front}
use Rattle.spmd_model.specs.Sequential.{loaded_at, loaded_by, loads_by, memory_at, stored_at, value_at}
use Rattle.spmd_model.specs.States.{assigned_by}
use Rattle.spmd_model.specs.Machines.{machine_by, timeline_by}
use Rattle.spmd_model.specs.Timelines.{Job, Machine, Moment, boundary, job}
use Rattle.spmd_model.specs.Acts.{Act, post, await, load, store, add, print, act_at, job_acts, last_act, moment_acts}
use Rattle.spmd_model.specs.declared.style.Style.{Style}
use Rattle.spmd_model.proofs.ActLists.{act_of_moment, found, in_front-more}
use Rattle.spmd_model.proofs.MomentActs.{IsChangeIn, IsLoadIn, tells}
use Rattle.spmd_model.proofs.Registers.{stored_is}
use Rattle.spmd_model.proofs.MachineOrder.{owned_on, sound_by}
use Rattle.spmd_model.specs.Protocols.{held_along, held_by}
use Rattle.spmd_model.proofs.PlanCells.{adds_there}
use Rattle.spmd_model.proofs.LastValues.{cell_set, memory_more, memory_size}

-- ---- memory in front of the next moment

same_job : (i j : Job) → job i ≡ job j → i ≡ j
same_job i j e = cc

-- only this processor stores to the cell, and nobody adds to it
module _ (m : Machine) (p cell : ℕ) (inside : cell < m.cells) (own : (t : ℕ) (j : Job) → slice_get m.timeline t ≡ Some (job j) → j.store ≡ Some cell → (j.owner ≡ p) × (j.adds ≡ false)) where
  abbrev held : ℕ → ℤ
  held n = held_along (act_at m p) (stored_at m p) cell n

  -- an act that doesn't store there
  abbrev IsMute : Act → Type 0
  IsMute a = (stored v : ℤ) → held_by cell stored v (Some a) ≡ v

  over : (n : ℕ) (xs : List Act) → ((i : ℕ) (a : Act) → slice_get xs i ≡ Some a → (act_at m p (n + i) ≡ Some a) × IsMute a) → held (n + length xs) ≡ held n
  over n [] there = let none : n + 0 ≡ n = omega arith in ap held none
  over n (a ∷ xs) there =
      let first = there 0 a refl in
      let zero_on : n ≡ n + 0 = omega arith in
      let count : n + length (a ∷ xs) ≡ suc n + length xs = omega arith in
      ap held count ∙ over (suc n) xs (λ i b e. let t = there (suc i) b e in let next : suc n + i ≡ n + suc i = omega arith in (ap (act_at m p) next ∙ t.0, t.1))
      ∙ ap (held_by cell (stored_at m p n) (held n)) (ap (act_at m p) zero_on ∙ first.0) ∙ first.1 (stored_at m p n) (held n)

  store_mute : (u c : ℕ) → (c ≡ cell → ⊥) → IsMute (store u c)
  store_mute u c apart stored v = elim (cases_Bool (c == cell)) [
    | inl same ↦ absurd (apart (eqb-true c cell same))
    | inr other ↦ ap (λ b. if b then stored else v) other
  ]

  -- an act of a moment that isn't the store there
  mute_in : (t i : ℕ) (x : Moment) → ((u : ℕ) → IsChangeIn p t i u cell false x → ⊥) → (a : Act) → slice_get (moment_acts p t x) i ≡ Some a → IsMute a
  mute_in t i x none (post w n) e = λ stored v. refl
  mute_in t i x none (await w q n) e = λ stored v. refl
  mute_in t i x none (load u c) e = λ stored v. refl
  mute_in t i x none (store u c) e = store_mute u c (λ same. let l : IsChangeIn p t i u c false x = tells p t i x (store u c) e in none u (subst (λ d. IsChangeIn p t i u d false x) same l))
  mute_in t i x none (add u c) e = λ stored v. refl
  mute_in t i x none (print u) e = λ stored v. refl

  -- over a moment that has no store there
  over_moment : (t : ℕ) (x : Moment) → slice_get m.timeline t ≡ Some x → ((i u : ℕ) → IsChangeIn p t i u cell false x → ⊥) → held (acts_in_front m p (suc t)) ≡ held (acts_in_front m p t)
  over_moment t x at none = ap held (in_front-more m p t x at) ∙ over (acts_in_front m p t) (moment_acts p t x) (λ i a e. (act_of_moment m p t i x a at e, mute_in t i x (none i) a e))

  -- a job's loads
  load_there : (t i : ℕ) (j : Job) → slice_get m.timeline t ≡ Some (job j) → j.owner ≡ p → (a : Act) → slice_get (map (load t) j.loads) i ≡ Some a → (act_at m p (acts_in_front m p t + i) ≡ Some a) × IsMute a
  load_there t i j at owner a e =
      let here : slice_get (moment_acts p t (job j)) i ≡ Some a = ap (λ b. slice_get (if b then job_acts t j else []) i) (eq-eqb j.owner p owner) ∙ front (map (load t) j.loads) _ i a e in
      (act_of_moment m p t i (job j) a at here, is_load j.loads i a e)
    where
      front : (xs ys : List Act) (k : ℕ) (a : Act) → slice_get xs k ≡ Some a → slice_get (xs ++ ys) k ≡ Some a
      front [] ys k a h = let clash : None ≡ Some a = h in absurd (cc)
      front (x ∷ xs) ys zero a h = h
      front (x ∷ xs) ys (suc k) a h = front xs ys k a h

      is_load : (cs : List ℕ) (k : ℕ) (a : Act) → slice_get (map (load t) cs) k ≡ Some a → IsMute a
      is_load [] k a h = let clash : None ≡ Some a = h in absurd (cc)
      is_load (c ∷ cs) zero a h = let same : Some (load t c) ≡ Some a = h in let is : load t c ≡ a = cc in subst IsMute is (λ stored v. refl)
      is_load (c ∷ cs) (suc k) a h = is_load cs k a h

  -- over a job's first loads
  over_loads : (t k : ℕ) (j : Job) → slice_get m.timeline t ≡ Some (job j) → j.owner ≡ p → k ≤ length j.loads → held (acts_in_front m p t + k) ≡ held (acts_in_front m p t)
  over_loads t zero j at owner le = let none : acts_in_front m p t + 0 ≡ acts_in_front m p t = omega arith in ap held none
  over_loads t (suc k) j at owner le = elim ((slice_get_cases (map (load t) j.loads) k).1) [
    | inl h ↦
        let l = load_there t k j at owner h.0 h.2 in
        let count : acts_in_front m p t + suc k ≡ suc (acts_in_front m p t + k) = omega arith in
        ap held count ∙ ap (held_by cell (stored_at m p (acts_in_front m p t + k)) (held (acts_in_front m p t + k))) l.0 ∙ l.1 (stored_at m p (acts_in_front m p t + k)) (held (acts_in_front m p t + k)) ∙ over_loads t k j at owner (omega (arith, le))
    | inr h ↦ (let many = length-map j.loads (load t) in absurd (omega (arith, h.0, many, le)))
  ]

  -- a job stores there
  by_store : (t : ℕ) (j : Job) → slice_get m.timeline t ≡ Some (job j) → j.store ≡ Some cell → cell_value (memory_at m (suc t)) cell ≡ held (acts_in_front m p (suc t))
  by_store t j at stores =
      let o = own t j at stores in
      let A = acts_in_front m p t in
      let L = length j.loads in
      let M = memory_at m t in
      let v = j.assigned (map (cell_value M) j.loads) in
      let acts : moment_acts p t (job j) ≡ map (load t) j.loads ++ store t cell ∷ [] =
      ap (λ b. if b then job_acts t j else []) (eq-eqb j.owner p o.0) ∙ (λ i. map (load t) j.loads ++ last_act t (stores i) (o.1 i) ∷ []) in
      let place : slice_get (moment_acts p t (job j)) L ≡ Some (store t cell) =
      ap (λ l. slice_get l L) acts ∙ ap (slice_get (map (load t) j.loads ++ store t cell ∷ [])) (sym (length-map j.loads (load t)) ∙ (let none : length (map (load t) j.loads) ≡ length (map (load t) j.loads) + 0 = omega arith in none)) ∙ get-behind (map (load t) j.loads) (store t cell ∷ []) 0 in
      let act = act_of_moment m p t L (job j) (store t cell) at place in
      let many : acts_in_front m p (suc t) ≡ suc (A + L) = (let more = in_front-more m p t (job j) at in let size = ap (λ (l : List Act). length l) acts in let both = length-append (map (load t) j.loads) (store t cell ∷ []) in let loads = length-map j.loads (load t) in omega (arith, more, size, both, loads)) in
      let behind : held (suc (A + L)) ≡ stored_at m p (A + L) = ap (held_by cell (stored_at m p (A + L)) (held (A + L))) act ∙ ap (λ b. if b then stored_at m p (A + L) else held (A + L)) (eq-eqb cell cell refl) in
      let value : value_at m t ≡ v = ap (λ w. assigned_by w (map (cell_value M) (loads_by w))) at in
      let memory : cell_value (memory_at m (suc t)) cell ≡ v =
      ap (λ l. cell_value l cell) (memory_more m t (job j) at) ∙ (λ i. cell_value (with_change M (stores i) (o.1 i) v) cell)
      ∙ cell_set M cell cell v (let size = memory_size m t in omega (arith, size, inside)) ∙ ap (λ b. if b then v else cell_value M cell) (eq-eqb cell cell refl) in
      memory ∙ sym value ∙ sym (stored_is m p (A + L) t cell act) ∙ sym behind ∙ ap held (sym many)

  -- a job stores elsewhere, or nowhere
  by_other : (t : ℕ) (j : Job) → slice_get m.timeline t ≡ Some (job j) → (j.store ≡ Some cell → ⊥) → cell_value (memory_at m (suc t)) cell ≡ cell_value (memory_at m t) cell
  by_other t j at apart = ap (λ l. cell_value l cell) (memory_more m t (job j) at) ∙ by j.store j.adds (j.assigned (map (cell_value (memory_at m t)) j.loads)) apart
    where
      by : (o : Option ℕ) (b : Bool) (v : ℤ) → (o ≡ Some cell → ⊥) → cell_value (with_change (memory_at m t) o b v) cell ≡ cell_value (memory_at m t) cell
      by None b v none = refl
      by (Some c) b v none =
          let w = changed b (cell_value (memory_at m t) c) v in
          let size = memory_size m t in
          elim (cases_Bool (c == cell)) [
            | inl same ↦ absurd (none (ap Some (eqb-true c cell same)))
            | inr other ↦ cell_set (memory_at m t) c cell w (omega (arith, size, inside)) ∙ ap (λ d. if d then w else cell_value (memory_at m t) cell) other
          ]

  -- over a moment, where the memory in front of it has there what the processor stored last
  one_more : (t : ℕ) (x : Moment) → slice_get m.timeline t ≡ Some x → cell_value (memory_at m t) cell ≡ held (acts_in_front m p t) → cell_value (memory_at m (suc t)) cell ≡ held (acts_in_front m p (suc t))
  one_more t (boundary w n posts awaits) at before =
      ap (λ l. cell_value l cell) (memory_more m t (boundary w n posts awaits) at) ∙ before
      ∙ sym (over_moment t (boundary w n posts awaits) at (λ i u l. let clash : boundary w n posts awaits ≡ job l.job_is = l.moment in cc))
  one_more t (job j) at before = by_job j.store refl
    where
      elsewhere : (j.store ≡ Some cell → ⊥) → cell_value (memory_at m (suc t)) cell ≡ held (acts_in_front m p (suc t))
      elsewhere apart = by_other t j at apart ∙ before ∙ sym (over_moment t (job j) at (λ i u l. apart (ap (λ (y : Job). y.store) (same_job j l.job_is l.moment) ∙ l.stores)))

      by_job : (o : Option ℕ) → j.store ≡ o → cell_value (memory_at m (suc t)) cell ≡ held (acts_in_front m p (suc t))
      by_job None none = elsewhere (λ some. let clash : None ≡ Some cell = sym none ∙ some in cc)
      by_job (Some c) stores = elim (cases_Bool (c == cell)) [
        | inl same ↦ by_store t j at (stores ∙ ap Some (eqb-true c cell same))
        | inr other ↦ elsewhere (λ some. let clash : Some c ≡ Some cell = sym stores ∙ some in let is : c ≡ cell = cc in true≢false (sym (eq-eqb c cell is) ∙ other))
      ]

  -- so in front of each moment it has
  pub along : (t : ℕ) → t ≤ length m.timeline → cell_value (memory_at m t) cell ≡ held (acts_in_front m p t)
  along zero le = get_or-replicate m.cells cell (pos 0) (pos 0) inside
  along (suc t) le = elim ((slice_get_cases m.timeline t).1) [
    | inl h ↦ one_more t h.0 h.2 (along t (omega (arith, le)))
    | inr h ↦ absurd (omega (arith, le, h.0))
  ]

  -- so a load of it gives what the processor stored last
  pub load_gives : (n place : ℕ) → act_at m p n ≡ Some (load place cell) → loaded_at m p n ≡ held n
  load_gives n place e =
      let f = found m p n (load place cell) e in
      let l : IsLoadIn p f.place f.index place cell f.moment = tells p f.place f.index f.moment (load place cell) f.is in
      let at : slice_get m.timeline f.place ≡ Some (job l.job_is) = f.at ∙ ap Some l.moment in
      elim ((slice_get_cases m.timeline f.place).1) [
        | inl h ↦ elim ((slice_get_cases l.job_is.loads f.index).1) [
          | inl g ↦
              ap (loaded_by m) e ∙ ap (λ t. cell_value (memory_at m t) cell) l.place ∙ along f.place (let within = h.1 in omega (arith, within))
              ∙ sym (over_loads f.place f.index l.job_is at l.owner (let within = g.1 in omega (arith, within))) ∙ ap held (sym f.number)
          | inr g ↦ let clash : None ≡ Some cell = sym g.1 ∙ l.is in absurd (cc)
        ]
        | inr h ↦ let clash : None ≡ Some (job l.job_is) = sym h.1 ∙ at in absurd (cc)
      ]

-- ---- in a style

one_processor : (count p q k l : ℕ) → k < 32 → l < 32 → count + (32 * p + k) ≡ count + (32 * q + l) → p ≡ q
one_processor count p q k l lt lt' same = omega (arith, lt, lt', same)

module _ (style : Style) (tree : Tree) (plan : Plan) (formed : IsWellFormed tree) (fits : IsFit tree plan) (ranges : IsInRange tree) where
  -- an own cell is its processor's
  own_is : (t c : ℕ) (j : Job) → slice_get (timeline_by style tree plan) t ≡ Some (job j) → Contains j.loads c → cell_count tree ≤ c → (k : ℕ) × (k < 32) × (c ≡ cell_count tree + (32 * j.owner + k))
  own_is t c j at has past = (owned_on style tree plan t j formed fits at).own ranges c (inl has) past

  stored_own : (t c : ℕ) (j : Job) → slice_get (timeline_by style tree plan) t ≡ Some (job j) → j.store ≡ Some c → cell_count tree ≤ c → (k : ℕ) × (k < 32) × (c ≡ cell_count tree + (32 * j.owner + k))
  stored_own t c j at stores past = (owned_on style tree plan t j formed fits at).own ranges c (inr stores) past

  pub own_load : (p n place cell : ℕ) → cell_count tree ≤ cell → act_at (machine_by style tree plan) p n ≡ Some (load place cell) → loaded_at (machine_by style tree plan) p n ≡ held_along (act_at (machine_by style tree plan) p) (stored_at (machine_by style tree plan) p) cell n
  own_load p n place cell past e =
      let f = found (machine_by style tree plan) p n (load place cell) e in
      let l : IsLoadIn p f.place f.index place cell f.moment = tells p f.place f.index f.moment (load place cell) f.is in
      let at : slice_get (timeline_by style tree plan) f.place ≡ Some (job l.job_is) = f.at ∙ ap Some l.moment in
      let mine = own_is f.place cell l.job_is at (contains_at l.job_is.loads f.index cell l.is) past in
      let owned = (sound_by style tree plan formed fits).owned f.place l.job_is at in
      let below : cell < cell_count tree + 32 * plan.workers = (let k = mine.1 in let is = mine.2 in omega (arith, k, is, owned)) in
      load_gives (machine_by style tree plan) p cell below (alone l.job_is mine l.owner) n place e
    where
      no_adds : (t : ℕ) (j : Job) → slice_get (timeline_by style tree plan) t ≡ Some (job j) → j.store ≡ Some cell → (b : Bool) → j.adds ≡ b → b ≡ false
      no_adds t j at stores true adds = absurd (let low = adds_there style tree plan t cell j formed fits at adds stores in omega (arith, low, past))
      no_adds t j at stores false adds = refl

      alone : (i : Job) → (k : ℕ) × (k < 32) × (cell ≡ cell_count tree + (32 * i.owner + k)) → i.owner ≡ p → (t : ℕ) (j : Job) → slice_get (timeline_by style tree plan) t ≡ Some (job j) → j.store ≡ Some cell → (j.owner ≡ p) × (j.adds ≡ false)
      alone i mine owner t j at stores =
          let theirs = stored_own t cell j at stores past in
          (one_processor (cell_count tree) j.owner i.owner theirs.0 mine.0 theirs.1 mine.1 (sym theirs.2 ∙ mine.2) ∙ owner, no_adds t j at stores j.adds refl)
