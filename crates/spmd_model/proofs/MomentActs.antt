-- Which moment an act is of, by its kind.
use Rattle.std.proofs.Common.{◌≡◌, ◌==◌, ℕ, zero, suc, ◌+◌, ◌-◌, Bool, true, false, List, [], ◌∷◌, ◌++◌, length, map, Option, Some, None, refl, ap, sym, subst, ◌∙◌, inl, inr, arith, if◌then◌else◌}
use Rattle.std.specs.Prelude.{slice_get}
use Rattle.std.specs.List.{Contains}
use Rattle.std.specs.Option.{option_map}
use Rattle.std.proofs.lemmas.Bool.{cases_Bool, cases_lt, eqb-true, eq-eqb}
use Rattle.std.proofs.lemmas.Option.{slice_get-map}
use Rattle.std.proofs.lemmas.List.{length-map}
use Rattle.list_lemmas.proofs.Gets.{get-front, get-behind}
use Rattle.list_lemmas.proofs.Elements.{contains_at}
use Rattle.spmd_model.specs.Timelines.{Job, Moment, Word, boundary, job}
use Rattle.spmd_model.specs.Acts.{Act, post, await, load, store, add, print, boundary_acts, job_acts, last_act, moment_acts}
use Rattle.spmd_model.proofs.Lists.{place_of}

-- ---- one kind each

pub record IsPostIn (w : Word) (p i n : ℕ) (x : Moment) : Type 0 where
  pub posts : ℕ → Bool
  pub awaits : ℕ → List ℕ
  pub moment : x ≡ boundary w n posts awaits
  pub does : posts p ≡ true
  pub first : i ≡ 0

pub record IsAwaitIn (w : Word) (p q n : ℕ) (x : Moment) : Type 0 where
  pub posts : ℕ → Bool
  pub awaits : ℕ → List ℕ
  pub moment : x ≡ boundary w n posts awaits
  pub awaited : Contains (awaits p) q

pub record IsLoadIn (p t i u cell : ℕ) (x : Moment) : Type 0 where
  pub job_is : Job
  pub moment : x ≡ job job_is
  pub place : u ≡ t
  pub owner : job_is.owner ≡ p
  pub is : slice_get job_is.loads i ≡ Some cell

pub record IsLastIn (p t i u : ℕ) (o : Option ℕ) (x : Moment) : Type 0 where
  pub job_is : Job
  pub moment : x ≡ job job_is
  pub place : u ≡ t
  pub owner : job_is.owner ≡ p
  pub stores : job_is.store ≡ o
  pub index : i ≡ length job_is.loads

-- the last act of a job that changes a cell, by a store or an add
pub record IsChangeIn (p t i u cell : ℕ) (b : Bool) (x : Moment) : Type 0 where
  pub job_is : Job
  pub moment : x ≡ job job_is
  pub place : u ≡ t
  pub owner : job_is.owner ≡ p
  pub stores : job_is.store ≡ Some cell
  pub adding : job_is.adds ≡ b
  pub index : i ≡ length job_is.loads

pub last_of : (p t i u cell : ℕ) (b : Bool) (x : Moment) → IsChangeIn p t i u cell b x → IsLastIn p t i u (Some cell) x
last_of p t i u cell b x c = record { job_is = c.job_is; moment = c.moment; place = c.place; owner = c.owner; stores = c.stores; index = c.index }

-- what an act of this kind says of its moment
abbrev pub Tells : ℕ → ℕ → ℕ → Moment → Act → Type 0
Tells p t i x (post w n) = IsPostIn w p i n x
Tells p t i x (await w q n) = IsAwaitIn w p q n x
Tells p t i x (load u cell) = IsLoadIn p t i u cell x
Tells p t i x (store u cell) = IsChangeIn p t i u cell false x
Tells p t i x (add u cell) = IsChangeIn p t i u cell true x
Tells p t i x (print u) = IsLastIn p t i u None x

-- ---- a boundary's acts

await_at : (w : Word) (awaited : List ℕ) (n i : ℕ) (a : Act) → slice_get (map (λ q. await w q n) awaited) i ≡ Some a → (q : ℕ) × (a ≡ await w q n) × (slice_get awaited i ≡ Some q)
await_at w [] n i a e = let clash : None ≡ Some a = e in absurd (cc)
await_at w (q ∷ rest) n zero a e = let same : Some (await w q n) ≡ Some a = e in (q, cc, refl)
await_at w (q ∷ rest) n (suc i) a e = await_at w rest n i a e

boundary_tells : (w : Word) (p t i n : ℕ) (posts : ℕ → Bool) (awaits : ℕ → List ℕ) (a : Act) → slice_get (boundary_acts p w n (posts p) (awaits p)) i ≡ Some a → Tells p t i (boundary w n posts awaits) a
boundary_tells w p t i n posts awaits a e = elim (cases_Bool (posts p)) [
  | inl does ↦ first i (sym (ap (λ b. slice_get (boundary_acts p w n b (awaits p)) i) does) ∙ e) does refl
  | inr not_posts ↦ later i (sym (ap (λ b. slice_get (boundary_acts p w n b (awaits p)) i) not_posts) ∙ e)
]
  where
    waits : (k : ℕ) (b : Act) → slice_get (map (λ q. await w q n) (awaits p)) k ≡ Some b → Tells p t i (boundary w n posts awaits) b
    waits k b h =
        let h' = await_at w (awaits p) n k b h in
        subst (Tells p t i (boundary w n posts awaits)) (sym h'.1) (record { posts = posts; awaits = awaits; moment = refl; awaited = contains_at (awaits p) k h'.0 h'.2 })

    first : (k : ℕ) → slice_get (post w n ∷ map (λ q. await w q n) (awaits p)) k ≡ Some a → posts p ≡ true → k ≡ i → Tells p t i (boundary w n posts awaits) a
    first zero h does same = let is : Some (post w n) ≡ Some a = h in let post_is : post w n ≡ a = cc in
        subst (Tells p t i (boundary w n posts awaits)) post_is (record { posts = posts; awaits = awaits; moment = refl; does = does; first = sym same })
    first (suc k) h does same = waits k a h

    later : (k : ℕ) → slice_get (map (λ q. await w q n) (awaits p)) k ≡ Some a → Tells p t i (boundary w n posts awaits) a
    later k h = waits k a h

-- ---- a job's acts

load_at : (loads : List ℕ) (t i : ℕ) (a : Act) → slice_get (map (load t) loads) i ≡ Some a → (cell : ℕ) × (a ≡ load t cell) × (slice_get loads i ≡ Some cell)
load_at [] t i a e = let clash : None ≡ Some a = e in absurd (cc)
load_at (c ∷ rest) t zero a e = let same : Some (load t c) ≡ Some a = e in (c, cc, refl)
load_at (c ∷ rest) t (suc i) a e = load_at rest t i a e

last_tells : (p t i : ℕ) (j : Job) (o : Option ℕ) (b : Bool) → j.owner ≡ p → j.store ≡ o → j.adds ≡ b → i ≡ length j.loads → Tells p t i (job j) (last_act t o b)
last_tells p t i j (Some cell) false owner stores adding index = record { job_is = j; moment = refl; place = refl; owner = owner; stores = stores; adding = adding; index = index }
last_tells p t i j (Some cell) true owner stores adding index = record { job_is = j; moment = refl; place = refl; owner = owner; stores = stores; adding = adding; index = index }
last_tells p t i j None b owner stores adding index = record { job_is = j; moment = refl; place = refl; owner = owner; stores = stores; index = index }

job_tells : (p t i : ℕ) (j : Job) (a : Act) → j.owner ≡ p → slice_get (job_acts t j) i ≡ Some a → Tells p t i (job j) a
job_tells p t i j a owner e =
    let front = map (load t) j.loads in
    let as_many : length front ≡ length j.loads = length-map j.loads (load t) in
    elim (cases_lt i (length front)) [
      | inl inside ↦
          let l = load_at j.loads t i a (sym (get-front front (last_act t j.store j.adds ∷ []) i inside) ∙ e) in
          subst (Tells p t i (job j)) (sym l.1) (record { job_is = j; moment = refl; place = refl; owner = owner; is = l.2 })
      | inr past ↦
          let more : length front + (i - length front) ≡ i = omega (arith, past) in
          let h : slice_get (last_act t j.store j.adds ∷ []) (i - length front) ≡ Some a = sym (ap (slice_get (front ++ last_act t j.store j.adds ∷ [])) (sym more) ∙ get-behind front (last_act t j.store j.adds ∷ []) (i - length front)) ∙ e in
          let last = only (i - length front) h in
          subst (Tells p t i (job j)) last.1 (last_tells p t i j j.store j.adds owner refl refl (omega (arith, more, last.0, as_many)))
    ]
  where
    only : (k : ℕ) → slice_get (last_act t j.store j.adds ∷ []) k ≡ Some a → (k ≡ 0) × (last_act t j.store j.adds ≡ a)
    only zero h = let same : Some (last_act t j.store j.adds) ≡ Some a = h in (refl, cc)
    only (suc k) h = let clash : None ≡ Some a = h in absurd (cc)

pub tells : (p t i : ℕ) (x : Moment) (a : Act) → slice_get (moment_acts p t x) i ≡ Some a → Tells p t i x a
tells p t i (boundary w n posts awaits) a e = boundary_tells w p t i n posts awaits a e
tells p t i (job j) a e = elim (cases_Bool (j.owner == p)) [
  | inl own ↦ job_tells p t i j a (eqb-true j.owner p own) (sym (ap (λ b. slice_get (if b then job_acts t j else []) i) own) ∙ e)
  | inr other ↦ let clash : None ≡ Some a = sym (ap (λ b. slice_get (if b then job_acts t j else []) i) other) ∙ e in absurd (cc)
]

-- ---- the acts of a moment of that kind

pub post_first : (w : Word) (p t n : ℕ) (posts : ℕ → Bool) (awaits : ℕ → List ℕ) → posts p ≡ true → slice_get (moment_acts p t (boundary w n posts awaits)) 0 ≡ Some (post w n)
post_first w p t n posts awaits does = ap (λ b. slice_get (boundary_acts p w n b (awaits p)) 0) does

-- an await of the boundary is among its acts
pub await_there : (w : Word) (p t n q : ℕ) (posts : ℕ → Bool) (awaits : ℕ → List ℕ) → Contains (awaits p) q → (i : ℕ) × (slice_get (moment_acts p t (boundary w n posts awaits)) i ≡ Some (await w q n))
await_there w p t n q posts awaits h =
    let at = place_of (awaits p) q h in
    let front = if posts p then post w n ∷ [] else [] in
    (length front + at.0, get-behind front (map (λ k. await w k n) (awaits p)) at.0 ∙ slice_get-map (λ k. await w k n) (awaits p) at.0 ∙ ap (option_map (λ k. await w k n)) at.1)

-- a job's acts are its owner's
pub own_acts : (p t : ℕ) (j : Job) → j.owner ≡ p → moment_acts p t (job j) ≡ job_acts t j
own_acts p t j own = ap (λ b. if b then job_acts t j else []) (eq-eqb j.owner p own)
