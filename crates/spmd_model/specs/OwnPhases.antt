-- A phase with own scalars: what its jobs do on memory as a whole, and what they do where each processor has cells of its own for these scalars.
use Rattle.std.specs.Prelude.{ℕ, zero, suc, ◌≡◌, ◌≢◌, ◌<◌, ◌⊎◌, ◌==◌, ℤ, pos, Bool, true, false, List, [], ◌∷◌, ◌++◌, length, map, Option, Some, None, if◌then◌else◌}
use Rattle.std.specs.Option.{option_map}
pub use Rattle.sync_plan.specs.Own.{Own, at_slot, own_cell}
use Rattle.spmd_model.specs.Cells.{changed, plus}
use Rattle.spmd_model.specs.Timelines.{Job}

-- memory by cell
abbrev pub Memory : Type 0
Memory = ℕ → ℤ

abbrev pub put : {X : Type 0} → (ℕ → X) → ℕ → X → ℕ → X
put f c v x = if c == x then v else f x

abbrev pub behind_store : (ℕ → ℤ) → Option ℕ → Bool → ℤ → ℕ → ℤ
behind_store f None adds v = f
behind_store f (Some c) adds v = put f c (changed adds (f c) v)

abbrev pub behind_job : (ℕ → ℤ) → Job → ℕ → ℤ
behind_job f j = behind_store f j.store j.adds (j.assigned (map f j.loads))

-- own cells are no shared ones, and each is one processor's for one scalar's place; each place is one scalar's
pub record AreApart (o : Own) : Type 0 where
  pub behind : (p k c : ℕ) → c < o.shared → o.cell p k ≢ c
  pub one : (c d k l : ℕ) → o.slot c ≡ Some k → o.slot d ≡ Some l → (p q : ℕ)
      → o.cell p k ≡ o.cell q l → (p ≡ q) × (k ≡ l)
  pub place : (c d k : ℕ) → o.slot c ≡ Some k → o.slot d ≡ Some k → c ≡ d
  pub there : (c k : ℕ) → o.slot c ≡ Some k → c < o.shared

-- a job as it is where its owner has own cells
abbrev pub own_job : Own → Job → Job
own_job o j = record j {
  loads = map (own_cell o j.owner) j.loads;
  store = option_map (own_cell o j.owner) j.store;
}

-- a sum over the processors that have assigned
abbrev pub sum_up : Own → (ℕ → ℤ) → ℕ → (ℕ → Bool) → ℤ → ℕ → ℤ
sum_up o f k b x zero = x
sum_up o f k b x (suc p) =
    if b p then plus (sum_up o f k b x p) (f (o.cell p k)) else sum_up o f k b x p

-- how far a phase has come: memory, memory with own cells, which processor stored a private last, and which processors assigned a sum scalar
pub record Come (o : Own) (m f : ℕ → ℤ) (last : ℕ → Option ℕ) (assigned : ℕ → ℕ → Bool) :
    Type 0 where
  pub plain : (c : ℕ) → c < o.shared → o.slot c ≡ None → f c ≡ m c
  pub kept : (c k p : ℕ) → o.slot c ≡ Some k → o.is_sum c ≡ false → last c ≡ Some p
      → f (o.cell p k) ≡ m c
  pub summed : (c k : ℕ) → o.slot c ≡ Some k → o.is_sum c ≡ true
      → m c ≡ sum_up o f k (assigned c) (f c) o.workers
  pub empty : (c k p : ℕ) → o.slot c ≡ Some k → o.is_sum c ≡ true → assigned c p ≡ false
      → f (o.cell p k) ≡ pos 0

-- a load that a processor may make: of a shared cell that is no own scalar, or of a private that it stored last
abbrev pub IsGoodLoad : Own → (ℕ → Option ℕ) → ℕ → ℕ → Type 0
IsGoodLoad o last p c =
    (c < o.shared) × ((o.slot c ≡ None) ⊎ ((o.is_sum c ≡ false) × (last c ≡ Some p)))

-- an assignment to a sum scalar: it loads that once, and adds to it what the other loads make
pub record IsSumJob (o : Own) (j : Job) (c k : ℕ) : Type 0 where
  pub slot : o.slot c ≡ Some k
  pub sum : o.is_sum c ≡ true
  pub store : j.store ≡ Some c
  pub front : List ℕ
  pub rest : List ℕ
  pub loads : j.loads ≡ front ++ c ∷ rest
  pub amount : List ℤ → List ℤ → ℤ
  pub adds : (us : List ℤ) (x : ℤ) (vs : List ℤ) → length us ≡ length front
      → j.assigned (us ++ x ∷ vs) ≡ plus x (amount us vs)

-- ---- closings

-- the same without a scalar: its own cells have been closed
abbrev pub without : Own → ℕ → Own
without o c = record o { slot = put o.slot c None }

-- the owner of a private's last trip stores what its own cell holds
abbrev pub keeps_private : Own → ℕ → ℕ → ℕ → Job → Type 0
keeps_private o c k p j = (j.owner ≡ p) × (j.loads ≡ o.cell p k ∷ []) × (j.store ≡ Some c)
    × (j.adds ≡ false) × ((v : ℤ) → j.assigned (v ∷ []) ≡ v)

-- a processor adds what its own cell holds, and sets that to 0
abbrev pub adds_total : Own → ℕ → ℕ → ℕ → Job → Type 0
adds_total o c k p j = (j.owner ≡ p) × (j.loads ≡ o.cell p k ∷ []) × (j.store ≡ Some c)
    × (j.adds ≡ true) × ((v : ℤ) → j.assigned (v ∷ []) ≡ v)

abbrev pub clears : Own → ℕ → ℕ → Job → Type 0
clears o k p j = (j.owner ≡ p) × (j.loads ≡ []) × (j.store ≡ Some (o.cell p k)) × (j.adds ≡ false)
    × (j.assigned [] ≡ pos 0)
