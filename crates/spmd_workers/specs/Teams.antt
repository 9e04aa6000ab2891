-- All workers of a table.
use Rattle.std.specs.Prelude.{ℕ, ◌≡◌, ◌<◌, false, Bool, List, length, Option, None, Some, slice_get, slice_index, slice_index_or}
use Rattle.crossbeam_utils.specs.declared.cache_padded.CachePadded.{CachePadded}
use Rattle.crossbeam_utils.specs.Padded.{padded_value}
use Rattle.shared_words.specs.Rounds.{Went, left_of_all}
use Rattle.shared_words.specs.declared.roles.Stage.TheVariants.{Out}
use Rattle.shared_words.specs.Calls.{StandsInVain}
use Rattle.shared_words.specs.Homes.{Home, IsSameTable, MainView, main_in, protocol_at}
use Rattle.spmd_workers.specs.Workers.{IsInside, IsOver, IsPlaced, IsWorkerOf, WorkerView, worker_in}

-- the worker of a processor
abbrev pub worker_at : List (CachePadded WorkerView) → ℕ → CachePadded WorkerView → WorkerView
worker_at workers p d = padded_value (slice_index_or workers p d)

-- a worker for each processor, in order
pub record AreWorkersOf (h : Home) (workers : List (CachePadded WorkerView)) : Type 0 where
  pub count : length workers ≡ (protocol_at h).workers
  pub each : (p : ℕ) (d : CachePadded WorkerView) → p < length workers
      → IsWorkerOf h p (worker_at workers p d)

abbrev pub AreOver : List (CachePadded WorkerView) → Type 0
AreOver workers =
    (p : ℕ) (d : CachePadded WorkerView) → p < length workers → IsOver (worker_at workers p d)

-- some worker's leg has still to answer that it ended
abbrev pub IsGoing : List (CachePadded WorkerView) → Type 0
IsGoing workers = (p : ℕ) × (p < length workers)
    × ((d : CachePadded WorkerView) → (worker_at workers p d).ended ≡ false)

-- the seats of all processors are out
abbrev pub AreOut : MainView → Type 0
AreOut v = (p : ℕ) → p < (protocol_at v.home).workers → slice_get v.stages p ≡ Some Out

-- ---- between two rounds

-- these are the places of all workers
abbrev pub AreTheirs : List ℕ → List (CachePadded WorkerView) → Type 0
AreTheirs known workers = (p : ℕ) (d : CachePadded WorkerView) → p < length workers
    → slice_index known p ≡ (worker_at workers p d).seat.position

-- their seats are of this table, each its own processor's
abbrev pub AreSeatedIn : Home → List (CachePadded WorkerView) → Type 0
AreSeatedIn h workers = (p : ℕ) (d : CachePadded WorkerView) → p < length workers
    → IsSameTable (worker_at workers p d).seat.home h × ((worker_at workers p d).seat.processor ≡ p)

-- the main seat has learnt the places of the first n workers, and told them what it knows: where it knew all places, that is they
pub record HasTold (old new : MainView) (before after : List (CachePadded WorkerView)) (n : ℕ) :
    Type 0 where
  pub count : length after ≡ length before
  pub kept : (p : ℕ) (d : CachePadded WorkerView) → p < length before
      → worker_at after p d ≡ worker_in (worker_at after p d).seat.home (worker_at before p d)
  pub tables : (p : ℕ) (d : CachePadded WorkerView) → p < length before
      → IsSameTable (worker_at after p d).seat.home old.home
  pub main : new ≡ main_in new.home old
  pub table : IsSameTable new.home old.home
  pub long : length new.home.known ≡ length old.home.known
  pub learnt : (p : ℕ) (d : CachePadded WorkerView) → p < n → p < length before
      → slice_index new.home.known p ≡ (worker_at before p d).seat.position
  pub placed : (p : ℕ) (d : CachePadded WorkerView) → p < n → p < length before
      → IsPlaced (worker_at after p d)
  pub knows : AreTheirs old.home.known before
      → (new.home ≡ old.home) × ((p : ℕ) (d : CachePadded WorkerView) → p < n → p < length before
      → (worker_at after p d).seat.home ≡ old.home)

-- ---- a round

-- what a leg of a worker did, or that there was none
abbrev pub WentOn : WorkerView → WorkerView → Type 0
WentOn old new =
    Went (StandsInVain old.seat) old.seat.position new.seat.position old.ended new.ended

abbrev pub AreInside : List (CachePadded WorkerView) → Type 0
AreInside workers = (p : ℕ) (d : CachePadded WorkerView) → p < length workers
    → IsInside (worker_at workers p d).seat

abbrev pub WentAll : List (CachePadded WorkerView) → List (CachePadded WorkerView) → Type 0
WentAll old new = (p : ℕ) (d : CachePadded WorkerView) → p < length old
    → WentOn (worker_at old p d) (worker_at new p d)

-- how much is left of all: their acts, and one for each whose leg has still to answer that it ended
abbrev pub place_in : Option (CachePadded WorkerView) → ℕ
place_in None = 0
place_in (Some w) = (padded_value w).seat.position

abbrev pub ended_in : Option (CachePadded WorkerView) → Bool
ended_in None = false
ended_in (Some w) = (padded_value w).ended

abbrev pub to_run : Home → List (CachePadded WorkerView) → ℕ
to_run h workers = left_of_all (protocol_at h).acts (λ p. place_in (slice_get workers p))
    (λ p. ended_in (slice_get workers p)) (protocol_at h).workers
