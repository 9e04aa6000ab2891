-- What a worker's stores show and keep.
use Rattle.std.specs.Prelude.{ℕ, ◌≡◌, ◌≤◌, ◌<◌, ◌^◌, ℤ, List, length, vec_capacity}
use Rattle.fork_join.specs.Overlays.{AreMarked, stores_to, stretched}
use Rattle.fork_join.specs.declared.stores.Stores.{Stores}

abbrev pub entries_of : Stores → List (ℕ × ℤ)
entries_of s = stores_to (stretched s.stretches.items) s.values.items

-- how many cells there are
abbrev pub cells_of : Stores → ℕ
cells_of s = length s.stored.items

-- the cells with a store are marked, each stands in one stretch, and there is room for a stretch to each cell
pub record AreKept (s : Stores) : Type 0 where
  pub marked : AreMarked (stretched s.stretches.items) s.stored.items
  pub values : length s.values.items ≡ length s.stored.items
  pub spread : length s.stretches.items ≤ length (stretched s.stretches.items)
  pub room : length s.stored.items ≤ vec_capacity s.stretches
  pub few : length s.stored.items < 2 ^ 32
