-- What the seats of a table know of a machine.
use Rattle.std.specs.Prelude.{ℕ, ◌≡◌, ◌<◌, List, Some, length, slice_get}
use mathlib.Core.Option.{some}
use lib.ListN.{get_elem?}
use Rattle.spmd_model.specs.Protocols.{Protocol}
use Rattle.shared_words.specs.Places.{settled_at}
use Rattle.shared_words.specs.declared.roles.Role.{Role}
use Rattle.shared_words.specs.declared.roles.Role.TheVariants.{Main, Cell, Spent, Over}
use Rattle.shared_words.specs.declared.roles.Stage.{Stage}
use Rattle.shared_words.specs.declared.roles.Stage.TheVariants.{NotOut, Out, Ended}

-- what the role of seat number j says, where the processors have come to these stages, seats and places
abbrev pub Says : Protocol → List Stage → (ℕ → ℕ) → (ℕ → ℕ) → ℕ → Role → Type 0
Says m stages seats at j (Main mine) = (j ≡ 0) × (mine ≡ stages)
Says m stages seats at j (Cell p n misses seen) =
    (p < m.workers) × (slice_get stages p ≡ Some Out) × (seats p ≡ j) × (at p ≡ n)
Says m stages seats at j Spent = Unit {0}
Says m stages seats at j Over = (q : ℕ) → q < m.workers → slice_get stages q ≡ Some Ended

-- the place of a processor whose seat isn't out
abbrev pub Rests : Protocol → ℕ → ℕ → Stage → Type 0
Rests m p n NotOut = n ≡ settled_at m p 0
Rests m p n Out = Unit {0}
Rests m p n Ended = n ≡ length (m.acts p)

-- a processor's seat is out just where its stage says so, and there is one of it
pub record AreSeated (m : Protocol) (roles : List Role) (at : ℕ → ℕ) : Type 0 where
  pub stages : List Stage
  pub seats : ℕ → ℕ
  pub all : length stages ≡ m.workers
  pub says : (j : ℕ) (r : Role) → get_elem? roles j ≡ some r → Says m stages seats at j r
  pub rests : (p : ℕ) (stage : Stage) → slice_get stages p ≡ Some stage → Rests m p (at p) stage
