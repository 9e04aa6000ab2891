-- What holds of the processors of a table, by the laws of its program under its plan in its style.
use Rattle.std.specs.Prelude.{ℕ, ◌+◌, ◌≡◌, ◌≤◌, ◌<◌, ◌++◌, ℤ, true, List, length, Some, slice_get}
use Rattle.nest_tree.specs.Layout.{cell_count}
use Rattle.sync_plan.specs.Boundaries.{gathers}
use Rattle.spmd_model.specs.Deeds.{Deed, adding, deed_of, printing, storing}
use Rattle.spmd_model.specs.Machines.{machine_by}
use Rattle.spmd_model.specs.Timelines.{counter}
use Rattle.spmd_model.specs.Acts.{Act, await, load}
use Rattle.spmd_model.specs.Laws.{Laws}
use Rattle.spmd_model.specs.Protocols.{act_at, arrivals_at, held_at}
use Rattle.spmd_model.specs.Viewed.{barriers_in_front}
use Rattle.shared_words.specs.Runs.{IsRunnable}
use Rattle.shared_words.specs.Homes.{Home, protocol_at}
use Rattle.spmd_workers.specs.Places.{deeds_at, plan_at, style_at, tree_at}

-- in each but the first two p is a processor
pub record AreHeld (h : Home) : Type 0 where
  pub run : IsRunnable (tree_at h) (plan_at h)
  pub laws : Laws (protocol_at h)
  -- each act does its deed, and there are as many
  pub acts : (p n : ℕ) (d : Deed) → p < (protocol_at h).workers
      → slice_get (deeds_at h p) n ≡ Some d → (a : Act) × (act_at (protocol_at h) p n ≡ Some a)
      × (deed_of (machine_by (style_at h) (tree_at h) (plan_at h)) a ≡ d)
  pub count : (p : ℕ) → p < (protocol_at h).workers
      → length (deeds_at h p) ≡ length ((protocol_at h).acts p)
  -- a store's value, an addition's amount and a PRINT's line, by what the loads gave
  pub stored : (p n cell : ℕ) (value : List ℤ → ℤ) → p < (protocol_at h).workers
      → slice_get (deeds_at h p) n ≡ Some (storing cell value)
      → (protocol_at h).stored_at p n ≡ value ((protocol_at h).registers_at p n)
  pub added : (p n cell : ℕ) (value : List ℤ → ℤ) → p < (protocol_at h).workers
      → slice_get (deeds_at h p) n ≡ Some (adding cell value)
      → (protocol_at h).stored_at p n ≡ value ((protocol_at h).registers_at p n)
  pub printed : (p n : ℕ) (line : List ℤ → List ℕ) → p < (protocol_at h).workers
      → slice_get (deeds_at h p) n ≡ Some (printing line)
      → (protocol_at h).printed_at p (n + 1)
      ≡ (protocol_at h).printed_at p n ++ line ((protocol_at h).registers_at p n)
  -- a load of an own cell gives what that holds
  pub own : (p n place cell : ℕ) → cell_count (tree_at h) ≤ cell
      → act_at (protocol_at h) p n ≡ Some (load place cell)
      → (protocol_at h).loaded_at p n ≡ held_at (protocol_at h) p cell n
  -- whoever awaits others at a barrier has arrived at it and at those in front
  pub arrived : (p n on wanted : ℕ) → p < (protocol_at h).workers
      → act_at (protocol_at h) p n ≡ Some (await counter on wanted)
      → gathers (tree_at h) (plan_at h) wanted ≡ true
      → arrivals_at (protocol_at h) p n ≡ barriers_in_front (tree_at h) (plan_at h) wanted + 1
