-- The protocol of a program under a plan where processors have cells of their own for the own scalars of phases, and pass barriers in one of two styles.
use Rattle.std.specs.Prelude.{ℕ, ℤ, List}
use Rattle.nest_tree.specs.Layout.{cell_count}
use Rattle.nest_tree.specs.Tree.{Tree}
use Rattle.nest_model.specs.Memory.{last_memory, output_of}
use Rattle.sync_plan.specs.Boundaries.{gathers}
use Rattle.sync_plan.specs.declared.plan.Plan.{Plan}
use Rattle.spmd_model.specs.Acts.{Act, acts_of}
use Rattle.spmd_model.specs.Sequential.{loaded_at, registers_at, stored_at}
use Rattle.spmd_model.specs.Lawful.{printed_at}
use Rattle.spmd_model.specs.Shared.{AreLawful}
use Rattle.spmd_model.specs.States.{State}
use Rattle.spmd_model.specs.Machines.{machine_by}
use Rattle.spmd_model.specs.declared.style.Style.{Style}
use Rattle.spmd_model.specs.Protocols.{Protocol}
use Rattle.spmd_model.specs.Viewed.{AreIn}

-- ---- along the plan's timeline in a style, as names that goals show in place of the timeline

-- the acts of a processor
unfoldable pub acts_by : Style → Tree → Plan → ℕ → List Act
acts_by style tree plan p = acts_of (machine_by style tree plan) p

-- their sequential values
unfoldable pub registers_by : Style → Tree → Plan → ℕ → ℕ → List ℤ
registers_by style tree plan p n = registers_at (machine_by style tree plan) p n

unfoldable pub loaded_by : Style → Tree → Plan → ℕ → ℕ → ℤ
loaded_by style tree plan p n = loaded_at (machine_by style tree plan) p n

unfoldable pub stored_by : Style → Tree → Plan → ℕ → ℕ → ℤ
stored_by style tree plan p n = stored_at (machine_by style tree plan) p n

unfoldable pub printed_by : Style → Tree → Plan → ℕ → ℕ → List ℕ
printed_by style tree plan p n = printed_at (machine_by style tree plan) p n

-- lawful cells
unfoldable pub AreLawfulBy : Style → Tree → Plan → List ℤ → (ℕ → ℕ) → Type 0
AreLawfulBy style tree plan cells at =
    AreLawful (machine_by style tree plan) (cell_count tree) cells at

-- by signals no counter is posted at a barrier, so that nothing is an arrival there
abbrev pub protocol_by : Style → Tree → Plan → Protocol
protocol_by style tree plan = record {
  workers = plan.workers;
  cells = cell_count tree;
  acts = acts_by style tree plan;
  gathers = gathers tree plan;
  registers_at = registers_by style tree plan;
  loaded_at = loaded_by style tree plan;
  stored_at = stored_by style tree plan;
  printed_at = printed_by style tree plan;
  last = last_memory tree;
  output = output_of tree;
  lawful = AreLawfulBy style tree plan;
}

-- cells that all share, at these places, are those of a state of the plan's machine in a style
abbrev pub AreOfStateBy : Style → Tree → Plan → List ℤ → (ℕ → ℕ) → State → Type 0
AreOfStateBy style tree plan cells at s =
    AreIn (machine_by style tree plan) (cell_count tree) cells at s
