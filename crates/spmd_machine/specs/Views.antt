-- What contracts see of a machine.
use Rattle.std.specs.Prelude.{ℕ, ℤ, ◌≡◌, List, length, refl}
use Rattle.std.specs.Coded.{Coded, code_by, coded×, coded_ℕ, coded_ℤ, coded_list}
use Rattle.nest_tree.specs.Layout.{cell_count}
use Rattle.nest_tree.specs.Tree.{Tree}
use Rattle.nest_tree.specs.View.{tree_of}
use Rattle.nest_tree.specs.contracts.program.Program as programs
use Rattle.nest_tree.specs.declared.program.Program.{Program}
use Rattle.sync_plan.specs.contracts.plan.Plan as plans
use Rattle.sync_plan.specs.declared.plan.Plan.{Plan}
use Rattle.spmd_model.specs.Machines.{machine_by}
use Rattle.spmd_model.specs.Quiet.{quiet_next}
use Rattle.spmd_model.specs.States.{State}
use Rattle.spmd_model.specs.Timelines.{Machine}
use Rattle.spmd_model.specs.contracts.style.Style as styles
use Rattle.spmd_model.specs.declared.style.Style.{Style}

-- of which program, plan and style it is, and the state that it shows
pub record MachineView : Type 0 where
  pub program : Program
  pub plan : Plan
  pub style : Style
  pub state : State

-- how both are stored in proofs
abbrev pub state_code : Coded State
state_code =
    code_by (List ℕ × (List (List ℤ) × (List ℕ × (List ℕ × (List ℤ × List ℕ)))))
    (coded× (coded_list coded_ℕ) (coded× (coded_list (coded_list coded_ℤ))
    (coded× (coded_list coded_ℕ) (coded× (coded_list coded_ℕ)
    (coded× (coded_list coded_ℤ) (coded_list coded_ℕ))))))
    (λ s. (s.positions, (s.registers, (s.counters, (s.signals, (s.memory, s.output))))))
    (λ x. record {
      positions = x.0;
      registers = x.1.0;
      counters = x.1.1.0;
      signals = x.1.1.1.0;
      memory = x.1.1.1.1.0;
      output = x.1.1.1.1.1;
    }) (λ _. refl)

abbrev pub machine_code : Coded MachineView
machine_code =
    code_by (Program × (Plan × (Style × State)))
    (coded× programs.the_row.coded (coded× plans.the_row.coded
    (coded× styles.the_row.coded state_code))) (λ m. (m.program, (m.plan, (m.style, m.state))))
    (λ x. record { program = x.0; plan = x.1.0; style = x.1.1.0; state = x.1.1.1 }) (λ _. refl)

abbrev pub tree_at : MachineView → Tree
tree_at m = tree_of m.program

-- the definition's machine of the program under the plan in the style, and how many cells all share
abbrev pub model_at : MachineView → Machine
model_at m = machine_by m.style (tree_at m) m.plan

abbrev pub shared_at : MachineView → ℕ
shared_at m = cell_count (tree_at m)

-- of the same program and plan, in the same style, with as many processors
pub record IsSameSubject (old new : MachineView) : Type 0 where
  pub program : tree_at new ≡ tree_at old
  pub plan : new.plan ≡ old.plan
  pub style : new.style ≡ old.style
  pub count : length new.state.positions ≡ length old.state.positions

-- no act on its own cells stands next of a processor
abbrev pub HasSettled : MachineView → ℕ → Type 0
HasSettled m p = quiet_next (model_at m) (shared_at m) m.state p ≡ 0
