-- What contracts see of a run of the machine that has come to its end.
use Rattle.std.specs.Prelude.{ℕ, ℤ, ◌≡◌, ◌<◌, All, List, refl, take}
use Rattle.std.specs.Coded.{Coded, code_by, coded×, coded_ℤ, coded_list}
use Rattle.nest_tree.specs.Layout.{cell_count}
use Rattle.nest_tree.specs.View.{tree_of}
use Rattle.nest_tree.specs.contracts.program.Program as programs
use Rattle.nest_tree.specs.declared.program.Program.{Program}
use Rattle.sync_plan.specs.contracts.plan.Plan as plans
use Rattle.sync_plan.specs.declared.plan.Plan.{Plan}
use Rattle.spmd_model.specs.Runs.{IsEnded, run_of}
use Rattle.spmd_model.specs.Machines.{machine_by}
use Rattle.spmd_model.specs.Timelines.{Machine}
use Rattle.spmd_model.specs.contracts.style.Style as styles
use Rattle.spmd_model.specs.declared.style.Style.{Style}

-- of which program, plan and style it was, and what the cells that all share held behind it
pub record End : Type 0 where
  pub program : Program
  pub plan : Plan
  pub style : Style
  pub memory : List ℤ

abbrev pub machine_at : End → Machine
machine_at e = machine_by e.style (tree_of e.program) e.plan

-- some schedule of the program's machine under the plan ends with this memory
pub record HasRun (e : End) : Type 0 where
  pub schedule : List ℕ
  pub workers : All (λ p. p < e.plan.workers) schedule
  pub ended : IsEnded (machine_at e) (run_of (machine_at e) schedule)
  pub memory : e.memory ≡ take (cell_count (tree_of e.program))
      (run_of (machine_at e) schedule).memory

-- how it is stored in proofs
abbrev pub end_code : Coded End
end_code =
    code_by (Program × (Plan × (Style × List ℤ)))
    (coded× programs.the_row.coded (coded× plans.the_row.coded
    (coded× styles.the_row.coded (coded_list coded_ℤ))))
    (λ e. (e.program, (e.plan, (e.style, e.memory))))
    (λ x. record { program = x.0; plan = x.1.0; style = x.1.1.0; memory = x.1.1.1 }) (λ _. refl)
