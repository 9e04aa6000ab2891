-- What contracts see of a run by fork and join that has come to its end.
use Rattle.std.specs.Prelude.{ℤ, ◌≡◌, List, refl}
use Rattle.std.specs.Coded.{Coded, code_by, coded×, coded_ℤ, coded_list}
use Rattle.nest_tree.specs.View.{tree_of}
use Rattle.nest_tree.specs.contracts.program.Program as programs
use Rattle.nest_tree.specs.declared.program.Program.{Program}
use Rattle.nest_model.specs.Memory.{last_memory}
use Rattle.sync_plan.specs.contracts.plan.Plan as plans
use Rattle.sync_plan.specs.declared.plan.Plan.{Plan}

-- of which program and plan it was, and what the cells that all share held behind it
pub record End : Type 0 where
  pub program : Program
  pub plan : Plan
  pub memory : List ℤ

-- its memory is the sequential program's last one
abbrev pub IsLast : End → Type 0
IsLast e = e.memory ≡ last_memory (tree_of e.program)

-- how it is stored in proofs
abbrev pub end_code : Coded End
end_code =
    code_by (Program × (Plan × List ℤ)) (coded× programs.the_row.coded
    (coded× plans.the_row.coded (coded_list coded_ℤ))) (λ e. (e.program, (e.plan, e.memory)))
    (λ x. record { program = x.0; plan = x.1.0; memory = x.1.1 }) (λ _. refl)
