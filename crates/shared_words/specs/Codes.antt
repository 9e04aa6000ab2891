-- How the values that contracts see of a table, its seats and its end are stored in proofs.
use Rattle.std.specs.Prelude.{ℕ, ℤ, List, Option, refl}
use Rattle.std.specs.Coded.{Coded, code_by, coded×, coded_ℕ, coded_ℤ, coded_list, coded_option}
use Rattle.atomic_table.specs.Seated.{TableId, table_id_coded}
use Rattle.nest_tree.specs.contracts.program.Program as programs
use Rattle.sync_plan.specs.contracts.plan.Plan as plans
use Rattle.spmd_model.specs.contracts.style.Style as styles
use Rattle.shared_words.specs.contracts.roles.Stage as stages
use Rattle.shared_words.specs.declared.roles.Stage.{Stage}
use Rattle.shared_words.specs.Homes.{Home, CellView, MainView, Subject}
use Rattle.shared_words.specs.Ends.{End}

abbrev pub given_code : Coded (Option Subject)
given_code =
    coded_option (coded× programs.the_row.coded (coded× plans.the_row.coded styles.the_row.coded))

abbrev pub home_code : Coded Home
home_code = code_by (TableId × (Option Subject × List ℕ))
    (coded× table_id_coded (coded× given_code (coded_list coded_ℕ)))
    (λ h. (h.table, (h.given, h.known))) (λ x. record { table = x.0; given = x.1.0; known = x.1.1 })
    (λ _. refl)

abbrev pub cell_view_code : Coded CellView
cell_view_code =
    code_by (Home × (ℕ × (ℕ × (ℕ × ℕ)))) (coded× home_code
    (coded× coded_ℕ (coded× coded_ℕ (coded× coded_ℕ coded_ℕ))))
    (λ v. (v.home, (v.processor, (v.position, (v.misses, v.seen)))))
    (λ x. record {
      home = x.0;
      processor = x.1.0;
      position = x.1.1.0;
      misses = x.1.1.1.0;
      seen = x.1.1.1.1;
    }) (λ _. refl)

abbrev pub main_view_code : Coded MainView
main_view_code = code_by (Home × List Stage) (coded× home_code (coded_list stages.the_row.coded))
    (λ v. (v.home, v.stages)) (λ x. record { home = x.0; stages = x.1 }) (λ _. refl)

abbrev pub end_code : Coded End
end_code =
    code_by (Option Subject × (List Stage × List ℤ))
    (coded× given_code (coded× (coded_list stages.the_row.coded) (coded_list coded_ℤ)))
    (λ e. (e.given, (e.stages, e.memory)))
    (λ x. record { given = x.0; stages = x.1.0; memory = x.1.1 }) (λ _. refl)
