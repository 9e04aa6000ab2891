-- The instances of the phases, one phase behind another, are those of the program.
use Rattle.std.proofs.Common.{◌≡◌, ℕ, suc, ◌+◌, ℤ, List, [], ◌∷◌, ◌++◌, map, refl, ap, ◌∙◌}
use Rattle.std.specs.List.{flat_map}
use Rattle.nest_tree.specs.Tree.{Tree, param_values}
use Rattle.nest_model.specs.Instances.{Instance, instances, no_values}
use Rattle.nest_model.specs.Visits.{Visit}
use Rattle.nest_model.proofs.Visited.{all_visited}
use Rattle.owner_partition.specs.declared.cut.Mark.{Mark}
use Rattle.owner_partition.specs.Marks.{enters_outer}
use Rattle.owner_partition.specs.Phases.{Execution, executions, executions_from, visit_instances, phases}

abbrev instance_in : Execution → Instance
instance_in x = x.instance

-- an instance in its phase is the instance
stripped : (e place : ℕ) (is : List Instance) (rest : List Execution) → map instance_in (map (λ i. record { phase = e; place = place; instance = i }) is ++ rest) ≡ is ++ map instance_in rest
stripped e place [] rest = refl
stripped e place (i ∷ is) rest = ap (λ xs. i ∷ xs) (stripped e place is rest)

executed : (params : List ℤ) (e : ℕ) (vs : List Visit) → map instance_in (executions_from params e vs) ≡ flat_map (visit_instances params) vs
executed params e [] = refl
executed params e (v ∷ vs) = stripped e v.place (visit_instances params v) (executions_from params (suc e) vs) ∙ ap (λ xs. visit_instances params v ++ xs) (executed params (suc e) vs)

pub all_executed : (tree : Tree) (marks : List Mark) → map instance_in (executions tree marks) ≡ instances tree
all_executed tree marks =
    executed (param_values tree) 1 (phases tree marks) ∙ all_visited (param_values tree) (enters_outer marks) tree.items 1 1 (no_values tree)
