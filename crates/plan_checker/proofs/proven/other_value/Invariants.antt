use Rattle.std.proofs.Common.{◌≡◌, ◌+◌, ◌*◌, drop, map}
use Rattle.nest_tree.specs.declared.tree.Parameter.{Parameter}
use Rattle.sync_plan.specs.Fit.{unmet_among}
use Rattle.plan_checker.specs.Proved.{value_rows}
use Rattle.plan_checker.proofs.proven.other_value.Given as goal

abbrev pub invariant-loop-place : goal.invariant-loop-place
invariant-loop-place l =
    let values = map (λ (p : Parameter). p.value) l.values in
    let others = map (λ (p : Parameter). p.value) l.others in
    unmet_among (2 * l.place + 1) others (value_rows (l.place + 1) (drop l.place values)) ≡ unmet_among 1 others (value_rows 1 values)
