use Rattle.std.proofs.Common.{◌+◌, ◌∷◌, [], drop, ap, sym, ◌∙◌}
use Rattle.std.proofs.lemmas.List.{drop_more}
use Rattle.nest_rows.specs.declared.constraint.Constraint.{Constraint}
use Rattle.nest_rows.proofs.RowLists.{left-more}
use Rattle.nest_systems.proofs.rows.push_rows.Goals as goal

pub loop-constraint-preserved : goal.loop-constraint-preserved
loop-constraint-preserved c =
    let cs = c.args.constraints.now in
    let k = c.loop-constraint.constraint-index in
    let x = c.constraint-item.result in
    left-more cs c.args.system.now c.loop-constraint.system c.push_row.new.system (drop k cs) (x ∷ []) (drop (k + 1) cs) c.loop-constraint.invariant
    (drop_more cs k x c.loop-constraint-test.true ∙ ap (λ (y : Constraint). y ∷ drop (k + 1) cs) (sym c.constraint-item.is)) c.in_ok-push_row.ensures
