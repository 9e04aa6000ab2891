use Rattle.nest_tree.specs.View.{tree_of}
use Rattle.fork_join.proofs.OwnSeeing.{cells_here, none_found}
use Rattle.fork_join.proofs.walk.execute_here.Goals as goal

pub execute_by-requires-clause-fits : goal.execute_by-requires-clause-fits
execute_by-requires-clause-fits c =
    let o = c.args.overlay.now in
    none_found (tree_of o.program.now) o.plan.now o.processor _ o.done.done c.args.turns.now c.args.executor.now c.requires.walks.runs c.own_cells.result.now c.own_cells.ensures (λ tr lo cells. c.is_empty.ensures tr lo cells c.if-is_empty.true)

pub execute_by-requires-else-is_empty-clause-fits : goal.execute_by-requires-else-is_empty-clause-fits
execute_by-requires-else-is_empty-clause-fits c =
    let o = c.args.overlay.now in
    cells_here (tree_of o.program.now) o.plan.now o.processor _ o.done.done c.args.turns.now c.args.executor.now c.requires.walks.runs
