use Rattle.sync_plan.specs.Own.{own_loop}
use Rattle.turns.specs.TurnsLeft.{turns_place, turns_plan, turns_tree}
use Rattle.std.proofs.Common.{sym, subst}
use Rattle.own_cells.specs.OwnCells.{AreOwnCells}
use Rattle.own_cells.specs.declared.cells.OwnCells.{OwnCells}
use Rattle.spmd_workers.proofs.walk.Walk.work.Goals as goal

pub work_by-requires-clause-fits : goal.work_by-requires-clause-fits
work_by-requires-clause-fits c =
    let t = c.args.self.now.turns in
    let own = own_loop (turns_tree t) (turns_plan t) (turns_place t) in
    let known = subst (λ (o : OwnCells). AreOwnCells (turns_tree t) own o) (sym c.own_cells.ensures) c.requires.ready.sound.own.cells in
    let none = c.is_empty.ensures (turns_tree t) own known c.if-is_empty.true in
    record { privates = none.0; sums = none.1 }

pub work_by-requires-else-is_empty-clause-fits : goal.work_by-requires-else-is_empty-clause-fits
work_by-requires-else-is_empty-clause-fits c = c.requires.ready.sound.own.cells
