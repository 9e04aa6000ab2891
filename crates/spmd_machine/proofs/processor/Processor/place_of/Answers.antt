use Rattle.std.proofs.Common.{subst, sym, ◌∙◌, arith}
use Rattle.sync_plan.specs.Own.{own_loop}
use Rattle.own_cells.specs.OwnCells.{AreOwnCells}
use Rattle.turns.specs.TurnsLeft.{turns_plan, turns_tree}
use Rattle.turns.proofs.KnownOwn.{none_at}
use Rattle.spmd_model.proofs.NoOwnDeeds.{no_slot}
use Rattle.spmd_machine.proofs.processor.Processor.place_of.Goals as goal

pub overflow_cast-cell : goal.overflow_cast-cell
overflow_cast-cell c = omega (arith, c.requires.cell, c.requires.sound.few_cells)

pub returns-then-has_own : goal.returns-then-has_own
returns-then-has_own c =
    let t = c.args.self.now.turns in
    c.place_of.ensures (turns_tree t) (turns_plan t) t.place (subst (AreOwnCells (turns_tree t) (own_loop (turns_tree t) (turns_plan t) t.place)) (sym c.own_cells.ensures) c.requires.sound.own.cells)

pub returns-else-has_own : goal.returns-else-has_own
returns-else-has_own c =
    let t = c.args.self.now.turns in
    sym (no_slot (turns_tree t) (turns_plan t) t.place c.args.cell (none_at (turns_tree t) (turns_plan t) t.place (sym c.has_own.ensures ∙ c.if-has_own.false)))
