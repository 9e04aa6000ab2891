use Rattle.std.proofs.Common.{◌<◌, ℕ, List, length, replicate, refl, sym, ◌∙◌, ap, subst, arith, sum_by}
use Rattle.std.specs.Prelude.{pos}
use Rattle.nest_tree.specs.View.{tree_of}
use Rattle.nest_walk.proofs.CellPlaces.{few_cells}
use Rattle.owner_partition.specs.Phases.{phases}
use Rattle.spmd_model.specs.declared.style.Style.TheVariants.{Arrive}
use Rattle.turns.specs.CounterTurns.{counter_room, counter_turns}
use Rattle.turns.proofs.PhaseSums.{all_inside}
use Rattle.turns.specs.Turns.{first_standing, turns_by}
use Rattle.turns.proofs.TurnLists.{none_places}
use Rattle.fork_join.specs.Cursors.{IsShut}
use Rattle.fork_join.specs.Joins.{HoldsOwn, all_deeds}
use Rattle.fork_join.specs.Workers.{Runs, turns_behind}
use Rattle.fork_join.proofs.Shutting.{shut_deeds}
use Rattle.fork_join.proofs.Working.{all_there, first_room, holds_none}
use Rattle.fork_join.proofs.worker.Worker.new.Goals as goal

pub returns : goal.returns
unfolding all_deeds
returns c =
    let tree = tree_of c.args.lent.program.now in
    let plan = c.args.lent.plan.now in
    let p = c.args.processor in
    let safe = c.requires.safe in
    let turns = c.new.ensures in
    let d = c.new.result in
    let x = c.in_ok-new.field-0 in
    let made = c.in_ok-new.ensures in
    let stores = c.in_ok-new-2.ensures in
    let none = ap (λ (l : List ℕ). length l) made.output in
    let room = made.room in
    let count = stores.cells in
    let cells = c.cell_count.ensures in
    let few = few_cells tree c.args.lent.program.now.limits in
    let shut : IsShut d = record {
      standing = first_standing;
      none = none_places;
      unseen = λ off. (refl, refl);
      is = turns.turns ∙ λ i. turns_by Arrive (sym turns.program i) (sym turns.plan i) (sym turns.processor i) first_standing (sym turns.left i);
    } in
    let runs : Runs tree plan p (turns_behind tree plan 0 p) 0 d x = record {
      sound = turns.sound;
      program = turns.program;
      plan_is = turns.plan;
      processor = turns.processor;
      turns = turns.left;
      inside = all_inside tree plan p safe.ranges;
      there = all_there tree plan p safe.formed safe.ranges;
      deeds = sym (shut_deeds tree plan safe 0 p c.requires.below d turns.program turns.plan turns.processor turns.left shut);
      within = omega arith;
      idle = safe.laws.empty_first p;
      can = made.can;
      executor = made.program;
      output = made.output ∙ sym (safe.laws.printed_first p);
      fits = omega (arith, none);
      room = λ first.
          let below = c.requires.below in
          let some : 0 < plan.workers = omega (arith, below) in
          let most = first_room tree plan some in
          let all = ap (λ q. sum_by (counter_room tree) (counter_turns tree plan q 1 (phases tree plan.cut.marks))) first in
          let wide = c.requires.room first in
          omega (arith, none, room, most, all, wide);
    } in
    record {
      stands = record {
        program = refl;
        plan_is = refl;
        processor = refl;
        runs = subst (λ k. Runs tree plan p (turns_behind tree plan 0 p) k d x) (sym c.new-4.ensures) runs;
        kept = stores.kept;
        cells = omega (arith, count, cells, few);
        holds = subst (HoldsOwn tree plan p (replicate 32 (pos 0))) (sym c.new-4.ensures) (holds_none tree plan p (replicate 32 (pos 0)) refl);
      };
      none = stores.none;
      shut = shut;
    }
