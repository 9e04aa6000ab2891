use Rattle.std.proofs.Common.{◌++◌, ◌*◌, length, refl, ap, sym, ◌∙◌, arith}
use Rattle.std.proofs.lemmas.List.FromFn.{length-range_with_len}
use Rattle.nest_tree.specs.View.{tree_of}
use Rattle.nest_walk.proofs.CellPlaces.{few_cells}
use Rattle.owner_partition.specs.Phases.{phases}
use Rattle.own_cells.specs.OwnCells.{cells_of}
use Rattle.turns.specs.CountersLeft.{counters_left}
use Rattle.turns.specs.Turns.{beginnings, first_standing, no_phase, turns_by}
use Rattle.turns.proofs.Beginnings.{all_begin}
use Rattle.turns.proofs.KnownOwn.{few_none, none_past, past_phases}
use Rattle.turns.proofs.Steps.{none_among}
use Rattle.turns.proofs.TurnLists.{no_rounds}
use Rattle.turns.proofs.turns.Turns.new.Goals as goal

pub returns-clause-sound : goal.returns-clause-sound
returns-clause-sound c =
    let tree = tree_of c.args.program.now in
    let plan = c.args.plan.now in
    let all = phases tree plan.cut.marks in
    let none = none_past tree plan no_phase (past_phases tree plan c.args.program.now.formed) in
    let count = ap length (ap beginnings c.new.ensures.turns ∙ all_begin tree plan c.args.processor 1 all) ∙ length-range_with_len 1 (length all) in
    record {
      formed = c.args.program.now.formed;
      fits = c.requires.fits;
      worker = c.requires.worker;
      few_cells = few_cells tree c.args.program.now.limits;
      sound = c.new.ensures.sound;
      same_tree = c.new.ensures.program;
      same_plan = c.new.ensures.plan;
      same_processor = c.new.ensures.processor;
      has = c.has_own-has_own.ensures;
      watched = c.is_watched.ensures plan c.has_own-has_own.ensures;
      own = record {
        few = few_none tree plan no_phase none;
        cells = record { private_cells = c.none.ensures.privates ∙ sym (ap (cells_of tree) none.privates); sums = c.none.ensures.sums ∙ sym none.sums; sum_cells = c.none.ensures.sum_cells ∙ sym (ap (cells_of tree) none.sums) };
        loop = none.privates;
        among = λ k is. none_among k is;
      };
      all_steps = ap (λ n. n * 2) c.rounds_of-steps.ensures.rounds;
      within = omega arith;
      first_low = omega arith;
      few_barriers = λ w. omega (arith, count, c.new.ensures.few);
      unwatched = λ w. record { no_place = refl; none = refl; no_round = refl };
      arrives = λ w. refl;
    }

pub returns-clause-turns : goal.returns-clause-turns
returns-clause-turns c =
    let plan = c.args.plan.now in
    let turns = turns_by c.args.style (tree_of c.args.program.now) plan c.args.processor first_standing in
    let steps = c.rounds_of-steps.result * 2 in
    ap (λ l. l ++ turns (counters_left c.new.result)) (no_rounds plan.workers c.args.processor 1 steps steps refl) ∙ ap turns c.new.ensures.turns

pub returns-clause-begins : goal.returns-clause-begins
returns-clause-begins c =
    let tree = tree_of c.args.program.now in
    let marks = c.args.plan.now.cut.marks in
    ap beginnings c.new.ensures.turns ∙ all_begin tree c.args.plan.now c.args.processor 1 (phases tree marks)
