use Rattle.std.proofs.Common.{◌≡◌, ℕ, Bool, List, Option, IfSome, length, map, sum_by, ap, sym, ◌∙◌, subst}
use Rattle.std.proofs.lemmas.List.{take_all}
use Rattle.nest_tree.specs.View.{statements_from, tree_of}
use Rattle.nest_tree.specs.declared.tree.Parameter.{Parameter}
use Rattle.nest_model.specs.Visits.{visits}
use Rattle.nest_walk.specs.Walks.{enters_but}
use Rattle.nest_walk.proofs.CursorMoves.{values_are}
use Rattle.seq_meaning.proofs.RunSteps.{written_back}
use Rattle.instance_runs.specs.Rooms.{AreSilent, visit_room}
use Rattle.instance_runs.proofs.Silent.{room_of_walk}
use Rattle.spmd_workers.proofs.tables.Tables.new.Goals as goal

pub invariant_of-result : goal.invariant_of-result
invariant_of-result c =
    let tree = tree_of c.args.program.now in
    let all = take_all c.loop-parameter.parameter-index c.deref-parameter-items.result.now c.loop-parameter-test.false in
    let back = written_back c.in_ok-closed.closed.len c.open_printing.new.closed c.in_ok-closed.closed.items c.in_ok-closed.closed.ok.0 (c.open_printing.auto.closed ∙ ap (λ (l : List Bool). length l) c.deref_mut.ensures.value) in
    let silent = subst (λ xs. AreSilent c.open_printing.new.closed (statements_from xs)) c.deref.ensures.value c.open_printing.ensures.silent in
    let walked = subst (λ (o : Option ℕ). IfSome o (λ n. n ≡ sum_by (visit_room tree) (visits tree (enters_but c.deref-2.result.now)))) c.in_ok-room.ensures.ok_part c.longest_output.ensures in
    record {
      formed = c.args.program.now.formed;
      limits = c.args.program.now.limits;
      ranges = c.requires.ranges;
      fits = c.requires.fits;
      cells = c.in_ok-cells.ensures;
      given = c.loop-parameter.invariant ∙ ap (map (λ (p : Parameter). p.value)) (all ∙ c.deref-parameter-items.ensures.value) ∙ sym (values_are c.args.program.now.params.items);
      long = walked ∙ ap (λ marks. sum_by (visit_room tree) (visits tree (enters_but marks))) (c.deref-2.ensures.value ∙ back) ∙ room_of_walk tree c.open_printing.new.closed silent;
    }
