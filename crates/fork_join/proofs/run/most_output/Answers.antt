use Rattle.std.proofs.Common.{◌≡◌, ℕ, Bool, List, Option, IfSome, length, sum_by, ap, ◌∙◌, subst}
use Rattle.nest_tree.specs.View.{statements_from, tree_of}
use Rattle.nest_model.specs.Visits.{visits}
use Rattle.nest_walk.specs.Walks.{enters_but}
use Rattle.seq_meaning.proofs.RunSteps.{written_back}
use Rattle.instance_runs.specs.Rooms.{AreSilent, visit_room}
use Rattle.instance_runs.proofs.Silent.{room_of_walk}
use Rattle.fork_join.proofs.run.most_output.Goals as goal

pub returns : goal.returns
returns c =
    let tree = tree_of c.args.program.now in
    let back = written_back c.in_ok-closed.closed.len c.open_printing.new.closed c.in_ok-closed.closed.items c.in_ok-closed.closed.ok.0 (c.open_printing.auto.closed ∙ ap (λ (l : List Bool). length l) c.deref_mut.ensures.value) in
    let silent = subst (λ xs. AreSilent c.open_printing.new.closed (statements_from xs)) c.deref.ensures.value c.open_printing.ensures.silent in
    let walked = subst (λ (o : Option ℕ). IfSome o (λ n. n ≡ sum_by (visit_room tree) (visits tree (enters_but c.deref-2.result.now)))) c.in_ok-room.ensures.ok_part c.longest_output.ensures in
    walked ∙ ap (λ marks. sum_by (visit_room tree) (visits tree (enters_but marks))) (c.deref-2.ensures.value ∙ back) ∙ room_of_walk tree c.open_printing.new.closed silent
