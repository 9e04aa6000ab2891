use Rattle.std.proofs.Common.{List, subst}
use Rattle.nest_tree.specs.View.{tree_of}
use Rattle.turns.specs.CounterTurns.{CounterTurn}
use Rattle.fork_join.specs.Workers.{Runs}
use Rattle.fork_join.proofs.Walking.{begun_works}
use Rattle.fork_join.proofs.walk.execute.Goals as goal

pub repeat_next-requires-clause-walks : goal.repeat_next-requires-clause-walks
repeat_next-requires-clause-walks c =
    let o = c.args.overlay.now in
    let tree = tree_of o.program.now in
    let own = begun_works tree o.plan.now o.behind o.processor c.requires.some in
    record { left = own.0; runs = subst (λ (l : List CounterTurn). Runs tree o.plan.now o.processor l o.done.done c.args.turns.now c.args.executor.now) own.1 c.requires.runs }
