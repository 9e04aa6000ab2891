use Rattle.std.proofs.Common.{ℤ, IsTrue, List, length, sym, subst}
use Rattle.std.specs.List.{list_all}
use Rattle.nest_tree.specs.WellFormed.{is_number_of, loops_of}
use Rattle.nest_walk.specs.Paths.{Round}
use Rattle.nest_walk.specs.RoundsOf.{rounds_of}
use Rattle.seq_meaning.proofs.RunSteps.{numbered_more}
use Rattle.instance_runs.specs.Executors.{executor_tree}
use Rattle.instance_runs.proofs.Wholes.{placed}
use Rattle.instance_runs.proofs.execute.Executor.execute.Goals as goal

pub write_to-requires : goal.write_to-requires
write_to-requires g c =
    let x = c.args.self.now in
    let rounds = rounds_of c.args.path.now in
    let there = placed (executor_tree x) c.args.path.now c.args.stop (g.D.Deeds.left c.args.deeds.now) c.requires.begins in
    let more = numbered_more (loops_of (executor_tree x).items) (length x.loops.items) rounds c.requires.can.loops there.numbered in
    subst (λ (xs : List ℤ). IsTrue (list_all (λ (r : Round). is_number_of (length xs) r.number) rounds)) (sym c.deref_mut.ensures.value) more
