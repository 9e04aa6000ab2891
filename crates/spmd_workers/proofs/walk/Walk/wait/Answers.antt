use Rattle.std.proofs.Common.{sym, ◌∙◌, inr}
use Rattle.spmd_workers.proofs.walk.Walk.wait.Goals as goal

pub wait_for_all-requires-clause-boundary : goal.wait_for_all-requires-clause-boundary
wait_for_all-requires-clause-boundary c = sym (c.boundary.ensures c.args.wanted (inr (c.args.on, c.requires.next))) ∙ c.in-Barrier.is
