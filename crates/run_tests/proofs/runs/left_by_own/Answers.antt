use Rattle.std.proofs.Common.{List, sym, ◌∙◌, subst}
use Rattle.crossbeam_utils.specs.declared.cache_padded.CachePadded.{CachePadded}
use Rattle.seq_meaning.proofs.RunSteps.{written_back as written_whole}
use Rattle.spmd_workers.specs.Teams.{AreOver, AreWorkersOf}
use Rattle.spmd_workers.specs.Workers.{WorkerView}
use Rattle.run_tests.proofs.runs.left_by_own.Goals as goal

pub gathered-output-requires-clause-workers : goal.gathered-output-requires-clause-workers
gathered-output-requires-clause-workers g c =
    let new = c.all_to_the_end.new.workers in
    let old = c.in_ok-workers.workers in
    let its = c.all_to_the_end.ensures.workers in
    let whole = written_whole old.len new old.items old.ok.0 (its.count ∙ sym c.in_ok-workers.ensures.workers.count) in
    subst (λ (l : List (CachePadded WorkerView)). AreWorkersOf c.in_ok-cells.cells l) (sym whole) its

pub gathered-output-requires-clause-over : goal.gathered-output-requires-clause-over
gathered-output-requires-clause-over g c = subst (λ (l : List (CachePadded WorkerView)). AreOver l) c.deref.ensures.value (c.have_ended.ensures.over c.if-not-have_ended.false)
