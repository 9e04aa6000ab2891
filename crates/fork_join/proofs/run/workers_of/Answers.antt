use Rattle.std.proofs.Common.{◌∷◌, [], length, length-append, sym, ap, subst, arith}
use Rattle.list_lemmas.proofs.Appending.{pushed_all}
use Rattle.nest_tree.specs.View.{tree_of}
use Rattle.crossbeam_utils.specs.declared.cache_padded.CachePadded.{CachePadded}
use Rattle.crossbeam_utils.specs.Padded.{padded_value}
use Rattle.fork_join.specs.Workers.{IsAt}
use Rattle.fork_join.specs.declared.worker.Worker.{Worker}
use Rattle.fork_join.proofs.run.workers_of.Goals as goal

pub loop-p-preserved : goal.loop-p-preserved
loop-p-preserved c =
    let tree = tree_of c.args.lent.program.now in
    let plan = c.args.lent.plan.now in
    let x = c.new-in-loop-p.result in
    let here = subst (IsAt tree plan 0 c.loop-p.p) (sym c.new-in-loop-p.ensures) c.in_ok-new.ensures in
    let inv = c.loop-p.invariant in
    let is = c.in_ok-push.ensures.items in
    record {
      count = omega (arith, ap length is, length-append c.loop-p.workers.items (x ∷ []), inv.count);
      at = pushed_all (λ p (w : CachePadded Worker). IsAt tree plan 0 p (padded_value w)) c.loop-p.workers.items c.push.new.self.items x c.loop-p.p inv.count is inv.at here;
    }
