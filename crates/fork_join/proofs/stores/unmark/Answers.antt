use Rattle.std.proofs.Common.{false, ◌+◌, set, ap, sym, ◌∙◌}
use Rattle.fork_join.proofs.Laying.{unmarked_next}
use Rattle.fork_join.proofs.stores.unmark.Goals as goal

pub loop-k-preserved : goal.loop-k-preserved
loop-k-preserved c =
    let first = c.args.first in
    let k = c.loop-k.k in
    ap (λ m. set m (first + k) false) c.loop-k.invariant ∙ sym (unmarked_next first k c.args.stored.now)
