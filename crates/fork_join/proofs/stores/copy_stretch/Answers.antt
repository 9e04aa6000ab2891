use Rattle.std.proofs.Common.{◌+◌, pos, get_or, set, w64, FitsSigned, ap, sym, ◌∙◌, rules}
use Rattle.std.proofs.lemmas.Int.{to_z-of_z}
use Rattle.fork_join.proofs.Laying.{laid_next}
use Rattle.fork_join.proofs.stores.copy_stretch.Goals as goal

pub loop-k-preserved : goal.loop-k-preserved
loop-k-preserved c =
    let first = c.args.first in
    let k = c.loop-k.k in
    let values = c.args.values.now in
    let v = get_or values (first + k) (pos 0) in
    let fits : FitsSigned w64 v = search rules in
    ap (set c.loop-k.memory (first + k)) (to_z-of_z w64 v fits) ∙ ap (λ m. set m (first + k) v) c.loop-k.invariant ∙ sym (laid_next first k values c.args.memory.now)
