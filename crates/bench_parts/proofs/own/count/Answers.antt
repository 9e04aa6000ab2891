use Rattle.std.proofs.Common.{[], ◌∷◌, ◌++◌, append_assoc, length-append, ap, sym, ◌∙◌, arith}
use Rattle.owner_partition.specs.PhasesLeft.{phases_left}
use Rattle.bench_parts.proofs.own.count.Goals as goal

pub phases-preserved : goal.phases-preserved
phases-preserved c =
    let (before, all, passed) = c.phases.invariant.taken in
    let (v, left, last, is) = c.in-Some.ensures.phase in
    let long = length-append before (v ∷ []) in
    record {
      tree = c.in-Some.ensures.program ∙ c.phases.invariant.tree;
      enters = c.in-Some.ensures.enters ∙ c.phases.invariant.enters;
      taken = (before ++ v ∷ [], all ∙ ap (λ vs. before ++ vs) left ∙ sym (append_assoc before (v ∷ []) (phases_left c.next.new.self)), omega (arith, c.in-Some.ensures.passed, passed, long));
    }
