use Rattle.std.proofs.Common.{◌≡◌, ◌+◌, ◌-◌, ◌++◌, take, ap, sym, ◌∙◌, subst, arith}
use Rattle.std.specs.Prelude.{slice_get}
use Rattle.std.specs.List.{AllZip}
use Rattle.nest_walk.proofs.Grown.{AllZip-append}
use Rattle.plan_maker.specs.Bars.{IsLoopReason, all_attempts, open_loop, open_loops}
use Rattle.plan_maker.proofs.Attempts.{attempts_more}
use Rattle.plan_maker.proofs.Verdicts.{open_taken}
use Rattle.plan_maker.proofs.loops.loop_reasons.Goals as goal

pub loop-place-preserved : goal.loop-place-preserved
loop-place-preserved c = λ tree all.
    let marks = c.args.marks.now in
    let i = c.loop-place.place in
    let m = c.mark_in-mark.result in
    let old = c.loop-place.reasons.items in
    let number : i ≡ i + 1 - 1 = omega arith in
    let verdict = all (i + 1) c.verdict_in-verdict.result.now (omega arith) (ap (slice_get c.args.verdicts.now) (sym number) ∙ c.verdict_in-verdict.ensures) in
    let h = c.in_ok-push_reasons.ensures tree (i + 1) verdict in
    let split = ap (all_attempts tree) (open_taken marks i m c.mark_in-mark.ensures) ∙ attempts_more tree (open_loops 1 (take i marks)) (i + 1) m in
    subst (λ rs. AllZip (IsLoopReason tree) (all_attempts tree (open_loops 1 (take (i + 1) marks))) rs) (sym h.behind)
    (subst (λ tried. AllZip (IsLoopReason tree) tried (old ++ h.more)) (sym split)
    (AllZip-append (IsLoopReason tree) (all_attempts tree (open_loops 1 (take i marks))) (all_attempts tree (open_loop (i + 1) m)) old h.more (c.loop-place.invariant tree all) h.reasons))
