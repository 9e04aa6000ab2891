use Rattle.std.proofs.Common.{◌+◌, ◌++◌, map, take, ap, sym, ◌∙◌, arith}
use Rattle.std.proofs.lemmas.List.{map-append}
use Rattle.nest_tree.specs.View.{tree_of}
use Rattle.nest_tree.proofs.Good.{loops-few}
use Rattle.plan_maker.specs.Bars.{all_attempts, open_loop, open_loops}
use Rattle.plan_maker.proofs.Attempts.{attempts_more}
use Rattle.plan_maker.proofs.Verdicts.{open_taken}
use Rattle.reason_witness.specs.Reasons.{try_question}
use Rattle.reason_witness.proofs.asked.given_loops.Goals as goal

pub loop_count-place-end-requires : goal.loop_count-place-end-requires
loop_count-place-end-requires c = omega (arith, loops-few (tree_of c.args.program.now) c.args.program.now.formed)

pub loop-place-preserved : goal.loop-place-preserved
loop-place-preserved c =
    let tree = tree_of c.args.program.now in
    let marks = c.as_slice-marks.result.now in
    let i = c.loop-place.place in
    let m = c.mark_in-mark.result in
    let before = all_attempts tree (open_loops 1 (take i marks)) in
    let here = all_attempts tree (open_loop (i + 1) m) in
    let split = ap (all_attempts tree) (open_taken marks i m c.mark_in-mark.ensures) ∙ attempts_more tree (open_loops 1 (take i marks)) (i + 1) m in
    c.in_ok-push_open.ensures ∙ ap (λ qs. qs ++ map try_question here) c.loop-place.invariant ∙ sym (map-append try_question before here) ∙ ap (map try_question) (sym split)
