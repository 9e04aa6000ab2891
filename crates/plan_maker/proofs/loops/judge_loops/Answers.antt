use Rattle.std.proofs.Common.{◌≡◌, ◌+◌, length, length-append, ap, sym, ◌∙◌, subst, arith}
use Rattle.nest_tree.specs.View.{tree_of}
use Rattle.nest_tree.proofs.Good.{loops-few}
use Rattle.plan_maker.specs.Loops.{AreLoopVerdicts, IsLoopVerdict}
use Rattle.plan_maker.proofs.Verdicts.{verdict_more}
use Rattle.plan_maker.proofs.loops.judge_loops.Goals as goal

pub loop_count-place-end-requires : goal.loop_count-place-end-requires
loop_count-place-end-requires c = omega (arith, loops-few (tree_of c.args.program.now) c.args.program.now.formed)

pub loop-place-preserved : goal.loop-place-preserved
loop-place-preserved c =
    let tree = tree_of c.args.program.now in
    let vs = c.loop-place.verdicts.items in
    let v = c.in_ok-judge_loop.field-0 in
    let items = c.in_ok-push.ensures.items in
    let number : c.loop-place.place + 1 ≡ length vs + 1 = ap (λ n. n + 1) (sym c.loop-place.invariant.long) in
    record {
      long = ap length items ∙ simp length-append (omega (arith, c.loop-place.invariant.long));
      all = subst (AreLoopVerdicts tree) (sym items) (verdict_more tree vs v c.loop-place.invariant.all (subst (λ n. IsLoopVerdict tree n v) number c.in_ok-judge_loop.ensures));
    }
