use Rattle.std.proofs.Common.{sym, subst, ◌++◌, ◌+◌, map, take}
use Rattle.std.specs.List.{AllZip}
use Rattle.nest_tree.specs.View.{tree_of}
use Rattle.plan_maker.proofs.Lists.{same_read}
use Rattle.reason_witness.specs.Asked.{serial_question}
use Rattle.reason_witness.specs.Reasons.{IsAnswer}
use Rattle.reason_witness.proofs.Told.{pushed}
use Rattle.reason_witness.proofs.weaker.Ground.push_loops.Goals as goal

pub loop-serial-preserved : goal.loop-serial-preserved
loop-serial-preserved c = λ qs old.
    let told = IsAnswer (tree_of c.args.self.now.program.now) c.args.self.now.plan.now in
    let i = c.loop-serial.serial-index in
    let loops = c.args.loops.now in
    subst (AllZip told (qs ++ map serial_question (take (i + 1) loops))) (sym c.in_ok-push.ensures.items)
    (pushed told serial_question qs loops i _ c.loop-serial.reasons.items c.in_ok-reason.reason c.loop-serial-test.true (same_read loops i _ _ c.loop-serial-test.true) (c.loop-serial.invariant qs old) (c.in_ok-reason.ensures c.args.self.now.plan.now))
