use Rattle.std.proofs.Common.{sym, subst, ◌++◌, ◌+◌, map, take}
use Rattle.std.specs.List.{AllZip}
use Rattle.nest_tree.specs.View.{tree_of}
use Rattle.reason_witness.specs.Asked.{candidate_question}
use Rattle.reason_witness.specs.Reasons.{IsAnswer}
use Rattle.reason_witness.proofs.Told.{pushed}
use Rattle.reason_witness.proofs.weaker.Ground.push_phases.Goals as goal

pub loop-candidate-preserved : goal.loop-candidate-preserved
loop-candidate-preserved c = λ qs old.
    let told = IsAnswer (tree_of c.args.self.now.program.now) c.args.self.now.plan.now in
    let i = c.loop-candidate.candidate-index in
    let phases = c.args.phases.now in
    subst (AllZip told (qs ++ map candidate_question (take (i + 1) phases))) (sym c.in_ok-push.ensures.items)
    (pushed told candidate_question qs phases i c.candidate-item.result c.loop-candidate.reasons.items c.in_ok-reason.reason c.loop-candidate-test.true (sym c.candidate-item.is) (c.loop-candidate.invariant qs old) c.in_ok-reason.ensures)
