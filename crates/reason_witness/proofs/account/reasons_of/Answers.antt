use Rattle.std.proofs.Common.{[], ◌++◌, map, sym, subst}
use Rattle.std.specs.List.{AllZip}
use Rattle.nest_tree.specs.View.{tree_of}
use Rattle.reason_witness.specs.Asked.{candidate_question, serial_question}
use Rattle.reason_witness.specs.Reasons.{IsAnswer}
use Rattle.reason_witness.proofs.account.reasons_of.Goals as goal

pub returns : goal.returns
returns c =
    let told = IsAnswer (tree_of c.args.program.now) c.args.plan.now in
    let reasons = c.push_phases.new.reasons.items in
    let none = subst (AllZip told []) (sym c.new-reasons.ensures.items) tt in
    let first = c.in_ok-push_loops.ensures [] none in
    let all = c.in_ok-push_phases.ensures (map serial_question c.as_slice-4.result.now) first in
    let loops = subst (λ ls. AllZip told (map serial_question ls ++ map candidate_question c.as_slice-5.result.now) reasons) c.as_slice-4.ensures.value all in
    subst (λ ps. AllZip told (map serial_question c.args.asked.now.loops.items ++ map candidate_question ps) reasons) c.as_slice-5.ensures.value loops
