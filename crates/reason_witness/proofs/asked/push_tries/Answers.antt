use Rattle.std.proofs.Common.{◌++◌, map, ap, ◌∙◌}
use Rattle.std.proofs.lemmas.List.{take_all}
use Rattle.nest_tree.specs.View.{tree_of}
use Rattle.plan_maker.specs.Bars.{attempt}
use Rattle.reason_witness.specs.Asked.{serial_question}
use Rattle.reason_witness.specs.Reasons.{try_question}
use Rattle.reason_witness.proofs.Questions.{tries_there}
use Rattle.reason_witness.proofs.asked.push_tries.Goals as goal

pub returns : goal.returns
returns c =
    let tree = tree_of c.args.program.now in
    let n = c.args.number in
    let tries = c.as_slice-tried-items.result.now in
    let all = take_all c.loop-tried.tried-index tries c.loop-tried-test.false ∙ c.as_slice-tried-items.ensures.value ∙ c.in_ok-tries.ensures ∙ tries_there tree n c.args.program.now.formed c.requires.some c.requires.there in
    c.loop-tried.invariant ∙ ap (λ ts. map serial_question c.args.loops.now.items ++ map try_question (map (attempt n) ts)) all
