use Rattle.std.proofs.Common.{sym, ◌∙◌, ap, subst}
use Rattle.shared_words.specs.Ends.{End, HasEnded}
use Rattle.shared_words.specs.Homes.{protocol_given}
use Rattle.spmd_answer.proofs.Left.{spmd_left}
use Rattle.spmd_answer.proofs.run.spmd_run.Goals as goal

pub returns-clause-receipt : goal.returns-clause-receipt
returns-clause-receipt g c =
    let ran = c.in_ok-closed in
    let same = c.into_receipt.ensures in
    spmd_left c.args.style c.args.program.now c.args.plan.now c.into_receipt.result (ap (λ (x : End). x.given) same ∙ ran.ensures.given)
    (ap (λ (x : End). x.memory) same ∙ (ran.ensures.last ∙ ap (λ g. (protocol_given g).last) ran.ensures.given)) (subst HasEnded (sym same) ran.ensures.ended)
