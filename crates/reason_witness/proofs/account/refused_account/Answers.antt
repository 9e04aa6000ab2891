use Rattle.std.proofs.Common.{[], ◌∷◌, ◌++◌, ap, refl, sym, ◌∙◌, subst}
use Rattle.std.specs.List.{AllZip}
use Rattle.nest_tree.specs.View.{tree_of}
use Rattle.reason_witness.specs.Reasons.{IsAnswer, refusal_question, refused}
use Rattle.reason_witness.specs.declared.account.About.TheVariants.{Refused}
use Rattle.reason_witness.specs.declared.account.Reason.{Reason}
use Rattle.reason_witness.specs.declared.account.Why.TheVariants.{Found}
use Rattle.reason_witness.specs.declared.found.Wanted.TheVariants.{Number}
use Rattle.reason_witness.proofs.account.refused_account.Goals as goal

pub returns-clause-reasons : goal.returns-clause-reasons
returns-clause-reasons c =
    let q = refusal_question c.args.number in
    let r : Reason = record { about = Refused c.args.number; wanted = Number c.args.number; why = Found c.in_ok-found.found } in
    let items = c.in_ok-push.ensures.items ∙ ap (λ rs. rs ++ r ∷ []) c.new-reasons.ensures.items in
    refused c.args.number c.requires.refused (subst (AllZip (IsAnswer (tree_of c.args.program.now) c.args.plan) (q ∷ [])) (sym items) (record { about = refl; wanted = refl; why = c.in_ok-found.ensures }, tt))
