use Rattle.std.proofs.Common.{List, subst}
use Rattle.std.specs.List.{AllZip}
use Rattle.nest_tree.specs.View.{tree_of}
use Rattle.reason_witness.specs.Reasons.{IsAnswer, IsMadeAccount, Question, made}
use Rattle.reason_witness.proofs.Questions.{made_have}
use Rattle.reason_witness.proofs.account.made_account.Goals as goal

pub of_made-requires : goal.of_made-requires
of_made-requires c = made_have (tree_of c.args.program.now) c.args.workers c.in_ok-plan.plan c.in_ok-plan.made c.in_ok-plan.ensures

told : (c : goal.After-drop-made-3) → IsMadeAccount (tree_of c.args.program.now) c.args.workers (record { plan = c.in_ok-plan.plan; reasons = c.in_ok-reasons.reasons })
told c = record {
  reasons = c.in_ok-plan.made;
  made = c.in_ok-plan.ensures;
  told = subst (λ (qs : List Question). AllZip (IsAnswer (tree_of c.args.program.now) c.in_ok-plan.plan) qs c.in_ok-reasons.reasons.items) c.in_ok-asked.ensures c.in_ok-reasons.ensures;
}

pub returns-clause-account : goal.returns-clause-account
returns-clause-account c = told c

pub returns-clause-reasons : goal.returns-clause-reasons
returns-clause-reasons c = made c.args.workers (told c)
