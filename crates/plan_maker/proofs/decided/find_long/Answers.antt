use Rattle.std.proofs.Common.{IfSome, subst}
use Rattle.fm_elim.specs.Advances.{order_of}
use Rattle.fm_elim.specs.Answers.{IsDecided}
use Rattle.plan_maker.specs.Found.{IsFound}
use Rattle.plan_maker.proofs.decided.find_long.Goals as goal

pub returns-in-Some : goal.returns-in-Some
returns-in-Some c = subst (λ o. IfSome o (IsFound c.args.system.now (order_of c.args.level))) c.in-Some.is (c.in_ok-found.ensures (order_of c.args.level))

pub returns-in_ok-answer-in-None : goal.returns-in_ok-answer-in-None
returns-in_ok-answer-in-None c =
    let order = order_of c.args.level in
    c.found_by.ensures c.args.system.now order (subst (λ s. IsDecided s order c.in_ok-answer-in-None.field-0) c.requires.system c.in_ok-answer-in-None.ensures)
