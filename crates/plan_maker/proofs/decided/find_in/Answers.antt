use Rattle.std.proofs.Common.{IfSome, subst}
use Rattle.fm_elim.specs.Advances.{order_of, system_of}
use Rattle.plan_maker.specs.Found.{IsFound, IsUnderway}
use Rattle.plan_maker.proofs.Judgements.{level_decided}
use Rattle.plan_maker.proofs.decided.find_in.Goals as goal

pub returns-in-Some : goal.returns-in-Some
returns-in-Some c = subst (λ o. IfSome o (IsFound c.args.system.now c.args.order.now)) c.in-Some.is (c.in_ok-found.ensures c.args.order.now)

pub returns-then-is_long : goal.returns-then-is_long
returns-then-is_long c =
    let system = c.args.system.now in
    let order = c.args.order.now in
    c.found_by.ensures system order (level_decided system order c.in_ok-level.level c.in_ok-answer.field-0 c.in_ok-level.ensures c.in_ok-answer.ensures)

pub returns-in-Answer : goal.returns-in-Answer
returns-in-Answer c =
    let system = c.args.system.now in
    let order = c.args.order.now in
    let level = c.in_ok-level-2.level in
    let there = subst (IsUnderway (system_of level) (order_of level)) c.in-Answer.is c.in_ok-level-3.ensures in
    c.find_behind.ensures order (level_decided system order level c.in-Answer.answer c.in_ok-level-2.ensures there)
