use Rattle.std.proofs.Common.{IfSome, subst}
use Rattle.plan_maker.specs.Found.{IsFound}
use Rattle.plan_maker.proofs.decided.find_behind.Goals as goal

pub returns-in-Some : goal.returns-in-Some
returns-in-Some c = λ order decided. subst (λ o. IfSome o (IsFound c.args.system.now order)) c.in-Some.is (c.in_ok-found-in-Kept.ensures order)
