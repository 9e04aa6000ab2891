use Rattle.std.proofs.Common.{subst}
use Rattle.comm_system.specs.SystemViews.{about}
use Rattle.plan_maker.specs.Judged.{IsJudgement, asked_about}
use Rattle.plan_maker.proofs.Questions.{one_said}
use Rattle.plan_maker.proofs.judge.judge_single.Goals as goal

pub returns-in-Kept : goal.returns-in-Kept
returns-in-Kept c = λ whole is widens.
    let asked = asked_about c.args.dists.now (about c.args.topic whole) in
    let said = subst (IsJudgement asked) c.in-Kept.is (c.in_ok-certificate.ensures whole is widens) in
    one_said asked c.in-Kept.cause said
