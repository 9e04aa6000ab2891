use Rattle.plan_text.proofs.PlanLaws.{read_back}
use Rattle.plan_text.proofs.laws.read_back.Goals as goal

pub returns : goal.returns
returns c = read_back
