use Rattle.plan_text.proofs.PlanLaws.{text_front, text_whole}
use Rattle.plan_text.proofs.laws.no_front.Goals as goal

pub returns : goal.returns
returns c = λ x y behind hx hy e. (text_front x y behind hx hy e, text_whole x y behind hx hy e)
