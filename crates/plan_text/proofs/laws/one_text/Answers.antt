use Rattle.std.proofs.Common.{append-nil, [], sym, ◌∙◌}
use Rattle.plan_text.specs.PlanText.{plan_text}
use Rattle.plan_text.proofs.PlanLaws.{text_front}
use Rattle.plan_text.proofs.laws.one_text.Goals as goal

pub returns : goal.returns
returns c = λ x y hx hy e. text_front x y [] hx hy (e ∙ sym (append-nil (plan_text y)))
