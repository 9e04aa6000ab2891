use Rattle.std.proofs.Common.{IfOk, subst, ◌∙◌}
use Rattle.c_text.specs.Files.{EndsWithPlan}
use Rattle.plan_tool.proofs.emit.text_of.Goals as goal

pub returns : goal.returns
returns c = subst (λ text. IfOk c.write_c.result (λ file. EndsWithPlan text file.items)) (c.deref.ensures.value ∙ c.in_ok-plan_text.ensures) c.write_c.ensures
