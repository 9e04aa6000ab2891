use Rattle.std.proofs.Common.{rules, ◌∙◌, ap, ap₂}
use Rattle.clap.specs.Words.{with_rule}
use Rattle.clap.specs.Simple.{app_of_fields}
use Rattle.plan_words.proofs.commands.explain.Goals as goal

pub returns-clause-app : goal.returns-clause-app
returns-clause-app c =
    let one = c.in_ok-arg.ensures.shape c.perhaps_workers.ensures.local ∙ ap₂ with_rule c.new.ensures.app c.perhaps_workers.ensures.rule in
    let two = c.in_ok-arg-2.ensures.shape c.plan.ensures.local ∙ ap₂ with_rule one c.plan.ensures.rule in
    let three = c.in_ok-arg-3.ensures.shape c.json.ensures.local ∙ ap₂ with_rule two c.json.ensures.rule in
    ap app_of_fields c.about.ensures ∙ (c.in_ok-command.ensures.shape c.settings.ensures.local ∙ ap₂ with_rule three c.settings.ensures.rule)

pub returns-clause-local : goal.returns-clause-local
returns-clause-local c = search rules
