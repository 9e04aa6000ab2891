use Rattle.std.proofs.Common.{rules, ◌∙◌, ap, ap₂}
use Rattle.clap.specs.Words.{with_rule}
use Rattle.clap.specs.Simple.{app_of_fields}
use Rattle.command_words.proofs.commands.verify.Goals as goal

pub returns-clause-app : goal.returns-clause-app
returns-clause-app c =
    let one = c.in_ok-arg.ensures.shape c.option-sweep.ensures.local ∙ ap₂ with_rule c.new.ensures.app c.option-sweep.ensures.rule in
    ap app_of_fields c.about.ensures ∙ (c.in_ok-command.ensures.shape c.settings.ensures.local ∙ ap₂ with_rule one c.settings.ensures.rule)

pub returns-clause-local : goal.returns-clause-local
returns-clause-local c = search rules
