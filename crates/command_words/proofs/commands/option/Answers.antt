use Rattle.std.proofs.Common.{rules, ◌≡◌, ◌∙◌, ap}
use Rattle.std.specs.Prelude.{Some}
use Rattle.clap.specs.Words.{Rule, new_rule, rule_of}
use Rattle.command_words.proofs.commands.option.Goals as goal

pub returns-clause-rule : goal.returns-clause-rule
returns-clause-rule c =
    let long : rule_of c.long.result ≡ record (new_rule c.args.name.now) { long = Some c.args.name.now } = search rules in
    ap rule_of c.help.ensures ∙ (ap rule_of c.value_name.ensures ∙ ap (λ (r : Rule). record r { value_names = 1 }) long)
