use Rattle.std.proofs.Common.{rules, ◌≡◌, ◌∙◌, ap}
use Rattle.std.specs.Prelude.{Some, codes}
use Rattle.clap.specs.Lexer.{usize_max}
use Rattle.clap.specs.Words.{Rule, new_rule, rule_of}
use Rattle.command_words.proofs.commands.sizes.Goals as goal

pub returns-clause-rule : goal.returns-clause-rule
returns-clause-rule c =
    let ranged : rule_of c.num_args.result ≡ record (new_rule (codes "sizes")) { range = Some (record { start_inclusive = 1; end_inclusive = usize_max }) } = search rules in
    ap rule_of c.help.ensures ∙ (ap rule_of c.value_name.ensures ∙ ap (λ (r : Rule). record r { value_names = 1 }) ranged)
