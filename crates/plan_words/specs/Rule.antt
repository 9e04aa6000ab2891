-- The commands that are offered, as the rules of `clap` that words are read by.
use Rattle.std.specs.Prelude.{[], Some, codes}
use Rattle.clap.specs.Words.{App, Rule, new_app, new_rule, with_rule, with_subcommand}
use Rattle.clap.specs.declared.builder.action.ArgAction.TheVariants.{SetTrue}
use Rattle.command_words.specs.Rule.{option_rule, required_rule, settings_rule, top_shape}

-- an option without a value
abbrev pub json_rule : Rule
json_rule = record (new_rule (codes "json")) { long = Some (codes "json"); action = Some SetTrue }

abbrev pub explain_app : App
explain_app = with_rule (with_rule (with_rule
    (with_rule (new_app (codes "explain")) (option_rule (codes "workers")))
    (option_rule (codes "plan"))) json_rule) settings_rule

abbrev pub systems_app : App
systems_app = with_rule (with_rule (with_rule (new_app (codes "systems"))
    (option_rule (codes "workers"))) (option_rule (codes "plan"))) settings_rule

abbrev pub emit_app : App
emit_app = with_rule (with_rule (with_rule (new_app (codes "emit"))
    (required_rule (codes "workers"))) (option_rule (codes "plan"))) settings_rule

abbrev pub plan_app : App
plan_app = with_subcommand (with_subcommand
    (with_subcommand (record { top = top_shape; subs = [] }) explain_app.top) systems_app.top)
    emit_app.top
