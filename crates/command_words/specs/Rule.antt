-- The commands that are offered, as the rules of `clap` that words are read by.
use Rattle.std.specs.Prelude.{true, [], Some, codes}
use Rattle.clap.specs.Lexer.{usize_max}
use Rattle.clap.specs.Words.{App, Rule, Shape, Text, new_app, new_rule, with_rule, with_subcommand}

-- words behind the options: settings, NAME=VALUE
abbrev pub settings_rule : Rule
settings_rule = record (new_rule (codes "settings")) {
  range = Some (record { start_inclusive = 1; end_inclusive = usize_max });
  value_names = 1;
}

-- an option with one value, which may stand once
abbrev pub option_rule : Text → Rule
option_rule name = record (new_rule name) { long = Some name; value_names = 1 }

-- an option that must stand
abbrev pub required_rule : Text → Rule
required_rule name = record (option_rule name) { required = true }

abbrev pub seq_app : App
seq_app = with_rule (new_app (codes "seq")) settings_rule

abbrev pub verify_app : App
verify_app =
    with_rule (with_rule (new_app (codes "verify")) (option_rule (codes "sweep"))) settings_rule

abbrev pub plan_app : App
plan_app =
    with_rule (with_rule (new_app (codes "plan")) (required_rule (codes "workers"))) settings_rule

abbrev pub run_app : App
run_app = with_rule (with_rule (with_rule
    (with_rule (with_rule (new_app (codes "run")) (required_rule (codes "workers")))
    (option_rule (codes "plan"))) (option_rule (codes "by"))) (option_rule (codes "barrier")))
    settings_rule

-- words behind the options: how many points, and how many sweeps
abbrev pub sizes_rule : Rule
sizes_rule = record (new_rule (codes "sizes")) {
  range = Some (record { start_inclusive = 1; end_inclusive = usize_max });
  value_names = 1;
}

abbrev pub bench_app : App
bench_app =
    with_rule (with_rule (new_app (codes "bench")) (required_rule (codes "workers"))) sizes_rule

abbrev pub top_shape : Shape
top_shape = record (new_app (codes "seagrynt")).top {
  no_binary_name = true;
  subcommand_required = true;
  disable_help_subcommand = true;
  has_version = true;
}

abbrev pub tool_app : App
tool_app = with_subcommand (with_subcommand
    (with_subcommand (with_subcommand (with_subcommand (record { top = top_shape; subs = [] })
    seq_app.top) plan_app.top) run_app.top) verify_app.top) bench_app.top
