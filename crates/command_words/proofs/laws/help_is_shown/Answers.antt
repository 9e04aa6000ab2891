use Rattle.std.proofs.Common.{refl}
use Rattle.clap.proofs.OnLiterals.{clap_on_literals}
use Rattle.command_words.proofs.laws.help_is_shown.Goals as goal

pub returns-clause-help : goal.returns-clause-help
unfolding clap_on_literals
returns-clause-help c = refl

pub returns-clause-help_of_run : goal.returns-clause-help_of_run
unfolding clap_on_literals
returns-clause-help_of_run c = refl

pub returns-clause-help_of_plan : goal.returns-clause-help_of_plan
unfolding clap_on_literals
returns-clause-help_of_plan c = refl

pub returns-clause-version : goal.returns-clause-version
unfolding clap_on_literals
returns-clause-version c = refl

pub returns-clause-help_of_bench : goal.returns-clause-help_of_bench
unfolding clap_on_literals
returns-clause-help_of_bench c = refl
