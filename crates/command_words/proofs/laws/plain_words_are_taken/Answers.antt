use Rattle.command_words.proofs.PlainWords.{every_plain_bench, every_plain_plan, every_plain_run, every_plain_sequential, every_plain_verify}
use Rattle.command_words.proofs.PlainSweeps.{every_plain_sweep}
use Rattle.command_words.proofs.laws.plain_words_are_taken.Goals as goal

pub returns-clause-plan : goal.returns-clause-plan
returns-clause-plan c = every_plain_plan

pub returns-clause-run : goal.returns-clause-run
returns-clause-run c = every_plain_run

pub returns-clause-sequential : goal.returns-clause-sequential
returns-clause-sequential c = every_plain_sequential

pub returns-clause-verify : goal.returns-clause-verify
returns-clause-verify c = every_plain_verify

pub returns-clause-sweep : goal.returns-clause-sweep
returns-clause-sweep c = every_plain_sweep

pub returns-clause-bench : goal.returns-clause-bench
returns-clause-bench c = every_plain_bench
