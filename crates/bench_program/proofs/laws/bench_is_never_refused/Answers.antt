use Rattle.bench_program.proofs.Unrefused.{never_refused}
use Rattle.bench_program.proofs.laws.bench_is_never_refused.Goals as goal

pub returns : goal.returns
returns c points sweeps some few fewer = never_refused points sweeps some few fewer
