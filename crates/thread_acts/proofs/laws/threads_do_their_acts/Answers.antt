use Rattle.thread_acts.proofs.Acts.{code_acts}
use Rattle.thread_acts.proofs.laws.threads_do_their_acts.Goals as goal

pub returns : goal.returns
returns c = code_acts
