use Rattle.sync_plan.proofs.ProcessorSets.{digit, bit_of_one}
use Rattle.sync_plan.proofs.waiting.bit.Goals as goal

pub returns-then-processor-lt64 : goal.returns-then-processor-lt64
unfolding digit
returns-then-processor-lt64 c q lt = bit_of_one c.args.processor q c.if-processor-lt64.true
