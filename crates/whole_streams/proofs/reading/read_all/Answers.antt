use Rattle.std.proofs.Common.{arith}
use Rattle.whole_streams.proofs.reading.read_all.Goals as goal

pub returns-clause-long : goal.returns-clause-long
returns-clause-long g c = λ _. (c.loop-chunk.bytes.items, c.loop-chunk.invariant.front, omega (arith, c.loop-chunk.invariant.few))
