use Rattle.std.proofs.Common.{take}
use Rattle.farkas_cert.specs.Named.{AreLast}
use Rattle.farkas_cert.proofs.uses.Uses.new.Given as goal

abbrev pub invariant-loop-index : goal.invariant-loop-index
invariant-loop-index l = AreLast l.count (take l.index l.taken) l.last.items
