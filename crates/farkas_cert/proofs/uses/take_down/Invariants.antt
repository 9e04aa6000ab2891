use Rattle.std.proofs.Common.{take}
use Rattle.farkas_cert.specs.Named.{AreTakenDown}
use Rattle.farkas_cert.proofs.uses.take_down.Given as goal

abbrev pub invariant-loop-term : goal.invariant-loop-term
invariant-loop-term l = AreTakenDown l.count l.number (take l.term-index l.terms) l.initial.last.items l.last.items
