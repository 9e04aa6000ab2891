use Rattle.farkas_cert.specs.Named.{AreForgotten}
use Rattle.farkas_cert.proofs.uses.Uses.forget_named.Given as goal

abbrev pub invariant-loop-name : goal.invariant-loop-name
invariant-loop-name l = AreForgotten l.self.count l.self.taken.now l.fn.made.items l.made.items
