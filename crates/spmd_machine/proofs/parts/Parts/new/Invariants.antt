use Rattle.std.proofs.Common.{◌≡◌, map, take}
use Rattle.nest_tree.specs.declared.tree.Parameter.{Parameter}
use Rattle.spmd_machine.proofs.parts.Parts.new.Given as goal

abbrev pub invariant-loop-parameter : goal.invariant-loop-parameter
invariant-loop-parameter l = l.params.items ≡ map (λ (p : Parameter). p.value) (take l.parameter-index l.parameter-items)
