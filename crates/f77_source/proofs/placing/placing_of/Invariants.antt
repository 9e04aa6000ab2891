use Rattle.std.proofs.Common.{◌≡◌, drop, None}
use Rattle.nest_tree.specs.declared.tree.Spread.TheVariants.{Block}
use Rattle.f77_scene.specs.Directives.{placings}
use Rattle.f77_source.specs.Placings.{chosen}
use Rattle.f77_source.proofs.placing.placing_of.Given as goal

abbrev pub invariant-loop-candidate : goal.invariant-loop-candidate
invariant-loop-candidate l = chosen l.texts l.name l.dimensions (drop l.candidate-index placings) l.first l.placing ≡ chosen l.texts l.name l.dimensions placings None (l.dimensions, Block)
