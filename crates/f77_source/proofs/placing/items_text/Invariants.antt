use Rattle.std.proofs.Common.{◌≡◌, ◌+◌, ◌-◌, ◌++◌}
use Rattle.f77_scene.specs.Directives as directives
use Rattle.f77_source.proofs.placing.items_text.Given as goal

abbrev pub invariant-loop-dimension : goal.invariant-loop-dimension
invariant-loop-dimension l = l.text.items ++ directives.items_text (l.dimensions - l.dimension) (l.dimension + 1) l.placing ≡ directives.items_text l.dimensions 1 l.placing
