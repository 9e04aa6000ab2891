use Rattle.std.proofs.Common.{◌≡◌, ◌++◌, map, drop}
use Rattle.nest_tree.specs.View.{constant_of}
use Rattle.f77_program.specs.Known.{constants_from}
use Rattle.f77_program.specs.Numbered.{texts_of}
use Rattle.f77_program.proofs.constants.parameters_of.Given as goal

abbrev pub invariant-loop-place : goal.invariant-loop-place
invariant-loop-place l = map constant_of l.parameters.items ++ constants_from (texts_of (drop l.place l.names)) (drop l.place l.values) ≡ constants_from (texts_of l.names) l.values
