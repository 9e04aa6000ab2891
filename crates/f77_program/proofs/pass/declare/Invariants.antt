use Rattle.std.proofs.Common.{◌≡◌, ◌++◌, map}
use Rattle.f77_program.specs.Passed.{array_of}
use Rattle.f77_program.proofs.pass.declare.Given as goal

abbrev pub invariant-loop-array : goal.invariant-loop-array
invariant-loop-array l = l.known ≡ record l.initial.known { arrays = l.initial.known.arrays ++ map array_of l.yielded }
