use Rattle.std.proofs.Common.{◌≡◌, drop}
use Rattle.f77_program.specs.Numbered.{key_of}
use Rattle.f77_program.proofs.numbers.key_of.Given as goal

abbrev pub invariant-loop-place : goal.invariant-loop-place
invariant-loop-place l = l.key ≡ key_of (drop l.place l.name)
