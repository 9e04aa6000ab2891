use Rattle.std.proofs.Common.{◌≡◌, map, take}
use Rattle.f77_source.specs.Sources.{setting_of}
use Rattle.spmd_answer.proofs.sweep.copied.Given as goal

abbrev pub invariant-loop-given : goal.invariant-loop-given
invariant-loop-given l = map setting_of l.all.items ≡ map setting_of (take l.given-index l.settings)
