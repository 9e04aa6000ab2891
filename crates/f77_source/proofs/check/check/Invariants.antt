use Rattle.std.proofs.Common.{◌≡◌, map, drop}
use Rattle.f77_program.specs.Wholes.{given_of}
use Rattle.f77_scene.specs.Reading.{fault_from, scene_from}
use Rattle.f77_scene.specs.Scene.{first_scene}
use Rattle.f77_source.specs.Sources.{source_of}
use Rattle.f77_source.specs.Limits.{KeepsLimits}
use Rattle.f77_source.proofs.check.check.Given as goal

abbrev pub invariant-loop-place : goal.invariant-loop-place
invariant-loop-place l = record {
  fault : fault_from (given_of l.whole) l.known (map source_of (drop l.place l.sources)) ≡ fault_from (given_of l.whole) first_scene (map source_of l.sources);
  scene : scene_from (given_of l.whole) l.known (map source_of (drop l.place l.sources)) ≡ scene_from (given_of l.whole) first_scene (map source_of l.sources);
  within : KeepsLimits l.known;
}
