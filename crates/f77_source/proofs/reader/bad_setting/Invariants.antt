use Rattle.std.proofs.Common.{◌≡◌, ◌+◌, map, drop}
use Rattle.f77_scene.specs.Reading.{bad_setting_from}
use Rattle.f77_scene.specs.Scene.{constant_names}
use Rattle.f77_source.specs.Sources.{setting_of}
use Rattle.f77_source.proofs.reader.bad_setting.Given as goal

abbrev pub invariant-loop-place : goal.invariant-loop-place
invariant-loop-place l = bad_setting_from (l.place + 1) (constant_names l.known) (map setting_of (drop l.place l.settings)) ≡ bad_setting_from 1 (constant_names l.known) (map setting_of l.settings)
