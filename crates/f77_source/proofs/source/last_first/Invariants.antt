use Rattle.std.proofs.Common.{◌≡◌, map, drop, IsTrue}
use Rattle.f77_program.specs.Wholes.{settings_of}
use Rattle.f77_source.specs.Sources.{are_values, setting_of}
use Rattle.f77_source.proofs.source.last_first.Given as goal

abbrev pub invariant-loop-place : goal.invariant-loop-place
invariant-loop-place l = record { kept : settings_of l.constants ≡ map setting_of (drop l.place l.settings); values : IsTrue (are_values (map setting_of (drop l.place l.settings))) }
