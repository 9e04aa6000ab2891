use Rattle.std.proofs.Common.{◌≡◌, ◌++◌, ◌+◌, map}
use Rattle.std.specs.Prelude.{drop}
use Rattle.clap.specs.Walk.{texts}
use Rattle.f77_source.specs.Sources.{setting_of}
use Rattle.command_words.specs.Settings.{settings_in, first_fault_from}
use Rattle.command_words.proofs.settings.read_settings.Given as goal

abbrev pub invariant-loop-place : goal.invariant-loop-place
invariant-loop-place l =
    (first_fault_from 1 (texts l.fn.words) ≡ first_fault_from (l.place + 1) (texts (drop l.place l.fn.words)))
    × (map setting_of l.settings.items ++ settings_in (texts (drop l.place l.fn.words)) ≡ settings_in (texts l.fn.words))
