-- The statements of a source and the settings, as the reader keeps them.
use Rattle.std.specs.Prelude.{ℤ, Bool, List, Result, Ok, Err}
use Rattle.std.specs.List.{list_all}
use Rattle.nest_tree.specs.WellFormed.{is_value}
use Rattle.f77_forms.specs.Form.{StatementForm}
use Rattle.f77_forms.specs.View.{statement_of}
use Rattle.f77_forms.specs.declared.form.Statement.{Statement}
use Rattle.f77_forms.specs.declared.fault.TextFault.{TextFault}
use Rattle.f77_scene.specs.Reading.{SourceStatement}
use Rattle.f77_scene.specs.Scene.{Name}
use Rattle.f77_source.specs.declared.source.Source.{Source}
use Rattle.f77_source.specs.declared.source.Setting.{Setting}

abbrev pub reading_view : Result Statement TextFault → Result StatementForm TextFault
reading_view (Ok s) = Ok (statement_of s)
reading_view (Err fault) = Err fault

abbrev pub source_of : Source → SourceStatement
source_of s = record { line = s.line; label = s.label; reading = reading_view s.reading }

abbrev pub setting_of : Setting → Name × ℤ
setting_of s = (s.name.items, s.value)

-- the values of settings are values of 64 bits
abbrev pub are_values : List (Name × ℤ) → Bool
are_values settings = list_all (λ (s : Name × ℤ). is_value s.1) settings
