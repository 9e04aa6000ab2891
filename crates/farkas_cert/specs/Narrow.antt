-- Rows whose numbers are narrow.
use Rattle.std.specs.Prelude.{IsTrue, List}
use Rattle.std.specs.List.{All}
use Rattle.farkas_cert.specs.declared.system.Row.{Row}
use Rattle.farkas_cert.specs.Combination.{is_narrow}

-- each coefficient and the bound are at most 2 ^ 126 in size
abbrev pub IsNarrowRow : Row → Type 0
IsNarrowRow row = All (λ a. IsTrue (is_narrow a)) row.coefs × IsTrue (is_narrow row.bound)

abbrev pub AreNarrow : List Row → Type 0
AreNarrow rows = All IsNarrowRow rows
