-- What a certificate of the whole system comes to where some of its rows are left out.
use Rattle.std.specs.Prelude.{ℕ, ◌≤◌, Bool, false, true, Some, None, List, ◌≡◌}
use Rattle.std.specs.Option.{option_map}
use Rattle.farkas_cert.specs.declared.certificate.Certificate.{Certificate}
use Rattle.farkas_cert.specs.Fault.{first_fault}
use Rattle.farkas_cert.specs.Inequalities.{Inequalities}
use Rattle.farkas_cert.specs.Named.{steps_name}
use Rattle.presolve.specs.declared.presolved.Checked.{Checked}
use Rattle.presolve.specs.declared.presolved.Checked.TheVariants.{Good, Bad, LeftOut as NotKept}
use Rattle.presolve.specs.declared.renumbering.Untold.{Untold}
use Rattle.presolve.specs.declared.renumbering.Untold.TheVariants.{LeftOut, NoMemory}
use Rattle.presolve.specs.Columns.{is_kept}
use Rattle.presolve.specs.Presolution.{Presolution}
use Rattle.presolve.specs.Renamed.{fault_in_64}

-- of so many given rows, one that isn't kept
pub record IsLeftOut (count : ℕ) (numbers : List ℕ) (r : ℕ) : Type 0 where
  pub low : 1 ≤ r
  pub high : r ≤ count
  pub not_kept : is_kept numbers r ≡ false

-- such a row is named
abbrev pub StopsOver : (ℕ → Bool) → ℕ → List ℕ → Untold → Type 0
StopsOver names count numbers (LeftOut r) = IsLeftOut count numbers r × (names r ≡ true)
StopsOver names count numbers NoMemory = Unit {0}

-- its first fault in the whole system, or a row that it names and that is left out
abbrev pub IsAnswer : Inequalities → Presolution → Certificate → Checked → Type 0
IsAnswer whole p certificate Good = first_fault whole certificate ≡ None
IsAnswer whole p certificate (Bad fault) = first_fault whole certificate ≡ Some fault
IsAnswer whole p certificate (NotKept r) =
    IsLeftOut p.count p.numbers r × (steps_name r certificate.steps ≡ true)

-- the first fault of a certificate of what is left, told of the whole system
abbrev pub IsAnswerTo : Presolution → Certificate → Checked → Type 0
IsAnswerTo p kept Good = first_fault p.system kept ≡ None
IsAnswerTo p kept (Bad fault) = option_map (fault_in_64 p) (first_fault p.system kept) ≡ Some fault
IsAnswerTo p kept (NotKept r) = ⊥
