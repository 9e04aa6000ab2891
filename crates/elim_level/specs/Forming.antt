-- Lists of rows that hold a level.
use Rattle.std.specs.Prelude.{pos, ◌<ℤ◌, List, ◌≡◌}
use Rattle.std.specs.List.{All, AllPairs}
use Rattle.farkas_cert.specs.declared.system.Row.{Row}
use Rattle.elim_rows.specs.Reduction.{IsReduced}
use Rattle.elim_rows.specs.Candidates.{IsEmpty, Covers}

-- the list has what a level keeps of the raw rows, and nothing else
pub record IsFormed (raws : Row → Type 0) (rows : List Row) : Type 0 where
  pub sound : All (λ r. (raw : Row) × raws raw × IsReduced raw r) rows
  pub complete : (raw : Row) → raws raw → (row : Row) × IsReduced raw row × Covers rows row
  pub distinct : AllPairs (λ r s. r.coefs ≡ s.coefs → ⊥) rows
  pub useful : All (λ r. IsEmpty r → r.bound <ℤ pos 0) rows
