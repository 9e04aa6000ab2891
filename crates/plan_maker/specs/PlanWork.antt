-- The work that the systems of a plan took, counted in pairs of rows.
use Rattle.std.specs.Prelude.{⊤, ℕ, ◌≡◌, ◌+◌, ◌*◌, ◌/◌, ◌<◌, List, [], ◌∷◌, length}
use Rattle.std.specs.List.{All}
use Rattle.farkas_cert.specs.Inequalities.{Inequalities}
use Rattle.fm_elim.specs.Advances.{IsWork}

-- an elimination came to a level up to which the levels are formed of so many pairs
pub record IsLevelWork (pairs : ℕ) : Type 0 where
  pub system : Inequalities
  pub order : List ℕ
  pub level : ℕ
  pub work : IsWork system order level pairs

-- an elimination whose levels are formed of so many pairs; one that is given up at a number too large, or at too many rows; a quick look that settles its system; one that doesn't
pub data Piece : Type 0 where
  elimination : (pairs : ℕ) → Piece
  given_up : Piece
  settled : (system : Inequalities) → Piece
  unsettled : (system : Inequalities) → Piece

abbrev pub IsPiece : Piece → Type 0
IsPiece (elimination pairs) = IsLevelWork pairs
IsPiece given_up = ⊤
IsPiece (settled system) = ⊤
IsPiece (unsettled system) = ⊤

-- for how many pairs a quick look counts that settles its system: a quarter of the rows times the unknowns
abbrev pub pairs_of_look : Inequalities → ℕ
pairs_of_look system = length system.rows * system.vars / 4

-- for how many pairs a piece counts: a look that settles nothing for a hundred times as many
abbrev pub pairs_of : Piece → ℕ
pairs_of (elimination pairs) = pairs
pairs_of given_up = 65536
pairs_of (settled system) = pairs_of_look system
pairs_of (unsettled system) = pairs_of_look system * 100

abbrev pub IsPieceOf : ℕ → Type 0
IsPieceOf pairs = (piece : Piece) × IsPiece piece × (pairs_of piece ≡ pairs)

-- for how many they count in all
abbrev pub pairs_in : List Piece → ℕ
pairs_in [] = 0
pairs_in (piece ∷ pieces) = pairs_of piece + pairs_in pieces

-- these pieces count for so many pairs
pub record IsPlanWork (pairs : ℕ) : Type 0 where
  pub pieces : List Piece
  pub each : All IsPiece pieces
  pub sum_is : pairs_in pieces ≡ pairs

-- some pieces do
abbrev pub PlanWorks : ℕ → Type 0
PlanWorks pairs = ∥ IsPlanWork pairs ∥₁

-- the systems of a plan took more work than they may: more than 800,000 pairs
pub record IsUsedUp : Type 0 where
  pub pairs : ℕ
  pub taken : PlanWorks pairs
  pub more : 800000 < pairs
