-- The rows of the owners of two instances and of the producers between them, and where the owners lie.
use Rattle.std.specs.Prelude.{ℕ, zero, suc, ◌+◌, ℤ, pos, negsuc, ◌-ℤ◌, neg_ℤ, List, [], ◌∷◌, ◌++◌, map}
use Rattle.std.specs.List.{flat_map}
use Rattle.nest_tree.specs.Tree.{Head}
use Rattle.nest_rows.specs.declared.constraint.Constraint.{Constraint}
use Rattle.nest_rows.specs.declared.constraint.Sign.{Sign}
use Rattle.nest_rows.specs.declared.constraint.Sign.TheVariants.{Plus, Minus}
use Rattle.nest_rows.specs.Places.{terms_of}
use Rattle.nest_rows.specs.Signs.{with_sign}
use Rattle.owner_partition.specs.declared.anchor.Anchor.{Anchor}
use Rattle.owner_partition.specs.declared.anchor.Dist.{Dist}
use Rattle.owner_partition.specs.declared.anchor.Dist.TheVariants.{Block, Cyclic}
use Rattle.comm_system.specs.PairRows.{apart}

-- an anchor at the loops of an instance, whose first value has this number
pub record Placed : Type 0 where
  pub anchor : Anchor
  pub first : ℕ
  pub around : List Head

-- how many unknowns its owner has: itself and, where places are dealt in turn, the number of the round
abbrev pub owner_unknowns : Dist → ℕ
owner_unknowns (Block b) = 1
owner_unknowns Cyclic = 2

-- an unknown is the owner of an anchor's value w: b * q <= w <= b * q + b - 1; or w = P * round + q
abbrev pub owns : Dist → ℕ → ℕ → List (ℕ × ℤ) → ℤ → List Constraint
owns (Block b) workers q terms constant =
    record { terms = (q, pos b) ∷ with_sign Minus terms; bound = constant }
    ∷ record {
      terms = with_sign Plus terms ++ (q, neg_ℤ (pos b)) ∷ [];
      bound = pos b -ℤ pos 1 -ℤ constant;
    } ∷ []
owns Cyclic workers q terms constant =
    record {
      terms = with_sign Plus terms ++ (suc q, neg_ℤ (pos workers)) ∷ (q, negsuc 0) ∷ [];
      bound = neg_ℤ constant;
    }
    ∷ record {
      terms = with_sign Minus terms ++ (suc q, pos workers) ∷ (q, pos 1) ∷ [];
      bound = constant;
    } ∷ []

-- and a processor
abbrev pub owner_has : ℕ → ℕ → Placed → List Constraint
owner_has workers q p =
    owns p.anchor.dist workers q (terms_of p.first p.around p.anchor.form) p.anchor.form.constant
    ++ record { terms = (q, negsuc 0) ∷ []; bound = pos 0 }
    ∷ record { terms = (q, pos 1) ∷ []; bound = pos workers -ℤ pos 1 } ∷ []

-- owners one behind another, from this unknown on: their rows, their unknowns, and how many unknowns there are
abbrev pub owners_have : ℕ → ℕ → List Placed → List Constraint
owners_have workers q [] = []
owners_have workers q (p ∷ placed) =
    owner_has workers q p ++ owners_have workers (q + owner_unknowns p.anchor.dist) placed

abbrev pub owner_numbers : ℕ → List Placed → List ℕ
owner_numbers q [] = []
owner_numbers q (p ∷ placed) = q ∷ owner_numbers (q + owner_unknowns p.anchor.dist) placed

abbrev pub owners_unknowns : List Placed → ℕ
owners_unknowns [] = 0
owners_unknowns (p ∷ placed) = owner_unknowns p.anchor.dist + owners_unknowns placed

-- below another processor, or above it
pub data Direction : Type 0 where
  below : Direction
  above : Direction

abbrev pub sign_of : Direction → Sign
sign_of below = Plus
sign_of above = Minus

-- a piece: on which side of the neighbours that are waited for the first owner lies, and on which of each producer
pub record Piece : Type 0 where
  pub range : Direction
  pub producers : List Direction

-- all choices, the last varying fastest, below first
abbrev pub choices : ℕ → List (List Direction)
choices zero = [] ∷ []
choices (suc n) = map (λ ds. below ∷ ds) (choices n) ++ map (λ ds. above ∷ ds) (choices n)

abbrev pub pieces : ℕ → List Piece
pieces n = flat_map (λ d. map (λ ds. record { range = d; producers = ds }) (choices n))
    (below ∷ above ∷ [])

-- how far the first owner lies from the second: more than so many to the left, or to the right
abbrev pub distance : Direction → ℕ → ℕ → ℕ
distance below left right = suc left
distance above left right = suc right

-- the first owner lies on the piece's side of each producer
abbrev pub beside : ℕ → List ℕ → List Direction → List Constraint
beside q [] ds = []
beside q (o ∷ os) [] = []
beside q (o ∷ os) (d ∷ ds) = apart (sign_of d) q o (negsuc 0) ∷ beside q os ds

-- the last rows, where q and p are the owners and the others are the producers'
abbrev pub last_rows : ℕ → ℕ → ℕ → ℕ → List ℕ → Piece → List Constraint
last_rows left right q p os piece = apart (sign_of piece.range) q p
    (neg_ℤ (pos (distance piece.range left right))) ∷ beside q os piece.producers
