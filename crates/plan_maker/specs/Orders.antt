-- The order in which elimination removes the unknowns of a system.
use Rattle.std.specs.Prelude.{ℕ, suc, ◌+◌, ◌-◌, List, [], ◌∷◌, ◌++◌, ◌≡◌, refl}
use Rattle.std.specs.List.{range_with_len}
use Rattle.owner_partition.specs.declared.anchor.Dist.{Dist}
use Rattle.owner_partition.specs.declared.anchor.Dist.TheVariants.{Block, Cyclic}
use Rattle.comm_system.specs.OwnerRows.{owner_unknowns}

-- how many unknowns owners have that are dealt so
abbrev pub unknowns_of : List Dist → ℕ
unknowns_of [] = 0
unknowns_of (d ∷ dists) = owner_unknowns d + unknowns_of dists

-- the owners one behind another, from this unknown on
abbrev pub owners_from : ℕ → List Dist → List ℕ
owners_from q [] = []
owners_from q (d ∷ dists) = q ∷ owners_from (q + owner_unknowns d) dists

-- the rounds of those that are dealt in turn
abbrev pub rounds_from : ℕ → List Dist → List ℕ
rounds_from q [] = []
rounds_from q (Block b ∷ dists) = rounds_from (q + 1) dists
rounds_from q (Cyclic ∷ dists) = suc q ∷ rounds_from (q + 2) dists

-- of so many unknowns, the last of which are those of owners: first the others in their order, then the owners, then the rounds
abbrev pub elimination_order : ℕ → List Dist → List ℕ
elimination_order unknowns dists =
    let others = unknowns - unknowns_of dists in
    range_with_len 1 others ++ (owners_from (suc others) dists ++ rounds_from (suc others) dists)

-- two other unknowns, an owner in turn with its round, one in blocks, and one in turn
pub elimination_order-example : elimination_order 7 (Cyclic ∷ Block 3 ∷ Cyclic ∷ [])
    ≡ 1 ∷ 2 ∷ 3 ∷ 5 ∷ 6 ∷ 4 ∷ 7 ∷ []
elimination_order-example = refl
