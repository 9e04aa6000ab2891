-- The trips of a loop that a processor owns, where the anchor's form has the value `start` at the first trip and rises by `rise` with each.
use Rattle.std.specs.Prelude.{ℕ, ◌+◌, ◌*◌, ◌%◌, ◌<◌, ◌≤◌, ◌==◌, ℤ, pos, negsuc, ◌+ℤ◌, ◌*ℤ◌, ◌≤ℤ◌, ◌≡◌, ◌≢◌, ◌↔◌, refl, false, IsTrue, List, map, Option, Some, None}
use Rattle.std.specs.List.{filter, range_with_len}
use Rattle.nest_tree.specs.Layout.{count_of}
use Rattle.owner_partition.specs.declared.anchor.Dist.{Dist}
use Rattle.owner_partition.specs.declared.anchor.Dist.TheVariants.{Block, Cyclic}
use Rattle.owner_partition.specs.Owners.{dealt}

-- the owner of a trip, by its number from 0
abbrev pub trip_owner : Dist → ℕ → ℤ → ℤ → ℕ → ℕ
trip_owner dist workers start rise n = count_of (dealt dist workers (start +ℤ (pos n *ℤ rise)))

-- so many numbers, from the first on, each `stride`-th
abbrev pub strided : ℕ → ℕ → ℕ → List ℕ
strided first stride count = map (λ k. first + k * stride) (range_with_len 0 count)

-- a processor's trips, of so many
abbrev pub own_numbers : Dist → ℕ → ℕ → ℤ → ℤ → ℕ → List ℕ
own_numbers dist workers p start rise count =
    filter (λ n. trip_owner dist workers start rise n == p) (range_with_len 0 count)

-- two numbers are equal but for multiples of a modulus
abbrev pub IsSame : ℕ → ℕ → ℕ → Type 0
IsSame modulus a b = (u : ℕ) × (v : ℕ) × (a + u * modulus ≡ b + v * modulus)

-- the numbers n for which rise * n leaves this remainder by the modulus are a least one and each so many behind another, or there are none
abbrev pub IsSolved : ℕ → ℕ → ℕ → Option (ℕ × ℕ) → Type 0
IsSolved rise wanted modulus None = (n : ℕ) → (rise * n) % modulus ≢ wanted
IsSolved rise wanted modulus (Some (first, stride)) = (0 < stride)
    × ((n : ℕ) → ((rise * n) % modulus ≡ wanted) ↔ ((k : ℕ) × (n ≡ first + k * stride)))

-- of places in turn, a processor's trips are a first one and each so-many-th from there on, or there are none
abbrev pub IsInTurn : ℕ → ℕ → ℤ → ℤ → Option (ℕ × ℕ) → Type 0
IsInTurn workers p start rise None = (n : ℕ) → (trip_owner Cyclic workers start rise n == p) ≡ false
IsInTurn workers p start rise (Some (first, stride)) = (0 < stride)
    × ((n : ℕ) → IsTrue (trip_owner Cyclic workers start rise n == p)
    ↔ ((k : ℕ) × (n ≡ first + k * stride)))

-- the trips from a place to another are those from a first one to before another
abbrev pub AreBetween : ℤ → ℤ → ℤ → ℤ → ℕ → ℕ × ℕ → Type 0
AreBetween start rise low high count (first, end) = (end ≤ count)
    × ((n : ℕ) → n < count → ((low ≤ℤ (start +ℤ (pos n *ℤ rise)))
    × ((start +ℤ (pos n *ℤ rise)) ≤ℤ high)) ↔ ((first ≤ n) × (n < end)))

-- of places in blocks, a processor's trips are those from a first one to before another
abbrev pub IsInBlock : ℕ → ℕ → ℕ → ℤ → ℤ → ℕ → ℕ × ℕ → Type 0
IsInBlock length workers p start rise count (first, end) = (end ≤ count)
    × ((n : ℕ) → n < count → IsTrue (trip_owner (Block length) workers start rise n == p)
    ↔ ((first ≤ n) × (n < end)))

-- a processor's trips of so many are a first one and each so-many-th from there on, below an end
abbrev pub IsOwnRange : Dist → ℕ → ℕ → ℤ → ℤ → ℕ → ℕ × ℕ × ℕ → Type 0
IsOwnRange dist workers p start rise count (first, stride, end) =
    (end ≤ count) × (0 < stride) × ((n : ℕ) → n < count
    → IsTrue (trip_owner dist workers start rise n == p)
    ↔ ((n < end) × ((k : ℕ) × (n ≡ first + k * stride))))

-- of eight trips from place 5 down by 2, processor 2 of 3 has the first one and each third in turn; in blocks of 4, processor 0 has those from place 3 on
pub own_numbers-cyclic : own_numbers Cyclic 3 2 (pos 5) (negsuc 1) 8 ≡ strided 0 3 3
own_numbers-cyclic = refl

pub own_numbers-block : own_numbers (Block 4) 3 0 (pos 5) (negsuc 1) 8 ≡ strided 1 1 7
own_numbers-block = refl
