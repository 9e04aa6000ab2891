-- What is known of the bytes of a source and a sink, and of their counts.
use Rattle.std.specs.Prelude.{◌≡◌, ℕ, List, ◌++◌, length, Option, Some, None, ⊤, ◌⊎◌}
use Rattle.std.specs.Io.KnownBytes.{Appends, Consumes}
use Rattle.spmd_ports.specs.Counts.{Rose}

-- a fact of the bytes, where they are told
abbrev pub WhereTold : Option (List ℕ) → (List ℕ → Type 0) → Type 0
WhereTold None P = ⊤
WhereTold (Some bytes) P = P bytes

-- these are the bytes, where they are told
abbrev pub AreTold : Option (List ℕ) → List ℕ → Type 0
AreTold told bytes = WhereTold told (λ those. bytes ≡ those)

-- so many bytes were taken from the front of a source
abbrev pub TakesBytes : Option (List ℕ) → Option (List ℕ) → ℕ → Type 0
TakesBytes old new count = (bytes : List ℕ) × Consumes old new bytes × (length bytes ≡ count)

-- a part from the front of a text was written
abbrev pub WritesPart : Option (List ℕ) → Option (List ℕ) → List ℕ → Type 0
WritesPart old new text =
    (front : List ℕ) × (rest : List ℕ) × (text ≡ front ++ rest) × Appends old new front

-- one of two counts rose
abbrev pub RoseOneOf : ℕ → ℕ → ℕ → ℕ → Type 0
RoseOneOf faults faults' empties empties' = Rose faults faults' ⊎ Rose empties empties'

-- no count rose: neither the source's faults, nor the sink's faults and empty answers
abbrev pub NoneRose : ℕ → ℕ → ℕ → ℕ → ℕ → ℕ → Type 0
NoneRose reads reads' faults faults' empties empties' =
    ¬ Rose reads reads' × ¬ RoseOneOf faults faults' empties empties'
