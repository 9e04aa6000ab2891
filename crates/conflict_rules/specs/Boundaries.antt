-- The boundaries that stand certainly between two instances.
use Rattle.std.specs.Prelude.{ℕ, suc, ◌==◌, Bool, ◌&&◌, not, nat_le, nat_lt, List, [], ◌∷◌, ◌++◌, length, if◌then◌else◌}
pub use Rattle.nest_rows.specs.InCommon.{is_prefix}
use Rattle.nest_tree.specs.Tree.{Head}
use Rattle.conflict_rules.specs.References.{StaticPhase}

-- at the Outer values of which instance a boundary stands
pub data Side : Type 0 where
  of_first : Side
  of_second : Side

-- the boundary in front of the static phase with this number
pub record Boundary : Type 0 where
  pub phase : ℕ
  pub side : Side

-- behind the first instance: at level 0 in front of a phase behind s, up to t; carried by a loop, in front of a phase behind s inside that loop; its Outer loops are the first of those round s
abbrev pub is_behind_first : List Head → ℕ → ℕ → ℕ → ℕ → List Head → Bool
is_behind_first around s t level u outer = nat_lt s u
    && (if level == 0 then nat_le u t else nat_le level (length outer)) && is_prefix outer around

-- in front of the second: at level 0 in front of a phase behind s, up to t, that is not behind the first; carried by a loop, in front of a phase up to t inside that loop; its Outer loops are the first of those round t
abbrev pub is_before_second : List Head → List Head → ℕ → ℕ → ℕ → ℕ → List Head → Bool
is_before_second around around' s t level u outer =
    nat_le u t && (if level == 0 then nat_lt s u && not (is_prefix outer around)
    else nat_le level (length outer)) && is_prefix outer around'

-- those of the phases from number u on for which a test holds, on this side
abbrev pub boundaries_where : (ℕ → List Head → Bool) → Side → ℕ → List StaticPhase → List Boundary
boundaries_where test side u [] = []
boundaries_where test side u (p ∷ phases) = if test u p.outer
    then record { phase = u; side = side } ∷ boundaries_where test side (suc u) phases
    else boundaries_where test side (suc u) phases

-- the certain boundaries of static phases s and t at a level: those behind the first instance, then those in front of the second, each in text order; one may be both
abbrev pub certain_boundaries : List StaticPhase → List Head → List Head → ℕ → ℕ → ℕ → List Boundary
certain_boundaries phases around around' s t level =
    boundaries_where (is_behind_first around s t level) of_first 1 phases
    ++ boundaries_where (is_before_second around around' s t level) of_second 1 phases
