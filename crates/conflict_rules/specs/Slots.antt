-- Two static phases at a level, and the boundaries that are certain there.
use Rattle.std.specs.Prelude.{ℕ, Bool, List}
use Rattle.nest_tree.specs.Tree.{Head}
use Rattle.conflict_rules.specs.Boundaries.{Side, of_first, of_second, is_before_second, is_behind_first}
use Rattle.conflict_rules.specs.References.{StaticPhase}

-- two static phases by their numbers, and a level
pub record Slot : Type 0 where
  pub s : ℕ
  pub first : StaticPhase
  pub t : ℕ
  pub second : StaticPhase
  pub level : ℕ

-- the boundary in front of this phase is one of those on this side
abbrev pub is_certain : Side → Slot → ℕ → List Head → Bool
is_certain of_first x u outer = is_behind_first x.first.outer x.s x.t x.level u outer
is_certain of_second x u outer =
    is_before_second x.first.outer x.second.outer x.s x.t x.level u outer
