-- The static phases of a program with the Outer loops round them, and the accesses of each.
use Rattle.std.specs.Prelude.{ℕ, Bool, true, false, List, [], ◌∷◌, ◌++◌, map, Option, if◌then◌else◌}
use Rattle.std.specs.List.{flat_map}
use Rattle.nest_tree.specs.declared.tree.Guard.{Guard}
use Rattle.nest_tree.specs.Limits.{line_of_work}
use Rattle.nest_tree.specs.Tree.{Head, Statement, Statements, do_loop, work, continue, done, next, Tree}
use Rattle.nest_walk.specs.Tables.{Loaded, element, array, loaded_in_work, stores_in}
use Rattle.nest_rows.specs.Groups.{guard_of}
use Rattle.nest_rows.specs.Nested.{Nested, nested_in}
use Rattle.owner_partition.specs.declared.cut.Mark.{Mark}
use Rattle.owner_partition.specs.Marks.{enters_outer}

-- a static phase: its statement, and the heads of the Outer loops round it, from the outermost
pub record StaticPhase : Type 0 where
  pub what : Statement
  pub outer : List Head

abbrev mutual
  pub phases_in : (ℕ → Bool) → List Head → Statement → List StaticPhase
  phases_in enters outer (do_loop head body) =
      if enters head.number
      then phases_among enters (outer ++ head ∷ []) body
      else record { what = do_loop head body; outer = outer } ∷ []
  phases_in enters outer (work w) = record { what = work w; outer = outer } ∷ []
  phases_in enters outer (continue line) = []

  pub phases_among : (ℕ → Bool) → List Head → Statements → List StaticPhase
  phases_among enters outer done = []
  phases_among enters outer (next s rest) =
      phases_in enters outer s ++ phases_among enters outer rest

-- the one with number u, from 1, stands at u - 1
abbrev pub phases_of : Tree → List Mark → List StaticPhase
phases_of tree marks = phases_among (enters_outer marks) [] tree.items

-- an access: an element or a scalar, or an array that is printed whole; whether it stores; the heads of all loops round it, from the outermost; its statement's comparison and line
pub record Reference : Type 0 where
  pub what : Loaded
  pub stores : Bool
  pub around : List Head
  pub guard : Option Guard
  pub line : ℕ

abbrev pub reference_of : Nested → Bool → Loaded → Reference
reference_of n stores what = record {
  what = what;
  stores = stores;
  around = n.around;
  guard = guard_of n.what;
  line = line_of_work n.what;
}

-- those of a piece of work: its loads in text order, then its store
abbrev pub references_in : Nested → List Reference
references_in n = map (reference_of n false) (loaded_in_work n.what)
    ++ map (λ a. reference_of n true (element a)) (stores_in n.what)

-- the accesses of a phase, in text order
abbrev pub references_of : StaticPhase → List Reference
references_of phase = flat_map references_in (nested_in phase.outer phase.what)

abbrev pub variable_of : Loaded → ℕ
variable_of (element a) = a.variable
variable_of (array variable) = variable
