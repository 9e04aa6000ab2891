-- The loops inside a phase's own round the first store of a private scalar, its path: each of them must make a trip, else the scalar isn't stored.
use Rattle.std.specs.Prelude.{ℕ, ◌+◌, ◌-◌, ◌==◌, negsuc, List, [], ◌∷◌, ◌++◌, length, find, map, take, drop, Option, Some, None}
use Rattle.std.specs.List.{flat_map, range_with_len}
use Rattle.nest_tree.specs.Tree.{Head}
use Rattle.nest_rows.specs.declared.constraint.Constraint.{Constraint}
use Rattle.nest_rows.specs.Groups.{differ, loops_have, sign_of}
use Rattle.owner_partition.specs.Cuts.{Cutting}
use Rattle.conflict_rules.specs.References.{Reference, StaticPhase, references_of, variable_of}
use Rattle.comm_system.specs.Shown.{privates_in}

-- a loop round a store, by how many of the loops round the store stand outside it
pub record PathLoop : Type 0 where
  pub store : Reference
  pub outside : ℕ

-- the loops outside it, from the outermost; and itself, with those inside it
abbrev pub loops_outside : PathLoop → List Head
loops_outside p = take p.outside p.store.around

abbrev pub loops_from : PathLoop → List Head
loops_from p = drop p.outside p.store.around

-- with the sign of its step, a loop's end lies in front of its beginning: it makes no trip
abbrev pub no_trip : ℕ → List Head → List Head → List Constraint
no_trip first outside [] = []
no_trip first outside (h ∷ inside) = differ (sign_of h.step) first outside h.m2 h.m1 (negsuc 0) ∷ []

-- it makes no trip where those outside it, whose first value has this number, are at trips of theirs
abbrev pub zero_trip_has : ℕ → PathLoop → List Constraint
zero_trip_has first p = loops_have first (loops_outside p) first (loops_outside p)
    ++ no_trip first (loops_outside p) (loops_from p)

-- the line of its DO
abbrev pub line_of : List Head → ℕ
line_of [] = 0
line_of (h ∷ inside) = h.line

-- the first access of a variable in a phase, in text order
abbrev pub first_access : StaticPhase → ℕ → Option Reference
first_access s v = find (λ r. variable_of r.what == v) (references_of s)

-- the loops round an access inside a phase's own, from the outermost
abbrev pub path_to : StaticPhase → Option Reference → List PathLoop
path_to s None = []
path_to s (Some r) = map (λ k. record { store = r; outside = k })
    (range_with_len (length s.outer + 1) (length r.around - (length s.outer + 1)))

-- the path of a scalar in a phase; and those of its private scalars under a cut
abbrev pub path_of : StaticPhase → ℕ → List PathLoop
path_of s v = path_to s (first_access s v)

abbrev pub paths_of : Cutting → StaticPhase → List PathLoop
paths_of cut s = flat_map (path_of s) (privates_in cut s.what)
