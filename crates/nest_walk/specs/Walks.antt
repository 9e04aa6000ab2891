-- What is left of a walk, from the loops that it is in.
use Rattle.std.specs.Prelude.{ℕ, suc, ◌+◌, ◌-◌, ◌^◌, ◌==◌, ℤ, Bool, false, not, ◌&&◌, nat_lt, List, [], ◌∷◌, ◌++◌, length, slice_index_or}
use Rattle.std.specs.List.{flat_map, list_all}
use Rattle.nest_tree.specs.Form.{is_small}
use Rattle.nest_tree.specs.Tree.{Statements, Tree, param_values}
use Rattle.nest_tree.specs.WellFormed.{is_number_of, loops_of}
use Rattle.nest_model.specs.Instances.{with_loop, works_of}
use Rattle.nest_model.specs.Visits.{Visit, stops_of, visits_in}
use Rattle.nest_walk.specs.Paths.{Round, by_number}
use Rattle.nest_walk.specs.Walkable.{are_walkable}

-- the walk that stops at the loops that are marked, by their numbers from 1, and enters every other
abbrev pub enters_but : List Bool → ℕ → Bool
enters_but marks n = not (slice_index_or marks (n - 1) false)

-- a walk: the values of the named constants, the loops that it enters, and how many loops the program has
pub record Walk : Type 0 where
  pub params : List ℤ
  pub enters : ℕ → Bool
  pub loops : ℕ

abbrev pub walk_in : Tree → List Bool → Walk
walk_in tree marks =
    record { params = param_values tree; enters = enters_but marks; loops = loops_of tree.items }

-- statements one behind another, with the numbers of their first stop and of their first piece of work
pub record Stretch : Type 0 where
  pub statements : Statements
  pub place : ℕ
  pub first : ℕ

-- a loop that a walk is in: its body, the values of its later trips, and the statements behind it
pub record Level : Type 0 where
  pub body : Stretch
  pub later : List ℤ
  pub behind : Statements

-- the numbers behind a stretch
abbrev pub last_place : Walk → Stretch → ℕ
last_place walk s = s.place + stops_of walk.enters s.statements

abbrev pub last_work : Stretch → ℕ
last_work s = s.first + works_of s.statements

-- the statements behind a loop, with their numbers
abbrev pub stretch_behind : Walk → Level → Stretch
stretch_behind walk l =
    record { statements = l.behind; place = last_place walk l.body; first = last_work l.body }

abbrev pub stretch_visits : Walk → Stretch → List ℤ → List Visit
stretch_visits walk s loops = visits_in walk.params walk.enters s.statements s.place s.first loops

-- the stops that are left: those of the rest of the innermost body, of the later trips, and of what stands behind the loop
abbrev pub left : Walk → List Round → List Level → Stretch → List Visit
left walk [] levels rest = stretch_visits walk rest (by_number walk.loops [])
left walk (r ∷ rounds) [] rest = []
left walk (r ∷ rounds) (l ∷ levels) rest =
    stretch_visits walk rest (by_number walk.loops (r ∷ rounds))
    ++ (flat_map (λ v. stretch_visits walk l.body
    (with_loop (by_number walk.loops rounds) r.number v)) l.later
    ++ left walk rounds levels (stretch_behind walk l))

-- the numbers are of 32 bits, and the statements can be walked
abbrev pub is_numbered : Walk → Stretch → Bool
is_numbered walk s = nat_lt (last_place walk s) (2 ^ 32) && nat_lt (last_work s) (2 ^ 32)

abbrev pub is_sound_stretch : Walk → ℕ → Stretch → List ℤ → Bool
is_sound_stretch walk depth s loops =
    is_numbered walk s && are_walkable walk.params depth s.statements loops

-- the rest of a body ends with the body
abbrev pub ends_with : Walk → Stretch → Stretch → Bool
ends_with walk rest body =
    last_place walk rest == last_place walk body && last_work rest == last_work body

-- a later trip can be walked
abbrev pub is_sound_trip : Walk → List Round → ℕ → Statements → ℤ → Bool
is_sound_trip walk rounds n body v = is_small v
    && are_walkable walk.params (suc (length rounds)) body
    (with_loop (by_number walk.loops rounds) n v)

-- all that is left can be walked
abbrev pub is_sound : Walk → List Round → List Level → Stretch → Bool
is_sound walk [] levels rest = is_sound_stretch walk 0 rest (by_number walk.loops [])
is_sound walk (r ∷ rounds) [] rest = false
is_sound walk (r ∷ rounds) (l ∷ levels) rest =
    is_number_of walk.loops r.number
    && is_sound_stretch walk (suc (length rounds)) rest (by_number walk.loops (r ∷ rounds))
    && ends_with walk rest l.body
    && list_all (is_sound_trip walk rounds r.number l.body.statements) l.later
    && is_sound walk rounds levels (stretch_behind walk l)
