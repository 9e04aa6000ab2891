-- Whether each block anchor keeps within its blocks.
use Rattle.std.specs.Prelude.{ℕ, ◌-◌, ℤ, pos, Bool, nat_lt, List, [], ◌∷◌, Option, Some, None, length, if◌then◌else◌, ◌≡◌, refl}
use Rattle.std.specs.List.{list_any}
use Rattle.std.specs.Option.{option_or}
use Rattle.nest_tree.specs.Form.{is_given}
use Rattle.nest_tree.specs.Intervals.{ends_of, form_interval, head_interval, with_ends}
use Rattle.nest_tree.specs.Limits.{is_empty, no_ends}
use Rattle.nest_tree.specs.Tree.{Statement, Statements, do_loop, work, continue, done, next, Tree, param_values}
use Rattle.nest_tree.specs.WellFormed.{loops_of}
use Rattle.nest_model.specs.Visits.{stops_in}
use Rattle.owner_partition.specs.declared.anchor.Anchor.{Anchor}
use Rattle.owner_partition.specs.declared.anchor.Dist.TheVariants.{Block}
use Rattle.owner_partition.specs.declared.cut.Mark.{Mark}
use Rattle.owner_partition.specs.declared.placement.Placement.{Placement}
use Rattle.owner_partition.specs.Marks.{enters_outer}
use Rattle.owner_partition.specs.Owners.{reaches}

-- the intervals of the loops at the static phase with this place, from 0, its own loop among them; none where an Outer loop round it is empty, or where there is no such phase
abbrev mutual
  pub ends_in : List ℤ → (ℕ → Bool) → List (ℤ × ℤ) → Statement → ℕ → Option (List (ℤ × ℤ))
  ends_in params enters ends (do_loop head body) place =
      let interval = head_interval params ends head in
      let inside = with_ends ends head.number interval in
      if enters head.number
      then if is_empty interval
      then None
      else ends_among params enters inside body place
      else Some inside
  ends_in params enters ends (work w) place = Some ends
  ends_in params enters ends (continue line) place = None

  pub ends_among : List ℤ → (ℕ → Bool) → List (ℤ × ℤ) → Statements → ℕ → Option (List (ℤ × ℤ))
  ends_among params enters ends done place = None
  ends_among params enters ends (next s rest) place =
      if nat_lt place (stops_in enters s) then ends_in params enters ends s place
      else ends_among params enters ends rest (place - stops_in enters s)

abbrev pub phase_ends : Tree → List Mark → ℕ → Option (List (ℤ × ℤ))
phase_ends tree marks place =
    ends_among (param_values tree) (enters_outer marks) no_ends tree.items place

-- one of the loops that these pairs name is empty
abbrev pub names_empty : List (ℤ × ℤ) → List (ℕ × ℤ) → Bool
names_empty ends pairs = list_any (λ p. is_empty (ends_of ends p.0)) pairs

-- the anchor of this static phase leaves its blocks, where the loops have these intervals and no loop that it names is empty
abbrev pub misplaced_within : List ℤ → ℕ → ℕ → Anchor → List (ℤ × ℤ) → Option Placement
misplaced_within params workers phase a ends =
    let interval = form_interval a.form ends params in
    if names_empty ends a.form.loops then None
    else if reaches a.dist workers interval then None
    else Some (record { phase = phase; low = interval.0; high = interval.1 })

abbrev pub misplaced_at : List ℤ → ℕ → ℕ → Anchor → Option (List (ℤ × ℤ)) → Option Placement
misplaced_at params workers phase a None = None
misplaced_at params workers phase a (Some ends) = misplaced_within params workers phase a ends

abbrev pub misplaced : Tree → List Mark → ℕ → ℕ → Anchor → Option Placement
misplaced tree marks workers phase a =
    misplaced_at (param_values tree) workers phase a (phase_ends tree marks (phase - 1))

-- the first of these anchors, each with the number of its static phase, that leaves its blocks
abbrev pub unplaced : Tree → List Mark → ℕ → List (ℕ × Anchor) → Option Placement
unplaced tree marks workers [] = None
unplaced tree marks workers ((phase, a) ∷ rest) =
    option_or (misplaced tree marks workers phase a) (unplaced tree marks workers rest)

-- an anchor names loops and named constants that the program has
abbrev pub is_anchor_given : Tree → ℕ × Anchor → Bool
is_anchor_given tree (phase, a) = is_given a.form (loops_of tree.items) (length tree.params)

-- with two workers and blocks of 4, a loop from 1 to 8 leaves its blocks, 0 to 7, at 8; an empty one passes
abbrev own_loop : Anchor
own_loop = record {
  form = record { constant = pos 0; loops = (1, pos 1) ∷ []; params = [] };
  dist = Block 4;
}

pub misplaced-past_the_end : misplaced_within [] 2 1 own_loop ((pos 1, pos 8) ∷ [])
    ≡ Some (record { phase = 1; low = pos 1; high = pos 8 })
misplaced-past_the_end = refl

pub misplaced-empty : misplaced_within [] 2 1 own_loop ((pos 9, pos 8) ∷ []) ≡ None
misplaced-empty = refl
