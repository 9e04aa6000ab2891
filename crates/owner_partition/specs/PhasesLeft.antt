-- The phases that are left.
use Rattle.std.specs.Prelude.{ℕ, ◌+◌, Bool, ◌≡◌, List, ◌∷◌, ◌++◌, length, Option}
use Rattle.std.specs.Option.{option_map}
use Rattle.nest_tree.specs.Tree.{Tree}
use Rattle.nest_model.specs.Visits.{Visit, visits}
use Rattle.nest_walk.specs.Cursors.{left_of, loops_in, marks_in, rounds_in, tree_in, visit_at}
use Rattle.nest_walk.specs.Paths.{Round, by_depth}
use Rattle.nest_walk.specs.Places.{numbers_of}
use Rattle.nest_walk.specs.Texts.{IsInText}
use Rattle.nest_walk.specs.Walks.{enters_but}
use Rattle.owner_partition.specs.declared.phases.Phase.{Phase}
use Rattle.owner_partition.specs.declared.phases.PhaseCursor.{PhaseCursor}

abbrev pub phases_tree : PhaseCursor → Tree
phases_tree c = tree_in c.cursor

abbrev pub phases_left : PhaseCursor → List Visit
phases_left c = left_of c.cursor

-- the loops that its walk goes into
abbrev pub phases_enters : PhaseCursor → ℕ → Bool
phases_enters c = enters_but (marks_in c.cursor)

-- how many phases have been given
abbrev pub phases_passed : PhaseCursor → ℕ
phases_passed c = c.passed

-- the Outer loops round the phase that was given last, with their values
abbrev pub phases_rounds : PhaseCursor → List Round
phases_rounds c = rounds_in c.cursor

-- the phase that was given last
abbrev pub phase_last : PhaseCursor → Option Visit
phase_last c = option_map (visit_at (phases_tree c) (phases_rounds c)) c.last

-- a phase with this number, where these are the Outer loops round it: it is that stop, in the text inside these loops, with their values by depth
pub record IsPhase (tree : Tree) (enters : ℕ → Bool) (rounds : List Round) (number : ℕ) (v : Visit)
    (p : Phase) : Type 0 where
  pub number_is : p.number ≡ number
  pub place_is : p.place ≡ v.place
  pub loops_are : v.loops ≡ loops_in tree rounds
  pub outer_is : p.outer ≡ by_depth rounds
  pub text : IsInText tree enters (numbers_of rounds) v.what v.place v.first

-- a phase of a walk that enters these loops: its visit is the one with its number
pub record IsPhaseOf (tree : Tree) (enters : ℕ → Bool) (v : Visit) (p : Phase) : Type 0 where
  pub before : List Visit
  pub behind : List Visit
  pub rounds : List Round
  pub all : visits tree enters ≡ before ++ v ∷ behind
  pub is : IsPhase tree enters rounds (length before + 1) v p
