-- Where a phase stands in the text: found by its place and the values of its Outer loops by depth.
use Rattle.std.specs.Prelude.{ℕ, ◌+◌, ◌-◌, ℤ, pos, negsuc, Bool, nat_lt, List, [], ◌∷◌, length, slice_index_or, Option, Some, None, if◌then◌else◌, ◌≡◌, refl}
use Rattle.nest_tree.specs.Form.{Form}
use Rattle.nest_tree.specs.Tree.{Statement, Statements, print, do_loop, work, continue, done, next}
use Rattle.nest_model.specs.Instances.{works_in}
use Rattle.nest_model.specs.Visits.{stops_in}
use Rattle.nest_walk.specs.Paths.{Round}
use Rattle.owner_partition.specs.declared.cut.Mark.TheVariants.{Outer, Single}
use Rattle.owner_partition.specs.Marks.{enters_outer}

-- a statement of the text, the number of its first piece of work, and the loops round it with their values, the innermost first
pub record Site : Type 0 where
  pub what : Statement
  pub first : ℕ
  pub rounds : List Round

-- a loop that is entered inside these, with its value by depth
abbrev pub entered : List ℤ → List Round → ℕ → List Round
entered outer rounds n =
    record { number = n; value = slice_index_or outer (length rounds) (pos 0) } ∷ rounds

-- the static phase with this place, from 0, in a text inside these loops, where the Outer loops have these values by depth, from the outermost
abbrev mutual
  pub site_in : (ℕ → Bool) → List ℤ → List Round → Statement → ℕ → ℕ → Option Site
  site_in enters outer rounds (do_loop head body) place first =
      if enters head.number
      then site_among enters outer (entered outer rounds head.number) body place first
      else Some (record { what = do_loop head body; first = first; rounds = rounds })
  site_in enters outer rounds (work w) place first =
      Some (record { what = work w; first = first; rounds = rounds })
  site_in enters outer rounds (continue line) place first = None

  pub site_among : (ℕ → Bool) → List ℤ → List Round → Statements → ℕ → ℕ → Option Site
  site_among enters outer rounds done place first = None
  site_among enters outer rounds (next s rest) place first =
      if nat_lt place (stops_in enters s) then site_in enters outer rounds s place first
      else site_among enters outer rounds rest (place - stops_in enters s) (first + works_in s)

-- an Outer loop with a PRINT, and behind it a Single loop: the first static phase is inside loop 1, the second is loop 2, whose PRINT is the second piece of work
abbrev fixed : Form
fixed = record { constant = pos 1; loops = []; params = [] }

abbrev blank_line : ℕ → Statement
blank_line n = work (print (record { items = []; line = n }))

abbrev loop_with_print : ℕ → Statement
loop_with_print n = do_loop (record { number = n; m1 = fixed; m2 = fixed; step = pos 1; line = n })
    (next (blank_line n) done)

abbrev two_loops : Statements
two_loops = next (loop_with_print 1) (next (loop_with_print 2) done)

pub site-inside : site_among (enters_outer (Outer ∷ Single ∷ [])) (negsuc 6 ∷ []) [] two_loops 0 1
    ≡ Some (record {
      what = blank_line 1;
      first = 1;
      rounds = record { number = 1; value = negsuc 6 } ∷ [];
    })
site-inside = refl

pub site-behind : site_among (enters_outer (Outer ∷ Single ∷ [])) [] [] two_loops 1 1
    ≡ Some (record { what = loop_with_print 2; first = 2; rounds = [] })
site-behind = refl
