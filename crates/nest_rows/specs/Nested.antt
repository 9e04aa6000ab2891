-- The pieces of work of a program in text order, each with the loops round it.
use Rattle.std.specs.Prelude.{ℕ, ◌-◌, ◌<◌, ℤ, pos, ◌+ℤ◌, ◌*ℤ◌, true, Some, List, [], ◌∷◌, ◌++◌, slice_get, ◌≡◌}
use Rattle.nest_tree.specs.Form.{form_value, numbered}
use Rattle.nest_tree.specs.Tree.{Work, Head, Statement, Statements, do_loop, work, continue, done, next, Tree}
use Rattle.nest_model.specs.Instances.{Instance, is_executed, trip_count}

-- a piece of work, and the heads of the loops round it, from the outermost
pub record Nested : Type 0 where
  pub what : Work
  pub around : List Head

abbrev mutual
  pub nested_in : List Head → Statement → List Nested
  nested_in around (do_loop head body) = nested_among (around ++ head ∷ []) body
  nested_in around (work w) = record { what = w; around = around } ∷ []
  nested_in around (continue line) = []

  pub nested_among : List Head → Statements → List Nested
  nested_among around done = []
  nested_among around (next s rest) = nested_in around s ++ nested_among around rest

-- the piece of work with number n, from 1, has the place n - 1 in the list
abbrev pub nested_works : Tree → List Nested
nested_works tree = nested_among [] tree.items

-- a loop's value is that of its trip n, from 0, where all loops have these values by number
pub record IsTrip (params loops : List ℤ) (head : Head) (n : ℕ) : Type 0 where
  pub value : numbered loops head.number ≡ form_value head.m1 loops params +ℤ (pos n *ℤ head.step)
  pub within : n < trip_count (form_value head.m1 loops params) (form_value head.m2 loops params)
      head.step

-- each loop is at its trip
abbrev pub AreTrips : List ℤ → List ℤ → List Head → List ℕ → Type 0
AreTrips params loops [] [] = Unit {0}
AreTrips params loops [] (n ∷ ns) = ⊥
AreTrips params loops (h ∷ heads) [] = ⊥
AreTrips params loops (h ∷ heads) (n ∷ ns) =
    IsTrip params loops h n × AreTrips params loops heads ns

-- an instance is of the piece of work with its number: that is executed at its loops' values, and each loop round it is at one of its trips
pub record IsNestedInstance (params : List ℤ) (all : List Nested) (i : Instance) : Type 0 where
  pub nested : Nested
  pub at : slice_get all (i.statement - 1) ≡ Some nested
  pub what : nested.what ≡ i.what
  pub executed : is_executed i.what i.loops params ≡ true
  pub ns : List ℕ
  pub trips : AreTrips params i.loops nested.around ns
