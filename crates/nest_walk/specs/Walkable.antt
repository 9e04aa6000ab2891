-- What a walk asks of the statements that it goes through: it holds in every well-formed program within its limits.
use Rattle.std.specs.Prelude.{ℕ, suc, ℤ, Bool, true, ◌&&◌, nat_lt, List, [], length, unsigned_abs}
use Rattle.std.specs.List.{list_all}
use Rattle.nest_tree.specs.Form.{Form, form_value, is_small}
use Rattle.nest_tree.specs.Loads.{guard_forms}
use Rattle.nest_tree.specs.Tree.{Work, assign, print, Head, Statement, Statements, do_loop, work, continue, done, next}
use Rattle.nest_tree.specs.WellFormed.{is_number_of}
use Rattle.nest_model.specs.Instances.{head_trips, with_loop}

-- a form's value is within plus or minus 2147483647
abbrev pub is_small_at : List ℤ → List ℤ → Form → Bool
is_small_at params loops f = is_small (form_value f loops params)

-- the sides of a comparison, where there is one
abbrev pub sides_of : Work → List Form
sides_of (assign a) = guard_forms a.guard
sides_of (print p) = []

-- a loop's bounds are small, and so is its step, which is not 0
abbrev pub is_small_head : List ℤ → List ℤ → Head → Bool
is_small_head params loops head = is_small_at params loops head.m1
    && is_small_at params loops head.m2 && nat_lt 0 (unsigned_abs head.step) && is_small head.step

-- the loops in these statements have greater numbers than this one
abbrev mutual
  pub is_above : ℕ → Statement → Bool
  is_above n (do_loop head body) = nat_lt n head.number && are_above n body
  is_above n (work w) = true
  is_above n (continue line) = true

  pub are_above : ℕ → Statements → Bool
  are_above n done = true
  are_above n (next s rest) = is_above n s && are_above n rest

-- wherever the walk of a statement comes to, with so many loops round it at these values: at most six loops lie in one another, each is one of the program's, those inside it have greater numbers, and bounds, values and the sides of comparisons are small
abbrev mutual
  pub is_walkable : List ℤ → ℕ → Statement → List ℤ → Bool
  is_walkable params depth (do_loop head body) loops =
      is_number_of (length loops) head.number && nat_lt depth 6 && are_above head.number body
      && is_small_head params loops head
      && list_all (λ v. is_small v && are_walkable params (suc depth) body
      (with_loop loops head.number v)) (head_trips params head loops)
  is_walkable params depth (work w) loops = list_all (is_small_at params loops) (sides_of w)
  is_walkable params depth (continue line) loops = true

  pub are_walkable : List ℤ → ℕ → Statements → List ℤ → Bool
  are_walkable params depth done loops = true
  are_walkable params depth (next s rest) loops =
      is_walkable params depth s loops && are_walkable params depth rest loops
