-- Loops whose steps are within plus or minus 2147483647, as those of a well-formed program are.
use Rattle.std.specs.Prelude.{Bool, true, ◌&&◌, List}
use Rattle.std.specs.List.{list_all}
use Rattle.nest_tree.specs.Form.{is_small}
use Rattle.nest_tree.specs.Tree.{Head, Statement, Statements, do_loop, work, continue, done, next}

-- the steps of these loops are small
abbrev pub are_small_steps : List Head → Bool
are_small_steps heads = list_all (λ (h : Head). is_small h.step) heads

-- and those of the loops in a statement, and in some
abbrev mutual
  pub has_small_steps : Statement → Bool
  has_small_steps (do_loop head body) = is_small head.step && have_small_steps body
  has_small_steps (work w) = true
  has_small_steps (continue line) = true

  pub have_small_steps : Statements → Bool
  have_small_steps done = true
  have_small_steps (next s rest) = has_small_steps s && have_small_steps rest
