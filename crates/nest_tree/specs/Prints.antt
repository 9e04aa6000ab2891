-- Whether a PRINT stands in a text.
use Rattle.std.specs.Prelude.{Bool, true, false, ◌||◌}
use Rattle.nest_tree.specs.Tree.{Statement, Statements, assign, print, do_loop, work, continue, done, next}

-- a PRINT stands in a statement
abbrev mutual
  pub has_print : Statement → Bool
  has_print (do_loop head body) = have_print body
  has_print (work (assign a)) = false
  has_print (work (print p)) = true
  has_print (continue line) = false

  pub have_print : Statements → Bool
  have_print done = false
  have_print (next s rest) = has_print s || have_print rest
