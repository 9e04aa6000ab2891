-- What a text names is there: so many loops and so many named constants.
use Rattle.std.specs.Prelude.{ℕ, Bool, true, ◌&&◌, List, [], ◌∷◌}
use Rattle.std.specs.List.{list_all}
use Rattle.nest_tree.specs.declared.tree.Access.{Access}
use Rattle.nest_tree.specs.Form.{Form, is_given}
use Rattle.nest_tree.specs.Loads.{subscript_forms, work_forms}
use Rattle.nest_tree.specs.Tree.{Statement, Statements, do_loop, work, continue, done, next}
use Rattle.nest_tree.specs.WellFormed.{is_number_of}

abbrev pub are_given : ℕ → ℕ → List Form → Bool
are_given loops constants forms = list_all (λ f. is_given f loops constants) forms

abbrev pub are_loads_given : ℕ → ℕ → List Access → Bool
are_loads_given loops constants accesses = are_given loops constants (subscript_forms accesses)

abbrev mutual
  pub is_all_given : ℕ → ℕ → Statement → Bool
  is_all_given loops constants (do_loop head body) =
      is_number_of loops head.number && are_given loops constants (head.m1 ∷ head.m2 ∷ [])
      && are_all_given loops constants body
  is_all_given loops constants (work w) = are_given loops constants (work_forms w)
  is_all_given loops constants (continue line) = true

  pub are_all_given : ℕ → ℕ → Statements → Bool
  are_all_given loops constants done = true
  are_all_given loops constants (next s rest) =
      is_all_given loops constants s && are_all_given loops constants rest
