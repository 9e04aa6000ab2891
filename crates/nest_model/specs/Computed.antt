-- The numbers that a program computes where its walk stops, in forms and for DO variables.
use Rattle.std.specs.Prelude.{ℤ, List, [], ◌∷◌, ◌++◌, map}
use Rattle.nest_tree.specs.Form.{Form, form_value}
use Rattle.nest_tree.specs.Loads.{work_forms}
use Rattle.nest_tree.specs.Tree.{Statement, do_loop, work, continue}
use Rattle.nest_model.specs.Instances.{head_trips}
use Rattle.nest_model.specs.Visits.{Visit}

-- the forms of a statement: a loop's bounds, or those of a piece of work
abbrev pub statement_forms : Statement → List Form
statement_forms (do_loop head body) = head.m1 ∷ head.m2 ∷ []
statement_forms (work w) = work_forms w
statement_forms (continue line) = []

-- the values that the DO variable of a loop takes, trip by trip
abbrev pub variable_values : List ℤ → Statement → List ℤ → List ℤ
variable_values params (do_loop head body) loops = head_trips params head loops
variable_values params (work w) loops = []
variable_values params (continue line) loops = []

abbrev pub computed_at : List ℤ → Visit → List ℤ
computed_at params v = map (λ f. form_value f v.loops params) (statement_forms v.what)
    ++ variable_values params v.what v.loops
