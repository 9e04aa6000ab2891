-- The accesses and the forms of a statement, in text order.
use Rattle.std.specs.Prelude.{Option, Some, None, List, [], ◌∷◌, ◌++◌}
use Rattle.std.specs.List.{flat_map}
use Rattle.nest_tree.specs.declared.tree.Access.{Access}
use Rattle.nest_tree.specs.declared.tree.Guard.{Guard}
use Rattle.nest_tree.specs.Form.{Form}
use Rattle.nest_tree.specs.Tree.{Expression, Expressions, number, loop_value, param, load, neg, add, sub, mul, div, least_of, greatest_of, no_more, one_more, Printed, value, whole, text, Work, assign, print}

-- the accesses that an expression loads
abbrev mutual
  pub loads_in : Expression → List Access
  loads_in (number n) = []
  loads_in (loop_value l) = []
  loads_in (param p) = []
  loads_in (load a) = a ∷ []
  loads_in (neg a) = loads_in a
  loads_in (add a b) = loads_in a ++ loads_in b
  loads_in (sub a b) = loads_in a ++ loads_in b
  loads_in (mul a b) = loads_in a ++ loads_in b
  loads_in (div a divisor) = loads_in a
  loads_in (least_of arguments) = loads_among arguments
  loads_in (greatest_of arguments) = loads_among arguments

  pub loads_among : Expressions → List Access
  loads_among no_more = []
  loads_among (one_more e rest) = loads_in e ++ loads_among rest

-- the accesses to scalars and elements that an item of a PRINT loads; a whole array has none
abbrev pub loads_in_item : Printed → List Access
loads_in_item (value e) = loads_in e
loads_in_item (whole variable) = []
loads_in_item (text characters) = []

abbrev pub loads_in_work : Work → List Access
loads_in_work (assign a) = loads_in a.value
loads_in_work (print p) = flat_map loads_in_item p.items

abbrev pub subscript_forms : List Access → List Form
subscript_forms accesses = flat_map (λ (a : Access). a.subscripts) accesses

-- the sides of a comparison
abbrev pub guard_forms : Option Guard → List Form
guard_forms None = []
guard_forms (Some g) = g.left ∷ g.right ∷ []

-- the forms of a piece of work: its comparison's, those of the element that is stored, then those of the loads
abbrev pub work_forms : Work → List Form
work_forms (assign a) =
    guard_forms a.guard ++ a.target.subscripts ++ subscript_forms (loads_in a.value)
work_forms (print p) = subscript_forms (flat_map loads_in_item p.items)
