-- The value of an expression, from the values of its loads in text order.
use Rattle.std.specs.Prelude.{ℕ, ℤ, pos, ◌+ℤ◌, ◌-ℤ◌, ◌*ℤ◌, neg_ℤ, List, [], ◌∷◌, drop, length, fold, slice_index_or, Bool, true, false, ◌&&◌, nat_lt, unsigned_abs}
use Rattle.std.specs.Int.{int_min, int_max}
use Rattle.nest_tree.specs.Form.{numbered}
use Rattle.nest_tree.specs.Loads.{loads_in}
use Rattle.nest_tree.specs.Tree.{Expression, Expressions, number, loop_value, param, load, neg, add, sub, mul, div, least_of, greatest_of, no_more, one_more}
use Rattle.nest_tree.specs.WellFormed.{is_number_of}
use Rattle.nest_tree.specs.Values.{wrapped, quotient}

-- an expression has a value where there are so many loops and named constants: it names no others, no divisor is 0, and no MIN or MAX is empty
abbrev mutual
  pub has_value : ℕ → ℕ → Expression → Bool
  has_value loops params (number n) = true
  has_value loops params (loop_value l) = is_number_of loops l
  has_value loops params (param p) = is_number_of params p
  has_value loops params (load a) = true
  has_value loops params (neg a) = has_value loops params a
  has_value loops params (add a b) = has_value loops params a && has_value loops params b
  has_value loops params (sub a b) = has_value loops params a && has_value loops params b
  has_value loops params (mul a b) = has_value loops params a && has_value loops params b
  has_value loops params (div a divisor) =
      has_value loops params a && nat_lt 0 (unsigned_abs divisor)
  has_value loops params (least_of no_more) = false
  has_value loops params (least_of (one_more e rest)) =
      has_value loops params e && have_values loops params rest
  has_value loops params (greatest_of no_more) = false
  has_value loops params (greatest_of (one_more e rest)) =
      has_value loops params e && have_values loops params rest

  pub have_values : ℕ → ℕ → Expressions → Bool
  have_values loops params no_more = true
  have_values loops params (one_more e rest) =
      has_value loops params e && have_values loops params rest

-- the least and the greatest of some values, 0 of none
abbrev pub least : List ℤ → ℤ
least [] = pos 0
least (x ∷ rest) = fold int_min x rest

abbrev pub greatest : List ℤ → ℤ
greatest [] = pos 0
greatest (x ∷ rest) = fold int_max x rest

-- the value, where loops and named constants have these values by number and the loads gave these in text order
abbrev mutual
  pub value_of : Expression → List ℤ → List ℤ → List ℤ → ℤ
  value_of (number n) loops params loaded = n
  value_of (loop_value l) loops params loaded = numbered loops l
  value_of (param p) loops params loaded = numbered params p
  value_of (load a) loops params loaded = slice_index_or loaded 0 (pos 0)
  value_of (neg a) loops params loaded = wrapped (neg_ℤ (value_of a loops params loaded))
  value_of (add a b) loops params loaded =
      wrapped (value_of a loops params loaded
      +ℤ value_of b loops params (drop (length (loads_in a)) loaded))
  value_of (sub a b) loops params loaded =
      wrapped (value_of a loops params loaded -ℤ value_of b loops params
      (drop (length (loads_in a)) loaded))
  value_of (mul a b) loops params loaded =
      wrapped (value_of a loops params loaded
      *ℤ value_of b loops params (drop (length (loads_in a)) loaded))
  value_of (div a divisor) loops params loaded = quotient (value_of a loops params loaded) divisor
  value_of (least_of arguments) loops params loaded =
      least (values_of arguments loops params loaded)
  value_of (greatest_of arguments) loops params loaded =
      greatest (values_of arguments loops params loaded)

  pub values_of : Expressions → List ℤ → List ℤ → List ℤ → List ℤ
  values_of no_more loops params loaded = []
  values_of (one_more e rest) loops params loaded =
      value_of e loops params loaded ∷ values_of rest loops params
      (drop (length (loads_in e)) loaded)
