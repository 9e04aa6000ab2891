-- The rows of two instances that access one element: their loops and comparisons, their subscripts, and their order.
use Rattle.std.specs.Prelude.{ℕ, zero, suc, ◌+◌, ◌*◌, ℤ, pos, negsuc, ◌-ℤ◌, neg_ℤ, List, [], ◌∷◌, ◌++◌, length, map, slice_get, Option, Some, None, if◌then◌else◌}
use Rattle.nest_tree.specs.Form.{Form}
use Rattle.nest_tree.specs.Layout.{bounds_of}
use Rattle.nest_tree.specs.Tree.{Head, Tree, param_values}
use Rattle.nest_walk.specs.Tables.{Loaded, element, array}
use Rattle.nest_rows.specs.declared.constraint.Constraint.{Constraint}
use Rattle.nest_rows.specs.declared.constraint.Sign.{Sign}
use Rattle.nest_rows.specs.declared.constraint.Sign.TheVariants.{Plus, Minus}
use Rattle.nest_rows.specs.Groups.{constants_have, guard_has, loops_have, sign_of}
use Rattle.nest_rows.specs.Places.{terms_of}
use Rattle.nest_rows.specs.Signs.{flipped, signed, with_sign}
use Rattle.sync_plan.specs.declared.plan.ConditionRow.{ConditionRow}
use Rattle.sync_plan.specs.declared.plan.Conditions.{Conditions}
use Rattle.sync_plan.specs.declared.plan.Conditions.TheVariants.{Values, Rows}
use Rattle.comm_system.specs.Levels.{Order}
use Rattle.comm_system.specs.Pairs.{Pair}
use Rattle.conflict_rules.specs.References.{Reference}

-- the conditions on the named constants: their values, or the plan's rows
abbrev pub conditions_have : List ℤ → Conditions → List Constraint
conditions_have values Values = constants_have 1 values
conditions_have values (Rows rows) =
    map (λ (r : ConditionRow). record { terms = r.coefs; bound = r.bound }) rows

-- the bounds of the dimensions whose subscripts are free: those of an array that is printed whole
abbrev pub free_bounds : Tree → Loaded → List (ℤ × ℤ)
free_bounds tree (element a) = []
free_bounds tree (array variable) = bounds_of tree variable

-- how many unknowns an access has: the value and the trip of each loop, and its free subscripts
abbrev pub unknowns_of : Tree → Reference → ℕ
unknowns_of tree a = 2 * length a.around + length (free_bounds tree a.what)

-- a free subscript, and those behind it, lie within their bounds
abbrev pub free_have : ℕ → List (ℤ × ℤ) → List Constraint
free_have n [] = []
free_have n ((low, high) ∷ bounds) = record { terms = (n, pos 1) ∷ []; bound = high }
    ∷ record { terms = (n, negsuc 0) ∷ []; bound = neg_ℤ low } ∷ free_have (suc n) bounds

-- the value of a loop, which has this number, with one step more is past its end: m2 - value, with the sign of the step, is less than the step
abbrev pub past_next : ℕ → List Head → ℕ → Head → Constraint
past_next first heads place head = record {
  terms = (place, signed (flipped (sign_of head.step)) (pos 1))
      ∷ with_sign (sign_of head.step) (terms_of first heads head.m2);
  bound =
      signed (sign_of head.step) head.step -ℤ pos 1 -ℤ signed (sign_of head.step) head.m2.constant;
}

-- the loop whose value has this number, if there is one, is in its last trip
abbrev pub last_at : ℕ → List Head → ℕ → Option Head → List Constraint
last_at first heads place None = []
last_at first heads place (Some h) = past_next first heads place h ∷ []

-- of these loops that inside so many is in its last trip, if one is
abbrev pub last_has : Option ℕ → ℕ → List Head → List Constraint
last_has None first heads = []
last_has (Some k) first heads = last_at first heads (first + 2 * k) (slice_get heads k)

-- an access's instance: its loops, whose first value has this number, its free subscripts, its comparison, and the last trip of a loop where it is made in that alone
abbrev pub instance_has : Tree → ℕ → Option ℕ → Reference → List Constraint
instance_has tree first last a =
    loops_have first a.around first a.around
    ++ free_have (first + 2 * length a.around) (free_bounds tree a.what)
    ++ guard_has first a.around a.guard ++ last_has last first a.around

-- a subscript: terms and a constant
pub record Sum : Type 0 where
  pub terms : List (ℕ × ℤ)
  pub constant : ℤ

abbrev pub sum_of : ℕ → List Head → Form → Sum
sum_of first heads f = record { terms = terms_of first heads f; constant = f.constant }

abbrev pub free_sums : ℕ → List (ℤ × ℤ) → List Sum
free_sums n [] = []
free_sums n (b ∷ bounds) =
    record { terms = (n, pos 1) ∷ []; constant = pos 0 } ∷ free_sums (suc n) bounds

-- the subscripts of an access, dimension by dimension
abbrev pub subscripts_of : Tree → ℕ → List Head → Loaded → List Sum
subscripts_of tree first heads (element a) = map (sum_of first heads) a.subscripts
subscripts_of tree first heads (array variable) =
    free_sums (first + 2 * length heads) (bounds_of tree variable)

-- a difference of subscripts, with this sign, is at most 0
abbrev pub no_more : Sign → Sum → Sum → Constraint
no_more sign x y = record {
  terms = with_sign sign x.terms ++ with_sign (flipped sign) y.terms;
  bound = signed sign (y.constant -ℤ x.constant);
}

-- the subscripts are equal, dimension by dimension
abbrev pub same_element : List Sum → List Sum → List Constraint
same_element [] ys = []
same_element (x ∷ xs) [] = []
same_element (x ∷ xs) (y ∷ ys) = no_more Plus x y ∷ no_more Minus x y ∷ same_element xs ys

-- the difference of two unknowns, with this sign, is at most a number
abbrev pub apart : Sign → ℕ → ℕ → ℤ → Constraint
apart sign m n most =
    record { terms = (m, signed sign (pos 1)) ∷ (n, signed sign (negsuc 0)) ∷ []; bound = most }

-- so many loops from the outermost have equal values
abbrev pub same_loops : ℕ → ℕ → ℕ → List Constraint
same_loops m n zero = []
same_loops m n (suc k) =
    apart Plus m n (pos 0) ∷ apart Minus m n (pos 0) ∷ same_loops (m + 2) (n + 2) k

-- the order of two instances whose first loops have these numbers
abbrev pub ordered_so : ℕ → ℕ → Order → List Constraint
ordered_so m n order = same_loops m n order.equal
    ++ (if order.earlier
    then apart Plus (m + 2 * order.equal + 1) (n + 2 * order.equal + 1) (negsuc 0) ∷ []
    else [])

-- the number of the first unknown of the first access, of the second, and behind both
abbrev pub first_of : Tree → ℕ
first_of tree = length tree.params + 1

abbrev pub second_of : Tree → Pair → ℕ
second_of tree pair = first_of tree + unknowns_of tree pair.first

abbrev pub behind_pair : Tree → Pair → ℕ
behind_pair tree pair = second_of tree pair + unknowns_of tree pair.second

-- all of them, where each access is made in the last trip alone of the loop inside so many of its loops, or not
abbrev pub pair_rows : Tree → Conditions → Order → Option ℕ × Option ℕ → Pair → List Constraint
pair_rows tree conditions order lasts pair =
    let m = first_of tree in
    let n = second_of tree pair in
    conditions_have (param_values tree) conditions ++ instance_has tree m lasts.0 pair.first
    ++ instance_has tree n lasts.1 pair.second
    ++ same_element (subscripts_of tree m pair.first.around pair.first.what)
    (subscripts_of tree n pair.second.around pair.second.what) ++ ordered_so m n order
