-- What holds of an instance, as constraints: the values of the named constants, the loops round it, and its comparison.
use Rattle.std.specs.Prelude.{ℕ, suc, ◌+◌, ℤ, pos, negsuc, ◌-ℤ◌, neg_ℤ, int_le, List, [], ◌∷◌, ◌++◌, Option, Some, None, if◌then◌else◌, ◌≡◌, refl}
use Rattle.nest_tree.specs.declared.tree.Compare.{Compare}
use Rattle.nest_tree.specs.declared.tree.Compare.TheVariants.{Lt, Le, Eq, Ge, Gt}
use Rattle.nest_tree.specs.declared.tree.Guard.{Guard}
use Rattle.nest_tree.specs.Form.{Form}
use Rattle.nest_tree.specs.Tree.{Head, Work, assign, print}
use Rattle.nest_rows.specs.declared.constraint.Constraint.{Constraint}
use Rattle.nest_rows.specs.declared.constraint.Sign.{Sign}
use Rattle.nest_rows.specs.declared.constraint.Sign.TheVariants.{Plus, Minus}
use Rattle.nest_rows.specs.Places.{terms_of}
use Rattle.nest_rows.specs.Signs.{flipped, signed, with_sign}

-- an unknown, with this sign, is at most a value, with this sign
abbrev pub equal : Sign → ℕ → ℤ → Constraint
equal sign n v = record { terms = (n, signed sign (pos 1)) ∷ []; bound = signed sign v }

-- the named constants, from the one with this number on, have these values
abbrev pub constants_have : ℕ → List ℤ → List Constraint
constants_have n [] = []
constants_have n (v ∷ values) = equal Plus n v ∷ equal Minus n v ∷ constants_have (suc n) values

-- a form, with this sign, is at most a number
abbrev pub at_most : Sign → ℕ → List Head → Form → ℤ → Constraint
at_most sign first heads f most = record {
  terms = with_sign sign (terms_of first heads f);
  bound = most -ℤ signed sign f.constant;
}

-- value - m1 - step * trip, with this sign, is at most 0
abbrev pub on_trip : Sign → ℕ → List Head → ℕ → Head → Constraint
on_trip sign first heads place head = record {
  terms = (place, signed sign (pos 1)) ∷ (place + 1, signed sign (neg_ℤ head.step))
      ∷ with_sign (flipped sign) (terms_of first heads head.m1);
  bound = signed sign head.m1.constant;
}

-- the sign that turns a loop's order to a rising one
abbrev pub sign_of : ℤ → Sign
sign_of step = if int_le (pos 0) step then Plus else Minus

-- value - m2, with the sign of the step, is at most 0
abbrev pub not_past : ℕ → List Head → ℕ → Head → Constraint
not_past first heads place head = record {
  terms = (place, signed (sign_of head.step) (pos 1))
      ∷ with_sign (flipped (sign_of head.step)) (terms_of first heads head.m2);
  bound = signed (sign_of head.step) head.m2.constant;
}

-- the trip is at least 0
abbrev pub counted : ℕ → Constraint
counted place = record { terms = (place + 1, negsuc 0) ∷ []; bound = pos 0 }

-- a loop among these, whose value has this number, is at one of its trips
abbrev pub loop_has : ℕ → List Head → ℕ → Head → List Constraint
loop_has first heads place head =
    on_trip Plus first heads place head ∷ on_trip Minus first heads place head ∷ counted place
    ∷ not_past first heads place head ∷ []

-- each of these loops, from the one whose value has this number on
abbrev pub loops_have : ℕ → List Head → ℕ → List Head → List Constraint
loops_have first heads place [] = []
loops_have first heads place (h ∷ rest) =
    loop_has first heads place h ++ loops_have first heads (place + 2) rest

-- the difference of two forms, with this sign, is at most a number
abbrev pub differ : Sign → ℕ → List Head → Form → Form → ℤ → Constraint
differ sign first heads left right most = record {
  terms = with_sign sign (terms_of first heads left)
      ++ with_sign (flipped sign) (terms_of first heads right);
  bound = most -ℤ signed sign left.constant -ℤ signed (flipped sign) right.constant;
}

-- a comparison holds
abbrev pub compare_so : Compare → ℕ → List Head → Form → Form → List Constraint
compare_so Lt first heads left right = differ Plus first heads left right (negsuc 0) ∷ []
compare_so Le first heads left right = differ Plus first heads left right (pos 0) ∷ []
compare_so Eq first heads left right =
    differ Plus first heads left right (pos 0) ∷ differ Minus first heads left right (pos 0) ∷ []
compare_so Ge first heads left right = differ Minus first heads left right (pos 0) ∷ []
compare_so Gt first heads left right = differ Minus first heads left right (negsuc 0) ∷ []

abbrev pub guard_has : ℕ → List Head → Option Guard → List Constraint
guard_has first heads None = []
guard_has first heads (Some g) = compare_so g.op first heads g.left g.right

abbrev pub guard_of : Work → Option Guard
guard_of (assign a) = a.guard
guard_of (print p) = None

-- DO 10 I = 1, P1, 2 with the unknowns P1, I and its trip
abbrev example_head : Head
example_head = record {
  number = 1;
  m1 = record { constant = pos 1; loops = []; params = [] };
  m2 = record { constant = pos 0; loops = []; params = (1, pos 1) ∷ [] };
  step = pos 2;
  line = 1;
}

pub loops_have-example : loops_have 2 (example_head ∷ []) 2 (example_head ∷ [])
    ≡ record { terms = (2, pos 1) ∷ (3, negsuc 1) ∷ []; bound = pos 1 }
    ∷ record { terms = (2, negsuc 0) ∷ (3, pos 2) ∷ []; bound = negsuc 0 }
    ∷ record { terms = (3, negsuc 0) ∷ []; bound = pos 0 }
    ∷ record { terms = (2, pos 1) ∷ (1, negsuc 0) ∷ []; bound = pos 0 } ∷ []
loops_have-example = refl
