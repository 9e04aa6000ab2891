-- Subscripts and orders as plain data.
use Rattle.std.specs.Prelude.{ℕ, ℤ, pos, negsuc, neg_ℤ, List, [], ◌∷◌, Bool}
use Rattle.std.specs.List.{list_all}
use Rattle.nest_tree.specs.Form.{is_small}
use Rattle.nest_rows.specs.declared.constraint.Constraint.{Constraint}
use Rattle.sync_plan.specs.declared.plan.ConditionRow.{ConditionRow}
use Rattle.comm_system.specs.Levels.{Order}
use Rattle.comm_system.specs.PairRows.{Sum}
use Rattle.comm_system.specs.declared.rows.Order.{Order as HeldOrder}
use Rattle.comm_system.specs.declared.rows.Sum.{Sum as HeldSum}

abbrev pub order_seen : HeldOrder → Order
order_seen o = record { equal = o.equal; earlier = o.earlier }

abbrev pub sum_seen : HeldSum → Sum
sum_seen s = record { terms = s.terms; constant = s.constant }

-- each coefficient is within plus or minus 2147483647
abbrev pub is_small_sum : HeldSum → Bool
is_small_sum s = list_all (λ p. is_small p.1) s.terms

-- a row of conditions as a constraint
abbrev pub condition_of : ConditionRow → Constraint
condition_of r = record { terms = r.coefs; bound = r.bound }

-- an unknown lies within these bounds
abbrev pub bounds_have : ℕ → ℤ × ℤ → List Constraint
bounds_have n (low, high) = record { terms = (n, pos 1) ∷ []; bound = high }
    ∷ record { terms = (n, negsuc 0) ∷ []; bound = neg_ℤ low } ∷ []

-- a free subscript
abbrev pub free_at : ℕ → Sum
free_at n = record { terms = (n, pos 1) ∷ []; constant = pos 0 }
