-- Worked rows of what others see of a private scalar. The loop is DO 10 I = 7, 2, -2 or DO 10 I = 1, 6, 2, round K = I, A(I) = K and K = 0; it is dealt, and K is private in it.
use Rattle.std.specs.Prelude.{ℤ, pos, negsuc, ◌-ℤ◌, int_le, [], ◌∷◌, map, Some, None, ◌≡◌, refl}
use Rattle.nest_tree.specs.declared.tree.Access.{Access}
use Rattle.nest_tree.specs.declared.tree.Spread.TheVariants.{Block}
use Rattle.nest_tree.specs.Form.{Form, fixed}
use Rattle.nest_tree.specs.Tree.{Expression, number, loop_value, load, assign, Head, Statement, do_loop, work, done, next, Tree}
use Rattle.nest_model.specs.Instances.{head_trips}
use Rattle.owner_partition.specs.declared.cut.Mark.TheVariants.{Doall}
use Rattle.owner_partition.specs.Phases.{executions}
use Rattle.sync_plan.specs.declared.plan.Conditions.TheVariants.{Values}
use Rattle.sync_plan.specs.declared.plan.Plan.{Plan}
use Rattle.sync_plan.specs.declared.plan.Version.TheVariants.{Five}
use Rattle.sync_plan.specs.Conflicts.{is_value, last_value, seen_loads, seen_store}

abbrev own_value : Form
own_value = record { constant = pos 0; loops = (1, pos 1) ∷ []; params = [] }

abbrev stepped : (m1 m2 step : ℤ) → Head
stepped m1 m2 step = record { number = 1; m1 = fixed m1; m2 = fixed m2; step = step; line = 1 }

-- K is variable 1 and has cell 0; A(I) is variable 2 and has cell I
abbrev k : Access
k = record { variable = 1; subscripts = [] }

abbrev a : Access
a = record { variable = 2; subscripts = own_value ∷ [] }

abbrev stores : Access → Expression → Statement
stores target value =
    work (assign (record { target = target; value = value; guard = None; line = 2 }))

abbrev round : Head → Tree
round head = record {
  items = next (do_loop head (next (stores k (loop_value 1))
      (next (stores a (load k)) (next (stores k (number (pos 0))) done)))) done;
  params = [];
  variables = record { name = 75 ∷ []; bounds = []; axis = 1; spread = Block }
      ∷ record { name = 65 ∷ []; bounds = (pos 1, pos 7) ∷ []; axis = 1; spread = Block } ∷ [];
}

abbrev k_private : Plan
k_private = record {
  version = Five;
  conditions = Values;
  workers = 2;
  cut = record { marks = Doall ∷ []; privates = (1 ∷ []) ∷ [] };
  anchors = [];
  kinds = [];
  certificates = [];
}

abbrev falling : Head
falling = stepped (pos 7) (pos 2) (negsuc 1)

abbrev rising : Head
rising = stepped (pos 1) (pos 6) (pos 2)

-- the values trip by trip, and the last one
pub falling-trips : head_trips [] falling [] ≡ pos 7 ∷ pos 5 ∷ pos 3 ∷ []
falling-trips = refl

pub falling-last : last_value (head_trips [] falling []) ≡ Some (pos 3)
falling-last = refl

pub rising-last : last_value (head_trips [] rising []) ≡ Some (pos 5)
rising-last = refl

-- a value is the last exactly where it comes within a step of m2: i - m2 <= -s - 1 where the step s is negative, -i + m2 <= s - 1 where it isn't
pub falling-row : map (λ i. int_le (i -ℤ pos 2) (pos 1)) (head_trips [] falling [])
    ≡ map (is_value (last_value (head_trips [] falling []))) (head_trips [] falling [])
falling-row = refl

pub rising-row : map (λ i. int_le (pos 6 -ℤ i) (pos 1)) (head_trips [] rising [])
    ≡ map (is_value (last_value (head_trips [] rising []))) (head_trips [] rising [])
rising-row = refl

-- of the stores to K others see one, the first in the last trip, and of its loads none; each store to A they see
pub falling-seen : map (seen_store (round falling) k_private)
    (executions (round falling) (Doall ∷ []))
    ≡ None ∷ Some 7 ∷ None ∷ None ∷ Some 5 ∷ None ∷ Some 0 ∷ Some 3 ∷ None ∷ []
falling-seen = refl

pub rising-seen : map (seen_store (round rising) k_private) (executions (round rising) (Doall ∷ []))
    ≡ None ∷ Some 1 ∷ None ∷ None ∷ Some 3 ∷ None ∷ Some 0 ∷ Some 5 ∷ None ∷ []
rising-seen = refl

pub no-load-is-seen : map (seen_loads (round falling) k_private)
    (executions (round falling) (Doall ∷ [])) ≡ [] ∷ [] ∷ [] ∷ [] ∷ [] ∷ [] ∷ [] ∷ [] ∷ [] ∷ []
no-load-is-seen = refl
