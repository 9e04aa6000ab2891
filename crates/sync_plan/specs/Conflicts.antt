-- The cells of an instance under a plan, what of them others see, and which two instances conflict. These are the places that say it.
use Rattle.std.specs.Prelude.{ℕ, ◌+◌, ◌-◌, ◌≡◌, ◌≢◌, ◌⊎◌, ◌==◌, ℤ, Bool, true, false, not, ◌&&◌, List, [], ◌∷◌, ◌++◌, Contains, find, map, slice_get, sum_by, take, Option, Some, None, if◌then◌else◌}
use Rattle.std.specs.List.{filter}
use Rattle.std.specs.Option.{option_map, option_to_list}
use Rattle.std.specs.Ordering.{int_eq}
use Rattle.nest_tree.specs.Form.{numbered}
use Rattle.nest_tree.specs.Layout.{first_cell}
use Rattle.nest_tree.specs.Tree.{Statement, Statements, do_loop, work, continue, done, next, Tree, param_values}
use Rattle.nest_model.specs.Accesses.{loads_of, store_of}
use Rattle.nest_model.specs.Instances.{head_trips, works_in}
use Rattle.nest_walk.specs.Texts.{Placed}
use Rattle.own_scalars.specs.OwnScalars.{has_access, some_in}
use Rattle.owner_partition.specs.Owners.{owner_of}
use Rattle.owner_partition.specs.Phases.{Execution}
use Rattle.sync_plan.specs.declared.plan.Plan.{Plan}
use Rattle.sync_plan.specs.Own.{is_cell_of, own_cell, own_loop, own_of}
use Rattle.sync_plan.specs.Shape.{static_phases}

abbrev pub owner_under : Tree → Plan → Execution → ℕ
owner_under tree plan x = owner_of tree plan.anchors plan.workers x

-- the cells that an instance loads, in text order, and the one that it stores: an own scalar's are its owner's
abbrev pub loads_under : Tree → Plan → Execution → List ℕ
loads_under tree plan x =
    map (own_cell (own_of tree plan x.place) (owner_under tree plan x)) (loads_of tree x.instance)

abbrev pub store_under : Tree → Plan → Execution → Option ℕ
store_under tree plan x = option_map (own_cell (own_of tree plan x.place) (owner_under tree plan x))
    (store_of tree x.instance)

-- how many pieces of work stand in front of the first access of a scalar in a statement, and in a loop's body
abbrev mutual
  pub works_before_in : ℕ → Statement → ℕ
  works_before_in v (do_loop head body) = works_before v body
  works_before_in v (work w) = 0
  works_before_in v (continue line) = 0

  pub works_before : ℕ → Statements → ℕ
  works_before v done = 0
  works_before v (next s rest) =
      if some_in (has_access v) s then works_before_in v s else works_in s + works_before v rest

-- the number, from 1, of the first piece of work of a static phase: the phases in front of it have all those in front
abbrev pub first_work : Tree → Plan → ℕ → ℕ
first_work tree plan place = 1 + sum_by (λ (s : Placed). works_in s.what)
    (take (place - 1) (static_phases tree plan.cut.marks))

-- the last of some values, if there is one
abbrev pub last_value : List ℤ → Option ℤ
last_value [] = None
last_value (v ∷ vs) = Some (last_behind v vs)
  where
    last_behind : ℤ → List ℤ → ℤ
    last_behind v [] = v
    last_behind v (w ∷ ws) = last_behind w ws

abbrev pub is_value : Option ℤ → ℤ → Bool
is_value None v = false
is_value (Some last) v = int_eq last v

-- the loops have values of the last trip of a static phase's loop
abbrev pub is_last_trip : List ℤ → Option Placed → List ℤ → Bool
is_last_trip params None loops = false
is_last_trip params (Some s) loops = is_last_of params s.what loops
  where
    is_last_of : List ℤ → Statement → List ℤ → Bool
    is_last_of params (do_loop head body) loops =
        is_value (last_value (head_trips params head loops)) (numbered loops head.number)
    is_last_of params (work w) loops = false
    is_last_of params (continue line) loops = false

-- an instance is that of a private scalar's first store in the last trip of its phase's loop
abbrev pub is_last_store : Tree → Plan → Execution → ℕ → Bool
is_last_store tree plan x v =
    is_last_trip (param_values tree) (slice_get (static_phases tree plan.cut.marks) (x.place - 1))
    x.instance.loops
    && x.instance.statement == first_work tree plan x.place
    + works_before v (own_loop tree plan x.place).body

-- what others see of an instance: its cells, but of a private scalar only its first store in the loop's last trip
abbrev pub seen_loads : Tree → Plan → Execution → List ℕ
seen_loads tree plan x = filter (λ c. not (is_cell_of tree (own_loop tree plan x.place).privates c))
    (loads_of tree x.instance)

abbrev pub seen_by : Tree → Plan → Execution → ℕ → Option ℕ → Option ℕ
seen_by tree plan x c None = Some c
seen_by tree plan x c (Some v) = if is_last_store tree plan x v then Some c else None

abbrev pub seen_stored : Tree → Plan → Execution → Option ℕ → Option ℕ
seen_stored tree plan x None = None
seen_stored tree plan x (Some c) =
    seen_by tree plan x c (find (λ v. first_cell tree v == c) (own_loop tree plan x.place).privates)

abbrev pub seen_store : Tree → Plan → Execution → Option ℕ
seen_store tree plan x = seen_stored tree plan x (store_of tree x.instance)

abbrev pub seen_cells : Tree → Plan → Execution → List ℕ
seen_cells tree plan x = seen_loads tree plan x ++ option_to_list (seen_store tree plan x)

-- two instances conflict: others see a cell of both, one of them stores it, and it isn't that both are of one phase and assign a sum scalar of it
pub record ConflictUnder (tree : Tree) (plan : Plan) (x y : Execution) : Type 0 where
  pub cell : ℕ
  pub first : Contains (seen_cells tree plan x) cell
  pub second : Contains (seen_cells tree plan y) cell
  pub stored : (seen_store tree plan x ≡ Some cell) ⊎ (seen_store tree plan y ≡ Some cell)
  pub apart : (own_of tree plan x.place).is_sum cell ≡ true → x.phase ≢ y.phase
