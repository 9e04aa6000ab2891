-- The owner of a loop's last trip: what is executed in it shows who that is.
use Rattle.std.proofs.Common.{◌≡◌, ℕ, ℤ, List, [], ◌∷◌, Option, Some, None, if◌then◌else◌, refl, ap, sym, ◌∙◌, is_none}
use Rattle.std.specs.Prelude.{slice_get}
use Rattle.std.specs.Option.{option_map}
use Rattle.nest_tree.specs.Tree.{Head, Statement, Statements, do_loop, Tree, param_values}
use Rattle.nest_model.specs.Instances.{Instance, head_trips, instances_in, with_loop}
use Rattle.nest_model.specs.Visits.{Visit}
use Rattle.sync_plan.specs.declared.plan.Plan.{Plan}
use Rattle.sync_plan.specs.Conflicts.{last_value}
use Rattle.spmd_model.specs.Closings.{executed_at, last_loops, last_owner, phase_owner}

module _ (tree : Tree) (plan : Plan) (v : Visit) (head : Head) (body : Statements) (what : v.what ≡ do_loop head body) where
  owner_is : (w : Option ℤ) → last_value (head_trips (param_values tree) head v.loops) ≡ w → last_owner tree plan v ≡ option_map (phase_owner tree plan v) (executed_at (param_values tree) body v.first (option_map (with_loop v.loops head.number) w))
  owner_is w is =
      ap (λ (s : Statement). option_map (phase_owner tree plan v) (last_loops (param_values tree) s v.first v.loops)) what
      ∙ ap (λ x. option_map (phase_owner tree plan v) (executed_at (param_values tree) body v.first (option_map (with_loop v.loops head.number) x))) is

  -- a loop that makes no trip
  pub no_last : last_value (head_trips (param_values tree) head v.loops) ≡ None → last_owner tree plan v ≡ None
  no_last is = owner_is None is

  -- one that executes something in its last trip
  pub last_by : (value : ℤ) (n : ℕ) (i : Instance) → last_value (head_trips (param_values tree) head v.loops) ≡ Some value → slice_get (instances_in (param_values tree) body v.first (with_loop v.loops head.number value)) n ≡ Some i →
      last_owner tree plan v ≡ Some (phase_owner tree plan v (with_loop v.loops head.number value))
  last_by value n i is there = owner_is (Some value) is ∙ by (instances_in (param_values tree) body v.first (with_loop v.loops head.number value)) n there
    where
      by : (is : List Instance) (n : ℕ) → slice_get is n ≡ Some i →
          option_map (phase_owner tree plan v) (if is_none (slice_get is 0) then None else Some (with_loop v.loops head.number value)) ≡ Some (phase_owner tree plan v (with_loop v.loops head.number value))
      by [] n there = let clash : None ≡ Some i = there in absurd (cc)
      by (x ∷ xs) n there = refl

  -- what a last trip with an owner has
  pub record IsLast (q : ℕ) : Type 0 where
    pub value : ℤ
    pub last : last_value (head_trips (param_values tree) head v.loops) ≡ Some value
    pub instance : Instance
    pub at : slice_get (instances_in (param_values tree) body v.first (with_loop v.loops head.number value)) 0 ≡ Some instance
    pub owner : phase_owner tree plan v (with_loop v.loops head.number value) ≡ q

  pub last_of : (q : ℕ) → last_owner tree plan v ≡ Some q → IsLast q
  last_of q owned = by_value (last_value (head_trips (param_values tree) head v.loops)) refl
    where
      by_value : (w : Option ℤ) → last_value (head_trips (param_values tree) head v.loops) ≡ w → IsLast q
      by_value None is = let clash : None ≡ Some q = sym (owner_is None is) ∙ owned in absurd (cc)
      by_value (Some value) is = by (slice_get (instances_in (param_values tree) body v.first (with_loop v.loops head.number value)) 0) refl (sym (owner_is (Some value) is) ∙ owned)
        where
          by : (o : Option Instance) → slice_get (instances_in (param_values tree) body v.first (with_loop v.loops head.number value)) 0 ≡ o →
              option_map (phase_owner tree plan v) (if is_none (slice_get (instances_in (param_values tree) body v.first (with_loop v.loops head.number value)) 0) then None else Some (with_loop v.loops head.number value)) ≡ Some q → IsLast q
          by None at same = let clash : None ≡ Some q = sym (ap (λ o. option_map (phase_owner tree plan v) (if is_none o then None else Some (with_loop v.loops head.number value))) at) ∙ same in absurd (cc)
          by (Some i) at same =
              let equal : Some (phase_owner tree plan v (with_loop v.loops head.number value)) ≡ Some q = sym (ap (λ o. option_map (phase_owner tree plan v) (if is_none o then None else Some (with_loop v.loops head.number value))) at) ∙ same in
              record { value = value; last = is; instance = i; at = at; owner = cc }

-- only a loop has a last trip
pub no_loop : (tree : Tree) (plan : Plan) (v : Visit) (s : Statement) → v.what ≡ s → last_loops (param_values tree) s v.first v.loops ≡ None → last_owner tree plan v ≡ None
no_loop tree plan v s what none = ap (λ (s : Statement). option_map (phase_owner tree plan v) (last_loops (param_values tree) s v.first v.loops)) what ∙ ap (option_map (phase_owner tree plan v)) none
