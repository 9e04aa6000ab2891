-- When a processor finds its own trips by division and by a congruence.
use Rattle.std.specs.Prelude.{ℕ, ◌-◌, ◌<◌, ℤ, pos, ◌+ℤ◌, ◌*ℤ◌, ◌≤ℤ◌, true, List, length, ◌≡◌, ◌≢◌}
use Rattle.nest_tree.specs.Form.{form_value, is_form}
use Rattle.nest_tree.specs.Tree.{Head}
use Rattle.nest_model.specs.Instances.{trip_count, with_loop}
use Rattle.owner_partition.specs.declared.anchor.Anchor.{Anchor}
use Rattle.owner_partition.specs.declared.anchor.Dist.TheVariants.{Block}
use Rattle.owner_partition.specs.OwnInstances.{coefficient_of}

-- where the anchor stands at a loop: its value without the loop
abbrev pub rest_of : List ℤ → Anchor → Head → List ℤ → ℤ
rest_of params a head loops = form_value a.form (with_loop loops head.number (pos 0)) params

-- what it asks of a loop, an anchor and the values of the loops round it: in blocks no trip that is made lies below the first one
pub record CanFind (params : List ℤ) (a : Anchor) (workers p : ℕ) (head : Head) (loops : List ℤ) : Type 0 where
  pub form : is_form a.form ≡ true
  pub number : 0 < head.number
  pub within : head.number - 1 < length loops
  pub steps : head.step ≢ pos 0
  pub worker : p < workers
  pub block : (b : ℕ) → a.dist ≡ Block b → 0 < b
  pub placed : (b : ℕ) → a.dist ≡ Block b → (n : ℕ) → n < trip_count (form_value head.m1 loops params) (form_value head.m2 loops params) head.step →
      pos 0 ≤ℤ (rest_of params a head loops +ℤ coefficient_of a.form.loops head.number *ℤ (form_value head.m1 loops params +ℤ (pos n *ℤ head.step)))
