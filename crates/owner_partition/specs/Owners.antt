-- Who owns an instance, and whom an anchor names.
use Rattle.std.specs.Prelude.{ℕ, ◌*◌, ◌-◌, ℤ, pos, negsuc, int_le, int_lt, nat_le, Bool, true, false, ◌&&◌, ◌==◌, List, Option, Some, None, slice_get, ◌≡◌, refl}
use Rattle.std.specs.Int.{int_div_euclid, int_rem_euclid}
use Rattle.std.specs.Cmp.Lexicographic.{pointwise}
use Rattle.std.specs.List.{filter}
use Rattle.std.specs.Ordering.{int_eq}
use Rattle.nest_tree.specs.Form.{form_value}
use Rattle.nest_tree.specs.Layout.{count_of}
use Rattle.nest_tree.specs.Tree.{Tree, param_values}
use Rattle.nest_model.specs.Instances.{Instance}
use Rattle.nest_model.specs.Visits.{Visit}
use Rattle.owner_partition.specs.declared.anchor.Dist.{Dist}
use Rattle.owner_partition.specs.declared.anchor.Dist.TheVariants.{Block, Cyclic}
use Rattle.owner_partition.specs.declared.anchor.Anchor.{Anchor}
use Rattle.owner_partition.specs.Phases.{Execution, visit_instances}

-- who owns what stands at this value: floor(w / b), or w modulo the workers
abbrev pub dealt : Dist → ℕ → ℤ → ℤ
dealt (Block b) workers w = int_div_euclid w (pos b)
dealt Cyclic workers w = int_rem_euclid w (pos workers)

-- a block has 1 to 2147483647 places
abbrev pub has_places : Dist → Bool
has_places (Block b) = nat_le 1 b && nat_le b 2147483647
has_places Cyclic = true

-- two anchors have the same form and deal its places the same way
abbrev pub is_same_pair : ℕ × ℤ → ℕ × ℤ → Bool
is_same_pair p q = p.0 == q.0 && int_eq p.1 q.1

abbrev pub is_same_dist : Dist → Dist → Bool
is_same_dist (Block b) (Block c) = b == c
is_same_dist (Block b) Cyclic = false
is_same_dist Cyclic (Block c) = false
is_same_dist Cyclic Cyclic = true

abbrev pub is_same_anchor : Anchor → Anchor → Bool
is_same_anchor a b =
    int_eq a.form.constant b.form.constant && pointwise is_same_pair a.form.loops b.form.loops
    && pointwise is_same_pair a.form.params b.form.params && is_same_dist a.dist b.dist

-- the processor that an anchor names where the loops and the named constants have these values
abbrev pub anchor_owner : Anchor → ℕ → List ℤ → List ℤ → ℕ
anchor_owner a workers loops params =
    count_of (dealt a.dist workers (form_value a.form loops params))

abbrev pub owner_by : Option Anchor → ℕ → List ℤ → List ℤ → ℕ
owner_by (Some a) workers loops params = anchor_owner a workers loops params
owner_by None workers loops params = 0

-- the owner of an instance by the anchors of the static phases, where a phase without one belongs to processor 0
abbrev pub owner_of : Tree → List Anchor → ℕ → Execution → ℕ
owner_of tree anchors workers x =
    owner_by (slice_get anchors (x.place - 1)) workers x.instance.loops (param_values tree)

-- the instances of a phase that a processor owns, in sequential order
abbrev pub own_instances : List ℤ → Anchor → ℕ → ℕ → Visit → List Instance
own_instances params a workers p v =
    filter (λ (i : Instance). anchor_owner a workers i.loops params == p) (visit_instances params v)

-- an interval lies within the blocks of so many workers: within 0 to b * P - 1; the places in turn have no end
abbrev pub reaches : Dist → ℕ → ℤ × ℤ → Bool
reaches (Block b) workers (low, high) = int_le (pos 0) low && int_lt high (pos (b * workers))
reaches Cyclic workers (low, high) = true

-- in blocks of 3, place 8 is processor 2's; in turn among 3, so is place -1
pub dealt-block : dealt (Block 3) 3 (pos 8) ≡ pos 2
dealt-block = refl

pub dealt-cyclic : dealt Cyclic 3 (negsuc 0) ≡ pos 2
dealt-cyclic = refl
