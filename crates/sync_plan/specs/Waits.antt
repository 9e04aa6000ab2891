-- Whom a processor waits for in front of a phase, and who posts there.
use Rattle.std.specs.Prelude.{ℕ, ◌+◌, ◌-◌, ℤ, Bool, true, false, ◌&&◌, ◌||◌, not, ◌==◌, List, [], ◌∷◌, Option, Some, None, slice_get, ◌≡◌, refl}
use Rattle.std.specs.List.{filter, list_any, range_with_len}
use Rattle.nest_tree.specs.Tree.{Tree, param_values}
use Rattle.owner_partition.specs.Owners.{owner_by}
use Rattle.sync_plan.specs.declared.plan.Kind.{Kind}
use Rattle.sync_plan.specs.declared.plan.Kind.TheVariants.{Nothing, Producer, Left, Right, Both, Barrier, Join}
use Rattle.sync_plan.specs.declared.plan.Plan.{Plan}
use Rattle.sync_plan.specs.Kinds.{anchor_in}

-- processor p waits for q at a kind, where its anchor names `owner`: Nothing nobody, Producer the owner, Left p - 1, Right p + 1, Both these two, Barrier and Join all
abbrev pub waits_at : Kind → ℕ → ℕ → ℕ → Bool
waits_at Nothing owner p q = false
waits_at (Producer a) owner p q = owner == q
waits_at Left owner p q = q + 1 == p
waits_at Right owner p q = p + 1 == q
waits_at Both owner p q = q + 1 == p || p + 1 == q
waits_at Barrier owner p q = true
waits_at Join owner p q = true

-- the processor that a kind's anchor names where the loops and the named constants have these values, 0 where it has none
abbrev pub kind_owner : Kind → ℕ → List ℤ → List ℤ → ℕ
kind_owner kind workers loops params = owner_by (anchor_in kind) workers loops params

-- for itself no processor waits
abbrev pub does_wait_at : Kind → ℕ → ℕ → ℕ → Bool
does_wait_at kind owner p q = not (p == q) && waits_at kind owner p q

-- whom p waits for at a kind, rising, and whether some processor waits for q
abbrev pub awaited_at : Kind → ℕ → ℕ → ℕ → List ℕ
awaited_at kind owner workers p = filter (does_wait_at kind owner p) (range_with_len 0 workers)

abbrev pub is_awaited_at : Kind → ℕ → ℕ → ℕ → Bool
is_awaited_at kind owner workers q =
    list_any (λ p. does_wait_at kind owner p q) (range_with_len 0 workers)

-- the same in front of a phase of the static phase with this number, from 1, where the loops have these values by number
abbrev pub awaited_behind : Option Kind → ℕ → List ℤ → List ℤ → ℕ → List ℕ
awaited_behind None workers loops params p = []
awaited_behind (Some kind) workers loops params p =
    awaited_at kind (kind_owner kind workers loops params) workers p

abbrev pub is_awaited_behind : Option Kind → ℕ → List ℤ → List ℤ → ℕ → Bool
is_awaited_behind None workers loops params q = false
is_awaited_behind (Some kind) workers loops params q =
    is_awaited_at kind (kind_owner kind workers loops params) workers q

-- whom p waits for in front of a phase, rising
abbrev pub waits_for : Tree → Plan → ℕ → ℕ → List ℤ → List ℕ
waits_for tree plan p place loops =
    awaited_behind (slice_get plan.kinds (place - 1)) plan.workers loops (param_values tree) p

-- q posts in front of a phase: some processor waits for it there
abbrev pub posts_at : Tree → Plan → ℕ → ℕ → List ℤ → Bool
posts_at tree plan q place loops =
    is_awaited_behind (slice_get plan.kinds (place - 1)) plan.workers loops (param_values tree) q

-- of three processors the middle one waits for both others at Both, the first for the middle one; at Right nobody waits for the first
pub awaited_at-both : awaited_at Both 0 3 1 ≡ 0 ∷ 2 ∷ []
awaited_at-both = refl

pub awaited_at-both_first : awaited_at Both 0 3 0 ≡ 1 ∷ []
awaited_at-both_first = refl

pub is_awaited_at-right : is_awaited_at Right 0 3 0 ≡ false
is_awaited_at-right = refl
