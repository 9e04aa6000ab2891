-- Anchors that name the same processor at the values of the named constants.
use Rattle.std.specs.Prelude.{ℕ, ℤ, ◌+ℤ◌, Bool, false, ◌&&◌, List, [], ◌∷◌, length, Option, Some, None, if◌then◌else◌}
use Rattle.std.specs.Cmp.Lexicographic.{pointwise}
use Rattle.std.specs.Ordering.{int_eq}
use Rattle.nest_tree.specs.Form.{Form, dot, reach_within}
use Rattle.owner_partition.specs.declared.anchor.Anchor.{Anchor}
use Rattle.owner_partition.specs.declared.anchor.Dist.{Dist}
use Rattle.owner_partition.specs.Owners.{dealt, has_places, is_same_dist, is_same_pair}

-- what a form comes to where all loops are 0, if it names no constants but those with these values
abbrev pub fixed_value : List ℤ → Form → Option ℤ
fixed_value values f =
    if reach_within (length values) f.params then Some (f.constant +ℤ dot f.params values) else None

-- two values are of one processor: they are the same, and dealt out the same way; or no loop adds to them, and the processors are the same
abbrev pub is_same_deal : ℕ → List (ℕ × ℤ) → Dist → ℤ → Dist → ℤ → Bool
is_same_deal workers [] d v e w =
    has_places d && has_places e && int_eq (dealt d workers v) (dealt e workers w)
is_same_deal workers (l ∷ loops) d v e w = is_same_dist d e && int_eq v w

abbrev pub is_same_one : ℕ → List (ℕ × ℤ) → Dist → Option ℤ → Dist → Option ℤ → Bool
is_same_one workers loops d None e o = false
is_same_one workers loops d (Some v) e None = false
is_same_one workers loops d (Some v) e (Some w) = is_same_deal workers loops d v e w

-- two anchors name the same processor among so many wherever the loops are, at these values of the named constants
abbrev pub says_same : List ℤ → ℕ → Anchor → Anchor → Bool
says_same values workers a b =
    pointwise is_same_pair a.form.loops b.form.loops
    && is_same_one workers a.form.loops a.dist (fixed_value values a.form) b.dist
    (fixed_value values b.form)
