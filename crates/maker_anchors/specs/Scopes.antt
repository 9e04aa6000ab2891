-- What the anchor of a static phase may name.
use Rattle.std.specs.Prelude.{ℕ, ◌-◌, List, length, Option, Some, None, if◌then◌else◌}
use Rattle.nest_tree.specs.declared.tree.Access.{Access}
use Rattle.std.specs.Option.{option_or}
use Rattle.nest_tree.specs.Loads.{loads_in}
use Rattle.nest_tree.specs.Tree.{Assignment, Statement}
use Rattle.nest_tree.specs.View.{tree_of}
use Rattle.owner_partition.specs.declared.anchor.Anchor.{Anchor}
use Rattle.owner_partition.specs.declared.cut.Mark.{Mark}
use Rattle.owner_partition.specs.Marks.{is_sum_mark, mark_of}
use Rattle.owner_partition.specs.Placement.{phase_ends}
use Rattle.owner_partition.specs.StaticPhases.{loops_round}
use Rattle.plan_shape.specs.Named.{with_own}
use Rattle.maker_anchors.specs.Anchors.{element_anchor, first_found, first_of, if_one_good, if_one_names, span_of, value_anchor}
use Rattle.maker_anchors.specs.declared.scope.Scope.{Scope}
use Rattle.maker_anchors.specs.declared.scope.Sought.{Sought}
use Rattle.maker_anchors.specs.declared.scope.Sought.TheVariants.{Stored, Loaded}

abbrev pub constants_at : Scope → ℕ
constants_at s = length (tree_of s.program.now).params

abbrev pub loops_at : Scope → List ℕ
loops_at s = with_own s.own (loops_round s.phase.now)

-- the anchor of what an assignment stores, and of a Doall loop's value, if it is good
abbrev pub good_element_anchor : Scope → Access → Option Anchor
good_element_anchor s a =
    if_one_good (constants_at s) (loops_at s) (element_anchor (tree_of s.program.now) s.workers a)

abbrev pub own_value : Scope → List Mark → ℕ → Option ℕ → Option Anchor
own_value s marks u None = None
own_value s marks u (Some n) =
    Some (value_anchor s.workers n (span_of n (phase_ends (tree_of s.program.now) marks (u - 1))))

abbrev pub good_own_anchor : Scope → List Mark → ℕ → Option Anchor
good_own_anchor s marks u = if_one_good (constants_at s) (loops_at s) (own_value s marks u s.own)

-- the same of what an assignment loads, if it names a loop
abbrev pub good_load_anchor : Scope → ℕ → Access → Option Anchor
good_load_anchor s n a = if_one_names n (good_element_anchor s a)

-- what of an assignment is sought
abbrev pub sought_in : Scope → Sought → Assignment → Option Anchor
sought_in s Stored a = good_element_anchor s a.target
sought_in s (Loaded n) a = first_of (good_load_anchor s n) (loads_in a.value)

-- of a Sum loop, the first good anchor of what it loads that names it
abbrev pub sum_anchor : Scope → List Mark → Statement → Option ℕ → Option Anchor
sum_anchor s marks what None = None
sum_anchor s marks what (Some n) =
    if is_sum_mark (mark_of marks n) then first_found (sought_in s (Loaded n)) what else None

-- the first good anchor of what a phase stores, of what a Sum phase loads, and of its own loop's value
abbrev pub found_anchor : Scope → List Mark → ℕ → Statement → Option Anchor
found_anchor s marks u what = option_or (first_found (sought_in s Stored) what)
    (option_or (sum_anchor s marks what s.own) (good_own_anchor s marks u))
