-- Plans that fit a program: their shape, where their anchors lie, who prints, and their conditions.
use Rattle.std.specs.Prelude.{ℕ, suc, ◌≡◌, ℤ, pos, int_le, Bool, not, ◌&&◌, ◌||◌, ◌==◌, List, [], ◌∷◌, ◌++◌, length, Option, Some, None, if◌then◌else◌}
use Rattle.std.specs.List.{cons_option}
use Rattle.std.specs.Option.{option_map, option_or}
use Rattle.std.specs.Ordering.{int_eq}
use Rattle.nest_tree.specs.Form.{Form, dot}
pub use Rattle.nest_tree.specs.Prints.{has_print, have_print}
use Rattle.nest_tree.specs.Tree.{Tree, param_values}
use Rattle.nest_walk.specs.Texts.{Placed}
use Rattle.owner_partition.specs.declared.anchor.Anchor.{Anchor}
use Rattle.owner_partition.specs.declared.cut.Mark.{Mark}
use Rattle.owner_partition.specs.declared.placement.Placement.{Placement}
pub use Rattle.owner_partition.specs.Marks.{is_dealt}
use Rattle.owner_partition.specs.Placement.{unplaced}
use Rattle.sync_plan.specs.declared.plan.ConditionRow.{ConditionRow}
use Rattle.sync_plan.specs.declared.plan.Conditions.{Conditions}
use Rattle.sync_plan.specs.declared.plan.Conditions.TheVariants.{Values, Rows}
use Rattle.sync_plan.specs.declared.plan.Kind.{Kind}
use Rattle.sync_plan.specs.declared.plan.Plan.{Plan}
use Rattle.sync_plan.specs.Kinds.{anchor_in}
use Rattle.sync_plan.specs.Shape.{static_phases, wrong_field}

-- why a plan doesn't fit: a field of its shape, a block anchor that leaves its blocks, a phase with a PRINT that processor 0 doesn't run alone, or a row of conditions that isn't met
pub data Misfit : Type 0 where
  shape : (field : ℕ) → Misfit
  placement : (where_to : Placement) → Misfit
  print_place : (phase : ℕ) → Misfit
  condition : (row : ℕ) → Misfit

-- the anchors of the static phases, from the one with this number on, and those of the kinds in front of them
abbrev pub numbered_anchors : ℕ → List Anchor → List (ℕ × Anchor)
numbered_anchors n [] = []
numbered_anchors n (a ∷ rest) = (n, a) ∷ numbered_anchors (suc n) rest

abbrev pub kind_anchors : ℕ → List Kind → List (ℕ × Anchor)
kind_anchors n [] = []
kind_anchors n (kind ∷ rest) =
    cons_option (option_map (λ a. (n, a)) (anchor_in kind)) (kind_anchors (suc n) rest)

-- the phases' anchors are placed first, then the kinds'
abbrev pub placed_anchors : Plan → List (ℕ × Anchor)
placed_anchors plan = numbered_anchors 1 plan.anchors ++ kind_anchors 1 plan.kinds

-- the constant form 0
abbrev pub is_zero_form : Form → Bool
is_zero_form f = int_eq f.constant (pos 0) && length f.loops == 0 && length f.params == 0

-- the first static phase, from the one with this number on, with a PRINT that is dealt or has another form than the constant 0
abbrev pub misplaced_print : ℕ → List Mark → List Placed → List Anchor → Option ℕ
misplaced_print n marks [] anchors = None
misplaced_print n marks (s ∷ rest) [] = None
misplaced_print n marks (s ∷ rest) (a ∷ anchors) =
    if has_print s.what && (is_dealt marks s.what || not (is_zero_form a.form)) then Some n
    else misplaced_print (suc n) marks rest anchors

-- values of the named constants meet a row of conditions
abbrev pub meets : List ℤ → ConditionRow → Bool
meets params row = int_le (dot row.coefs params) row.bound

-- the first row, from the one with this number on, that they don't meet
abbrev pub unmet_among : ℕ → List ℤ → List ConditionRow → Option ℕ
unmet_among n params [] = None
unmet_among n params (row ∷ rest) =
    if meets params row then unmet_among (suc n) params rest else Some n

abbrev pub unmet : List ℤ → Conditions → Option ℕ
unmet params Values = None
unmet params (Rows rows) = unmet_among 1 params rows

abbrev pub as_misfit : {A : Type 0} → (A → Misfit) → Option A → Option Misfit
as_misfit why None = None
as_misfit why (Some a) = Some (why a)

-- the first reason why a plan doesn't fit: its shape, then the placement of its anchors, then the PRINTs, then the conditions
abbrev pub first_misfit : Tree → Plan → Option Misfit
first_misfit tree plan =
    option_or (as_misfit shape (wrong_field tree plan))
    (option_or (as_misfit placement (unplaced tree plan.cut.marks plan.workers
    (placed_anchors plan)))
    (option_or (as_misfit print_place (misplaced_print 1 plan.cut.marks
    (static_phases tree plan.cut.marks) plan.anchors))
    (as_misfit condition (unmet (param_values tree) plan.conditions))))

-- there is none
abbrev pub IsFit : Tree → Plan → Type 0
IsFit tree plan = first_misfit tree plan ≡ None
