-- Worked refusals. The program is PARAMETER (N = ..), DO 10 I = 1, N with A(I) = I, DO 20 I = 1, N with B(I) = I, and PRINT *, B(1); the plan deals both loops in blocks of 2 to 3 workers, and has a barrier in front of each of the three phases.
use Rattle.std.specs.Prelude.{ℕ, ℤ, pos, negsuc, List, [], ◌∷◌, map, Some, None, ◌≡◌, refl}
use Rattle.nest_tree.specs.declared.tree.Access.{Access}
use Rattle.nest_tree.specs.declared.tree.Spread.TheVariants.{Block as BlockSpread}
use Rattle.nest_tree.specs.Form.{Form}
use Rattle.nest_tree.specs.Limits.{no_ends}
use Rattle.nest_tree.specs.Tree.{loop_value, load, value, assign, print, Statement, do_loop, work, done, next, Declaration, Tree}
use Rattle.owner_partition.specs.declared.anchor.Anchor.{Anchor}
use Rattle.owner_partition.specs.declared.anchor.Dist.{Dist}
use Rattle.owner_partition.specs.declared.anchor.Dist.TheVariants.{Block, Cyclic}
use Rattle.owner_partition.specs.Cuts.{Cutting}
use Rattle.owner_partition.specs.declared.cut.Mark.{Mark}
use Rattle.owner_partition.specs.declared.cut.Mark.TheVariants.{Doall, Sum, Inner, Outer, Single}
use Rattle.sync_plan.specs.declared.plan.Conditions.TheVariants.{Values, Rows}
use Rattle.sync_plan.specs.declared.plan.Kind.TheVariants.{Nothing, Producer, Barrier}
use Rattle.sync_plan.specs.declared.plan.Plan.{Plan}
use Rattle.sync_plan.specs.declared.plan.Version.TheVariants.{One, Two, Three, Four, Five}
use Rattle.plan_checker.specs.declared.refusal.PlanRefusal.TheVariants.{Condition, Placement, PrintPlace, Shape}
use Rattle.plan_checker.specs.Refusals.{first_refusal}

abbrev fixed : ℤ → Form
fixed c = record { constant = c; loops = []; params = [] }

abbrev in_loop : ℕ → ℤ → Form
in_loop n c = record { constant = c; loops = (n, pos 1) ∷ []; params = [] }

abbrev count : Form
count = record { constant = pos 0; loops = []; params = (1, pos 1) ∷ [] }

abbrev element : ℕ → Form → Access
element variable f = record { variable = variable; subscripts = f ∷ [] }

abbrev filled : ℕ → Statement
filled n = do_loop (record { number = n; m1 = fixed (pos 1); m2 = count; step = pos 1; line = n })
    (next (work (assign (record {
      target = element n (in_loop n (pos 0));
      value = loop_value n;
      guard = None;
      line = n;
    }))) done)

abbrev array : ℕ → ℕ → Declaration
array name n =
    record { name = name ∷ []; bounds = (pos 1, pos n) ∷ []; axis = 1; spread = BlockSpread }

abbrev two_arrays : ℕ → Tree
two_arrays n = record {
  items = next (filled 1) (next (filled 2)
      (next (work (print (record {
        items = value (load (element 2 (fixed (pos 1)))) ∷ [];
        line = 3;
      }))) done));
  params = record { name = 78 ∷ []; value = pos n } ∷ [];
  variables = array 65 n ∷ array 66 n ∷ [];
}

-- L1 - 1 or L2 - 1 with this distribution, and a constant in turn
abbrev along : ℕ → Dist → Anchor
along n dist = record { form = in_loop n (negsuc 0); dist = dist }

abbrev at_constant : ℤ → Anchor
at_constant c = record { form = fixed c; dist = Cyclic }

-- marks without private scalars
abbrev marked_by : List Mark → Cutting
marked_by marks = record { marks = marks; privates = map (λ m. []) marks }

abbrev barriers : Plan
barriers = record {
  version = One;
  conditions = Values;
  workers = 3;
  cut = marked_by (Doall ∷ Doall ∷ []);
  anchors = along 1 (Block 2) ∷ along 2 (Block 2) ∷ at_constant (pos 0) ∷ [];
  kinds = Barrier ∷ Barrier ∷ Barrier ∷ [];
  certificates = [];
}

pub fits : first_refusal (two_arrays 6) barriers ≡ None
unfolding no_ends
fits = refl

-- the fields of the shape
pub refused-no_worker : first_refusal (two_arrays 6) (record barriers { workers = 0 })
    ≡ Some (Shape 1)
refused-no_worker = refl

pub refused-workers : first_refusal (two_arrays 6) (record barriers { workers = 65 })
    ≡ Some (Shape 1)
refused-workers = refl

pub refused-marks : first_refusal (two_arrays 6) (record barriers { cut = marked_by (Doall ∷ []) })
    ≡ Some (Shape 2)
refused-marks = refl

pub refused-inner_outside : first_refusal (two_arrays 6)
    (record barriers { cut = marked_by (Inner ∷ Doall ∷ []) }) ≡ Some (Shape 3)
refused-inner_outside = refl

pub refused-anchors : first_refusal (two_arrays 6)
    (record barriers { anchors = along 1 (Block 2) ∷ [] }) ≡ Some (Shape 4)
refused-anchors = refl

pub refused-kinds : first_refusal (two_arrays 6) (record barriers { kinds = [] }) ≡ Some (Shape 4)
refused-kinds = refl

pub refused-single_names_its_loop : first_refusal (two_arrays 6)
    (record barriers { cut = marked_by (Single ∷ Doall ∷ []) }) ≡ Some (Shape 5)
refused-single_names_its_loop = refl

pub refused-no_block : first_refusal (two_arrays 6)
    (record barriers { anchors = along 1 (Block 0) ∷ along 2 (Block 2) ∷ at_constant (pos 0) ∷ [] })
    ≡ Some (Shape 5)
refused-no_block = refl

pub refused-long_block : first_refusal (two_arrays 6)
    (record barriers {
      anchors = along 1 (Block 2147483648) ∷ along 2 (Block 2)
          ∷ at_constant (pos 0) ∷ [];
    }) ≡ Some (Shape 5)
refused-long_block = refl

pub refused-kind_names_a_loop : first_refusal (two_arrays 6)
    (record barriers { kinds = Barrier ∷ Producer (along 1 Cyclic) ∷ Barrier ∷ [] })
    ≡ Some (Shape 6)
refused-kind_names_a_loop = refl

-- of two wrong fields the least is named
pub refused-first_field : first_refusal (two_arrays 6)
    (record barriers { workers = 65; cut = marked_by [] }) ≡ Some (Shape 1)
refused-first_field = refl

-- an Outer loop has a phase inside it, which may name it
pub fits-outer : first_refusal (two_arrays 6)
    (record barriers { cut = marked_by (Outer ∷ Doall ∷ []) }) ≡ None
unfolding no_ends
fits-outer = refl

-- placement: the phases' anchors first, then the kinds'
pub refused-placement : first_refusal (two_arrays 6)
    (record barriers { anchors = along 1 (Block 1) ∷ along 2 (Block 2) ∷ at_constant (pos 0) ∷ [] })
    ≡ Some (Placement 1 (pos 0) (pos 5))
unfolding no_ends
refused-placement = refl

abbrev far : Anchor
far = record { form = fixed (pos 6); dist = Block 2 }

pub refused-kind_placement : first_refusal (two_arrays 6)
    (record barriers { kinds = Producer far ∷ Barrier ∷ Barrier ∷ [] })
    ≡ Some (Placement 1 (pos 6) (pos 6))
unfolding no_ends
refused-kind_placement = refl

pub refused-phase_first : first_refusal (two_arrays 6)
    (record barriers {
      anchors = along 1 (Block 2) ∷ along 2 (Block 1) ∷ at_constant (pos 0) ∷ [];
      kinds = Producer far ∷ Barrier ∷ Barrier ∷ [];
    }) ≡ Some (Placement 2 (pos 0) (pos 5))
unfolding no_ends
refused-phase_first = refl

-- a PRINT belongs to processor 0
pub refused-print : first_refusal (two_arrays 6)
    (record barriers { anchors = along 1 (Block 2) ∷ along 2 (Block 2) ∷ at_constant (pos 5) ∷ [] })
    ≡ Some (PrintPlace 3)
unfolding no_ends
refused-print = refl

-- rows of conditions: N at most 7 and at least 1, with blocks of 4 and 2 workers
abbrev rows : ℕ → Plan
rows n = record barriers {
  version = Three;
  conditions = Rows (record { coefs = (1, pos 1) ∷ []; bound = pos 7 }
      ∷ record { coefs = (n, negsuc 0) ∷ []; bound = negsuc 0 } ∷ []);
  workers = 2;
  anchors =
      along 1 (Block 4) ∷ along 2 (Block 4) ∷ record { form = fixed (pos 0); dist = Block 1 } ∷ [];
  kinds = Nothing ∷ Nothing ∷ Nothing ∷ [];
}

pub fits-rows : first_refusal (two_arrays 7) (rows 1) ≡ None
unfolding no_ends
fits-rows = refl

pub refused-condition : first_refusal (two_arrays 8) (rows 1) ≡ Some (Condition 1)
unfolding no_ends
refused-condition = refl

pub refused-placement_first : first_refusal (two_arrays 9) (rows 1)
    ≡ Some (Placement 1 (pos 0) (pos 8))
unfolding no_ends
refused-placement_first = refl

pub refused-no_such_constant : first_refusal (two_arrays 6) (rows 2) ≡ Some (Shape 8)
refused-no_such_constant = refl

pub refused-rows_in_two : first_refusal (two_arrays 6) (record (rows 1) { version = Two })
    ≡ Some (Shape 8)
refused-rows_in_two = refl

-- a Sum loop has a sum scalar, and each loop a list of its private scalars, which may be private
pub refused-no_sum : first_refusal (two_arrays 6)
    (record barriers { version = Four; cut = marked_by (Sum ∷ Doall ∷ []) }) ≡ Some (Shape 9)
refused-no_sum = refl

pub refused-no_list : first_refusal (two_arrays 6)
    (record barriers { cut = record { marks = Doall ∷ Doall ∷ []; privates = [] ∷ [] } })
    ≡ Some (Shape 10)
refused-no_list = refl

pub refused-not_private : first_refusal (two_arrays 6)
    (record barriers {
      version = Five;
      cut = record {
        marks = Doall ∷ Doall ∷ [];
        privates = (1 ∷ []) ∷ [] ∷ [];
      };
    }) ≡ Some (Shape 10)
refused-not_private = refl

pub refused-no_sum_first : first_refusal (two_arrays 6)
    (record barriers {
      version = Two;
      cut = record {
        marks = Sum ∷ Doall ∷ [];
        privates = (1 ∷ []) ∷ [] ∷ [];
      };
    }) ≡ Some (Shape 9)
refused-no_sum_first = refl
