-- The anchors of a made plan: the owner of an element computes what is stored in it.
use Rattle.std.specs.Prelude.{ℕ, suc, ◌-◌, ◌==◌, ℤ, pos, ◌-ℤ◌, nat_le, max, length, List, [], ◌∷◌, Option, Some, None, slice_get, if◌then◌else◌}
use Rattle.std.specs.Int.{div_ceil}
use Rattle.std.specs.List.{list_any}
use Rattle.std.specs.Option.{option_map, option_or}
use Rattle.nest_tree.specs.declared.tree.Access.{Access}
use Rattle.nest_tree.specs.declared.tree.Spread.{Spread}
use Rattle.nest_tree.specs.declared.tree.Spread.TheVariants.{Block as Blocks, Cyclic as InTurn}
use Rattle.nest_tree.specs.Form.{Form}
use Rattle.nest_tree.specs.Intervals.{ends_of}
use Rattle.nest_tree.specs.Layout.{extent}
use Rattle.nest_tree.specs.Limits.{is_empty}
use Rattle.nest_tree.specs.Loads.{loads_in}
use Rattle.nest_tree.specs.Tree.{Assignment, Declaration, Statement, Statements, assign, continue, do_loop, done, next, print, work, Tree}
use Rattle.nest_walk.specs.Texts.{Placed}
use Rattle.owner_partition.specs.declared.anchor.Anchor.{Anchor}
use Rattle.owner_partition.specs.declared.anchor.Dist.{Dist}
use Rattle.owner_partition.specs.declared.anchor.Dist.TheVariants.{Block, Cyclic}
use Rattle.owner_partition.specs.declared.cut.Mark.{Mark}
use Rattle.owner_partition.specs.declared.placement.Placement.{Placement}
use Rattle.owner_partition.specs.Placement.{misplaced, phase_ends}
use Rattle.sync_plan.specs.Fit.{has_print}
use Rattle.sync_plan.specs.Shape.{is_doall, is_good_anchor, is_sum_mark, mark_of, own_loops, static_phases}

-- processor 0, whatever the loops' values
abbrev pub first_processor : Anchor
first_processor =
    record { form = record { constant = pos 0; loops = []; params = [] }; dist = Cyclic }

-- so many places in equal blocks, one for each worker, or in turn where a block would be longer than a plan's may be
abbrev pub block_for : ℕ → ℕ → ℕ
block_for workers places = max 1 (div_ceil places workers)

abbrev pub in_blocks : ℕ → ℕ → Dist
in_blocks workers places = if nat_le (block_for workers places) 2147483647
    then Block (block_for workers places)
    else Cyclic

abbrev pub dealt_as : Spread → ℕ → ℕ → Dist
dealt_as Blocks workers places = in_blocks workers places
dealt_as InTurn workers places = Cyclic

-- a form less a number, so that the places count from 0
abbrev pub less : Form → ℤ → Form
less f low = record { constant = f.constant -ℤ low; loops = f.loops; params = f.params }

-- an element's place along the distributed dimension of its array: its subscript there, less the lower bound; a scalar has none
abbrev pub along : ℕ → Spread → Option Form → Option (ℤ × ℤ) → Option Anchor
along workers spread None bounds = None
along workers spread (Some f) None = None
along workers spread (Some f) (Some bounds) =
    Some (record { form = less f bounds.0; dist = dealt_as spread workers (extent bounds) })

abbrev pub along_axis : ℕ → List Form → Option Declaration → Option Anchor
along_axis workers subscripts None = None
along_axis workers subscripts (Some v) =
    along workers v.spread (slice_get subscripts (v.axis - 1)) (slice_get v.bounds (v.axis - 1))

abbrev pub element_anchor : Tree → ℕ → Access → Option Anchor
element_anchor tree workers a =
    along_axis workers a.subscripts (slice_get tree.variables (a.variable - 1))

-- an anchor, if a phase's may be so: it names only these loops, its numbers are small, and its block has a length
abbrev pub if_good : ℕ → List ℕ → Anchor → Option Anchor
if_good constants loops a = if is_good_anchor constants loops a then Some a else None

abbrev pub if_one_good : ℕ → List ℕ → Option Anchor → Option Anchor
if_one_good constants loops None = None
if_one_good constants loops (Some a) = if_good constants loops a

-- what the first assignment in text order has that has something
abbrev mutual
  pub first_found : (Assignment → Option Anchor) → Statement → Option Anchor
  first_found f (do_loop head body) = first_among f body
  first_found f (work (assign a)) = f a
  first_found f (work (print p)) = None
  first_found f (continue line) = None

  pub first_among : (Assignment → Option Anchor) → Statements → Option Anchor
  first_among f done = None
  first_among f (next s rest) = option_or (first_found f s) (first_among f rest)

-- the same of accesses
abbrev pub first_of : (Access → Option Anchor) → List Access → Option Anchor
first_of f [] = None
first_of f (a ∷ rest) = option_or (f a) (first_of f rest)

-- the first element that these statements store whose place is such an anchor
abbrev pub stored_anchor : (Access → Option Anchor) → Statement → Option Anchor
stored_anchor f s = first_found (λ (a : Assignment). f a.target) s

-- the first that they load
abbrev pub loaded_anchor : (Access → Option Anchor) → Statement → Option Anchor
loaded_anchor f s = first_found (λ (a : Assignment). first_of f (loads_in a.value)) s

-- an anchor, if it names this loop
abbrev pub if_names : ℕ → Anchor → Option Anchor
if_names n a = if list_any (λ (p : ℕ × ℤ). p.0 == n) a.form.loops then Some a else None

abbrev pub if_one_names : ℕ → Option Anchor → Option Anchor
if_one_names n None = None
if_one_names n (Some a) = if_names n a

-- of a Sum loop: the first element that it loads whose place is such an anchor and names the loop, so that its trips are added up where their data lies
abbrev pub summed_anchor : List Mark → (Access → Option Anchor) → Statement → Option Anchor
summed_anchor marks f (do_loop head body) =
    if is_sum_mark (mark_of marks head.number)
    then loaded_anchor (λ a. if_one_names head.number (f a)) (do_loop head body)
    else None
summed_anchor marks f (work w) = None
summed_anchor marks f (continue line) = None

-- the least value of a loop and how many values lie from there to the greatest; 0 and 0 where it is empty, or one round it
abbrev pub span_within : ℤ × ℤ → ℤ × ℕ
span_within interval = if is_empty interval then (pos 0, 0) else (interval.0, extent interval)

abbrev pub span_of : ℕ → Option (List (ℤ × ℤ)) → ℤ × ℕ
span_of n None = (pos 0, 0)
span_of n (Some ends) = span_within (ends_of ends n)

-- the value of a loop, less the least one, in blocks
abbrev pub value_of : ℕ → Form
value_of n = record { constant = pos 0; loops = (n, pos 1) ∷ []; params = [] }

abbrev pub value_anchor : ℕ → ℕ → ℤ × ℕ → Anchor
value_anchor workers n (low, width) =
    record { form = less (value_of n) low; dist = in_blocks workers width }

-- of a Doall loop its own value
abbrev pub own_anchor : Tree → List Mark → ℕ → ℕ → Statement → Option Anchor
own_anchor tree marks workers u (do_loop head body) = if is_doall (mark_of marks head.number)
    then Some (value_anchor workers head.number
    (span_of head.number (phase_ends tree marks (u - 1))))
    else None
own_anchor tree marks workers u (work w) = None
own_anchor tree marks workers u (continue line) = None

-- the same places in turn, where blocks of them would be left
abbrev pub unless_misplaced : Option Placement → Anchor → Anchor
unless_misplaced None a = a
unless_misplaced (Some why) a = record { form = a.form; dist = Cyclic }

abbrev pub placed_anchor : Tree → List Mark → ℕ → ℕ → Option Anchor → Anchor
placed_anchor tree marks workers u None = first_processor
placed_anchor tree marks workers u (Some a) = unless_misplaced (misplaced tree marks workers u a) a

-- the anchor of an element's owner in front of the static phase with this number, where it names no loop but these
abbrev pub element_owner : Tree → List Mark → ℕ → ℕ → List ℕ → Access → Option Anchor
element_owner tree marks workers u loops a = option_map
    (λ b. unless_misplaced (misplaced tree marks workers u b) b)
    (if_one_good (length tree.params) loops (element_anchor tree workers a))

-- the first that is good: of what a phase stores, of what a Sum phase loads, and its own loop's value
abbrev pub anchor_sought : Tree → List Mark → ℕ → ℕ → List ℕ → Statement → Option Anchor
anchor_sought tree marks workers u loops what =
    let good = if_one_good (length tree.params) loops in
    option_or (stored_anchor (λ a. good (element_anchor tree workers a)) what)
    (option_or (summed_anchor marks (λ a. good (element_anchor tree workers a)) what)
    (good (own_anchor tree marks workers u what)))

-- the anchor of the static phase with this number: processor 0 where it prints; else the one that is sought; else processor 0
abbrev pub phase_anchor : Tree → List Mark → ℕ → ℕ → Placed → Anchor
phase_anchor tree marks workers u s =
    if has_print s.what then first_processor
    else placed_anchor tree marks workers u
    (anchor_sought tree marks workers u (own_loops marks s.what s.around) s.what)

abbrev pub anchors_from : Tree → List Mark → ℕ → ℕ → List Placed → List Anchor
anchors_from tree marks workers u [] = []
anchors_from tree marks workers u (s ∷ rest) =
    phase_anchor tree marks workers u s ∷ anchors_from tree marks workers (suc u) rest

-- the anchors of the static phases under a cut, for so many workers
abbrev pub maker_anchors : Tree → List Mark → ℕ → List Anchor
maker_anchors tree marks workers = anchors_from tree marks workers 1 (static_phases tree marks)
