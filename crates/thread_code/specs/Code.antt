-- Thread code as plain data: what each processor does under a plan, as a tree that is written as text node by node. Loops, boundaries and the ways to find own trips are its nodes; statements inside a phase are the program's own.
use Rattle.std.specs.Prelude.{ℕ, ◌+◌, ◌-◌, ◌==◌, ℤ, pos, ◌*ℤ◌, ◌+ℤ◌, not, nat_le, List, [], ◌++◌, length, map, Option, Some, None, slice_get, if◌then◌else◌}
use Rattle.std.specs.Int.{int_rem_euclid}
use Rattle.std.specs.List.{filter}
use Rattle.std.specs.Ordering.{int_eq}
use Rattle.nest_tree.specs.Form.{Form}
use Rattle.nest_tree.specs.Layout.{count_of}
use Rattle.nest_tree.specs.Tree.{Head, Statement, Statements, Tree, Work, do_loop, work, continue, done, next}
use Rattle.nest_model.specs.Visits.{stops_in}
use Rattle.own_scalars.specs.OwnScalars.{sum_scalars}
use Rattle.owner_partition.specs.declared.anchor.Anchor.{Anchor}
use Rattle.owner_partition.specs.declared.anchor.Dist.{Dist}
use Rattle.owner_partition.specs.declared.anchor.Dist.TheVariants.{Block, Cyclic}
use Rattle.owner_partition.specs.Cuts.{Cutting, privates_of}
use Rattle.owner_partition.specs.Marks.{enters_outer, is_sum_mark, mark_of}
use Rattle.owner_partition.specs.OwnInstances.{coefficient_of}
use Rattle.sync_plan.specs.declared.plan.Kind.{Kind}
use Rattle.sync_plan.specs.declared.plan.Plan.{Plan}
use Rattle.thread_code.specs.declared.turnings.Turning.{Turning}

-- how a processor finds its own trips of a loop: all of them, where an anchor that doesn't name the loop names the processor; by the ends of its block, where the form is a rest and so much for each value; by one congruence, where the first trip's place is that of a form
pub data Finding : Type 0 where
  all_of : (anchor : Anchor) → Finding
  in_block : (length : ℕ) (rest : Form) (rise : ℤ) → Finding
  in_turn : (start : Form) (turning : Turning) → Finding

-- a processor's share of a phase: its own trips of a loop that an anchor deals out, with own cells for these scalars; a piece of work, where an anchor names the processor; or nothing
pub data Share : Type 0 where
  trips_of : (anchor : Anchor) (finding : Finding) (head : Head) (body : Statements)
      (privates sums : List ℕ) → Share
  work_of : (anchor : Anchor) (w : Work) → Share
  no_share : Share

-- an Outer loop, in which every processor makes each trip; a phase, behind the boundary in front of it; a CONTINUE
mutual
  pub data Node : Type 0 where
    each : (head : Head) (body : Nodes) → Node
    phase : (kind : Option Kind) (share : Share) → Node
    no_node : Node

  pub data Nodes : Type 0 where
    end : Nodes
    one_then : (first : Node) (rest : Nodes) → Nodes

-- ---- forms that are written

-- a form without a loop
abbrev pub without : ℕ → Form → Form
without n f = record f { loops = filter (λ p. not (p.0 == n)) f.loops }

-- a form and so many times another one
abbrev pub times_pairs : ℤ → List (ℕ × ℤ) → List (ℕ × ℤ)
times_pairs c pairs = map (λ p. (p.0, c *ℤ p.1)) pairs

abbrev pub plus_times : Form → ℤ → Form → Form
plus_times f c g = record {
  constant = f.constant +ℤ c *ℤ g.constant;
  loops = f.loops ++ times_pairs c g.loops;
  params = f.params ++ times_pairs c g.params;
}

-- a form whose values are the same but for multiples of the workers, with numbers from 0 to below them
abbrev pub reduced_pairs : ℕ → List (ℕ × ℤ) → List (ℕ × ℤ)
reduced_pairs workers pairs = map (λ p. (p.0, int_rem_euclid p.1 (pos workers))) pairs

abbrev pub reduced : ℕ → Form → Form
reduced workers f = record {
  constant = int_rem_euclid f.constant (pos workers);
  loops = reduced_pairs workers f.loops;
  params = reduced_pairs workers f.params;
}

-- ---- the code of a program under a plan

-- what is known of each rise of places in turn, by its remainder
abbrev pub Table : Type 0
Table = ℕ → Turning

-- by a form that names a loop with this coefficient
abbrev pub named_finding : Table → ℕ → Form → Dist → Head → ℤ → Finding
named_finding table workers f (Block length) head rise =
    in_block length (without head.number f) rise
named_finding table workers f Cyclic head rise =
    in_turn (reduced workers (plus_times (without head.number f) rise head.m1))
    (table (count_of (int_rem_euclid (rise *ℤ head.step) (pos workers))))

abbrev pub finding_by : Table → ℕ → Anchor → Head → Finding
finding_by table workers a head =
    let rise = coefficient_of a.form.loops head.number in
    if int_eq rise (pos 0) then all_of a else named_finding table workers a.form a.dist head rise

-- the scalars that each processor sums up in a loop: sixteen at most
abbrev pub up_to_sixteen : List ℕ → List ℕ
up_to_sixteen vs = if nat_le (length vs) 16 then vs else []

abbrev pub sums_in : Cutting → Head → Statements → List ℕ
sums_in cut head body =
    if is_sum_mark (mark_of cut.marks head.number) then up_to_sixteen (sum_scalars body) else []

abbrev pub share_by : Table → Plan → Option Anchor → Statement → Share
share_by table plan None s = no_share
share_by table plan (Some a) (do_loop head body) =
    trips_of a (finding_by table plan.workers a head) head body
    (privates_of plan.cut.privates head.number) (sums_in plan.cut head body)
share_by table plan (Some a) (work w) = work_of a w
share_by table plan (Some a) (continue line) = no_share

-- the phase with this place, from 1
abbrev pub phase_at : Table → Plan → Statement → ℕ → Node
phase_at table plan s place = phase (slice_get plan.kinds (place - 1))
    (share_by table plan (slice_get plan.anchors (place - 1)) s)

-- the code of statements, of which the first phase has this place
abbrev mutual
  pub code_in : Table → Plan → Statement → ℕ → Node
  code_in table plan (do_loop head body) place =
      if enters_outer plan.cut.marks head.number then each head (codes_in table plan body place)
      else phase_at table plan (do_loop head body) place
  code_in table plan (work w) place = phase_at table plan (work w) place
  code_in table plan (continue line) place = no_node

  pub codes_in : Table → Plan → Statements → ℕ → Nodes
  codes_in table plan done place = end
  codes_in table plan (next s rest) place =
      one_then (code_in table plan s place) (codes_in table plan rest
      (place + stops_in (enters_outer plan.cut.marks) s))

abbrev pub codes_of : Table → Tree → Plan → Nodes
codes_of table tree plan = codes_in table plan tree.items 1
