-- What thread code does on a processor, deed by deed, as its text in C is read.
use Rattle.std.specs.Prelude.{ℕ, suc, ◌+◌, ◌-◌, ◌*◌, ◌==◌, ◌&&◌, not, nat_lt, ℤ, pos, ◌+ℤ◌, ◌-ℤ◌, ◌*ℤ◌, int_div, int_le, int_lt, Bool, List, [], ◌∷◌, ◌++◌, map, Option, Some, None, if◌then◌else◌, ◌≡◌, refl}
use Rattle.std.specs.List.{filter, flat_map, list_any, range_with_len}
use Rattle.std.specs.Option.{option_map, option_or}
use Rattle.nest_tree.specs.Form.{form_value}
use Rattle.nest_tree.specs.Layout.{cell_count, first_cell}
use Rattle.nest_tree.specs.Tree.{Head, Tree, work, param_values}
use Rattle.nest_model.specs.Accesses.{store_of}
use Rattle.nest_model.specs.Instances.{Instance, head_trips, instances_in, instances_of, no_values, with_loop}
use Rattle.owner_partition.specs.declared.anchor.Anchor.{Anchor}
use Rattle.owner_partition.specs.Owners.{anchor_owner}
use Rattle.sync_plan.specs.declared.plan.Kind.{Kind}
use Rattle.sync_plan.specs.declared.plan.Kind.TheVariants.{Nothing, Producer, Left, Right, Both, Barrier, Join}
use Rattle.sync_plan.specs.declared.plan.Plan.{Plan}
use Rattle.sync_plan.specs.Own.{Own, is_cell_of, own_cell, place_in}
use Rattle.spmd_model.specs.Deeds.{Deed, posting, awaiting}
use Rattle.spmd_model.specs.Lawful.{stores_to}
use Rattle.spmd_model.specs.MachineDeeds.{keeping_deeds, own_deeds, totalled_by}
use Rattle.spmd_model.specs.Timelines.{counter}
use Rattle.thread_code.specs.Closed.{block_values, turn_values}
use Rattle.thread_code.specs.Code.{Finding, all_of, in_block, in_turn, Share, trips_of, work_of, no_share, Node, each, phase, no_node, Nodes, end, one_then}

-- a processor, of so many, that does its part of a program
pub record Thread : Type 0 where
  pub tree : Tree
  pub workers : ℕ
  pub processor : ℕ

abbrev pub thread_params : Thread → List ℤ
thread_params t = param_values t.tree

-- an anchor names it
abbrev pub is_named : Thread → Anchor → List ℤ → Bool
is_named t a loops = anchor_owner a t.workers loops (thread_params t) == t.processor

-- ---- in front of a phase that has so many in front of it, which the text counts in `e`

abbrev pub post_if : Bool → ℕ → List Deed
post_if b e = if b then posting counter e ∷ [] else []

abbrev pub await_if : Bool → ℕ → ℕ → List Deed
await_if b on e = if b then awaiting counter on e ∷ [] else []

-- if (p + 1 < P) post; if (p > 0) await(p - 1)
abbrev pub left_deeds : ℕ → ℕ → ℕ → List Deed
left_deeds workers p e = post_if (nat_lt (p + 1) workers) e ++ await_if (nat_lt 0 p) (p - 1) e

-- if (p > 0) post; if (p + 1 < P) await(p + 1)
abbrev pub right_deeds : ℕ → ℕ → ℕ → List Deed
right_deeds workers p e = post_if (nat_lt 0 p) e ++ await_if (nat_lt (p + 1) workers) (p + 1) e

-- if (P > 1) post; if (p > 0) await(p - 1); if (p + 1 < P) await(p + 1)
abbrev pub both_deeds : ℕ → ℕ → ℕ → List Deed
both_deeds workers p e = post_if (nat_lt 1 workers) e
    ++ (await_if (nat_lt 0 p) (p - 1) e ++ await_if (nat_lt (p + 1) workers) (p + 1) e)

-- if (p == q) post; else await(q): alone, it posts what nobody awaits, which is no deed
abbrev pub producer_deeds : ℕ → ℕ → ℕ → ℕ → List Deed
producer_deeds workers p q e =
    if q == p then post_if (nat_lt 1 workers) e else awaiting counter q e ∷ []

-- each processor tells that it has come, and awaits all others
abbrev pub barrier_deeds : ℕ → ℕ → ℕ → List Deed
barrier_deeds workers p e = post_if (nat_lt 1 workers) e
    ++ map (λ q. awaiting counter q e) (filter (λ q. not (p == q)) (range_with_len 0 workers))

abbrev pub kind_deeds : Thread → Kind → List ℤ → ℕ → List Deed
kind_deeds t Nothing loops e = []
kind_deeds t (Producer a) loops e =
    producer_deeds t.workers t.processor (anchor_owner a t.workers loops (thread_params t)) e
kind_deeds t Left loops e = left_deeds t.workers t.processor e
kind_deeds t Right loops e = right_deeds t.workers t.processor e
kind_deeds t Both loops e = both_deeds t.workers t.processor e
kind_deeds t Barrier loops e = barrier_deeds t.workers t.processor e
kind_deeds t Join loops e = barrier_deeds t.workers t.processor e

abbrev pub front_of : Thread → Option Kind → List ℤ → ℕ → List Deed
front_of t None loops e = []
front_of t (Some kind) loops e = kind_deeds t kind loops e

-- ---- a processor's share of a phase

-- the values that it makes a loop's trips with
abbrev pub trips_found : Thread → Finding → Head → List ℤ → List ℤ
trips_found t (all_of a) head loops =
    if is_named t a loops then head_trips (thread_params t) head loops else []
trips_found t (in_block length rest rise) head loops =
    block_values length t.processor (form_value rest loops (thread_params t)) rise
    (form_value head.m1 loops (thread_params t)) (form_value head.m2 loops (thread_params t))
    head.step
trips_found t (in_turn start turning) head loops =
    turn_values t.workers turning t.processor (form_value start loops (thread_params t))
    (form_value head.m1 loops (thread_params t)) (form_value head.m2 loops (thread_params t))
    head.step

-- what it executes
abbrev pub instances_found : Thread → Share → List ℤ → List Instance
instances_found t (trips_of a finding head body privates sums) loops =
    flat_map (λ v. instances_in (thread_params t) body 1 (with_loop loops head.number v))
    (trips_found t finding head loops)
instances_found t (work_of a w) loops =
    if is_named t a loops then instances_of (thread_params t) (work w) 1 loops else []
instances_found t no_share loops = []

-- its own cells for private scalars and for sums
abbrev pub own_for : Thread → List ℕ → List ℕ → Own
own_for t privates sums = record {
  workers = t.workers;
  shared = cell_count t.tree;
  slot = λ c. option_or (place_in t.tree privates c)
      (option_map (λ k. 16 + k) (place_in t.tree sums c));
  is_sum = is_cell_of t.tree sums;
  cell = λ p k. cell_count t.tree + (32 * p + k);
}

abbrev pub share_own : Thread → Share → Own
share_own t (trips_of a finding head body privates sums) = own_for t privates sums
share_own t (work_of a w) = own_for t [] []
share_own t no_share = own_for t [] []

-- a loop has a trip, and the value of its last one: m1 <= m2, or downwards m1 >= m2; m1 + (m2 - m1) / s * s
abbrev pub has_trips : ℤ → ℤ → ℤ → Bool
has_trips m1 m2 s = if int_lt s (pos 0) then int_le m2 m1 else int_le m1 m2

abbrev pub last_trip : ℤ → ℤ → ℤ → ℤ
last_trip m1 m2 s = m1 +ℤ (int_div (m2 -ℤ m1) s *ℤ s)

-- the last trip of a loop is made, and is its own
abbrev pub has_last_trip : Thread → Anchor → Head → List ℤ → Bool
has_last_trip t a head loops =
    let m1 = form_value head.m1 loops (thread_params t) in
    let m2 = form_value head.m2 loops (thread_params t) in
    has_trips m1 m2 head.step && is_named t a
    (with_loop loops head.number (last_trip m1 m2 head.step))

-- it has assigned this cell of those that all share
abbrev pub has_assigned : Thread → Share → List ℤ → ℕ → Bool
has_assigned t share loops c =
    list_any (λ i. stores_to (store_of t.tree i) c) (instances_found t share loops)

-- behind its trips: the owner of the last one gives its private scalars to all; whoever has assigned a sum adds its total
abbrev pub give_private : Thread → Own → ℕ → List Deed
give_private t own scalar =
    keeping_deeds (own_cell own t.processor (first_cell t.tree scalar)) (first_cell t.tree scalar)

abbrev pub share_closings : Thread → Share → List ℤ → List Deed
share_closings t (trips_of a finding head body privates sums) loops =
    (if has_last_trip t a head loops
    then flat_map (give_private t (own_for t privates sums)) privates
    else [])
    ++ flat_map (λ s. totalled_by (own_for t privates sums) (first_cell t.tree s) t.processor
    (has_assigned t (trips_of a finding head body privates sums) loops (first_cell t.tree s)))
    sums
share_closings t (work_of a w) loops = []
share_closings t no_share loops = []

abbrev pub share_deeds : Thread → Share → List ℤ → List Deed
share_deeds t share loops = flat_map (own_deeds t.tree (share_own t share) t.processor)
    (instances_found t share loops) ++ share_closings t share loops

-- ---- the whole code

-- one behind another, each told how many phases there were before it
abbrev pub in_order : {A : Type 0} → (A → ℕ → List Deed × ℕ) → List A → ℕ → List Deed × ℕ
in_order f [] e = ([], e)
in_order f (x ∷ xs) e =
    let here = f x e in let later = in_order f xs here.1 in (here.0 ++ later.0, later.1)

abbrev mutual
  pub node_deeds : Thread → Node → List ℤ → ℕ → List Deed × ℕ
  node_deeds t (each head body) loops e = in_order
      (λ v. nodes_deeds t body (with_loop loops head.number v))
      (head_trips (thread_params t) head loops) e
  node_deeds t (phase kind share) loops e =
      (front_of t kind loops e ++ share_deeds t share loops, suc e)
  node_deeds t no_node loops e = ([], e)

  pub nodes_deeds : Thread → Nodes → List ℤ → ℕ → List Deed × ℕ
  nodes_deeds t end loops e = ([], e)
  nodes_deeds t (one_then first rest) loops e =
      let here = node_deeds t first loops e in
      let later = nodes_deeds t rest loops here.1 in
      (here.0 ++ later.0, later.1)

-- what processor p does by the code of a program under a plan
abbrev pub thread_of : Tree → Plan → ℕ → Thread
thread_of tree plan p = record { tree = tree; workers = plan.workers; processor = p }

abbrev pub code_deeds : Tree → Plan → ℕ → Nodes → List Deed
code_deeds tree plan p code = (nodes_deeds (thread_of tree plan p) code (no_values tree) 0).0

-- ---- examples

-- of three processors the middle one posts and awaits both others; the last one awaits its left neighbour alone
pub both-middle : both_deeds 3 1 7 ≡ posting counter 7 ∷ awaiting counter 0 7 ∷ awaiting counter 2 7
    ∷ []
both-middle = refl

pub left-last : left_deeds 3 2 7 ≡ awaiting counter 1 7 ∷ []
left-last = refl
