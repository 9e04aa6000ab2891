-- What the code does in a phase is what the processor does there under the plan.
use Rattle.std.proofs.Common.{◌≡◌, ◌≢◌, ℕ, ◌+◌, ◌*◌, ◌≤◌, ◌==◌, ◌&&◌, ℤ, pos, Bool, true, false, List, [], ◌∷◌, ◌++◌, length, map, Option, Some, if◌then◌else◌, refl, ap, ap₂, sym, ◌∙◌, arith}
use Rattle.std.specs.Prelude.{Contains}
use Rattle.std.specs.List.{flat_map, list_any}
use Rattle.std.specs.Option.{option_map, option_or}
use Rattle.std.proofs.lemmas.Bool.{le-leb}
use Rattle.nest_tree.specs.Form.{form_value}
use Rattle.nest_tree.specs.Layout.{cell_count, first_cell}
use Rattle.nest_tree.specs.Tree.{Head, Statement, Statements, Tree, do_loop, work, continue, param_values}
use Rattle.nest_model.specs.Accesses.{store_of}
use Rattle.nest_model.specs.Instances.{Instance, head_trips, instances_in, instances_of, with_loop}
use Rattle.nest_model.specs.Visits.{Visit}
use Rattle.own_scalars.specs.OwnScalars.{sum_scalars}
use Rattle.owner_partition.specs.declared.anchor.Anchor.{Anchor}
use Rattle.owner_partition.specs.Cuts.{Cutting, privates_of}
use Rattle.owner_partition.specs.Marks.{is_sum_mark, mark_of}
use Rattle.owner_partition.specs.OwnInstances.{own_values}
use Rattle.owner_partition.specs.Owners.{anchor_owner, own_instances, owner_by}
use Rattle.owner_partition.specs.Phases.{visit_instances}
use Rattle.owner_partition.proofs.Dealt.{own_of_loop, own_of_work}
use Rattle.sync_plan.specs.Conflicts.{last_value}
use Rattle.sync_plan.specs.Own.{Own, OwnLoop, is_cell_of, own_loop_of, place_in}
use Rattle.sync_plan.specs.declared.plan.Plan.{Plan}
use Rattle.spmd_model.specs.Closings.{last_loops}
use Rattle.spmd_model.specs.Deeds.{Deed, owned_by}
use Rattle.spmd_model.specs.Lawful.{stores_to}
use Rattle.spmd_model.specs.MachineDeeds.{kept_by, own_deeds, totalled_by}
use Rattle.thread_code.specs.Closed.{AreTurnings}
use Rattle.thread_code.specs.Code.{Finding, Table, finding_by, share_by, trips_of, up_to_sixteen, work_of}
use Rattle.thread_acts.specs.ThreadDeeds.{Thread, has_assigned, has_trips, instances_found, is_named, own_for, share_closings, share_deeds, thread_of}
use Rattle.thread_acts.proofs.Closings.{any_filter, flat_same, privates_right}
use Rattle.thread_acts.proofs.Good.{CanOwn}
use Rattle.thread_acts.proofs.LastTrips.{last_is}
use Rattle.thread_acts.proofs.Shares.{any_blind, blind, blind_of, each_blind, blind_in, flat_blind, trips_right}

-- the sums that the code has are those of the plan, which has few
few_sums : (b : Bool) (vs : List ℕ) → length (if b then vs else []) ≤ 16 → (if b then up_to_sixteen vs else []) ≡ (if b then vs else [])
few_sums true vs few = ap (λ (b : Bool). if b then vs else []) (le-leb (length vs) 16 few)
few_sums false vs few = refl

-- a loop with private scalars executes something in its last trip, if it makes one
abbrev pub RunsLast : List ℤ → Cutting → Statement → ℕ → List ℤ → Type 0
RunsLast params cut (do_loop head body) first loops =
    (u : ℕ) → Contains (privates_of cut.privates head.number) u → last_loops params (do_loop head body) first loops ≡ option_map (with_loop loops head.number) (last_value (head_trips params head loops))
RunsLast params cut (work w) first loops = Unit {0}
RunsLast params cut (continue line) first loops = Unit {0}

module _ (table : Table) (tree : Tree) (plan : Plan) (p : ℕ) (turnings : AreTurnings plan.workers table) where
  abbrev t : Thread
  t = thread_of tree plan p

  abbrev params : List ℤ
  params = param_values tree

  -- own cells, by the own scalars of a loop
  abbrev own_from : OwnLoop → Own
  own_from l = record {
    workers = plan.workers;
    shared = cell_count tree;
    slot = λ c. option_or (place_in tree l.privates c) (option_map (λ k. 16 + k) (place_in tree l.sums c));
    is_sum = is_cell_of tree l.sums;
    cell = λ p k. cell_count tree + (32 * p + k);
  }

  -- what a processor does in a phase, by its anchor and the own scalars of its loop
  abbrev stored_by : Option Anchor → Visit → ℕ → Bool
  stored_by o v c = list_any (λ (i : Instance). owner_by o plan.workers i.loops params == p && stores_to (store_of tree i) c) (visit_instances params v)

  abbrev pub part_by : Option Anchor → OwnLoop → Visit → List Deed
  part_by o l v =
      flat_map (own_deeds tree (own_from l) p) (owned_by tree o plan.workers p v)
      ++ (flat_map (λ s. kept_by (own_from l) (first_cell tree s) p (option_map (λ ls. owner_by o plan.workers ls params) (last_loops params v.what v.first v.loops))) l.privates
      ++ flat_map (λ s. totalled_by (own_from l) (first_cell tree s) p (stored_by o v (first_cell tree s))) l.sums)

  -- two lists of instances that differ in the numbers of their statements alone
  same_deeds : (own : Own) (xs ys : List Instance) → map blind xs ≡ map blind ys → flat_map (own_deeds tree own p) xs ≡ flat_map (own_deeds tree own p) ys
  same_deeds own xs ys same = sym (flat_blind (own_deeds tree own p) (λ i. refl) xs) ∙ ap (flat_map (own_deeds tree own p)) same ∙ flat_blind (own_deeds tree own p) (λ i. refl) ys

  same_stores : (c : ℕ) (xs ys : List Instance) → map blind xs ≡ map blind ys → list_any (λ i. stores_to (store_of tree i) c) xs ≡ list_any (λ i. stores_to (store_of tree i) c) ys
  same_stores c xs ys same =
      sym (any_blind (λ i. stores_to (store_of tree i) c) (λ i. refl) xs) ∙ ap (list_any (λ i. stores_to (store_of tree i) c)) same ∙ any_blind (λ i. stores_to (store_of tree i) c) (λ i. refl) ys

  -- what is kept of private scalars, if there are some
  same_kept : (own : Own) (x y : Option ℕ) (scalars : List ℕ) → ((u : ℕ) → Contains scalars u → x ≡ y) → flat_map (λ s. kept_by own (first_cell tree s) p x) scalars ≡ flat_map (λ s. kept_by own (first_cell tree s) p y) scalars
  same_kept own x y [] same = refl
  same_kept own x y (u ∷ us) same = ap (λ o. flat_map (λ s. kept_by own (first_cell tree s) p o) (u ∷ us)) (same u (0, omega arith, refl))

  module _ (a : Anchor) where
    -- a loop's own trips
    trips_part : (head : Head) (body : Statements) (place first : ℕ) (loops : List ℤ) (privates sums : List ℕ) → CanOwn params a plan.workers p (do_loop head body) loops →
        let v : Visit = record { place = place; first = first; what = do_loop head body; loops = loops } in
        map blind (instances_found t (trips_of a (finding_by table plan.workers a head) head body privates sums) loops) ≡ map blind (own_instances params a plan.workers p v)
    trips_part head body place first loops privates sums (can, inner, above) =
        let each : ℕ → ℤ → List Instance = λ n v. instances_in params body n (with_loop loops head.number v) in
        ap (λ vs. map blind (flat_map (each 1) vs)) (trips_right table t a turnings head loops can)
        ∙ each_blind (each 1) (each first) (λ v. blind_in params body 1 first (with_loop loops head.number v)) (own_values params a plan.workers p head loops)
        ∙ ap (map blind) (sym (own_of_loop params a plan.workers p can.form head body first loops inner above))

    work_part : (b : Bool) (s : Statement) (first : ℕ) (loops : List ℤ) → map blind (if b then instances_of params s 1 loops else []) ≡ map blind (if b then instances_of params s first loops else [])
    work_part true s first loops = blind_of params s 1 first loops
    work_part false s first loops = refl

    -- behind a loop's trips, of which the last executes something where there are private scalars
    closings_part : (head : Head) (body : Statements) (place first : ℕ) (loops : List ℤ) (l : OwnLoop) (finding : Finding) → head.step ≢ pos 0 → ((u : ℕ) → Contains l.privates u → last_loops params (do_loop head body) first loops ≡ option_map (with_loop loops head.number) (last_value (head_trips params head loops))) →
        let v : Visit = record { place = place; first = first; what = do_loop head body; loops = loops } in
        map blind (instances_found t (trips_of a finding head body l.privates l.sums) loops) ≡ map blind (own_instances params a plan.workers p v) →
        share_closings t (trips_of a finding head body l.privates l.sums) loops
        ≡ flat_map (λ s. kept_by (own_from l) (first_cell tree s) p (option_map (λ ls. anchor_owner a plan.workers ls params) (last_loops params (do_loop head body) first loops))) l.privates
        ++ flat_map (λ s. totalled_by (own_from l) (first_cell tree s) p (stored_by (Some a) v (first_cell tree s))) l.sums
    closings_part head body place first loops l finding moves runs same =
        let v : Visit = record { place = place; first = first; what = do_loop head body; loops = loops } in
        let share = trips_of a finding head body l.privates l.sums in
        let m1 = form_value head.m1 loops params in
        let m2 = form_value head.m2 loops params in
        let stored : (c : ℕ) → has_assigned t share loops c ≡ stored_by (Some a) v c = λ c.
        same_stores c (instances_found t share loops) (own_instances params a plan.workers p v) same
        ∙ any_filter (λ (i : Instance). anchor_owner a plan.workers i.loops params == p) (λ i. stores_to (store_of tree i) c) (visit_instances params v) in
        ap₂ (λ (x y : List Deed). x ++ y) (privates_right t a (own_from l) head loops (last_value (head_trips params head loops)) l.privates (has_trips m1 m2 head.step) refl (last_is m1 m2 head.step moves (has_trips m1 m2 head.step) refl)
        ∙ same_kept (own_from l) (option_map (λ ls. anchor_owner a plan.workers ls params) (option_map (with_loop loops head.number) (last_value (head_trips params head loops)))) (option_map (λ ls. anchor_owner a plan.workers ls params) (last_loops params (do_loop head body) first loops)) l.privates
        (λ u among. ap (option_map (λ ls. anchor_owner a plan.workers ls params)) (sym (runs u among))))
        (flat_same (λ s. totalled_by (own_from l) (first_cell tree s) p (has_assigned t share loops (first_cell tree s))) (λ s. totalled_by (own_from l) (first_cell tree s) p (stored_by (Some a) v (first_cell tree s)))
        (λ s. ap (totalled_by (own_from l) (first_cell tree s) p) (stored (first_cell tree s))) l.sums)

    pub share_right : (s : Statement) (place first : ℕ) (loops : List ℤ) → length (own_loop_of plan.cut s).sums ≤ 16 → CanOwn params a plan.workers p s loops → RunsLast params plan.cut s first loops →
        share_deeds t (share_by table plan (Some a) s) loops ≡ part_by (Some a) (own_loop_of plan.cut s) (record { place = place; first = first; what = s; loops = loops })
    share_right (do_loop head body) place first loops few can runs =
        let v : Visit = record { place = place; first = first; what = do_loop head body; loops = loops } in
        let finding = finding_by table plan.workers a head in
        let l = own_loop_of plan.cut (do_loop head body) in
        let found = can.0 in
        let moves = found.steps in
        let same = trips_part head body place first loops l.privates l.sums can in
        ap (λ sums. share_deeds t (trips_of a finding head body l.privates sums) loops) (few_sums (is_sum_mark (mark_of plan.cut.marks head.number)) (sum_scalars body) few)
        ∙ ap₂ (λ (x y : List Deed). x ++ y) (same_deeds (own_from l) (instances_found t (trips_of a finding head body l.privates l.sums) loops) (own_instances params a plan.workers p v) same)
        (closings_part head body place first loops l finding moves runs same)
    share_right (work w) place first loops few can runs =
        let v : Visit = record { place = place; first = first; what = work w; loops = loops } in
        let b = is_named t a loops in
        ap (λ ds. ds ++ []) (same_deeds (own_for t [] []) (instances_found t (work_of a w) loops) (own_instances params a plan.workers p v)
        (work_part b (work w) first loops ∙ ap (map blind) (sym (own_of_work params a plan.workers p can w first loops))))
    share_right (continue line) place first loops few can runs = refl
