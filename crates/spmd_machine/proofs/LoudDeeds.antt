-- Where a plan has no own scalars no act touches a cell of one processor alone.
use Rattle.std.proofs.Common.{◌≡◌, ℕ, suc, ◌+◌, ◌-◌, ◌<◌, ◌==◌, ◌*◌, if◌then◌else◌, nat_le, false, ℤ, Bool, true, List, [], ◌∷◌, ◌++◌, map, Option, Some, None, refl, ap, subst, sym, ◌∙◌}
use Rattle.std.specs.Prelude.{slice_get}
use Rattle.std.specs.List.{All, flat_map, range_with_len}
use Rattle.std.specs.Option.{option_map, option_to_list}
use Rattle.std.proofs.lemmas.List.Elements.{All-append, All-cons, All-filter, All-head, All-nil, All-tail}
use Rattle.list_lemmas.proofs.Each.{All-left, All-right}
use Rattle.nest_tree.specs.Layout.{cell_count, first_cell}
use Rattle.nest_tree.specs.Tree.{Tree, param_values}
use Rattle.nest_tree.specs.WellFormed.{IsWellFormed}
use Rattle.nest_model.specs.Accesses.{cells_of, loads_of, store_of}
use Rattle.nest_model.specs.Instances.{Instance}
use Rattle.nest_model.specs.Memory.{assigned_value, line_of}
use Rattle.nest_model.specs.Ranges.{IsInRange}
use Rattle.nest_model.specs.Visits.{Visit}
use Rattle.owner_partition.specs.declared.anchor.Anchor.{Anchor}
use Rattle.owner_partition.specs.Owners.{anchor_owner}
use Rattle.owner_partition.specs.Phases.{visit_instances, phases}
use Rattle.sync_plan.specs.Fit.{IsFit}
use Rattle.sync_plan.specs.Own.{own_cell, own_loop, own_of}
use Rattle.sync_plan.specs.Waits.{posts_at, waits_for}
use Rattle.sync_plan.specs.declared.plan.Plan.{Plan}
use Rattle.spmd_model.specs.Closings.{has_stored, last_owner}
use Rattle.spmd_model.specs.Deeds.{Deed, awaiting, boundary_deeds, last_deed, loading, owned_by, posting}
use Rattle.spmd_model.specs.Rounds.{awaited_in_round, rounds_of}
use Rattle.spmd_model.specs.Machines.{is_by_signals, signal_barriers}
use Rattle.spmd_model.specs.MachineDeeds.{HasNoOwn, closing_deeds, deeds_by, front_deeds, kept_by, own_deeds, part_deeds, round_deeds, totalled_by}
use Rattle.spmd_model.specs.Timelines.{Word, counter}
use Rattle.spmd_model.specs.declared.style.Style.{Style}
use Rattle.spmd_model.proofs.NoOwnDeeds.{no_slot}
use Rattle.spmd_model.proofs.CellsThere.{AreThere, cells_there}
use Rattle.spmd_model.proofs.PhaseJobs.{all_fine}
use Rattle.spmd_model.proofs.TripJobs.{IsFineIn}
use Rattle.spmd_machine.specs.Processors.{all_of}
use Rattle.spmd_machine.proofs.OwnPlaces.{own_quiet}
use Rattle.spmd_machine.proofs.Settles.{is_quiet_deed}

module _ (tree : Tree) (plan : Plan) (p : ℕ) (none : (place : ℕ) → HasNoOwn tree plan place) where
  abbrev pub IsLoud : Deed → Type 0
  IsLoud d = is_quiet_deed (cell_count tree) d ≡ false

  abbrev at_own : ℕ → ℕ → ℕ
  at_own place c = own_cell (own_of tree plan place) p c

  cell_loud : (place c : ℕ) → c < cell_count tree → nat_le (cell_count tree) (at_own place c) ≡ false
  cell_loud place c below = own_quiet tree plan place p c None below (no_slot tree plan place c (none place))

  loads_loud : (place : ℕ) (cs : List ℕ) → AreThere tree cs → All IsLoud (map loading (map (at_own place) cs))
  loads_loud place [] all = All-nil IsLoud
  loads_loud place (c ∷ cs) all =
      All-cons IsLoud (loading (at_own place c)) (map loading (map (at_own place) cs)) (cell_loud place c (All-head (λ d. d < cell_count tree) c cs all)) (loads_loud place cs (All-tail (λ d. d < cell_count tree) c cs all))

  last_loud : (place : ℕ) (o : Option ℕ) (value : List ℤ → ℤ) (line : List ℤ → List ℕ) → AreThere tree (option_to_list o) → IsLoud (last_deed (option_map (at_own place) o) false value line)
  last_loud place None value line all = refl
  last_loud place (Some c) value line all = cell_loud place c (All-head (λ d. d < cell_count tree) c [] all)

  instance_loud : (place : ℕ) (i : Instance) → AreThere tree (cells_of tree i) → All IsLoud (own_deeds tree (own_of tree plan place) p i)
  instance_loud place i all =
      let last = last_deed (option_map (at_own place) (store_of tree i)) false (assigned_value tree i) (line_of tree i) in
      All-append IsLoud (map loading (map (at_own place) (loads_of tree i))) (last ∷ []) (loads_loud place (loads_of tree i) (All-left (λ c. c < cell_count tree) (loads_of tree i) (option_to_list (store_of tree i)) all))
      (All-cons IsLoud last [] (last_loud place (store_of tree i) (assigned_value tree i) (line_of tree i) (All-right (λ c. c < cell_count tree) (loads_of tree i) (option_to_list (store_of tree i)) all)) (All-nil IsLoud))

  abbrev AreAllThere : List Instance → Type 0
  AreAllThere is = All (λ i. AreThere tree (cells_of tree i)) is

  instances_loud : (place : ℕ) (is : List Instance) → AreAllThere is → All IsLoud (flat_map (own_deeds tree (own_of tree plan place) p) is)
  instances_loud place [] all = All-nil IsLoud
  instances_loud place (i ∷ is) all =
      All-append IsLoud (own_deeds tree (own_of tree plan place) p i) (flat_map (own_deeds tree (own_of tree plan place) p) is) (instance_loud place i (All-head (λ j. AreThere tree (cells_of tree j)) i is all))
      (instances_loud place is (All-tail (λ j. AreThere tree (cells_of tree j)) i is all))

  owned_there : (v : Visit) → AreAllThere (visit_instances (param_values tree) v) → AreAllThere (owned_by tree (slice_get plan.anchors (v.place - 1)) plan.workers p v)
  owned_there v all = by (slice_get plan.anchors (v.place - 1))
    where
      by : (a : Option Anchor) → AreAllThere (owned_by tree a plan.workers p v)
      by None = All-nil (λ i. AreThere tree (cells_of tree i))
      by (Some a) = All-filter (λ (i : Instance). anchor_owner a plan.workers i.loops (param_values tree) == p) (λ i. AreThere tree (cells_of tree i)) (visit_instances (param_values tree) v) all

  -- words are no cells
  awaits_loud : (w : Word) (n : ℕ) (qs : List ℕ) → All IsLoud (map (λ q. awaiting w q n) qs)
  awaits_loud w n [] = All-nil IsLoud
  awaits_loud w n (q ∷ qs) = All-cons IsLoud (awaiting w q n) (map (λ k. awaiting w k n) qs) refl (awaits_loud w n qs)

  boundary_loud : (w : Word) (n : ℕ) (posts : Bool) (qs : List ℕ) → All IsLoud (boundary_deeds w n posts qs)
  boundary_loud w n true qs = All-cons IsLoud (posting w n) (map (λ k. awaiting w k n) qs) refl (awaits_loud w n qs)
  boundary_loud w n false qs = awaits_loud w n qs

  rounds_loud : (first : ℕ) (rs : List ℕ) → All IsLoud (flat_map (round_deeds plan.workers p first) rs)
  rounds_loud first [] = All-nil IsLoud
  rounds_loud first (r ∷ rs) =
      All-append IsLoud (round_deeds plan.workers p first r) (flat_map (round_deeds plan.workers p first) rs) (boundary_loud _ (first + r) true (awaited_in_round plan.workers r p ∷ [])) (rounds_loud first rs)

  front_loud : (style : Style) (e passed : ℕ) (v : Visit) → All IsLoud (front_deeds style tree plan p e passed v)
  front_loud style e passed v = elim (is_by_signals style plan v) as (λ b. All IsLoud (if b then flat_map (round_deeds plan.workers p (passed * rounds_of plan.workers + 1)) (range_with_len 0 (rounds_of plan.workers)) else boundary_deeds counter (e - 1) (posts_at tree plan p v.place v.loops) (waits_for tree plan p v.place v.loops))) [
    | true ↦ rounds_loud (passed * rounds_of plan.workers + 1) (range_with_len 0 (rounds_of plan.workers))
    | false ↦ boundary_loud counter (e - 1) (posts_at tree plan p v.place v.loops) (waits_for tree plan p v.place v.loops)
  ]

  no_closings : (v : Visit) → closing_deeds tree plan p v ≡ []
  no_closings v =
      ap (λ vs. flat_map (λ s. kept_by (own_of tree plan v.place) (first_cell tree s) p (last_owner tree plan v)) vs
      ++ flat_map (λ s. totalled_by (own_of tree plan v.place) (first_cell tree s) p (has_stored tree plan v (first_cell tree s) p)) (own_loop tree plan v.place).sums) (none v.place).privates
      ∙ ap (flat_map (λ s. totalled_by (own_of tree plan v.place) (first_cell tree s) p (has_stored tree plan v (first_cell tree s) p))) (none v.place).sums

  part_loud : (style : Style) (e passed : ℕ) (v : Visit) → AreAllThere (visit_instances (param_values tree) v) → All IsLoud (part_deeds style tree plan p e passed v)
  part_loud style e passed v all =
      let mine = owned_by tree (slice_get plan.anchors (v.place - 1)) plan.workers p v in
      let deeds = flat_map (own_deeds tree (own_of tree plan v.place) p) mine in
      All-append IsLoud (front_deeds style tree plan p e passed v) (deeds ++ closing_deeds tree plan p v) (front_loud style e passed v)
      (All-append IsLoud deeds (closing_deeds tree plan p v) (instances_loud v.place mine (owned_there v all)) (subst (All IsLoud) (sym (no_closings v)) (All-nil IsLoud)))

  phases_loud : (style : Style) (e passed : ℕ) (vs : List Visit) → ((k : ℕ) (v : Visit) → slice_get vs k ≡ Some v → AreAllThere (visit_instances (param_values tree) v)) → All IsLoud (deeds_by style tree plan p e passed vs)
  phases_loud style e passed [] there = All-nil IsLoud
  phases_loud style e passed (v ∷ vs) there =
      let later = passed + signal_barriers style plan v in
      All-append IsLoud (part_deeds style tree plan p e passed v) (deeds_by style tree plan p (suc e) later vs) (part_loud style e passed v (there 0 v refl)) (phases_loud style (suc e) later vs (λ k u at. there (suc k) u at))

  module _ (formed : IsWellFormed tree) (fits : IsFit tree plan) (ranges : IsInRange tree) where
    all_there : (v : Visit) (is : List Instance) → All (IsFineIn tree plan v) is → AreAllThere is
    all_there v [] fine = All-nil (λ i. AreThere tree (cells_of tree i))
    all_there v (i ∷ is) fine =
        let f = All-head (IsFineIn tree plan v) i is fine in
        All-cons (λ j. AreThere tree (cells_of tree j)) i is (cells_there tree i formed f.good f.inside) (all_there v is (All-tail (IsFineIn tree plan v) i is fine))

    pub all_loud : (style : Style) → All IsLoud (all_of style tree plan p)
    unfolding all_of
    all_loud style = phases_loud style 1 0 (phases tree plan.cut.marks) (λ k v at. all_there v (visit_instances (param_values tree) v) (all_fine tree plan k v formed fits ranges at))
