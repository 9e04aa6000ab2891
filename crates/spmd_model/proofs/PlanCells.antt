-- Which cells the acts along a plan's timeline in a style load, and to which they add.
use Rattle.std.proofs.Common.{◌≡◌, ℕ, zero, suc, ◌+◌, ◌-◌, ◌<◌, ◌≤◌, Bool, true, false, true≢false, List, [], ◌++◌, length, Option, Some, None, ◌==◌, ap, sym, subst, ◌∙◌, inl, inr, arith}
use Rattle.std.specs.Prelude.{Contains, slice_get}
use Rattle.std.specs.List.{flat_map, range_with_len}
use Rattle.std.specs.Option.{option_map, option_or}
use Rattle.std.proofs.lemmas.Bool.{cases_Bool, cases_lt}
use Rattle.std.proofs.lemmas.List.Elements.{Contains-append_cases}
use Rattle.std.proofs.lemmas.Option.{slice_get-map}
use Rattle.list_lemmas.proofs.Gets.{get-front, get-behind}
use Rattle.list_lemmas.proofs.Elements.{contains_at, Contains-flat_map_cases, Contains-one}
use Rattle.nest_tree.specs.Layout.{cell_count, first_cell}
use Rattle.nest_tree.specs.Tree.{Tree, param_values}
use Rattle.nest_tree.specs.WellFormed.{IsWellFormed}
use Rattle.nest_model.specs.Accesses.{loads_of}
use Rattle.nest_model.specs.Instances.{Instance, instances}
use Rattle.nest_model.specs.Memory.{cell_value, memory_before}
use Rattle.nest_model.specs.Ranges.{IsInRange}
use Rattle.nest_model.specs.Visits.{Visit}
use Rattle.owner_partition.specs.Phases.{visit_instances}
use Rattle.sync_plan.specs.declared.plan.Plan.{Plan}
use Rattle.sync_plan.specs.Fit.{IsFit}
use Rattle.sync_plan.specs.Own.{OwnLoop, at_slot, is_cell_of, own_cell, own_loop, own_of, place_in}
use Rattle.sync_plan.specs.Stored.{AreStoredFirst}
use Rattle.spmd_model.specs.Timelines.{Job, job}
use Rattle.spmd_model.specs.Acts.{load, add, act_at}
use Rattle.spmd_model.specs.Closings.{closings_of, has_stored, keeping, keeping_of, last_owner, moves_to, sets_to_zero, total_of, totalling, totalling_of}
use Rattle.spmd_model.specs.Sequential.{loaded_at, loaded_by}
use Rattle.spmd_model.specs.Machines.{instance_jobs, instances_in_front, job_under, machine_by, timeline_by}
use Rattle.spmd_model.specs.declared.style.Style.{Style}
use Rattle.spmd_model.proofs.ActLists.{found}
use Rattle.spmd_model.proofs.MomentActs.{IsChangeIn, IsLoadIn, tells}
use Rattle.spmd_model.proofs.OwnTexts.{AreOwnIn, cell_there, own_in_phase, place_there, sum_is}
use Rattle.spmd_model.proofs.Stands.{Under, in_map, in_phase, own_one, own_one_is, scalar_below, shared_one, under}
use Rattle.spmd_model.proofs.MachineLoads.{IsInstanceIn, instance_in}
use Rattle.spmd_model.proofs.MachinePlaces.{IsJobIn, job_in}

-- ---- jobs of a phase

-- a job loads cells of one processor alone, and adds to a cell that all share
record IsClosing (tree : Tree) (j : Job) : Type 0 where
  loads : (c : ℕ) → Contains j.loads c → cell_count tree ≤ c
  adds : (c : ℕ) → j.adds ≡ true → j.store ≡ Some c → c < cell_count tree

nothing : {X : Type 0} (x : X) → Contains {X = X} [] x → ⊥
nothing x (n, lt, is) = omega (arith, lt)

same_cell : (c d : ℕ) → Some c ≡ Some d → c ≡ d
same_cell c d e = cc

module _ (tree : Tree) (plan : Plan) (v : Visit) (o : AreOwnIn tree plan v) where
  kept_closing : (u q : ℕ) → Contains (own_loop tree plan v.place).privates u → IsClosing tree (moves_to false q (own_cell (own_of tree plan v.place) q (first_cell tree u)) (first_cell tree u))
  kept_closing u q among =
      let own = own_one_is tree plan v o q (first_cell tree u) (inl (cell_there tree (own_loop tree plan v.place).privates u among)) in
      record { loads = λ c has. (let is = Contains-one (own_cell (own_of tree plan v.place) q (first_cell tree u)) c has in omega (arith, is, own.2)); adds = λ c adds stores. absurd (true≢false (sym adds)) }

  total_closing : (u q : ℕ) → Contains (own_loop tree plan v.place).sums u → IsClosing tree (moves_to true q (own_cell (own_of tree plan v.place) q (first_cell tree u)) (first_cell tree u))
  total_closing u q among =
      let own = own_one_is tree plan v o q (first_cell tree u) (inr (cell_there tree (own_loop tree plan v.place).sums u among)) in
      let below = scalar_below tree u (sum_is tree plan v o u among).1 in
      record { loads = λ c has. (let is = Contains-one (own_cell (own_of tree plan v.place) q (first_cell tree u)) c has in omega (arith, is, own.2)); adds = λ c adds stores. (let is = same_cell (first_cell tree u) c stores in omega (arith, is, below)) }

  zero_closing : (q c : ℕ) → IsClosing tree (sets_to_zero q c)
  zero_closing q c = record { loads = λ d has. absurd (nothing d has); adds = λ d adds stores. absurd (true≢false (sym adds)) }

  in_keeping : (u : ℕ) (j : Job) → Contains (own_loop tree plan v.place).privates u → (w : Option ℕ) → Contains (keeping (own_of tree plan v.place) (first_cell tree u) w) j → IsClosing tree j
  in_keeping u j among None has = absurd (nothing j has)
  in_keeping u j among (Some q) has = subst (IsClosing tree) (Contains-one (moves_to false q (own_cell (own_of tree plan v.place) q (first_cell tree u)) (first_cell tree u)) j has) (kept_closing u q among)

  in_total : (u q : ℕ) (j : Job) → Contains (own_loop tree plan v.place).sums u → (b : Bool) → Contains (totalling (own_of tree plan v.place) (first_cell tree u) q b) j → IsClosing tree j
  in_total u q j among false has = absurd (nothing j has)
  in_total u q j among true (zero, lt, same) = subst (IsClosing tree) same (total_closing u q among)
  in_total u q j among true (suc n, lt, same) = subst (IsClosing tree) (Contains-one (sets_to_zero q (own_cell (own_of tree plan v.place) q (first_cell tree u))) j (n, omega (arith, lt), same)) (zero_closing q (own_cell (own_of tree plan v.place) q (first_cell tree u)))

  closing_is : (j : Job) → Contains (closings_of tree plan v) j → IsClosing tree j
  closing_is j among = elim (Contains-append_cases (flat_map (keeping_of tree plan v) (own_loop tree plan v.place).privates) (flat_map (totalling_of tree plan v) (own_loop tree plan v.place).sums) j among) [
    | inl kept ↦ let f = Contains-flat_map_cases (keeping_of tree plan v) (own_loop tree plan v.place).privates j kept in in_keeping f.0 j f.1 (last_owner tree plan v) f.2
    | inr summed ↦
        let f = Contains-flat_map_cases (totalling_of tree plan v) (own_loop tree plan v.place).sums j summed in
        let g = Contains-flat_map_cases (total_of tree plan v f.0) (range_with_len 0 plan.workers) j f.2 in
        in_total f.0 g.0 j f.1 (has_stored tree plan v (first_cell tree f.0) g.0) g.2
  ]

-- ---- jobs on the timeline

-- an instance, or a closing
data Sorts (tree : Tree) (j : Job) : Type 0 where
  an_instance : j.counts ≡ 1 → j.adds ≡ false → Sorts tree j
  a_closing : IsClosing tree j → Sorts tree j

sort_of : (style : Style) (tree : Tree) (plan : Plan) (t : ℕ) (j : Job) → IsWellFormed tree → IsFit tree plan → slice_get (timeline_by style tree plan) t ≡ Some (job j) → Sorts tree j
sort_of style tree plan t j formed fits at =
    elim (cases_lt x.index (length jobs)) [
      | inl inside ↦ by (slice_get (visit_instances (param_values tree) x.visit) x.index) (sym (slice_get-map (λ i. job_under tree plan (in_phase (1 + x.number) x.visit i)) (visit_instances (param_values tree) x.visit) x.index) ∙ sym (get-front jobs closings x.index inside) ∙ x.is)
      | inr past ↦
          let more : length jobs + (x.index - length jobs) ≡ x.index = omega (arith, past) in
          a_closing (closing_is tree plan x.visit (own_in_phase tree plan x.number x.visit formed fits x.at) j
          (contains_at closings (x.index - length jobs) j (sym (ap (slice_get (jobs ++ closings)) (sym more) ∙ get-behind jobs closings (x.index - length jobs)) ∙ x.is)))
    ]
  where
    x : IsJobIn style tree plan t j
    x = job_in style tree plan t j at

    jobs : List Job
    jobs = instance_jobs tree plan (1 + x.number) x.visit

    closings : List Job
    closings = closings_of tree plan x.visit

    by : (w : Option Instance) → option_map (λ i. job_under tree plan (in_phase (1 + x.number) x.visit i)) w ≡ Some j → Sorts tree j
    by None same = let clash : None ≡ Some j = same in absurd (cc)
    by (Some i) same =
        let equal : Some (job_under tree plan (in_phase (1 + x.number) x.visit i)) ≡ Some j = same in
        let is_j : job_under tree plan (in_phase (1 + x.number) x.visit i) ≡ j = cc in
        an_instance (ap (λ (y : Job). y.counts) (sym is_j)) (ap (λ (y : Job). y.adds) (sym is_j))

-- ---- acts

-- additions are to cells that all share
pub adds_there : (style : Style) (tree : Tree) (plan : Plan) (t cell : ℕ) (j : Job) → IsWellFormed tree → IsFit tree plan → slice_get (timeline_by style tree plan) t ≡ Some (job j) → j.adds ≡ true → j.store ≡ Some cell → cell < cell_count tree
adds_there style tree plan t cell j formed fits at adds stores = by (sort_of style tree plan t j formed fits at)
  where
    by : Sorts tree j → cell < cell_count tree
    by (an_instance counts plain) = absurd (true≢false (sym adds ∙ plain))
    by (a_closing c) = c.adds cell adds stores

pub add_there : (style : Style) (tree : Tree) (plan : Plan) (p n place cell : ℕ) → IsWellFormed tree → IsFit tree plan → act_at (machine_by style tree plan) p n ≡ Some (add place cell) → cell < cell_count tree
add_there style tree plan p n place cell formed fits e =
    let f = found (machine_by style tree plan) p n (add place cell) e in
    let l : IsChangeIn p f.place f.index place cell true f.moment = tells p f.place f.index f.moment (add place cell) f.is in
    adds_there style tree plan f.place cell l.job_is formed fits (f.at ∙ ap Some l.moment) l.adding l.stores

-- a cell without a place is no sum scalar's
no_sum : (tree : Tree) (own : OwnLoop) (c : ℕ) → option_or (place_in tree own.privates c) (option_map (λ k. 16 + k) (place_in tree own.sums c)) ≡ None → is_cell_of tree own.sums c ≡ false
no_sum tree own c none = elim (cases_Bool (is_cell_of tree own.sums c)) [
  | inl is ↦
      let p = place_there (λ u. first_cell tree u == c) own.sums is in
      absurd (some (place_in tree own.privates c) p.0 (sym (ap (λ x. option_or (place_in tree own.privates c) (option_map (λ k. 16 + k) x)) p.1) ∙ none))
  | inr plain ↦ plain
]
  where
    some : (a : Option ℕ) (k : ℕ) → option_or a (Some (16 + k)) ≡ None → ⊥
    some None k h = let clash : Some (16 + k) ≡ None = h in cc
    some (Some b) k h = let clash : Some b ≡ None = h in cc

-- a load of a cell that all share is of an instance, and gives what the program's memory has in front of it
pub load_there : (style : Style) (tree : Tree) (plan : Plan) (p n place cell : ℕ) → IsWellFormed tree → IsFit tree plan → IsInRange tree → AreStoredFirst tree plan → cell < cell_count tree → act_at (machine_by style tree plan) p n ≡ Some (load place cell) →
    (i : Instance) × (slice_get (instances tree) (instances_in_front style tree plan place) ≡ Some i) × Contains (loads_of tree i) cell × (loaded_at (machine_by style tree plan) p n ≡ cell_value (memory_before tree (instances_in_front style tree plan place)) cell)
load_there style tree plan p n place cell formed fits ranges stored below e =
    let f = found (machine_by style tree plan) p n (load place cell) e in
    let l : IsLoadIn p f.place f.index place cell f.moment = tells p f.place f.index f.moment (load place cell) f.is in
    let at : slice_get (timeline_by style tree plan) place ≡ Some (job l.job_is) = ap (slice_get (timeline_by style tree plan)) l.place ∙ f.at ∙ ap Some l.moment in
    by l.job_is (contains_at l.job_is.loads f.index cell l.is) at (sort_of style tree plan place l.job_is formed fits at)
  where
    by : (j : Job) → Contains j.loads cell → slice_get (timeline_by style tree plan) place ≡ Some (job j) → Sorts tree j →
        (i : Instance) × (slice_get (instances tree) (instances_in_front style tree plan place) ≡ Some i) × Contains (loads_of tree i) cell × (loaded_at (machine_by style tree plan) p n ≡ cell_value (memory_before tree (instances_in_front style tree plan place)) cell)
    by j has at (a_closing c) = absurd (let past = c.loads cell has in omega (arith, past, below))
    by j has at (an_instance counts plain) = shared (instance_in style tree plan formed fits ranges stored place j at counts)
      where
        shared : IsInstanceIn style tree plan place j →
            (i : Instance) × (slice_get (instances tree) (instances_in_front style tree plan place) ≡ Some i) × Contains (loads_of tree i) cell × (loaded_at (machine_by style tree plan) p n ≡ cell_value (memory_before tree (instances_in_front style tree plan place)) cell)
        shared x =
            let own = own_of tree plan x.execution.place in
            let owner = ap (λ (y : Job). y.owner) x.is in
            let m = in_map (own_cell own (job_under tree plan x.execution).owner) (loads_of tree x.execution.instance) cell (subst (λ (y : Job). Contains y.loads cell) x.is has) in
            reached x m.0 m.1 (under tree own (job_under tree plan x.execution).owner m.0 cell m.2)
          where
            reached : (x : IsInstanceIn style tree plan place j) (c : ℕ) → Contains (loads_of tree x.execution.instance) c → Under tree (own_of tree plan x.execution.place) (job_under tree plan x.execution).owner c cell →
                (i : Instance) × (slice_get (instances tree) (instances_in_front style tree plan place) ≡ Some i) × Contains (loads_of tree i) cell × (loaded_at (machine_by style tree plan) p n ≡ cell_value (memory_before tree (instances_in_front style tree plan place)) cell)
            reached x c among (own_one k slot is) = absurd (omega (arith, is, below))
            reached x c among (shared_one slot is) =
                let own = own_of tree plan x.execution.place in
                let here : own_cell own j.owner c ≡ cell = ap (at_slot own j.owner c) slot ∙ sym is in (
                  x.execution.instance,
                  x.at,
                  subst (Contains (loads_of tree x.execution.instance)) (sym is) among,
                  ap (loaded_by (machine_by style tree plan)) e ∙ sym (ap (cell_value _) here) ∙ x.gives c among (no_sum tree (own_loop tree plan x.execution.place) c slot) ∙ sym (ap (cell_value (memory_before tree (instances_in_front style tree plan place))) is),
                )
