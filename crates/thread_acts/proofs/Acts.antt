-- What the code of a program does on a processor is what the processor's acts do.
use Rattle.std.proofs.Common.{◌≡◌, ℕ, suc, ◌-◌, ◌<◌, ℤ, List, [], ◌∷◌, Option, Some, None, if◌then◌else◌, true, length, refl, ap, sym, subst, ◌∙◌, map, ap₂}
use Rattle.std.specs.Prelude.{Contains, is_none, slice_get}
use Rattle.std.specs.Option.{option_map}
use Rattle.std.specs.List.{AllByRecursion}
use Rattle.nest_tree.specs.Limits.{no_ends}
use Rattle.nest_tree.specs.Tree.{Head, Statement, Statements, do_loop, work, continue, Tree, param_values}
use Rattle.nest_tree.specs.WellFormed.{IsWellFormed, scope_of}
use Rattle.nest_model.specs.Instances.{Instance, head_trips, instances_in, with_loop}
use Rattle.nest_model.specs.Visits.{Visit, stops_of}
use Rattle.nest_walk.specs.Texts.{placed}
use Rattle.owner_partition.specs.declared.anchor.Anchor.{Anchor}
use Rattle.own_scalars.specs.OwnScalars.{is_private}
use Rattle.owner_partition.specs.Cuts.{privates_of}
use Rattle.owner_partition.specs.Marks.{enters_outer}
use Rattle.owner_partition.specs.Owners.{anchor_owner}
use Rattle.owner_partition.specs.Phases.{phases}
use Rattle.owner_partition.specs.Placement.{ends_among}
use Rattle.sync_plan.specs.Fit.{IsFit}
use Rattle.sync_plan.specs.Conflicts.{last_value}
use Rattle.sync_plan.specs.Own.{OwnLoop, own_loop, own_loop_of}
use Rattle.sync_plan.specs.Stored.{AreStoredFirst}
use Rattle.sync_plan.specs.declared.plan.Kind.{Kind}
use Rattle.sync_plan.specs.declared.plan.Kind.TheVariants.{Nothing, Producer, Left, Right, Both, Barrier, Join}
use Rattle.sync_plan.specs.declared.plan.Plan.{Plan}
use Rattle.sync_plan.specs.Waits.{awaited_at, awaited_behind, is_awaited_at, is_awaited_behind, kind_owner}
use Rattle.sync_plan.proofs.PhasePlaces.{IsThereFrom, visit_there}
use Rattle.spmd_model.specs.Closings.{executed_at, last_loops}
use Rattle.spmd_model.specs.Deeds.{boundary_deeds, deed_of}
use Rattle.spmd_model.specs.Machines.{machine_by}
use Rattle.spmd_model.specs.MachineDeeds.{deeds_by}
use Rattle.spmd_model.proofs.Deeds.{anchored}
use Rattle.spmd_model.proofs.MachineDeeds.{acts_do}
use Rattle.spmd_model.specs.Timelines.{counter}
use Rattle.spmd_model.specs.Acts.{acts_of}
use Rattle.spmd_model.specs.declared.style.Style.TheVariants.{Arrive}
use Rattle.spmd_model.proofs.LastStores.{last_among, split_at, stores_first}
use Rattle.spmd_model.proofs.OwnTexts.{own_in_phase, private_is}
use Rattle.thread_code.specs.Closed.{AreTurnings}
use Rattle.thread_code.specs.Code.{Table, codes_of, share_by}
use Rattle.thread_acts.specs.ThreadDeeds.{code_deeds, front_of, share_deeds, thread_of}
use Rattle.thread_acts.proofs.Good.{can_own, good_at}
use Rattle.thread_acts.proofs.Parts.{RunsLast, part_by, share_right}
use Rattle.thread_acts.proofs.Producers.{producer_below}
use Rattle.thread_acts.proofs.Threads.{IsRight, threads_are}
use Rattle.thread_acts.proofs.Waits.{all_written, both_written, left_written, nothing_written, producer_written, right_written}

-- what holds at each place of a list holds of all of it
all_at : (P : Visit → Type 0) (vs : List Visit) → ((k : ℕ) (v : Visit) → slice_get vs k ≡ Some v → P v) → AllByRecursion P vs
all_at P [] each = tt
all_at P (v ∷ vs) each = (each 0 v refl, all_at P vs (λ k w at. each (suc k) w at))

-- something is executed where some instance is
executed : (is : List Instance) (n : ℕ) (i : Instance) (loops : List ℤ) → slice_get is n ≡ Some i → (if is_none (slice_get is 0) then None else Some loops) ≡ Some loops
executed [] n i loops there = let clash : None ≡ Some i = there in absurd (cc)
executed (x ∷ is) n i loops there = refl

module _ (table : Table) (tree : Tree) (plan : Plan) (p : ℕ) (turnings : AreTurnings plan.workers table) (formed : IsWellFormed tree) (fits : IsFit tree plan) (stored : AreStoredFirst tree plan) (below : p < plan.workers) where
  abbrev There : Visit → Type 0
  There v = IsThereFrom (param_values tree) (scope_of tree) 1 (stops_of (enters_outer plan.cut.marks) tree.items) (placed tree (enters_outer plan.cut.marks)) (ends_among (param_values tree) (enters_outer plan.cut.marks) no_ends tree.items) v

  -- the boundary in front of a phase
  kind_right : (kind : Kind) (loops : List ℤ) (e : ℕ) → ((a : Anchor) → kind ≡ Producer a → anchor_owner a plan.workers loops (param_values tree) < plan.workers) →
      front_of (thread_of tree plan p) (Some kind) loops e ≡ boundary_deeds counter e (is_awaited_at kind (kind_owner kind plan.workers loops (param_values tree)) plan.workers p) (awaited_at kind (kind_owner kind plan.workers loops (param_values tree)) plan.workers p)
  kind_right Nothing loops e named = sym (nothing_written 0 plan.workers p e)
  kind_right (Producer a) loops e named = sym (producer_written a (anchor_owner a plan.workers loops (param_values tree)) plan.workers p e below (named a refl))
  kind_right Left loops e named = sym (left_written 0 plan.workers p e below)
  kind_right Right loops e named = sym (right_written 0 plan.workers p e below)
  kind_right Both loops e named = sym (both_written 0 plan.workers p e below)
  kind_right Barrier loops e named = sym (all_written Barrier (λ owner p q. refl) 0 plan.workers p e below)
  kind_right Join loops e named = sym (all_written Join (λ owner p q. refl) 0 plan.workers p e below)

  waits_right : (v : Visit) → There v → (o : Option Kind) → slice_get plan.kinds (v.place - 1) ≡ o → (e : ℕ) →
      front_of (thread_of tree plan p) o v.loops e ≡ boundary_deeds counter e (is_awaited_behind o plan.workers v.loops (param_values tree) p) (awaited_behind o plan.workers v.loops (param_values tree) p)
  waits_right v f None at e = refl
  waits_right v f (Some kind) at e = kind_right kind v.loops e (λ a is. producer_below tree plan v a fits f (at ∙ ap Some is))

  -- where a private scalar is stored first, the last trip executes that store
  runs_last : (k : ℕ) (v : Visit) → slice_get (phases tree plan.cut.marks) k ≡ Some v → (head : Head) (body : Statements) → v.what ≡ do_loop head body → (u : ℕ) → Contains (privates_of plan.cut.privates head.number) u →
      last_loops (param_values tree) (do_loop head body) v.first v.loops ≡ option_map (with_loop v.loops head.number) (last_value (head_trips (param_values tree) head v.loops))
  runs_last k v at head body what u mine = by (last_value (head_trips (param_values tree) head v.loops)) refl
    where
      by : (w : Option ℤ) → last_value (head_trips (param_values tree) head v.loops) ≡ w →
          executed_at (param_values tree) body v.first (option_map (with_loop v.loops head.number) (last_value (head_trips (param_values tree) head v.loops))) ≡ option_map (with_loop v.loops head.number) (last_value (head_trips (param_values tree) head v.loops))
      by None is = ap (λ w. executed_at (param_values tree) body v.first (option_map (with_loop v.loops head.number) w)) is ∙ sym (ap (option_map (with_loop v.loops head.number)) is)
      by (Some value) is =
          let o = own_in_phase tree plan k v formed fits at in
          let loops = with_loop v.loops head.number value in
          let among : Contains (own_loop tree plan v.place).privates u = subst (λ (l : OwnLoop). Contains l.privates u) (sym (o.loop_is ∙ ap (own_loop_of plan.cut) what)) mine in
          let private : is_private u body ≡ true = ap (λ (s : Statement). is_private u (own_loop_of plan.cut s).body) (sym what) ∙ (private_is tree plan v o u among).0 in
          let runs = stored k v head body value u at what (last_among (head_trips (param_values tree) head v.loops) value is) mine in
          let s = stores_first (param_values tree) u body v.first loops private runs in
          let there = split_at s.before s.store s.after (instances_in (param_values tree) body v.first loops) s.split in
          ap (λ w. executed_at (param_values tree) body v.first (option_map (with_loop v.loops head.number) w)) is ∙ executed (instances_in (param_values tree) body v.first loops) (length s.before) s.store loops there ∙ sym (ap (option_map (with_loop v.loops head.number)) is)

  runs_there : (k : ℕ) (v : Visit) → slice_get (phases tree plan.cut.marks) k ≡ Some v → (s : Statement) → v.what ≡ s → RunsLast (param_values tree) plan.cut s v.first v.loops
  runs_there k v at (do_loop head body) what = runs_last k v at head body what
  runs_there k v at (work w) what = tt
  runs_there k v at (continue line) what = tt

  -- a phase's share, whose anchor is there
  share_there : (k : ℕ) (v : Visit) → slice_get (phases tree plan.cut.marks) k ≡ Some v → There v → (a : Anchor) → slice_get plan.anchors (v.place - 1) ≡ Some a →
      share_deeds (thread_of tree plan p) (share_by table plan (slice_get plan.anchors (v.place - 1)) v.what) v.loops ≡ part_by table tree plan p turnings (slice_get plan.anchors (v.place - 1)) (own_loop tree plan v.place) v
  share_there k v at f a is =
      let own = own_in_phase tree plan k v formed fits at in
      ap (λ o. share_deeds (thread_of tree plan p) (share_by table plan o v.what) v.loops) is
      ∙ share_right table tree plan p turnings a v.what v.place v.first v.loops own.own.few_sums (can_own (param_values tree) (scope_of tree) plan.workers p a below v (good_at tree plan v a fits f is)) (runs_there k v at v.what refl)
      ∙ ap₂ (λ o l. part_by table tree plan p turnings o l v) (sym is) (sym own.loop_is)

  right_at : (k : ℕ) (v : Visit) → slice_get (phases tree plan.cut.marks) k ≡ Some v → IsRight table tree plan p v
  right_at k v at =
      let f = visit_there tree plan.cut.marks k v formed at in
      let found = anchored tree plan formed fits k v at in record {
        waits = λ e. waits_right v f (slice_get plan.kinds (v.place - 1)) refl e;
        does = share_there k v at f found.0 found.1;
      }

  code_does : code_deeds tree plan p (codes_of table tree plan) ≡ deeds_by Arrive tree plan p 1 0 (phases tree plan.cut.marks)
  code_does = threads_are table tree plan p (all_at (IsRight table tree plan p) (phases tree plan.cut.marks) right_at)

  -- so they are what its acts do
  pub code_acts : code_deeds tree plan p (codes_of table tree plan) ≡ map (deed_of (machine_by Arrive tree plan)) (acts_of (machine_by Arrive tree plan) p)
  code_acts = code_does ∙ sym (acts_do Arrive tree plan p formed fits below)
