-- Phase by phase, the turns do what the deeds of the timeline are.
use Rattle.std.proofs.Common.{◌≡◌, ℕ, suc, ◌+◌, ◌-◌, ◌<◌, Bool, true, false, List, [], ◌∷◌, ◌++◌, map, Some, if◌then◌else◌, refl, ap, sym, ◌∙◌, arith, append_assoc}
use Rattle.std.specs.Prelude.{slice_get}
use Rattle.std.specs.List.{flat_map}
use Rattle.std.proofs.lemmas.List.{append-nil}
use Rattle.nest_tree.specs.Tree.{Tree}
use Rattle.nest_model.specs.Instances.{Instance}
use Rattle.nest_model.specs.Visits.{Visit}
use Rattle.owner_partition.specs.Phases.{phases}
use Rattle.sync_plan.specs.Own.{own_of}
use Rattle.sync_plan.specs.Waits.{posts_at, waits_for}
use Rattle.sync_plan.specs.declared.plan.Plan.{Plan}
use Rattle.spmd_model.specs.Deeds.{boundary_deeds, owned_by}
use Rattle.spmd_model.specs.Machines.{is_by_signals, signal_barriers}
use Rattle.spmd_model.specs.MachineDeeds.{closing_deeds, deeds_by, front_deeds, own_deeds}
use Rattle.spmd_model.specs.Timelines.{counter}
use Rattle.spmd_model.specs.declared.style.Style.{Style}
use Rattle.turns.specs.CounterTurns.{begins, works, boundary_turns, counter_turns}
use Rattle.turns.specs.Turns.{Standing, begun, closings, has_signals, is_signalled, is_watched, no_phase, none_pending, place_of, rounds_before, turns_by}
use Rattle.turns.proofs.FrontDeeds.{behind_all, boundary_do, doing, front_is, works_do}

module _ (style : Style) (tree : Tree) (plan : Plan) (p : ℕ) (worker : p < plan.workers) (watched : is_watched style plan ≡ true)
    -- the closings behind each phase
    (closings_do : (k : ℕ) (v : Visit) (barriers : ℕ) → slice_get (phases tree plan.cut.marks) k ≡ Some v →
    doing tree plan p (closings (behind_all tree plan p (record { place = v.place; pending = none_pending; barriers = barriers }) (owned_by tree (slice_get plan.anchors (v.place - 1)) plan.workers p v))) ≡ closing_deeds tree plan p v) where
  abbrev at_first : ℕ → ℕ → Standing
  at_first place barriers = record { place = place; pending = none_pending; barriers = barriers }

  more : Visit → ℕ → ℕ
  more v barriers = if is_by_signals style plan v then suc barriers else barriers

  begun_is : (place barriers e : ℕ) (v : Visit) → slice_get (phases tree plan.cut.marks) (e - 1) ≡ Some v → begun style tree plan (at_first place barriers) e ≡ at_first v.place (more v barriers)
  unfolding more
  begun_is place barriers e v at =
      ap (λ o. record { place = if is_watched style plan then place_of o else no_phase; pending = none_pending; barriers = if has_signals style plan o then suc barriers else barriers }) at
      ∙ ap (λ b. record { place = if b then v.place else no_phase; pending = none_pending; barriers = if is_by_signals style plan v then suc barriers else barriers }) watched

  more_is : (v : Visit) (barriers : ℕ) → more v barriers ≡ barriers + signal_barriers style plan v
  unfolding more
  more_is v barriers = by (is_by_signals style plan v)
    where
      by : (b : Bool) → (if b then suc barriers else barriers) ≡ barriers + (if b then 1 else 0)
      by true = omega arith
      by false = omega arith

  same_barriers : (is : List Instance) (s : Standing) → (behind_all tree plan p s is).barriers ≡ s.barriers
  same_barriers [] s = refl
  same_barriers (i ∷ is) s = same_barriers is _

  pub by_phases : (e : ℕ) (vs : List Visit) (place barriers : ℕ) (pending : List Bool) → ((k : ℕ) (v : Visit) → slice_get vs k ≡ Some v → slice_get (phases tree plan.cut.marks) (e + k - 1) ≡ Some v) →
      doing tree plan p (turns_by style tree plan p (record { place = place; pending = pending; barriers = barriers }) (counter_turns tree plan p e vs))
      ≡ doing tree plan p (closings (record { place = place; pending = pending; barriers = barriers })) ++ deeds_by style tree plan p e barriers vs
  by_phases e [] place barriers pending there = sym (append-nil (doing tree plan p (closings (record { place = place; pending = pending; barriers = barriers }))))
  by_phases e (v ∷ vs) place barriers pending there =
      let here : slice_get (phases tree plan.cut.marks) (e - 1) ≡ Some v = (let index : e - 1 ≡ e + 0 - 1 = omega arith in ap (slice_get (phases tree plan.cut.marks)) index ∙ there 0 v refl) in
      let does = posts_at tree plan p v.place v.loops in
      let qs = waits_for tree plan p v.place v.loops in
      let mine = owned_by tree (slice_get plan.anchors (v.place - 1)) plan.workers p v in
      let later = counter_turns tree plan p (suc e) vs in
      let s : Standing = record { place = place; pending = pending; barriers = barriers } in
      let open_at = doing tree plan p (closings s) in
      let counters = if is_signalled style tree plan (e - 1) then [] else boundary_deeds counter (e - 1) does qs in
      let rounds = doing tree plan p (rounds_before style tree plan p (at_first place barriers) e) in
      let front = front_deeds style tree plan p e barriers v in
      let in_phase = at_first v.place (more v barriers) in
      let behind_it = behind_all tree plan p in_phase mine in
      let own = flat_map (own_deeds tree (own_of tree plan v.place) p) mine in
      let rest = deeds_by style tree plan p (suc e) (barriers + signal_barriers style plan v) vs in
      let next : doing tree plan p (turns_by style tree plan p behind_it later) ≡ doing tree plan p (closings behind_it) ++ rest =
      by_phases (suc e) vs behind_it.place behind_it.barriers behind_it.pending (λ k w at. let index : suc e + k - 1 ≡ e + suc k - 1 = omega arith in ap (slice_get (phases tree plan.cut.marks)) index ∙ there (suc k) w at)
      ∙ ap (λ n. doing tree plan p (closings behind_it) ++ deeds_by style tree plan p (suc e) n vs) (same_barriers mine in_phase ∙ more_is v barriers) in
      let jobs : doing tree plan p (turns_by style tree plan p in_phase (map works mine ++ later)) ≡ (own ++ closing_deeds tree plan p v) ++ rest =
      works_do tree plan p style later mine in_phase ∙ ap (λ l. own ++ l) next ∙ ap (λ l. own ++ (l ++ rest)) (closings_do (e - 1) v (more v barriers) here) ∙ sym (append_assoc own (closing_deeds tree plan p v) rest) in
      ap (λ ts. doing tree plan p (turns_by style tree plan p s ts)) (append_assoc (boundary_turns (e - 1) does qs) (begins e ∷ map works mine) later)
      ∙ boundary_do tree plan p style place barriers e (e - 1) (map works mine ++ later) does qs pending
      ∙ ap (λ z. open_at ++ (counters ++ (rounds ++ doing tree plan p (turns_by style tree plan p z (map works mine ++ later))))) (begun_is place barriers e v here)
      ∙ ap (λ l. open_at ++ (counters ++ (rounds ++ l))) jobs
      ∙ ap (λ l. open_at ++ l) (sym (append_assoc counters rounds ((own ++ closing_deeds tree plan p v) ++ rest)) ∙ ap (λ l. l ++ ((own ++ closing_deeds tree plan p v) ++ rest)) (front_is tree plan p style place barriers e v worker here)
      ∙ sym (append_assoc front (own ++ closing_deeds tree plan p v) rest))
