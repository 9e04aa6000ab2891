-- The turns of a processor do what its acts do along the timeline.
use Rattle.std.proofs.Common.{◌≡◌, ◌==◌, ◌&&◌, ◌||◌, ℕ, zero, suc, drop, ◌+◌, ◌-◌, ◌<◌, ◌≤◌, nat_lt, Bool, true, false, List, [], ◌∷◌, ◌++◌, length, map, Option, Some, None, if◌then◌else◌, refl, ap, sym, ◌∙◌, arith}
use Rattle.std.specs.Prelude.{position, slice_get}
use Rattle.std.specs.List.{flat_map, list_any}
use Rattle.std.specs.Option.{option_map}
use Rattle.std.proofs.lemmas.Bool.{eqb-true, lt-ltb, ltb-true}
use Rattle.std.proofs.lemmas.List.Quantifiers.{position-Some}
use Rattle.std.proofs.lemmas.Option.{slice_get_within}
use Rattle.nest_tree.specs.Limits.{IsWithinLimits}
use Rattle.nest_tree.specs.Tree.{Tree, Work, assign, print, param_values}
use Rattle.nest_tree.specs.WellFormed.{IsWellFormed}
use Rattle.nest_model.specs.Instances.{Instance}
use Rattle.nest_model.specs.Ranges.{IsInRange}
use Rattle.nest_model.specs.Visits.{Visit}
use Rattle.own_scalars.specs.OwnScalars.{is_of}
use Rattle.owner_partition.specs.Phases.{phases}
use Rattle.sync_plan.specs.Fit.{IsFit}
use Rattle.sync_plan.specs.Own.{OwnLoop, own_loop, own_of}
use Rattle.sync_plan.specs.Shape.{static_phases}
use Rattle.sync_plan.specs.declared.plan.Plan.{Plan}
use Rattle.own_cells.specs.OwnCells.{place_assigned}
use Rattle.spmd_model.specs.Deeds.{posting, awaiting, deed_of, owned_by}
use Rattle.spmd_model.specs.Machines.{machine_by}
use Rattle.spmd_model.specs.MachineDeeds.{closing_deeds, deeds_by, own_deeds}
use Rattle.spmd_model.specs.Timelines.{counter}
use Rattle.spmd_model.specs.Acts.{acts_of}
use Rattle.spmd_model.specs.declared.style.Style.{Style}
use Rattle.spmd_model.specs.declared.style.Style.TheVariants.{Arrive}
use Rattle.spmd_model.proofs.NoOwnDeeds.{plain_deeds, same_deeds}
use Rattle.spmd_model.proofs.OwnTexts.{AreOwnIn, own_in_phase}
use Rattle.spmd_model.proofs.MachineDeeds.{acts_do}
use Rattle.turns.specs.CounterTurns.{CounterTurn, posts, awaits, begins, works, counter_deeds, counter_turns}
use Rattle.turns.proofs.CounterDeeds.{turns_do}
use Rattle.turns.specs.Turns.{closes, Standing, all_rounds, begun, closings, ends_phase, first_standing, is_watched, no_phase, none_pending, places_pending, turns_by}
use Rattle.turns.proofs.ClosingDeeds.{closings_do}
use Rattle.turns.proofs.ClosingMarks.{is_at, marks, places_are}
use Rattle.turns.proofs.FrontDeeds.{behind_all, doing}
use Rattle.turns.proofs.KnownOwn.{none_at, nothing_marked, unwatched_none}
use Rattle.turns.proofs.LastOwners.{owner_keeps}
use Rattle.turns.proofs.OwnSlots.{few_privates, few_sums, slot_private, slot_sum}
use Rattle.turns.proofs.PhaseByPhase.{by_phases}
use Rattle.turns.proofs.TurnLists.{arrives, no_signals, plainly_begun}
use Rattle.turns.proofs.SumMarks.{few, sum_pends}

-- ---- the closings of a phase

any_equal : {X : Type 0} (f g : X → Bool) (xs : List X) → ((x : X) → f x ≡ g x) → list_any f xs ≡ list_any g xs
any_equal f g [] same = refl
any_equal f g (x ∷ xs) same = ap (λ b. b || list_any f xs) (same x) ∙ ap (λ b. g x || b) (any_equal f g xs same)

none_any : {X : Type 0} (f : X → Bool) (xs : List X) → ((x : X) → f x ≡ false) → list_any f xs ≡ false
none_any f [] none = refl
none_any f (x ∷ xs) none = ap (λ b. b || list_any f xs) (none x) ∙ none_any f xs none

not_true : (b : Bool) → (b ≡ true → ⊥) → b ≡ false
not_true true h = absurd (h refl)
not_true false h = refl

-- an assignment marks a sum scalar's place or none
not_marked : (sums : List ℕ) (k : ℕ) (w : Work) → ((n : ℕ) → n < length sums → 16 + n ≡ k → ⊥) → is_at (place_assigned sums w) k ≡ false
not_marked sums k (print x) other = refl
not_marked sums k (assign a) other = by (position (λ v. is_of v a.target) sums) refl
  where
    by : (o : Option ℕ) → position (λ v. is_of v a.target) sums ≡ o → is_at (option_map (λ n. 16 + n) o) k ≡ false
    by None at = refl
    by (Some n) at = not_true (16 + n == k) (λ same. other n (position-Some (λ v. is_of v a.target) sums n 0 at).0 (eqb-true (16 + n) k same))

module _ (tree : Tree) (plan : Plan) (p k : ℕ) (v : Visit) (formed : IsWellFormed tree) (fits : IsFit tree plan) (limits : IsWithinLimits tree) (ranges : IsInRange tree) (at : slice_get (phases tree plan.cut.marks) k ≡ Some v) where
  abbrev o : AreOwnIn tree plan v
  o = own_in_phase tree plan k v formed fits at

  abbrev own : OwnLoop
  own = own_loop tree plan v.place

  abbrev mine : List Instance
  mine = owned_by tree (slice_get plan.anchors (v.place - 1)) plan.workers p v

  abbrev mark : ℕ → Instance → Bool
  mark = marks tree plan p v.place (few tree plan k v formed fits ranges at p)

  abbrev ends : Instance → Bool
  ends i = ends_phase (param_values tree) (slice_get (static_phases tree plan.cut.marks) (v.place - 1)) i.loops

  abbrev pends : ℕ → Bool
  pends j = list_any (mark j) mine

  same_place : (is : List Instance) (s : Standing) → (behind_all tree plan p s is).place ≡ s.place
  same_place [] s = refl
  same_place (i ∷ is) s = same_place is _

  private_pends : (j u : ℕ) → slice_get own.privates j ≡ Some u → pends j ≡ list_any ends mine
  private_pends j u there =
      let lt = slice_get_within own.privates j u there in
      let less = few_privates tree plan v o in
      any_equal (mark j) ends mine (λ i. ap (λ b. b || (nat_lt j (length own.privates) && ends i)) (not_marked own.sums j i.what (λ n inside is. omega (arith, is, lt, less))) ∙ ap (λ b. b && ends i) (lt-ltb j (length own.privates) lt))

  no_private : (j : ℕ) → length own.privates ≤ j → j < 16 → pends j ≡ false
  no_private j ge lt =
      none_any (mark j) mine (λ i. ap (λ b. b || (nat_lt j (length own.privates) && ends i)) (not_marked own.sums j i.what (λ n inside is. omega (arith, is, lt)))
      ∙ ap (λ b. b && ends i) (not_true (nat_lt j (length own.privates)) (λ yes_it_is. omega (arith, ltb-true j (length own.privates) yes_it_is, ge))))

  no_sum : (j : ℕ) → length own.sums ≤ j → j < 16 → pends (16 + j) ≡ false
  no_sum j ge lt =
      let less = few_privates tree plan v o in
      none_any (mark (16 + j)) mine (λ i. ap (λ b. b || (nat_lt (16 + j) (length own.privates) && ends i)) (not_marked own.sums (16 + j) i.what (λ n inside is. omega (arith, is, inside, ge)))
      ∙ ap (λ b. b && ends i) (not_true (nat_lt (16 + j) (length own.privates)) (λ yes_it_is. omega (arith, ltb-true (16 + j) (length own.privates) yes_it_is, less))))

  phase_closes : (barriers : ℕ) → doing tree plan p (closings (behind_all tree plan p (record { place = v.place; pending = none_pending; barriers = barriers }) mine)) ≡ closing_deeds tree plan p v
  phase_closes barriers =
      let first : Standing = record { place = v.place; pending = none_pending; barriers = barriers } in
      let last = behind_all tree plan p first mine in
      ap (λ place. doing tree plan p (map (closes place) (places_pending last.pending))) (same_place mine first)
      ∙ ap (λ ks. doing tree plan p (map (closes v.place) ks)) (places_are tree plan p v.place (few tree plan k v formed fits ranges at p) mine barriers)
      ∙ closings_do tree plan p v (few_privates tree plan v o) (few_sums tree plan v o) (slot_private tree plan v o) (slot_sum tree plan v o) pends (list_any ends mine) private_pends no_private
      (λ u among. owner_keeps tree plan p k v formed fits limits at u among) (sum_pends tree plan k v formed fits ranges at p) no_sum

-- ---- where no phase is watched

abbrev unseen_standing : ℕ → Standing
unseen_standing barriers = record { place = no_phase; pending = none_pending; barriers = barriers }

plainly : (tree : Tree) (plan : Plan) (p barriers : ℕ) → is_watched Arrive plan ≡ false → (ts : List CounterTurn) → doing tree plan p (turns_by Arrive tree plan p (unseen_standing barriers) ts) ≡ flat_map (counter_deeds tree) ts
plainly tree plan p barriers none [] = refl
plainly tree plan p barriers none (posts number ∷ rest) = ap (λ l. posting counter number ∷ l) (plainly tree plan p barriers none rest)
plainly tree plan p barriers none (awaits on wanted ∷ rest) = ap (λ l. awaiting counter on wanted ∷ l) (plainly tree plan p barriers none rest)
plainly tree plan p barriers none (begins e ∷ rest) =
    ap (λ b. doing tree plan p ((if b then all_rounds plan.workers p barriers else []) ++ turns_by Arrive tree plan p (begun Arrive tree plan (unseen_standing barriers) e) rest)) (no_signals plan (slice_get (phases tree plan.cut.marks) (e - 1)))
    ∙ ap (λ s. doing tree plan p (turns_by Arrive tree plan p s rest)) (plainly_begun Arrive tree plan barriers e none) ∙ plainly tree plan p barriers none rest
plainly tree plan p barriers none (works i ∷ rest) =
    let own = none_at tree plan no_phase (unwatched_none Arrive plan none) in
    ap (λ l. own_deeds tree (own_of tree plan no_phase) p i ++ l)
    (ap (λ bs. doing tree plan p (turns_by Arrive tree plan p (record { place = no_phase; pending = bs; barriers = barriers }) rest)) (nothing_marked tree plan (unseen_standing barriers) i own) ∙ plainly tree plan p barriers none rest)
    ∙ ap (λ l. l ++ flat_map (counter_deeds tree) rest) (same_deeds tree plan no_phase p i own)

-- ---- turns behind so many phases

pub turns_behind_act : (style : Style) (tree : Tree) (plan : Plan) (p : ℕ) → IsWellFormed tree → IsWithinLimits tree → IsFit tree plan → IsInRange tree → p < plan.workers → (n : ℕ) (s : Standing) →
    (is_watched style plan ≡ false → (s.place ≡ no_phase) × (s.pending ≡ none_pending)) →
    doing tree plan p (turns_by style tree plan p s (counter_turns tree plan p (suc n) (drop n (phases tree plan.cut.marks)))) ≡ doing tree plan p (closings s) ++ deeds_by style tree plan p (suc n) s.barriers (drop n (phases tree plan.cut.marks))
turns_behind_act style tree plan p formed limits fits ranges worker n s unseen = by (is_watched style plan) refl
  where
    get_drop : (vs : List Visit) (a k : ℕ) → slice_get (drop a vs) k ≡ slice_get vs (a + k)
    get_drop [] zero k = refl
    get_drop [] (suc a) k = refl
    get_drop (x ∷ vs) zero k = let same : k ≡ 0 + k = omega arith in ap (slice_get (x ∷ vs)) same
    get_drop (x ∷ vs) (suc a) k = let next : suc (a + k) ≡ suc a + k = omega arith in get_drop vs a k ∙ ap (slice_get (x ∷ vs)) next

    by : (b : Bool) → is_watched style plan ≡ b → doing tree plan p (turns_by style tree plan p s (counter_turns tree plan p (suc n) (drop n (phases tree plan.cut.marks)))) ≡ doing tree plan p (closings s) ++ deeds_by style tree plan p (suc n) s.barriers (drop n (phases tree plan.cut.marks))
    by true watched =
        by_phases style tree plan p worker watched (λ k v barriers at. phase_closes tree plan p k v formed fits limits ranges at barriers) (suc n) (drop n (phases tree plan.cut.marks)) s.place s.barriers s.pending
        (λ k v at. let index : suc n + k - 1 ≡ n + k = omega arith in ap (slice_get (phases tree plan.cut.marks)) index ∙ sym (get_drop (phases tree plan.cut.marks) n k) ∙ at)
    by false none =
        let is = arrives style plan none in
        let off : is_watched Arrive plan ≡ false = ap (λ t. is_watched t plan) (sym is) ∙ none in
        let u = unseen none in
        let vs = drop n (phases tree plan.cut.marks) in
        let ts = counter_turns tree plan p (suc n) vs in
        let s_is : s ≡ unseen_standing s.barriers = λ i. record { place = u.0 i; pending = u.1 i; barriers = s.barriers } in
        let shut : doing tree plan p (closings s) ≡ [] = ap (λ (z : Standing). doing tree plan p (closings z)) s_is in
        ap (λ t. doing tree plan p (turns_by t tree plan p s ts)) is ∙ ap (λ (z : Standing). doing tree plan p (turns_by Arrive tree plan p z ts)) s_is ∙ plainly tree plan p s.barriers off ts ∙ turns_do tree plan p (suc n) vs
        ∙ sym (plain_deeds tree plan p (suc n) s.barriers vs (λ place. none_at tree plan place (unwatched_none Arrive plan off))) ∙ ap (λ t. deeds_by t tree plan p (suc n) s.barriers vs) (sym is)
        ∙ ap (λ l. l ++ deeds_by style tree plan p (suc n) s.barriers vs) (sym shut)

-- ---- all turns

pub turns_act : (style : Style) (tree : Tree) (plan : Plan) (p : ℕ) → IsWellFormed tree → IsWithinLimits tree → IsFit tree plan → IsInRange tree → p < plan.workers →
    doing tree plan p (turns_by style tree plan p first_standing (counter_turns tree plan p 1 (phases tree plan.cut.marks))) ≡ map (deed_of (machine_by style tree plan)) (acts_of (machine_by style tree plan) p)
turns_act style tree plan p formed limits fits ranges worker = turns_behind_act style tree plan p formed limits fits ranges worker 0 first_standing (λ none. (refl, refl)) ∙ sym (acts_do style tree plan p formed fits worker)
