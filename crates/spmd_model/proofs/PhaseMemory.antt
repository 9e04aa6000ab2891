-- Memory with own cells along a phase and its closings: behind it the shared cells are those of the program, and no processor has anything left of a sum scalar.
use Rattle.std.proofs.Common.{◌≡◌, ◌≢◌, ◌==◌, ℕ, zero, suc, ◌+◌, ◌*◌, ◌<◌, ◌≤◌, ℤ, pos, Bool, true, false, true≢false, ◌&&◌, ◌||◌, List, [], ◌∷◌, fold, map, Option, Some, None, refl, ap, sym, ◌∙◌, inl, inr, arith, option_map}
use Rattle.std.specs.Prelude.{Contains}
use Rattle.std.specs.List.{AllByRecursion}
use Rattle.std.proofs.lemmas.Bool.{cases_eq, eq-eqb}
use Rattle.list_lemmas.proofs.Tests.{or_left_false}
use Rattle.nest_tree.specs.Layout.{cell_count}
use Rattle.nest_tree.specs.Tree.{Tree}
use Rattle.nest_model.specs.Visits.{Visit}
use Rattle.sync_plan.specs.declared.plan.Plan.{Plan}
use Rattle.sync_plan.specs.Own.{at_slot, is_cell_of, own_cell, own_loop, own_of}
use Rattle.spmd_model.specs.Cells.{changed}
use Rattle.spmd_model.specs.Closings.{sets_to_zero}
use Rattle.spmd_model.specs.Lawful.{stores_to}
use Rattle.spmd_model.specs.OwnPhases.{Come, behind_job, behind_store, own_job, put}
use Rattle.spmd_model.specs.Timelines.{Job}
use Rattle.spmd_model.specs.Trips.{last_behind}
use Rattle.spmd_model.proofs.OwnClosings.{assigned_more, own_apart}
use Rattle.spmd_model.proofs.OwnPhases.{put_here, put_other, sum_none}
use Rattle.spmd_model.proofs.OwnRuns.{AreGoodJobs, IsGoodJob, no_store, to_shared, to_private, to_sum, assigned_behind}
use Rattle.spmd_model.proofs.OwnTexts.{AreOwnIn, Slots, private_slot, sum_slot, not_both, slots}

-- no processor has anything in its own cells of sum scalars
abbrev pub IsIdle : Tree → (ℕ → ℤ) → Type 0
IsIdle tree f = (p k : ℕ) → 16 ≤ k → k < 32 → f (cell_count tree + (32 * p + k)) ≡ pos 0

module _ (tree : Tree) (plan : Plan) (v : Visit) (o : AreOwnIn tree plan v) where
  -- places of sum scalars are those from 16 on
  sum_place : (c k : ℕ) → (own_of tree plan v.place).slot c ≡ Some k → 16 ≤ k → (own_of tree plan v.place).is_sum c ≡ true
  sum_place c k at le = by (slots tree plan v o c k at)
    where
      by : Slots tree plan v o c k → is_cell_of tree (own_loop tree plan v.place).sums c ≡ true
      by (private_slot lt is at') = absurd (omega (arith, lt, le))
      by (sum_slot n same lt is at') = is

  private_place : (c k : ℕ) → (own_of tree plan v.place).slot c ≡ Some k → (own_of tree plan v.place).is_sum c ≡ false → k < 16
  private_place c k at none = by (slots tree plan v o c k at)
    where
      by : Slots tree plan v o c k → k < 16
      by (private_slot lt is at') = lt
      by (sum_slot n same lt is at') = absurd (true≢false (sym is ∙ none))

  sum_high : (c k : ℕ) → (own_of tree plan v.place).slot c ≡ Some k → (own_of tree plan v.place).is_sum c ≡ true → (16 ≤ k) × (k < 32)
  sum_high c k at sum = by (slots tree plan v o c k at)
    where
      by : Slots tree plan v o c k → (16 ≤ k) × (k < 32)
      by (private_slot lt is at') = absurd (not_both tree plan v o c is sum)
      by (sum_slot n same lt is at') = (omega (arith, same), omega (arith, same, lt))

  -- ---- in front of a phase

  pub at_first : (m f : ℕ → ℤ) → ((c : ℕ) → c < cell_count tree → f c ≡ m c) → IsIdle tree f → Come (own_of tree plan v.place) m f (λ c. None) (λ c p. false)
  at_first m f shared idle = record {
    plain = λ c lt none. shared c lt;
    kept = λ c k p slot sum last. nothing p last;
    summed = λ c k slot sum. sym (shared c ((own_apart tree plan v o).there c k slot)) ∙ sym (sum_none (own_of tree plan v.place) f k (λ p. false) (f c) plan.workers (λ p lt. refl));
    empty = λ c k p slot sum none. let high = sum_high c k slot sum in idle p k high.0 high.1;
  }
    where
      nothing : {X : Type 0} (p : ℕ) → None ≡ Some p → X
      nothing p e = absurd (cc)

  -- ---- own cells of sum scalars along its instances

  -- only who has assigned a sum scalar has something in its own cell of it
  abbrev pub IsIdleBut : (ℕ → ℤ) → (ℕ → ℕ → Bool) → Type 0
  IsIdleBut f assigned = (p k : ℕ) → 16 ≤ k → k < 32 → ((c : ℕ) → (own_of tree plan v.place).slot c ≡ Some k → assigned c p ≡ false) → f (cell_count tree + (32 * p + k)) ≡ pos 0

  less_assigned : (assigned : ℕ → ℕ → Bool) (j : Job) (p k : ℕ) → 16 ≤ k → ((c : ℕ) → (own_of tree plan v.place).slot c ≡ Some k → assigned_behind (own_of tree plan v.place) assigned j c p ≡ false) → (c : ℕ) → (own_of tree plan v.place).slot c ≡ Some k → assigned c p ≡ false
  less_assigned assigned j p k le none c slot = or_left_false (assigned c p) _ (sym (assigned_more (own_of tree plan v.place) c k slot (sum_place c k slot le) assigned j.store j.owner p) ∙ none c slot)

  -- another cell is stored
  stored_elsewhere : (f : ℕ → ℤ) (assigned : ℕ → ℕ → Bool) (j : Job) (c d : ℕ) → j.store ≡ Some c → own_cell (own_of tree plan v.place) j.owner c ≡ d → IsIdleBut f assigned → (p k : ℕ) → 16 ≤ k → k < 32 → d ≢ cell_count tree + (32 * p + k) →
      ((e : ℕ) → (own_of tree plan v.place).slot e ≡ Some k → assigned_behind (own_of tree plan v.place) assigned j e p ≡ false) → behind_job f (own_job (own_of tree plan v.place) j) (cell_count tree + (32 * p + k)) ≡ pos 0
  stored_elsewhere f assigned j c d store at idle p k le lt ne none =
      let o' = own_of tree plan v.place in
      let value = j.assigned (map f (map (own_cell o' j.owner) j.loads)) in
      ap (λ s. behind_store f (option_map (own_cell o' j.owner) s) j.adds value (cell_count tree + (32 * p + k))) store
      ∙ ap (λ x. behind_store f (Some x) j.adds value (cell_count tree + (32 * p + k))) at
      ∙ put_other f d (cell_count tree + (32 * p + k)) _ ne
      ∙ idle p k le lt (less_assigned assigned j p k le none)

  idle_behind : (f : ℕ → ℤ) (last : ℕ → Option ℕ) (assigned : ℕ → ℕ → Bool) (j : Job) → IsIdleBut f assigned → IsGoodJob (own_of tree plan v.place) last j → IsIdleBut (behind_job f (own_job (own_of tree plan v.place) j)) (assigned_behind (own_of tree plan v.place) assigned j)
  idle_behind f last assigned j idle (no_store good store) p k le lt none =
      ap (λ s. behind_store f (option_map (own_cell (own_of tree plan v.place) j.owner) s) j.adds (j.assigned (map f (map (own_cell (own_of tree plan v.place) j.owner) j.loads))) (cell_count tree + (32 * p + k))) store
      ∙ idle p k le lt (less_assigned assigned j p k le none)
  idle_behind f last assigned j idle (to_shared good c store inside free) p k le lt none =
      stored_elsewhere f assigned j c c store (ap (at_slot (own_of tree plan v.place) j.owner c) free) idle p k le lt (λ e. omega (arith, e, inside)) none
  idle_behind f last assigned j idle (to_private good c n store inside slot private) p k le lt none =
      let low = private_place c n slot private in
      stored_elsewhere f assigned j c (cell_count tree + (32 * j.owner + n)) store (ap (at_slot (own_of tree plan v.place) j.owner c) slot) idle p k le lt (λ e. omega (arith, e, low, le, lt)) none
  idle_behind f last assigned j idle (to_sum c n s good) p k le lt none = elim (cases_eq (cell_count tree + (32 * j.owner + n)) (cell_count tree + (32 * p + k))) [
    | inl same ↦
        let high = sum_high c n s.slot s.sum in
        let owner : j.owner ≡ p = omega (arith, same, high.1, lt) in
        let place : n ≡ k = omega (arith, same, owner) in
        let o' = own_of tree plan v.place in
        let is_assigned : assigned_behind o' assigned j c p ≡ true = assigned_more o' c n s.slot s.sum assigned j.store j.owner p ∙ ap (λ q. assigned c p || (q == p && stores_to j.store c)) owner ∙ ap (λ x. assigned c p || (p == p && stores_to x c)) s.store ∙ own_true (assigned c p) p c in
        absurd (true≢false (sym is_assigned ∙ none c (s.slot ∙ ap Some place)))
    | inr ne ↦ stored_elsewhere f assigned j c (cell_count tree + (32 * j.owner + n)) s.store (ap (at_slot (own_of tree plan v.place) j.owner c) s.slot) idle p k le lt ne none
  ]
    where
      own_true : (a : Bool) (p c : ℕ) → (a || (p == p && c == c)) ≡ true
      own_true true p c = refl
      own_true false p c = ap (λ b. b && c == c) (eq-eqb p p refl) ∙ eq-eqb c c refl

  pub idle_along : (f : ℕ → ℤ) (last : ℕ → Option ℕ) (assigned : ℕ → ℕ → Bool) (js : List Job) → IsIdleBut f assigned → AreGoodJobs (own_of tree plan v.place) last js →
      IsIdleBut (fold (λ g j. behind_job g (own_job (own_of tree plan v.place) j)) f js) (fold (assigned_behind (own_of tree plan v.place)) assigned js)
  idle_along f last assigned [] idle good = idle
  idle_along f last assigned (j ∷ js) idle good =
      idle_along (behind_job f (own_job (own_of tree plan v.place) j)) (last_behind (own_of tree plan v.place) last j) (assigned_behind (own_of tree plan v.place) assigned j) js (idle_behind f last assigned j idle good.0) good.3

-- ---- along closings

-- a closing changes a cell below so many, or sets one to 0
pub data IsClosing (shared : ℕ) (j : Job) : Type 0 where
  changes_shared : (c : ℕ) → j.store ≡ Some c → c < shared → IsClosing shared j
  sets : (c : ℕ) → j.store ≡ Some c → j.adds ≡ false → ((given : List ℤ) → j.assigned given ≡ pos 0) → IsClosing shared j

one_zero : (shared : ℕ) (f : ℕ → ℤ) (j : Job) (x : ℕ) → IsClosing shared j → shared ≤ x → f x ≡ pos 0 → behind_job f j x ≡ pos 0
one_zero shared f j x (changes_shared c store lt) le is = ap (λ s. behind_store f s j.adds (j.assigned (map f j.loads)) x) store ∙ put_other f c x _ (λ e. omega (arith, e, lt, le)) ∙ is
one_zero shared f j x (sets c store plain value) le is =
    ap (λ s. behind_store f s j.adds (j.assigned (map f j.loads)) x) store ∙ ap (λ b. put f c (changed b (f c) (j.assigned (map f j.loads))) x) plain ∙ ap (λ w. put f c w x) (value (map f j.loads))
    ∙ (elim (cases_eq c x) [
      | inl same ↦ ap (put f c (pos 0)) (sym same) ∙ put_here f c (pos 0)
      | inr ne ↦ put_other f c x (pos 0) ne ∙ is
    ])

pub zero_stays : (shared : ℕ) (f : ℕ → ℤ) (js : List Job) (x : ℕ) → AllByRecursion (IsClosing shared) js → shared ≤ x → f x ≡ pos 0 → fold behind_job f js x ≡ pos 0
zero_stays shared f [] x all le is = is
zero_stays shared f (j ∷ js) x all le is = zero_stays shared (behind_job f j) js x all.1 le (one_zero shared f j x all.0 le is)

-- one that is set to 0 by one of them is 0 behind them
pub zero_set : (shared : ℕ) (f : ℕ → ℤ) (js : List Job) (x p : ℕ) → AllByRecursion (IsClosing shared) js → shared ≤ x → Contains js (sets_to_zero p x) → fold behind_job f js x ≡ pos 0
zero_set shared f [] x p all le (k, lt, e) = absurd (omega (arith, lt))
zero_set shared f (j ∷ js) x p all le (zero, lt, e) = zero_stays shared (behind_job f j) js x all.1 le (ap (λ i. behind_job f i x) e ∙ put_here f x (pos 0))
zero_set shared f (j ∷ js) x p all le (suc k, lt, e) = zero_set shared (behind_job f j) js x p all.1 le (k, omega (arith, lt), e)
