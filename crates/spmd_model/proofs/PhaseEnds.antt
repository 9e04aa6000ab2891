-- Behind the closings of a phase.
use Rattle.std.proofs.Common.{◌≡◌, ◌==◌, ℕ, zero, suc, ◌+◌, ◌*◌, ◌<◌, ◌≤◌, ◌⊎◌, ℤ, pos, Bool, true, false, ◌&&◌, List, [], ◌∷◌, ◌++◌, fold, length, map, Option, Some, None, refl, ap, sym, subst, ◌∙◌, inl, inr, arith}
use Rattle.std.specs.Prelude.{Contains, slice_get}
use Rattle.std.specs.List.{AllByRecursion, flat_map, list_any, range_with_len}
use Rattle.std.proofs.lemmas.Bool.{and_parts, cases_Bool, cases_eq, eqb-true}
use Rattle.std.proofs.lemmas.List.Elements.{Contains-append_cases, Contains-append_right}
use Rattle.std.proofs.lemmas.List.Sums.{fold-append}
use Rattle.list_lemmas.proofs.Elements.{Contains-flat_map, Contains-flat_map_cases}
use Rattle.list_lemmas.proofs.Ranges.{range_there}
use Rattle.nest_tree.specs.Layout.{cell_count, first_cell}
use Rattle.nest_tree.specs.Tree.{Statement, do_loop, work, continue, Tree, param_values}
use Rattle.nest_tree.specs.WellFormed.{IsWellFormed}
use Rattle.nest_model.specs.Accesses.{store_of}
use Rattle.nest_model.specs.Instances.{Instance, head_trips, instances_in, instances_of, with_loop}
use Rattle.nest_model.specs.Ranges.{IsInRange}
use Rattle.nest_model.specs.Visits.{Visit}
use Rattle.owner_partition.specs.Phases.{visit_instances, phases}
use Rattle.owner_partition.proofs.Sites.{all_at}
use Rattle.sync_plan.specs.declared.plan.Plan.{Plan}
use Rattle.sync_plan.specs.Conflicts.{last_value}
use Rattle.sync_plan.specs.Fit.{IsFit}
use Rattle.sync_plan.specs.Stored.{AreStoredFirst}
use Rattle.sync_plan.specs.Own.{Own, OwnLoop, at_slot, is_cell_of, own_cell, own_loop, own_loop_of, own_of}
use Rattle.spmd_model.specs.Closings.{closings_of, has_stored, keeping, keeping_of, last_owner, phase_owner, sets_to_zero, total_of, totalling, totalling_of}
use Rattle.spmd_model.specs.Lawful.{stores_to}
use Rattle.spmd_model.specs.OwnPhases.{Come, behind_job, own_job, put}
use Rattle.spmd_model.specs.Timelines.{Job}
use Rattle.spmd_model.specs.Trips.{last_behind}
use Rattle.spmd_model.proofs.OwnClosings.{AreDistinct, IsKept, IsSummed, assigned_by, keep_all, own_apart, sum_all, wiped, wiped_there}
use Rattle.spmd_model.proofs.InstanceJobs.{all_by}
use Rattle.spmd_model.proofs.OwnPhases.{put_other}
use Rattle.spmd_model.proofs.OwnRuns.{along, assigned_behind}
use Rattle.spmd_model.proofs.OwnTexts.{AreOwnIn, Ascends, IsScalar, Slots, private_slot, sum_slot, cell_there, not_both, one_scalar, own_in_phase, private_is, slots, some_scalar, sum_is}
use Rattle.spmd_model.proofs.LastOwners.{last_by, no_last}
use Rattle.spmd_model.proofs.LastStores.{last_among, split_at}
use Rattle.spmd_model.proofs.PhaseJobs.{first_stores, all_fine, last_kept, phase_good}
use Rattle.spmd_model.proofs.PhaseMemory.{IsClosing, changes_shared, sets, IsIdle, at_first, idle_along, zero_set, zero_stays}
use Rattle.spmd_model.proofs.Stands.{any_there, in_map, scalar_below, slot_there}
use Rattle.spmd_model.proofs.TripJobs.{IsFineIn, job_in_phase}

-- ---- lists of scalars by their cells

above_all : (a w : ℕ) (vs : List ℕ) → Ascends a vs → Contains vs w → a ≤ w
above_all a w [] rises (k, lt, e) = absurd (omega (arith, lt))
above_all a w (v ∷ vs) rises (zero, lt, e) = omega (arith, rises.0, e)
above_all a w (v ∷ vs) rises (suc k, lt, e) = let later = above_all (suc v) w vs rises.1 (k, omega (arith, lt), e) in omega (arith, rises.0, later)

distinct_cells : (tree : Tree) (a : ℕ) (us : List ℕ) → Ascends a us → ((u : ℕ) → Contains us u → IsScalar tree u) → AreDistinct (map (first_cell tree) us)
distinct_cells tree a [] rises scalars = tt
distinct_cells tree a (u ∷ us) rises scalars = (
  λ d among same.
      let w = in_map (first_cell tree) us d among in
      let equal = one_scalar tree u w.0 (scalars u (0, omega arith, refl)) (scalars w.0 (suc w.1.0, omega (arith, w.1.1), w.1.2)) (same ∙ w.2) in
      let above = above_all (suc u) w.0 us rises.1 w.1 in
      omega (arith, equal, above),
  distinct_cells tree (suc u) us rises.1 (λ w among. scalars w (suc among.0, omega (arith, among.1), among.2)),
)

flat_map-map : {X Y Z : Type 0} (g : Y → List Z) (h : X → Y) (xs : List X) → flat_map (λ x. g (h x)) xs ≡ flat_map g (map h xs)
flat_map-map g h [] = refl
flat_map-map g h (x ∷ xs) = ap (λ l. g (h x) ++ l) (flat_map-map g h xs)

in_cells : (tree : Tree) (us : List ℕ) (u : ℕ) → Contains us u → Contains (map (first_cell tree) us) (first_cell tree u)
in_cells tree [] u (k, lt, e) = absurd (omega (arith, lt))
in_cells tree (v ∷ us) u (zero, lt, e) = (0, omega arith, ap (first_cell tree) e)
in_cells tree (v ∷ us) u (suc k, lt, e) = let r = in_cells tree us u (k, omega (arith, lt), e) in (suc r.0, omega (arith, r.1), r.2)

kept_place : (s : ℕ → Option ℕ) (cs : List ℕ) (c : ℕ) → (Contains cs c → ⊥) → wiped s cs c ≡ s c
kept_place s [] c none = refl
kept_place s (d ∷ cs) c none = kept_place (put s d None) cs c (λ among. none (suc among.0, omega (arith, among.1), among.2)) ∙ put_other s d c None (λ same. none (0, omega arith, same))

-- what follows for all of some scalars, or for one
pub some_or_none : (us : List ℕ) (Q : ℕ → Type 0) (R : ℕ → Type 0) → ((u : ℕ) → Q u ⊎ R u) → ((u : ℕ) × Contains us u × Q u) ⊎ ((u : ℕ) → Contains us u → R u)
some_or_none [] Q R decide = inr (λ u among. absurd (omega (arith, among.1)))
some_or_none (v ∷ us) Q R decide = elim (decide v) [
  | inl is ↦ inl (v, (0, omega arith, refl), is)
  | inr not_it ↦ elim (some_or_none us Q R decide) [
    | inl found ↦ inl (found.0, (suc found.1.0, omega (arith, found.1.1), found.1.2), found.2)
    | inr none ↦ inr (λ u among. each not_it none u among)
  ]
]
  where
    each : R v → ((u : ℕ) → Contains us u → R u) → (u : ℕ) → Contains (v ∷ us) u → R u
    each here later u (zero, lt, e) = subst R e here
    each here later u (suc k, lt, e) = later u (k, omega (arith, lt), e)

none_of_all : {X Y : Type 0} (g : X → List Y) (xs : List X) → ((x : X) → g x ≡ []) → flat_map g xs ≡ []
none_of_all g [] h = refl
none_of_all g (x ∷ xs) h = ap (λ l. l ++ flat_map g xs) (h x) ∙ none_of_all g xs h

module _ (tree : Tree) (plan : Plan) (k : ℕ) (v : Visit) (formed : IsWellFormed tree) (fits : IsFit tree plan) (ranges : IsInRange tree) (at : slice_get (phases tree plan.cut.marks) k ≡ Some v)
    (stored : AreStoredFirst tree plan) (m f : ℕ → ℤ) (shared : (c : ℕ) → c < cell_count tree → f c ≡ m c) (idle : IsIdle tree f) where
  abbrev o : AreOwnIn tree plan v
  o = own_in_phase tree plan k v formed fits at

  abbrev own : Own
  own = own_of tree plan v.place

  abbrev pub plain_jobs : List Job
  plain_jobs = map (job_in_phase tree plan (1 + k) v formed o) (visit_instances (param_values tree) v)

  -- memory behind the instances, and memory with own cells
  abbrev pub behind_plain : ℕ → ℤ
  behind_plain = fold behind_job m plain_jobs

  abbrev pub behind_own : ℕ → ℤ
  behind_own = fold (λ g j. behind_job g (own_job own j)) f plain_jobs

  abbrev last : ℕ → Option ℕ
  last = fold (last_behind own) (λ c. None) plain_jobs

  abbrev assigned : ℕ → ℕ → Bool
  assigned = fold (assigned_behind own) (λ c p. false) plain_jobs

  come : Come own behind_plain behind_own last assigned
  come = along own (own_apart tree plan v o) m f (λ c. None) (λ c p. false) plain_jobs (at_first tree plan v o m f shared idle) (phase_good tree plan k v formed fits ranges at stored (λ c. None))

  assigned_is : (c n p : ℕ) → own.slot c ≡ Some n → own.is_sum c ≡ true → assigned c p ≡ has_stored tree plan v c p
  assigned_is c n p slot sum =
      assigned_by own c n slot sum (job_in_phase tree plan (1 + k) v formed o) (λ i. phase_owner tree plan v i.loops) (store_of tree) (λ i. refl) (λ i. refl) (λ c p. false) (visit_instances (param_values tree) v) p

  abbrev private_cells : List ℕ
  private_cells = map (first_cell tree) (own_loop tree plan v.place).privates

  abbrev sum_cells : List ℕ
  sum_cells = map (first_cell tree) (own_loop tree plan v.place).sums

  abbrev totals : List Job
  totals = flat_map (λ c. flat_map (λ p. totalling own c p (has_stored tree plan v c p)) (range_with_len 0 plan.workers)) sum_cells

  private_cell : (c : ℕ) → Contains private_cells c → is_cell_of tree (own_loop tree plan v.place).privates c ≡ true
  private_cell c among = let u = in_map (first_cell tree) (own_loop tree plan v.place).privates c among in ap (is_cell_of tree (own_loop tree plan v.place).privates) u.2 ∙ cell_there tree (own_loop tree plan v.place).privates u.0 u.1

  sum_cell : (c : ℕ) → Contains sum_cells c → is_cell_of tree (own_loop tree plan v.place).sums c ≡ true
  sum_cell c among = let u = in_map (first_cell tree) (own_loop tree plan v.place).sums c among in ap (is_cell_of tree (own_loop tree plan v.place).sums) u.2 ∙ cell_there tree (own_loop tree plan v.place).sums u.0 u.1

  -- no cell is left with a place of its own
  none_left : (c : ℕ) → wiped (wiped own.slot private_cells) sum_cells c ≡ None
  none_left c = by (wiped (wiped own.slot private_cells) sum_cells c) refl
    where
      by : (w : Option ℕ) → wiped (wiped own.slot private_cells) sum_cells c ≡ w → wiped (wiped own.slot private_cells) sum_cells c ≡ None
      by None is = is
      by (Some n) is =
          let a = wiped_there (wiped own.slot private_cells) sum_cells c n is in
          let b = wiped_there own.slot private_cells c n a.0 in
          absurd (sort b.1 a.1 (slots tree plan v o c n b.0))
        where
          back : (us : List ℕ) → is_cell_of tree us c ≡ true → Contains (map (first_cell tree) us) c
          back us is = let u = some_scalar tree us c is in subst (Contains (map (first_cell tree) us)) u.2 (in_cells tree us u.0 u.1)

          sort : (Contains private_cells c → ⊥) → (Contains sum_cells c → ⊥) → Slots tree plan v o c n → ⊥
          sort no_private no_sum (private_slot lt is at') = no_private (back (own_loop tree plan v.place).privates is)
          sort no_private no_sum (sum_slot l same lt is at') = no_sum (back (own_loop tree plan v.place).sums is)

  closed : (q : ℕ) → ((c : ℕ) → Contains private_cells c → IsKept own own.slot last q c) → (c : ℕ) → c < cell_count tree → fold behind_job behind_own (flat_map (λ d. keeping own d (Some q)) private_cells ++ totals) c ≡ behind_plain c
  closed q kept c lt =
      let keeps = flat_map (λ d. keeping own d (Some q)) private_cells in
      let text = o in
      let rise_p = subst (λ (l : OwnLoop). Ascends 0 l.privates) (sym text.loop_is) text.own.privates_rise in
      let rise_s = subst (λ (l : OwnLoop). Ascends 0 l.sums) (sym text.loop_is) text.own.sums_rise in
      let first = keep_all own behind_plain last q private_cells own.slot behind_own assigned (own_apart tree plan v o) come (distinct_cells tree 0 (own_loop tree plan v.place).privates rise_p (λ u among. (private_is tree plan v o u among).1)) kept in
      let second = sum_all own behind_plain last (has_stored tree plan v) sum_cells (wiped own.slot private_cells) (fold behind_job behind_own keeps) assigned first.0 first.1
      (distinct_cells tree 0 (own_loop tree plan v.place).sums rise_s (λ u among. (sum_is tree plan v o u among).1)) summed in
      ap (λ g. g c) (fold-append behind_job behind_own keeps totals) ∙ second.1.plain c lt (none_left c)
    where
      summed : (d : ℕ) → Contains sum_cells d → IsSummed own (wiped own.slot private_cells) assigned (has_stored tree plan v) d
      summed d among =
          let is = sum_cell d among in
          let s = slot_there tree plan v o d (inr is) in
          record {
            place = s.0;
            slot = kept_place own.slot private_cells d (λ private. not_both tree plan v o d (private_cell d private) is) ∙ s.1;
            own = s.1;
            sum = is;
            assigned_is = λ p less. assigned_is d s.0 p s.1 is;
          }

  totals_are : flat_map (totalling_of tree plan v) (own_loop tree plan v.place).sums ≡ totals
  totals_are = flat_map-map (λ c. flat_map (λ p. totalling own c p (has_stored tree plan v c p)) (range_with_len 0 plan.workers)) (first_cell tree) (own_loop tree plan v.place).sums

  pub shared_behind : (c : ℕ) → c < cell_count tree → fold behind_job behind_own (closings_of tree plan v) c ≡ behind_plain c
  shared_behind c lt = by v.what refl
    where
      without_private : (own_loop tree plan v.place).privates ≡ [] → fold behind_job behind_own (closings_of tree plan v) c ≡ behind_plain c
      without_private none =
          let same : closings_of tree plan v ≡ flat_map (λ d. keeping own d (Some 0)) private_cells ++ totals =
          ap (λ l. flat_map (keeping_of tree plan v) l ++ flat_map (totalling_of tree plan v) (own_loop tree plan v.place).sums) none ∙ totals_are
          ∙ sym (ap (λ l. flat_map (λ d. keeping own d (Some 0)) (map (first_cell tree) l) ++ totals) none) in
          ap (λ l. fold behind_job behind_own l c) same ∙ closed 0 (λ d among. absurd (nobody d (subst (λ l. Contains (map (first_cell tree) l) d) none among))) c lt
        where
          nobody : (d : ℕ) → Contains {X = ℕ} [] d → ⊥
          nobody d (n, less, e) = omega (arith, less)

      by : (s : Statement) → v.what ≡ s → fold behind_job behind_own (closings_of tree plan v) c ≡ behind_plain c
      by (work w) what = without_private (ap (λ (l : OwnLoop). l.privates) ((own_in_phase tree plan k v formed fits at).loop_is ∙ ap (own_loop_of plan.cut) what))
      by (continue line) what = without_private (ap (λ (l : OwnLoop). l.privates) ((own_in_phase tree plan k v formed fits at).loop_is ∙ ap (own_loop_of plan.cut) what))
      by (do_loop head body) what = by_value (last_value (head_trips (param_values tree) head v.loops)) refl
        where
          no_trips : (xs : List ℤ) → last_value xs ≡ None → xs ≡ []
          no_trips [] e = refl
          no_trips (x ∷ xs) e = absurd (cc)

          by_value : (w : Option ℤ) → last_value (head_trips (param_values tree) head v.loops) ≡ w → fold behind_job behind_own (closings_of tree plan v) c ≡ behind_plain c
          by_value None is =
              let empty : visit_instances (param_values tree) v ≡ [] =
              ap (λ (s : Statement). instances_of (param_values tree) s v.first v.loops) what ∙ ap (flat_map (λ x. instances_in (param_values tree) body v.first (with_loop v.loops head.number x))) (no_trips (head_trips (param_values tree) head v.loops) is) in
              let kept_none = none_of_all (keeping_of tree plan v) (own_loop tree plan v.place).privates (λ s. ap (keeping own (first_cell tree s)) (no_last tree plan v head body what is)) in
              let has_none : (d p : ℕ) → has_stored tree plan v d p ≡ false = λ d p. ap (list_any (λ (i : Instance). phase_owner tree plan v i.loops == p && stores_to (store_of tree i) d)) empty in
              let sums_none = none_of_all (totalling_of tree plan v) (own_loop tree plan v.place).sums (λ s. none_of_all (total_of tree plan v s) (range_with_len 0 plan.workers) (λ p. ap (totalling own (first_cell tree s) p) (has_none (first_cell tree s) p))) in
              let no_closings : closings_of tree plan v ≡ [] = ap (λ l. l ++ flat_map (totalling_of tree plan v) (own_loop tree plan v.place).sums) kept_none ∙ sums_none in
              let job = job_in_phase tree plan (1 + k) v formed o in
              ap (λ l. fold behind_job behind_own l c) no_closings ∙ ap (λ l. fold (λ g j. behind_job g (own_job own j)) f (map job l) c) empty ∙ shared c lt ∙ sym (ap (λ l. fold behind_job m (map job l) c) empty)
          by_value (Some value) is = by_privates (own_loop tree plan v.place).privates refl
            where
              kept : (q d : ℕ) → (u : ℕ) × Contains (own_loop tree plan v.place).privates u × (d ≡ first_cell tree u) → ((u : ℕ) → Contains (own_loop tree plan v.place).privates u → last (first_cell tree u) ≡ Some q) → IsKept own own.slot last q d
              kept q d (u, there, same) stored =
                  let cell = ap (is_cell_of tree (own_loop tree plan v.place).privates) same ∙ cell_there tree (own_loop tree plan v.place).privates u there in
                  let s = slot_there tree plan v o d (inl cell) in
                  record { place = s.0; slot = s.1; own = s.1; private = no_sum cell (is_cell_of tree (own_loop tree plan v.place).sums d) refl; last_is = ap last same ∙ stored u there }
                where
                  no_sum : is_cell_of tree (own_loop tree plan v.place).privates d ≡ true → (b : Bool) → is_cell_of tree (own_loop tree plan v.place).sums d ≡ b → is_cell_of tree (own_loop tree plan v.place).sums d ≡ false
                  no_sum cell false e = e
                  no_sum cell true e = absurd (not_both tree plan v o d cell e)

              -- a private scalar is stored in the last trip
              owner_is : (u : ℕ) → Contains (own_loop tree plan v.place).privates u → last_owner tree plan v ≡ Some (phase_owner tree plan v (with_loop v.loops head.number value))
              owner_is u there =
                  let f = first_stores tree plan k v formed fits ranges at stored head body what value (last_among (head_trips (param_values tree) head v.loops) value is) u there in
                  last_by tree plan v head body what value (length f.1.before) f.1.store is (split_at f.1.before f.1.store f.1.after (instances_in (param_values tree) body v.first (with_loop v.loops head.number value)) f.1.split)

              with_private : last_owner tree plan v ≡ Some (phase_owner tree plan v (with_loop v.loops head.number value)) → fold behind_job behind_own (closings_of tree plan v) c ≡ behind_plain c
              with_private last_is =
                  let q = phase_owner tree plan v (with_loop v.loops head.number value) in
                  let same : closings_of tree plan v ≡ flat_map (λ d. keeping own d (Some q)) private_cells ++ totals =
                  ap (λ w. flat_map (λ s. keeping own (first_cell tree s) w) (own_loop tree plan v.place).privates ++ flat_map (totalling_of tree plan v) (own_loop tree plan v.place).sums) last_is
                  ∙ ap (λ l. l ++ flat_map (totalling_of tree plan v) (own_loop tree plan v.place).sums) (flat_map-map (λ d. keeping own d (Some q)) (first_cell tree) (own_loop tree plan v.place).privates)
                  ∙ ap (λ l. flat_map (λ d. keeping own d (Some q)) private_cells ++ l) totals_are in
                  ap (λ l. fold behind_job behind_own l c) same ∙ closed q (λ d among. kept q d (in_map (first_cell tree) (own_loop tree plan v.place).privates d among) (λ u there. last_kept tree plan k v formed fits ranges at stored head body what (λ e. None) value u there is)) c lt

              by_privates : (us : List ℕ) → (own_loop tree plan v.place).privates ≡ us → fold behind_job behind_own (closings_of tree plan v) c ≡ behind_plain c
              by_privates [] privates = without_private privates
              by_privates (u ∷ us) privates = with_private (owner_is u (subst (λ l. Contains l u) (sym privates) (0, omega arith, refl)))

  -- ---- own cells of sum scalars

  is_closing : (j : Job) → Contains (closings_of tree plan v) j → IsClosing (cell_count tree) j
  is_closing j among = elim (Contains-append_cases (flat_map (keeping_of tree plan v) (own_loop tree plan v.place).privates) (flat_map (totalling_of tree plan v) (own_loop tree plan v.place).sums) j among) [
    | inl kept ↦ let u = Contains-flat_map_cases (keeping_of tree plan v) (own_loop tree plan v.place).privates j kept in keeps (first_cell tree u.0) (scalar_below tree u.0 (private_is tree plan v o u.0 u.1).1) (last_owner tree plan v) u.2
    | inr summed ↦
        let u = Contains-flat_map_cases (totalling_of tree plan v) (own_loop tree plan v.place).sums j summed in
        let p = Contains-flat_map_cases (total_of tree plan v u.0) (range_with_len 0 plan.workers) j u.2 in
        adds (first_cell tree u.0) p.0 (scalar_below tree u.0 (sum_is tree plan v o u.0 u.1).1) (has_stored tree plan v (first_cell tree u.0) p.0) p.2
  ]
    where
      keeps : (c : ℕ) → c < cell_count tree → (w : Option ℕ) → Contains (keeping own c w) j → IsClosing (cell_count tree) j
      keeps c lt None (n, less, e) = absurd (omega (arith, less))
      keeps c lt (Some q) (zero, less, e) = subst (IsClosing (cell_count tree)) e (changes_shared c refl lt)
      keeps c lt (Some q) (suc n, less, e) = absurd (omega (arith, less))

      adds : (c p : ℕ) → c < cell_count tree → (b : Bool) → Contains (totalling own c p b) j → IsClosing (cell_count tree) j
      adds c p lt false (n, less, e) = absurd (omega (arith, less))
      adds c p lt true (zero, less, e) = subst (IsClosing (cell_count tree)) e (changes_shared c refl lt)
      adds c p lt true (suc zero, less, e) = subst (IsClosing (cell_count tree)) e (sets (own_cell own p c) refl refl (λ given. refl))
      adds c p lt true (suc (suc n), less, e) = absurd (omega (arith, less))

  pub all_closings : AllByRecursion (IsClosing (cell_count tree)) (closings_of tree plan v)
  all_closings = all_by (IsClosing (cell_count tree)) (closings_of tree plan v) is_closing

  pub idle_behind : IsIdle tree (fold behind_job behind_own (closings_of tree plan v))
  idle_behind p n le lt = elim (some_or_none (own_loop tree plan v.place).sums (λ u. (own.slot (first_cell tree u) ≡ Some n) × (assigned (first_cell tree u) p ≡ true)) (λ u. own.slot (first_cell tree u) ≡ Some n → assigned (first_cell tree u) p ≡ false) decide) [
    | inl found ↦ cleared found.0 found.1 found.2.0 found.2.1
    | inr none ↦ zero_stays (cell_count tree) behind_own (closings_of tree plan v) (cell_count tree + (32 * p + n)) all_closings (omega arith)
        (idle_along tree plan v o f (λ c. None) (λ c p. false) plain_jobs (λ q l le' lt' unassigned. idle q l le' lt') (phase_good tree plan k v formed fits ranges at stored (λ c. None)) p n le lt (λ c slot. unassigned none c slot (slots tree plan v o c n slot)))
  ]
    where
      decide : (u : ℕ) → ((own.slot (first_cell tree u) ≡ Some n) × (assigned (first_cell tree u) p ≡ true)) ⊎ (own.slot (first_cell tree u) ≡ Some n → assigned (first_cell tree u) p ≡ false)
      decide u = by (own.slot (first_cell tree u)) refl
        where
          by : (w : Option ℕ) → own.slot (first_cell tree u) ≡ w → ((own.slot (first_cell tree u) ≡ Some n) × (assigned (first_cell tree u) p ≡ true)) ⊎ (own.slot (first_cell tree u) ≡ Some n → assigned (first_cell tree u) p ≡ false)
          by None is = inr (λ e. let clash : None ≡ Some n = sym is ∙ e in absurd (cc))
          by (Some l) is = elim (cases_Bool (assigned (first_cell tree u) p)) [
            | inr not_it ↦ inr (λ e. not_it)
            | inl it ↦ elim (cases_eq l n) [
              | inl same ↦ inl (is ∙ ap Some same, it)
              | inr ne ↦ inr (λ e. let clash : Some l ≡ Some n = sym is ∙ e in absurd (ne (cc)))
            ]
          ]

      unassigned : ((u : ℕ) → Contains (own_loop tree plan v.place).sums u → own.slot (first_cell tree u) ≡ Some n → assigned (first_cell tree u) p ≡ false) → (c : ℕ) → own.slot c ≡ Some n → Slots tree plan v o c n → assigned c p ≡ false
      unassigned none c slot (private_slot less is at') = absurd (omega (arith, less, le))
      unassigned none c slot (sum_slot l same less is at') = let u = some_scalar tree (own_loop tree plan v.place).sums c is in ap (λ d. assigned d p) (sym u.2) ∙ none u.0 u.1 (ap own.slot u.2 ∙ slot)

      cleared : (u : ℕ) → Contains (own_loop tree plan v.place).sums u → own.slot (first_cell tree u) ≡ Some n → assigned (first_cell tree u) p ≡ true → fold behind_job behind_own (closings_of tree plan v) (cell_count tree + (32 * p + n)) ≡ pos 0
      cleared u among slot is =
          let c = first_cell tree u in
          let has : has_stored tree plan v c p ≡ true = sym (assigned_is c n p slot (cell_there tree (own_loop tree plan v.place).sums u among)) ∙ is in
          let some = any_there (λ (i : Instance). phase_owner tree plan v i.loops == p && stores_to (store_of tree i) c) (visit_instances (param_values tree) v) has in
          let owner = eqb-true (phase_owner tree plan v some.1.loops) p (and_parts (phase_owner tree plan v some.1.loops == p) (stores_to (store_of tree some.1) c) some.3).0 in
          let fine = all_at (IsFineIn tree plan v) (visit_instances (param_values tree) v) some.0 some.1 (all_fine tree plan k v formed fits ranges at) some.2 in
          let worker : p < plan.workers = omega (arith, fine.worker, owner) in
          let cell : own_cell own p c ≡ cell_count tree + (32 * p + n) = ap (at_slot own p c) slot in
          let in_total : Contains (total_of tree plan v u p) (sets_to_zero p (cell_count tree + (32 * p + n))) = subst (λ b. Contains (totalling own c p b) (sets_to_zero p (cell_count tree + (32 * p + n)))) (sym has) (1, omega arith, ap (sets_to_zero p) cell) in
          let in_totals = Contains-flat_map (total_of tree plan v u) (range_with_len 0 plan.workers) p (sets_to_zero p (cell_count tree + (32 * p + n))) (range_there 0 plan.workers p (omega arith) (omega (arith, worker))) in_total in
          let in_sums = Contains-flat_map (totalling_of tree plan v) (own_loop tree plan v.place).sums u (sets_to_zero p (cell_count tree + (32 * p + n))) among in_totals in
          zero_set (cell_count tree) behind_own (closings_of tree plan v) (cell_count tree + (32 * p + n)) p all_closings (omega arith) (Contains-append_right (flat_map (keeping_of tree plan v) (own_loop tree plan v.place).privates) (flat_map (totalling_of tree plan v) (own_loop tree plan v.place).sums) (sets_to_zero p (cell_count tree + (32 * p + n))) in_sums)
