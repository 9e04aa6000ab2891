-- The owners of executions, and the producers in front of phases, hold what stands at their anchors' values.
use Rattle.std.proofs.Common.{◌≡◌, ℕ, ◌+◌, ◌-◌, ◌<◌, ◌≤◌, ◌==◌, ◌||◌, ℤ, pos, ◌+ℤ◌, ◌*ℤ◌, Bool, true, false, Some, None, List, [], ◌∷◌, ◌++◌, append_assoc, length, if◌then◌else◌, ⊎_elim, refl, ap, sym, ◌∙◌, subst, arith}
use Rattle.std.specs.List.{AllByRecursion, list_any, slice_get}
use Rattle.std.proofs.Math.Bool.{or-true}
use Rattle.std.proofs.lemmas.Bool.{and_parts, cases_Bool}
use Rattle.std.proofs.lemmas.List.{get_or-set_other, length-map}
use Rattle.nest_tree.specs.Form.{form_value, numbered}
use Rattle.nest_tree.specs.Intervals.{ends_of, head_interval, with_ends}
use Rattle.nest_tree.specs.Layout.{count_of}
use Rattle.nest_tree.specs.Limits.{no_ends}
use Rattle.nest_tree.specs.Tree.{Constant, Head, Statement, do_loop, work, continue, Tree, param_values}
use Rattle.nest_tree.specs.WellFormed.{IsWellFormed, Scope, names_only, scope_of}
use Rattle.nest_tree.proofs.Good.{good_loop}
use Rattle.nest_model.specs.Visits.{stops_of}
use Rattle.nest_model.proofs.Stops.{good_trips}
use Rattle.nest_model.proofs.Within.{IsInEnds, in_ends-step}
use Rattle.nest_walk.specs.Texts.{placed}
use Rattle.nest_rows.proofs.Dots.{numbers}
use Rattle.nest_rows.proofs.GoodNesting.{AreAmong, form-among}
use Rattle.nest_rows.proofs.Nesting.{all-append, all-weaker, IsBefore}
use Rattle.owner_partition.specs.declared.anchor.Anchor.{Anchor}
use Rattle.owner_partition.specs.declared.anchor.Dist.{Dist}
use Rattle.owner_partition.specs.declared.cut.Mark.{Mark}
use Rattle.owner_partition.specs.Marks.{enters_outer}
use Rattle.owner_partition.specs.Owners.{dealt}
use Rattle.owner_partition.specs.Phases.{phases}
use Rattle.owner_partition.specs.Placement.{ends_among, misplaced, misplaced_at, misplaced_within, phase_ends}
use Rattle.sync_plan.specs.declared.plan.Kind.TheVariants.{Producer}
use Rattle.sync_plan.specs.declared.plan.Plan.{Plan}
use Rattle.sync_plan.specs.Fit.{IsFit, is_dealt}
use Rattle.sync_plan.specs.Shape.{has_places, is_doall, mark_of, own_loops, static_phases}
use Rattle.sync_plan.proofs.FitOwners.{good_each}
use Rattle.sync_plan.proofs.Fits.{fit_parts}
use Rattle.sync_plan.proofs.PhasePlaces.{IsThereFrom, own_ends, visit_there}
use Rattle.comm_system.specs.Meetings.{Holder, Holds}
use Rattle.conflict_rules.specs.References.{phases_of}
use Rattle.comm_laws.proofs.Accesses.{phase_there, station_known, visits_are}
use Rattle.comm_system.proofs.Contexts.{IsInFront}
use Rattle.comm_laws.proofs.Holders.{anchor_placed, form_keeps, kind_placed, placed_holds, placed_keeps, round_of}
use Rattle.comm_system.proofs.Lists.{mapped_get}
use Rattle.comm_system.proofs.Places.{IsPlaced, StartsIn, kept_after}
use Rattle.comm_system.proofs.StationFacts.{Deepens, loops_after}
use Rattle.comm_system.proofs.Stations.{Station, at_trip, stations_in, visit_in}
use Rattle.comm_laws.proofs.Zips.{among_more, good_kind_each, same_among, same_at}
use Rattle.nest_model.specs.Instances.{Instance, no_values}

-- the processor that has what stands at a value, and its round
abbrev pub holder_of : Dist → ℕ → ℤ → Holder
holder_of dist workers w = record { owner = count_of (dealt dist workers w); round = round_of dist workers w }

abbrev pub HoldsAt : Anchor → ℕ → List ℤ → List ℤ → Type 0
HoldsAt a workers loops params = Holds a.dist workers (form_value a.form loops params) (holder_of a.dist workers (form_value a.form loops params))

holds_same : (a : Anchor) (workers : ℕ) (L M params : List ℤ) → form_value a.form L params ≡ form_value a.form M params → HoldsAt a workers L params → HoldsAt a workers M params
holds_same a workers L M params same h = subst (λ w. Holds a.dist workers w (holder_of a.dist workers w)) same h

-- the loops that a phase's anchor may name: those round it, and its own
abbrev pub own_heads : List Head → Statement → List Head
own_heads hs (do_loop head body) = hs ++ head ∷ []
own_heads hs (work w) = hs
own_heads hs (continue line) = hs

own_among : (marks : List Mark) (around : List ℕ) (hs : List Head) (s : Statement) → AreAmong around (numbers hs) → AreAmong (own_loops marks s around) (numbers (own_heads hs s))
own_among marks around hs (do_loop head body) among n named = by (is_doall (mark_of marks head.number)) named
  where
    last : (xs : List Head) → list_any (λ l. l == n) (numbers (head ∷ [])) ≡ true → list_any (λ l. l == n) (numbers (xs ++ head ∷ [])) ≡ true
    last [] h = h
    last (x ∷ xs) h = ap (λ b. x.number == n || b) (last xs h) ∙ or-true (x.number == n)

    by : (b : Bool) → list_any (λ l. l == n) (if b then head.number ∷ around else around) ≡ true → list_any (λ l. l == n) (numbers (hs ++ head ∷ [])) ≡ true
    by true h = ⊎_elim (λ e. last hs (ap (λ b. b || false) e)) (λ e. among_more around hs (head ∷ []) among n (sym (ap (λ b. b || list_any (λ l. l == n) around) e) ∙ h)) (cases_Bool (head.number == n))
    by false h = among_more around hs (head ∷ []) among n h
own_among marks around hs (work w) among n named = among n named
own_among marks around hs (continue line) among n named = among n named

own_round : (marks : List Mark) (around : List ℕ) (s : Statement) → is_dealt marks s ≡ false → own_loops marks s around ≡ around
own_round marks around (do_loop head body) still = ap (λ b. if b then head.number ∷ around else around) still
own_round marks around (work w) still = refl
own_round marks around (continue line) still = refl

-- a loop that has been entered keeps its value
pub kept_heads : (params L : List ℤ) (hs inner : List Head) (ms : List ℕ) (low high : ℕ) → AllByRecursion (λ h. (1 ≤ h.number) × (h.number < low)) hs → Deepens low high inner → AllByRecursion (λ h. numbered (loops_after params L inner ms) h.number ≡ numbered L h.number) hs
kept_heads params L [] inner ms low high all d = tt
kept_heads params L (h ∷ hs) inner ms low high all d = (kept_after params L inner ms h.number low high all.0.0 all.0.1 d, kept_heads params L hs inner ms low high all.1 d)

below_heads : (low high : ℕ) (hs : List Head) → low ≤ high → AllByRecursion (IsBefore low) hs → AllByRecursion (λ h. (1 ≤ h.number) × (h.number < high)) hs
below_heads low high [] le all = tt
below_heads low high (h ∷ hs) le all = ((all.0.low, omega (arith, all.0.high, le)), below_heads low high hs le all.1)

module _ (params : List ℤ) (scope : Scope) (constants workers : ℕ) (some : 1 ≤ workers) (ends : List (ℤ × ℤ)) (L : List ℤ) (inside : IsInEnds ends L) (hs : List Head) (ns : List ℕ) (number : ℕ) where
  -- the owner of an instance inside a phase
  phase_holds_in : (s : Statement) → IsInFront params scope hs ns L number s → (a : Anchor) (phase : ℕ) → misplaced_within params workers phase a (own_ends params ends s) ≡ None → (inner : List Head) (ms : List ℕ) (low high : ℕ) → StartsIn params L s inner ms → Deepens low high inner →
      names_only constants (numbers (own_heads hs s)) a.form ≡ true → HoldsAt a workers (loops_after params L inner ms) params
  phase_holds_in (do_loop head body) h a phase none [] ms low high start d named = absurd start
  phase_holds_in (do_loop head body) h a phase none (g ∷ inner) [] low high start d named = absurd start
  phase_holds_in (do_loop head body) h a phase none (g ∷ inner) (n ∷ ms) low high start d named =
      let good = good_loop scope h.around number head body h.good in
      let t = good_trips params ends L scope h.around number head body inside good h.low h.count in
      let interval = head_interval params ends head in
      let v = form_value head.m1 L params +ℤ (pos n *ℤ head.step) in
      let there = in_ends-step ends L head.number interval v inside t.number (t.between n start.1) in
      let holds = placed_holds params workers phase a (with_ends ends head.number interval) (at_trip params head L n) some there none in
      let deeper : Deepens (head.number + 1) high inner = subst (λ x. Deepens (x + 1) high inner) (ap (λ (x : Head). x.number) start.0) d.2 in
      let below = all-append (λ h. (1 ≤ h.number) × (h.number < head.number + 1)) hs (head ∷ []) (below_heads number (head.number + 1) hs (omega (arith, good.number)) h.before) ((omega (arith, good.number, h.low), omega arith), tt) in
      let keep = kept_heads params (at_trip params head L n) (hs ++ head ∷ []) inner ms (head.number + 1) high below deeper in
      let same = form_keeps constants (hs ++ head ∷ []) (loops_after params (at_trip params head L n) inner ms) (at_trip params head L n) params a.form named keep in
      let here = holds_same a workers (at_trip params head L n) (loops_after params (at_trip params head L n) inner ms) params (sym same) holds in
      subst (λ x. HoldsAt a workers (loops_after params (at_trip params x L n) inner ms) params) (sym start.0) here
  phase_holds_in (work w) h a phase none inner ms low high start d named =
      subst (λ x. HoldsAt a workers (loops_after params L x ms) params) (sym start) (placed_holds params workers phase a ends L some inside none)
  phase_holds_in (continue line) h a phase none inner ms low high start d named =
      subst (λ x. HoldsAt a workers (loops_after params L x ms) params) (sym start) (placed_holds params workers phase a ends L some inside none)

  -- the own loop's interval is none of those round it
  own_ends_keep : (s : Statement) → IsInFront params scope hs ns L number s → AllByRecursion (λ h. ends_of (own_ends params ends s) h.number ≡ ends_of ends h.number) hs
  own_ends_keep (do_loop head body) h =
      let g = good_loop scope h.around number head body h.good in
      all-weaker (IsBefore number) (λ x. ends_of (with_ends ends head.number (head_interval params ends head)) x.number ≡ ends_of ends x.number) hs
      (λ x b. get_or-set_other ends (head.number - 1) (x.number - 1) (head_interval params ends head) (pos 0, pos 0) (λ e. absurd (omega (arith, e, b.low, b.high, g.number)))) h.before
  own_ends_keep (work w) h = all-weaker (IsBefore number) (λ x. ends_of ends x.number ≡ ends_of ends x.number) hs (λ x b. refl) h.before
  own_ends_keep (continue line) h = all-weaker (IsBefore number) (λ x. ends_of ends x.number ≡ ends_of ends x.number) hs (λ x b. refl) h.before

  -- a producer in front of a phase
  producer_holds_in : (s : Statement) → IsInFront params scope hs ns L number s → (a : Anchor) (phase : ℕ) → misplaced_within params workers phase a (own_ends params ends s) ≡ None → names_only constants (numbers hs) a.form ≡ true → HoldsAt a workers L params
  producer_holds_in s h a phase none named =
      placed_holds params workers phase a ends L some inside (placed_keeps constants hs params workers phase a (own_ends params ends s) ends named (own_ends_keep s h) none)

-- ---- a station of the walk of the phases

module _ (tree : Tree) (plan : Plan) (formed : IsWellFormed tree) (fits : IsFit tree plan) (e : ℕ) (s : Station) (at : slice_get (stations_in (param_values tree) (enters_outer plan.cut.marks) tree.items 1 1 (no_values tree)) e ≡ Some s) where
  pub visit_at : slice_get (phases tree plan.cut.marks) e ≡ Some s.visit
  visit_at = ap (λ vs. slice_get vs e) (sym (visits_are tree plan.cut.marks)) ∙ mapped_get visit_in (stations_in (param_values tree) (enters_outer plan.cut.marks) tree.items 1 1 (no_values tree)) e s at

  abbrev There : Type 0
  There = IsThereFrom (param_values tree) (scope_of tree) 1 (stops_of (enters_outer plan.cut.marks) tree.items) (placed tree (enters_outer plan.cut.marks)) (ends_among (param_values tree) (enters_outer plan.cut.marks) no_ends tree.items) s.visit

  pub there : IsThereFrom (param_values tree) (scope_of tree) 1 (stops_of (enters_outer plan.cut.marks) tree.items) (placed tree (enters_outer plan.cut.marks)) (ends_among (param_values tree) (enters_outer plan.cut.marks) no_ends tree.items) s.visit
  there = visit_there tree plan.cut.marks e s.visit formed visit_at

  pub index_is : s.visit.place - 1 ≡ there.k
  index_is = omega (arith, there.place_is)

  -- the loops round it, by number and with their heads
  pub around_among : AreAmong there.there.around (numbers s.heads)
  around_among =
      let text = ap (slice_get (phases_of tree plan.cut.marks)) (sym index_is) ∙ phase_there tree plan.cut.marks formed e s at in
      (same_at (placed tree (enters_outer plan.cut.marks)) (phases_of tree plan.cut.marks) there.k (record { what = s.visit.what; around = there.there.around }) (record { what = s.visit.what; outer = s.heads }) (same_among (enters_outer plan.cut.marks) [] [] tree.items (λ n h. h)) there.there.at text).among

  misplaced_here : (a : Anchor) → misplaced tree plan.cut.marks plan.workers (1 + there.k) a ≡ None → misplaced_within (param_values tree) plan.workers (1 + there.k) a (own_ends (param_values tree) there.there.ends s.visit.what) ≡ None
  misplaced_here a none =
      let back : 1 + there.k - 1 ≡ there.k = omega arith in
      ap (misplaced_at (param_values tree) plan.workers (1 + there.k) a) (sym (ap (phase_ends tree plan.cut.marks) back ∙ there.there.ends_are)) ∙ none

  pub as_many : length tree.params ≡ length (param_values tree)
  as_many = sym (length-map tree.params (λ (c : Constant). c.value))

  -- the phase's anchor
  pub anchor_named : (a : Anchor) → slice_get plan.anchors (s.visit.place - 1) ≡ Some a → names_only (length (param_values tree)) (numbers (own_heads s.heads s.visit.what)) a.form ≡ true
  anchor_named a anchor =
      let parts = fit_parts tree plan fits in
      let here : slice_get plan.anchors there.k ≡ Some a = ap (slice_get plan.anchors) (sym index_is) ∙ anchor in
      let good = good_each (length tree.params) plan.cut.marks (static_phases tree plan.cut.marks) plan.anchors there.k (record { what = s.visit.what; around = there.there.around }) a parts.good_anchors there.there.at here in
      let named = (and_parts (names_only (length tree.params) (own_loops plan.cut.marks s.visit.what there.there.around) a.form) (has_places a.dist) good).0 in
      subst (λ n. names_only n (numbers (own_heads s.heads s.visit.what)) a.form ≡ true) as_many
      (form-among (length tree.params) (own_loops plan.cut.marks s.visit.what there.there.around) (numbers (own_heads s.heads s.visit.what)) a.form (own_among plan.cut.marks there.there.around s.heads s.visit.what around_among) named)

  -- where it deals out no loop, it names only the loops round the phase
  pub outer_named : (a : Anchor) → slice_get plan.anchors (s.visit.place - 1) ≡ Some a → is_dealt plan.cut.marks s.visit.what ≡ false → names_only (length (param_values tree)) (numbers s.heads) a.form ≡ true
  outer_named a anchor still =
      let parts = fit_parts tree plan fits in
      let here : slice_get plan.anchors there.k ≡ Some a = ap (slice_get plan.anchors) (sym index_is) ∙ anchor in
      let good = good_each (length tree.params) plan.cut.marks (static_phases tree plan.cut.marks) plan.anchors there.k (record { what = s.visit.what; around = there.there.around }) a parts.good_anchors there.there.at here in
      let named = (and_parts (names_only (length tree.params) (own_loops plan.cut.marks s.visit.what there.there.around) a.form) (has_places a.dist) good).0 in
      let round = own_round plan.cut.marks there.there.around s.visit.what still in
      subst (λ n. names_only n (numbers s.heads) a.form ≡ true) as_many (form-among (length tree.params) there.there.around (numbers s.heads) a.form around_among (subst (λ ls. names_only (length tree.params) ls a.form ≡ true) round named))

  own_inner : (w : Statement) (L : List ℤ) (inner : List Head) (ms : List ℕ) → StartsIn (param_values tree) L w inner ms → AreAmong (numbers (own_heads s.heads w)) (numbers (s.heads ++ inner))
  own_inner (do_loop head body) L [] ms start n named = absurd start
  own_inner (do_loop head body) L (g ∷ inner) [] start n named = absurd start
  own_inner (do_loop head body) L (g ∷ inner) (m ∷ ms) start n named =
      let more = among_more (numbers (s.heads ++ head ∷ [])) (s.heads ++ head ∷ []) inner (λ n h. h) n named in
      let same : (s.heads ++ head ∷ []) ++ inner ≡ s.heads ++ (g ∷ inner) = append_assoc s.heads (head ∷ []) inner ∙ ap (λ x. s.heads ++ (x ∷ inner)) (sym start.0) in
      subst (λ hs. list_any (λ l. l == n) (numbers hs) ≡ true) same more
  own_inner (work w) L inner ms start n named = among_more (numbers s.heads) s.heads inner (λ n h. h) n named
  own_inner (continue line) L inner ms start n named = among_more (numbers s.heads) s.heads inner (λ n h. h) n named

  pub owner_holds : (x : Instance) (p : IsPlaced (param_values tree) (scope_of tree) s.heads s.trips s.visit x) (a : Anchor) → slice_get plan.anchors (s.visit.place - 1) ≡ Some a →
      (names_only (length (param_values tree)) (numbers (s.heads ++ p.inner.heads)) a.form ≡ true) × HoldsAt a plan.workers x.loops (param_values tree)
  owner_holds x p a anchor =
      let parts = fit_parts tree plan fits in
      let known = station_known tree plan.cut.marks formed e s at in
      let here : slice_get plan.anchors there.k ≡ Some a = ap (slice_get plan.anchors) (sym index_is) ∙ anchor in
      let none = misplaced_here a (anchor_placed tree plan.cut.marks plan.workers plan.anchors plan.kinds there.k a parts.placed here) in
      let named = anchor_named a anchor in
      let holds = phase_holds_in (param_values tree) (scope_of tree) (length (param_values tree)) plan.workers parts.some there.there.ends s.visit.loops there.there.inside s.heads s.trips known.own_number s.visit.what known.context a (1 + there.k) none p.inner.heads p.inner.trips p.low p.high p.starts_in p.deepens named in (
        form-among (length (param_values tree)) (numbers (own_heads s.heads s.visit.what)) (numbers (s.heads ++ p.inner.heads)) a.form (own_inner s.visit.what s.visit.loops p.inner.heads p.inner.trips p.starts_in) named,
        subst (λ l. HoldsAt a plan.workers l (param_values tree)) (sym p.loops_are) holds,
      )

  -- a producer in front of it
  pub producer_holds : (a : Anchor) → slice_get plan.kinds (s.visit.place - 1) ≡ Some (Producer a) → (names_only (length (param_values tree)) (numbers s.heads) a.form ≡ true) × HoldsAt a plan.workers s.visit.loops (param_values tree)
  producer_holds a kind =
      let parts = fit_parts tree plan fits in
      let known = station_known tree plan.cut.marks formed e s at in
      let here : slice_get plan.kinds there.k ≡ Some (Producer a) = ap (slice_get plan.kinds) (sym index_is) ∙ kind in
      let none = misplaced_here a (kind_placed tree plan.cut.marks plan.workers plan.anchors plan.kinds there.k a parts.placed here) in
      let good = good_kind_each (length tree.params) (static_phases tree plan.cut.marks) plan.kinds there.k (record { what = s.visit.what; around = there.there.around }) (Producer a) parts.good_kinds there.there.at here in
      let given = (and_parts (names_only (length tree.params) there.there.around a.form) (has_places a.dist) good).0 in
      let named = subst (λ n. names_only n (numbers s.heads) a.form ≡ true) as_many (form-among (length tree.params) there.there.around (numbers s.heads) a.form around_among given) in
      (named, producer_holds_in (param_values tree) (scope_of tree) (length (param_values tree)) plan.workers parts.some there.there.ends s.visit.loops there.there.inside s.heads s.trips known.own_number s.visit.what known.context a (1 + there.k) none named)
