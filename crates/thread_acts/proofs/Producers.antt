-- Under a plan that fits, the processor that a producer's anchor names is one of the processors.
use Rattle.std.proofs.Common.{◌≡◌, ℕ, zero, suc, ◌+◌, ◌-◌, ◌<◌, ◌≤◌, ◌==◌, ◌||◌, ◌&&◌, ℤ, pos, ◌+ℤ◌, nat_lt, Bool, true, List, [], ◌∷◌, ◌++◌, length, Option, Some, None, if◌then◌else◌, refl, ap, ap₂, sym, subst, ◌∙◌, arith}
use Rattle.std.specs.Prelude.{slice_get}
use Rattle.std.specs.List.{All, list_all, list_any}
use Rattle.std.proofs.lemmas.Bool.{and_parts, ltb-true}
use Rattle.std.proofs.lemmas.List.{get_or-set_other}
use Rattle.std.proofs.lemmas.List.Elements.{All-cons, All-head, All-nil, All-tail, All-weaker}
use Rattle.nest_tree.specs.Form.{dot, is_form, is_small, rises_above}
use Rattle.nest_tree.specs.Intervals.{dot_ends, ends_of, head_interval, multiple, plus, with_ends}
use Rattle.nest_tree.specs.Limits.{is_empty, no_ends}
use Rattle.nest_tree.specs.Tree.{Statement, Tree, do_loop, work, continue, param_values}
use Rattle.nest_tree.specs.WellFormed.{Scope, is_good_statement, is_number_of, names_only, scope_of}
use Rattle.nest_tree.proofs.FirstLimits.{neither}
use Rattle.nest_tree.proofs.Good.{good_loop}
use Rattle.nest_model.specs.Visits.{Visit, stops_of}
use Rattle.nest_model.proofs.Within.{IsInEnds}
use Rattle.nest_walk.specs.Texts.{placed}
use Rattle.owner_partition.specs.declared.anchor.Anchor.{Anchor}
use Rattle.owner_partition.specs.declared.cut.Mark.{Mark}
use Rattle.owner_partition.specs.declared.placement.Placement.{Placement}
use Rattle.owner_partition.specs.Marks.{enters_outer}
use Rattle.owner_partition.specs.Owners.{anchor_owner, has_places, reaches}
use Rattle.owner_partition.specs.Placement.{ends_among, misplaced, misplaced_at, misplaced_within, names_empty, phase_ends, unplaced}
use Rattle.sync_plan.specs.declared.plan.Kind.{Kind}
use Rattle.sync_plan.specs.declared.plan.Kind.TheVariants.{Nothing, Producer, Left, Right, Both, Barrier, Join}
use Rattle.sync_plan.specs.declared.plan.Plan.{Plan}
use Rattle.sync_plan.specs.Fit.{IsFit, kind_anchors, numbered_anchors}
use Rattle.sync_plan.specs.Shape.{is_good_anchor, static_phases}
use Rattle.sync_plan.proofs.FitOwners.{named_low, placed_owner}
use Rattle.sync_plan.proofs.Fits.{fit_parts}
use Rattle.sync_plan.proofs.PhasePlaces.{AreBelow, IsThereFrom, own_ends}
use Rattle.comm_laws.proofs.Zips.{good_kind_each}

-- ---- the interval of a loop that a form doesn't name

-- each number named is below this one, and from 1
abbrev AreLower : ℕ → List (ℕ × ℤ) → Type 0
AreLower n pairs = All (λ (p : ℕ × ℤ). (1 ≤ p.0) × (p.0 < n)) pairs

module _ (n : ℕ) (ends : List (ℤ × ℤ)) (interval : ℤ × ℤ) where
  ends_kept : (k : ℕ) → (1 ≤ k) × (k < n) → ends_of (with_ends ends n interval) k ≡ ends_of ends k
  ends_kept k (low, high) = get_or-set_other ends (n - 1) (k - 1) interval (pos 0, pos 0) (λ e. omega (arith, e, low, high))

  dot_kept : (pairs : List (ℕ × ℤ)) → AreLower n pairs → dot_ends pairs (with_ends ends n interval) ≡ dot_ends pairs ends
  dot_kept [] low = refl
  dot_kept (p ∷ pairs) low =
      let here = ends_kept p.0 (All-head (λ (q : ℕ × ℤ). (1 ≤ q.0) × (q.0 < n)) p pairs low) in
      ap₂ (λ i d. plus (multiple p.1 i) d) here (dot_kept pairs (All-tail (λ (q : ℕ × ℤ). (1 ≤ q.0) × (q.0 < n)) p pairs low))

  names_kept : (pairs : List (ℕ × ℤ)) → AreLower n pairs → names_empty (with_ends ends n interval) pairs ≡ names_empty ends pairs
  names_kept [] low = refl
  names_kept (p ∷ pairs) low =
      let here = ends_kept p.0 (All-head (λ (q : ℕ × ℤ). (1 ≤ q.0) × (q.0 < n)) p pairs low) in
      ap₂ (λ i b. is_empty i || b) here (names_kept pairs (All-tail (λ (q : ℕ × ℤ). (1 ≤ q.0) × (q.0 < n)) p pairs low))

-- an anchor's placement turns on the loops that it names alone
within_kept : (params : List ℤ) (workers phase n : ℕ) (a : Anchor) (ends : List (ℤ × ℤ)) (interval : ℤ × ℤ) → AreLower n a.form.loops → misplaced_within params workers phase a (with_ends ends n interval) ≡ misplaced_within params workers phase a ends
within_kept params workers phase n a ends interval low =
    let told : ℤ × ℤ → Bool → Option Placement = λ i b. if b then None else if reaches a.dist workers i then None else Some (record { phase = phase; low = i.0; high = i.1 }) in
    let fixed = a.form.constant +ℤ dot a.form.params params in
    ap₂ told (ap (plus (fixed, fixed)) (dot_kept n ends interval a.form.loops low)) (names_kept n ends interval a.form.loops low)

-- a form that names only loops of lower numbers
all_lower : (n least : ℕ) (around : List ℕ) (pairs : List (ℕ × ℤ)) → 1 ≤ n → AreBelow n around → rises_above least pairs ≡ true → list_all (λ (p : ℕ × ℤ). list_any (λ l. l == p.0) around) pairs ≡ true → AreLower n pairs
all_lower n least around [] some below rises named = All-nil (λ (q : ℕ × ℤ). (1 ≤ q.0) × (q.0 < n))
all_lower n least around (p ∷ pairs) some below rises named =
    let a = and_parts _ (rises_above p.0 pairs) rises in
    let b = and_parts _ (is_small p.1) a.0 in
    let c = and_parts (nat_lt least p.0) _ b.0 in
    let low = ltb-true least p.0 c.0 in
    let parts = and_parts (list_any (λ l. l == p.0) around) (list_all (λ (q : ℕ × ℤ). list_any (λ l. l == q.0) around) pairs) named in
    let high = named_low (n - 1) around p.0 (All-weaker (λ k. k < n) (λ k. k ≤ n - 1) (λ k lt. omega (arith, lt)) around below) parts.0 in
    All-cons (λ (q : ℕ × ℤ). (1 ≤ q.0) × (q.0 < n)) p pairs (omega (arith, low), omega (arith, high, some)) (all_lower n p.0 around pairs some below a.1 parts.1)

-- ---- the kinds of a plan

unplaced_behind : (tree : Tree) (marks : List Mark) (workers : ℕ) (xs ys : List (ℕ × Anchor)) → unplaced tree marks workers (xs ++ ys) ≡ None → unplaced tree marks workers ys ≡ None
unplaced_behind tree marks workers [] ys none = none
unplaced_behind tree marks workers ((phase, a) ∷ xs) ys none = unplaced_behind tree marks workers xs ys (neither (misplaced tree marks workers phase a) (unplaced tree marks workers (xs ++ ys)) none).1

placed_kind : (tree : Tree) (marks : List Mark) (workers n : ℕ) (kinds : List Kind) (k : ℕ) (a : Anchor) → unplaced tree marks workers (kind_anchors n kinds) ≡ None → slice_get kinds k ≡ Some (Producer a) → misplaced tree marks workers (n + k) a ≡ None
placed_kind tree marks workers n [] k a none at = let clash : None ≡ Some (Producer a) = at in absurd (cc)
placed_kind tree marks workers n (kind ∷ kinds) zero a none at =
    let same : Some kind ≡ Some (Producer a) = at in
    let equal : kind ≡ Producer a = cc in
    let here : n ≡ n + 0 = omega arith in
    subst (λ j. misplaced tree marks workers j a ≡ None) here
    (neither (misplaced tree marks workers n a) (unplaced tree marks workers (kind_anchors (suc n) kinds)) (subst (λ x. unplaced tree marks workers (kind_anchors n (x ∷ kinds)) ≡ None) equal none)).0
placed_kind tree marks workers n (kind ∷ kinds) (suc k) a none at =
    let next_is : suc n + k ≡ n + suc k = omega arith in
    subst (λ j. misplaced tree marks workers j a ≡ None) next_is (placed_kind tree marks workers (suc n) kinds k a (behind kind none) at)
  where
    behind : (kind : Kind) → unplaced tree marks workers (kind_anchors n (kind ∷ kinds)) ≡ None → unplaced tree marks workers (kind_anchors (suc n) kinds) ≡ None
    behind Nothing none = none
    behind (Producer b) none = (neither (misplaced tree marks workers n b) (unplaced tree marks workers (kind_anchors (suc n) kinds)) none).1
    behind Left none = none
    behind Right none = none
    behind Both none = none
    behind Barrier none = none
    behind Join none = none

module _ (params : List ℤ) (scope : Scope) (workers constants : ℕ) (a : Anchor) where
  owner_in : (s : Statement) (loops : List ℤ) (around : List ℕ) (number phase : ℕ) (ends : List (ℤ × ℤ)) → 1 ≤ workers → IsInEnds ends loops → is_good_statement scope around number s ≡ true → AreBelow number around → 1 ≤ number →
      misplaced_within params workers phase a (own_ends params ends s) ≡ None → is_good_anchor constants around a ≡ true → anchor_owner a workers loops params < workers
  owner_in (do_loop head body) loops around number phase ends some inside good below low placed_is named =
      let g = good_loop scope around number head body good in
      let both = and_parts (names_only constants around a.form) (has_places a.dist) named in
      let all = list_all (λ (q : ℕ × ℤ). list_any (λ l. l == q.0) around) a.form.loops in
      let names = and_parts (is_form a.form && all) (list_all (λ (q : ℕ × ℤ). is_number_of constants q.0) a.form.params) both.0 in
      let parts = and_parts (is_form a.form) all names.0 in
      let rises = (and_parts (is_small a.form.constant) (rises_above 0 a.form.loops) (and_parts _ (rises_above 0 a.form.params) parts.0).0).1 in
      let lower : AreLower head.number a.form.loops = all_lower head.number 0 around a.form.loops (omega (arith, g.number, low)) (subst (λ n. AreBelow n around) (sym g.number) below) rises parts.1 in
      placed_owner params workers phase a ends loops some inside (sym (within_kept params workers phase head.number a ends (head_interval params ends head) lower) ∙ placed_is)
  owner_in (work w) loops around number phase ends some inside good below low placed_is named = placed_owner params workers phase a ends loops some inside placed_is
  owner_in (continue line) loops around number phase ends some inside good below low placed_is named = placed_owner params workers phase a ends loops some inside placed_is

pub producer_below : (tree : Tree) (plan : Plan) (v : Visit) (a : Anchor) → IsFit tree plan →
    IsThereFrom (param_values tree) (scope_of tree) 1 (stops_of (enters_outer plan.cut.marks) tree.items) (placed tree (enters_outer plan.cut.marks)) (ends_among (param_values tree) (enters_outer plan.cut.marks) no_ends tree.items) v →
    slice_get plan.kinds (v.place - 1) ≡ Some (Producer a) → anchor_owner a plan.workers v.loops (param_values tree) < plan.workers
producer_below tree plan v a fits f at =
    let parts = fit_parts tree plan fits in
    let t = f.there in
    let index : v.place - 1 ≡ f.k = omega (arith, f.place_is) in
    let kind_at : slice_get plan.kinds f.k ≡ Some (Producer a) = ap (slice_get plan.kinds) (sym index) ∙ at in
    let kinds_placed = unplaced_behind tree plan.cut.marks plan.workers (numbered_anchors 1 plan.anchors) (kind_anchors 1 plan.kinds) parts.placed in
    let placed_is = placed_kind tree plan.cut.marks plan.workers 1 plan.kinds f.k a kinds_placed kind_at in
    let back : 1 + f.k - 1 ≡ f.k = omega arith in
    let within = ap (misplaced_at (param_values tree) plan.workers (1 + f.k) a) (sym (ap (phase_ends tree plan.cut.marks) back ∙ t.ends_are)) ∙ placed_is in
    let good = good_kind_each (length tree.params) (static_phases tree plan.cut.marks) plan.kinds f.k (record { what = v.what; around = t.around }) (Producer a) parts.good_kinds t.at kind_at in
    owner_in (param_values tree) (scope_of tree) plan.workers (length tree.params) a v.what v.loops t.around t.number (1 + f.k) t.ends parts.some t.inside t.good t.below t.low within good
