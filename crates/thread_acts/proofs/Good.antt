-- Under a plan that fits a well-formed program, each phase's anchor is one by which a processor finds its own trips.
use Rattle.std.proofs.Common.{◌≡◌, ◌≢◌, ℕ, suc, ◌+◌, ◌-◌, ◌*◌, ◌<◌, ◌≤◌, ◌==◌, ◌&&◌, ℤ, pos, ◌+ℤ◌, ◌*ℤ◌, ◌≤ℤ◌, int_le, int_lt, nat_le, nat_lt, unsigned_abs, Bool, true, false, true≢false, List, [], ◌∷◌, length, Some, None, if◌then◌else◌, refl, ap, sym, subst, ◌∙◌, arith}
use Rattle.std.specs.Prelude.{slice_get}
use Rattle.std.specs.List.{All, list_all, list_any}
use Rattle.std.proofs.lemmas.Bool.{and_from, and_parts, le-leb, leb-true, lt-ltb, ltb-true}
use Rattle.std.proofs.lemmas.Int.{ints}
use Rattle.std.proofs.lemmas.List.Elements.{All-cons, All-weaker}
use Rattle.nest_tree.specs.Form.{form_value, is_form, is_small, reach_within}
use Rattle.nest_tree.specs.Intervals.{form_interval, head_interval, with_ends}
use Rattle.nest_tree.specs.Tree.{Statement, Statements, Tree, do_loop, work, continue, done, next, param_values}
use Rattle.nest_tree.specs.WellFormed.{Scope, are_good_statements, is_good_statement, is_number_of, loops_in, names_only, scope_of}
use Rattle.nest_tree.proofs.Good.{good_loop}
use Rattle.nest_model.specs.Instances.{with_loop}
use Rattle.nest_model.specs.Visits.{Visit, stops_of}
use Rattle.nest_model.proofs.Stops.{good_trips}
use Rattle.nest_model.proofs.Within.{IsInEnds, form_between, in_ends-step}
use Rattle.nest_tree.specs.Limits.{no_ends}
use Rattle.nest_walk.specs.Texts.{placed}
use Rattle.nest_walk.specs.Walkable.{are_above, is_above}
use Rattle.owner_partition.specs.declared.anchor.Anchor.{Anchor}
use Rattle.owner_partition.specs.declared.anchor.Dist.{Dist}
use Rattle.owner_partition.specs.declared.anchor.Dist.TheVariants.{Block}
use Rattle.owner_partition.specs.declared.cut.Mark.{Mark}
use Rattle.owner_partition.specs.declared.placement.Placement.{Placement}
use Rattle.owner_partition.specs.Marks.{enters_outer, is_doall, mark_of}
use Rattle.owner_partition.specs.Owners.{has_places, reaches}
use Rattle.owner_partition.specs.Placement.{ends_among, misplaced_at, misplaced_within, names_empty, phase_ends}
use Rattle.owner_partition.proofs.Trips.{form_from}
use Rattle.sync_plan.specs.declared.plan.Plan.{Plan}
use Rattle.sync_plan.specs.Fit.{IsFit, kind_anchors}
use Rattle.sync_plan.specs.Shape.{is_good_anchor, own_loops, static_phases}
use Rattle.sync_plan.proofs.FitOwners.{good_each, named_low, none_empty, placed_each}
use Rattle.sync_plan.proofs.Fits.{fit_parts}
use Rattle.sync_plan.proofs.PhasePlaces.{AreBelow, IsThereFrom, own_ends}
use Rattle.thread_code.proofs.Found.{CanFind}

-- ---- what is inside a good loop

mutual
  good_above_in : (scope : Scope) (around : List ℕ) (n first : ℕ) (s : Statement) → n < first → is_good_statement scope around first s ≡ true → is_above n s ≡ true
  good_above_in scope around n first (do_loop head body) below good =
      let g = good_loop scope around first head body good in
      and_from (nat_lt n head.number) (are_above n body) (lt-ltb n head.number (omega (arith, g.number, below))) (good_above scope (head.number ∷ around) n (first + 1) body (omega (arith, below)) g.inside)
  good_above_in scope around n first (work w) below good = refl
  good_above_in scope around n first (continue line) below good = refl

  good_above : (scope : Scope) (around : List ℕ) (n first : ℕ) (ss : Statements) → n < first → are_good_statements scope around first ss ≡ true → are_above n ss ≡ true
  good_above scope around n first done below good = refl
  good_above scope around n first (next s rest) below good =
      let both = and_parts (is_good_statement scope around first s) (are_good_statements scope around (first + loops_in s) rest) good in
      and_from (is_above n s) (are_above n rest) (good_above_in scope around n first s below both.0) (good_above scope around n (first + loops_in s) rest (omega (arith, below)) both.1)

-- ---- an anchor names no loop inside its own

own_low : (b : Bool) (number : ℕ) (around : List ℕ) → AreBelow number around → All (λ k. k ≤ number) (if b then number ∷ around else around)
own_low b number around below =
    let lower = All-weaker (λ k. k < number) (λ k. k ≤ number) (λ k lt. omega (arith, lt)) around below in
    elim b as (λ b. All (λ k. k ≤ number) (if b then number ∷ around else around)) [ true ↦ All-cons (λ k. k ≤ number) number around (omega arith) lower | false ↦ lower ]

named_within : (n : ℕ) (around : List ℕ) (pairs : List (ℕ × ℤ)) → All (λ k. k ≤ n) around → list_all (λ (p : ℕ × ℤ). list_any (λ l. l == p.0) around) pairs ≡ true → reach_within n pairs ≡ true
named_within n around [] low h = refl
named_within n around (p ∷ pairs) low h =
    let parts = and_parts (list_any (λ l. l == p.0) around) (list_all (λ (q : ℕ × ℤ). list_any (λ l. l == q.0) around) pairs) h in
    and_from (nat_le p.0 n) (reach_within n pairs) (le-leb p.0 n (named_low n around p.0 low parts.0)) (named_within n around pairs low parts.1)

-- ---- the phases' anchors are placed

pub passes : (b c : Bool) (x : Placement) → (if b then None else if c then None else Some x) ≡ None → b ≡ false → c ≡ true
passes false true x e h = refl
passes false false x e h = absurd (cc)
passes true c x e h = absurd (true≢false h)

-- a placed block anchor stands at 0 or above, wherever the loops lie within their intervals
place_low : (params : List ℤ) (workers phase b : ℕ) (a : Anchor) (ends : List (ℤ × ℤ)) (loops : List ℤ) → a.dist ≡ Block b → IsInEnds ends loops → misplaced_within params workers phase a ends ≡ None → pos 0 ≤ℤ form_value a.form loops params
place_low params workers phase b a ends loops dist h none =
    let interval = form_interval a.form ends params in
    let reached = passes (names_empty ends a.form.loops) (reaches a.dist workers interval) (record { phase = phase; low = interval.0; high = interval.1 }) none (none_empty ends loops a.form.loops h) in
    let block : reaches (Block b) workers interval ≡ true = subst (λ d. reaches d workers interval ≡ true) dist reached in
    let low = (and_parts (int_le (pos 0) interval.0) (int_lt interval.1 (pos (b * workers))) block).0 in
    up low (form_between a.form ends loops params h).low
  where
    up : {x y : ℤ} → int_le (pos 0) x ≡ true → x ≤ℤ y → pos 0 ≤ℤ y
    up low le = grind (arith, ints, low, le)

-- ---- a phase under its anchor

-- an anchor can deal out a statement
abbrev pub CanOwn : List ℤ → Anchor → ℕ → ℕ → Statement → List ℤ → Type 0
CanOwn params a workers p (do_loop head body) loops = CanFind params a workers p head loops × (reach_within head.number a.form.loops ≡ true) × (are_above head.number body ≡ true)
CanOwn params a workers p (work w) loops = is_form a.form ≡ true
CanOwn params a workers p (continue line) loops = Unit {0}

-- what is known of a phase's anchor
pub record IsGoodAt (params : List ℤ) (scope : Scope) (workers : ℕ) (a : Anchor) (v : Visit) : Type 0 where
  pub around : List ℕ
  pub number : ℕ
  pub ends : List (ℤ × ℤ)
  pub phase : ℕ
  pub marks : List Mark
  pub constants : ℕ
  pub inside : IsInEnds ends v.loops
  pub good : is_good_statement scope around number v.what ≡ true
  pub below : AreBelow number around
  pub low : 1 ≤ number
  pub count : number + loops_in v.what ≤ suc (length v.loops)
  pub placed : misplaced_within params workers phase a (own_ends params ends v.what) ≡ None
  pub anchor : is_good_anchor constants (own_loops marks v.what around) a ≡ true

steps_not_0 : (z : ℤ) → nat_lt 0 (unsigned_abs z) ≡ true → z ≢ pos 0
steps_not_0 z h e = let lt = ltb-true 0 (unsigned_abs z) h in omega (arith, lt, ap unsigned_abs e)

block_long : (dist : Dist) (b : ℕ) → has_places dist ≡ true → dist ≡ Block b → 0 < b
block_long dist b h e =
    let parts = and_parts (nat_le 1 b) (nat_le b 2147483647) (sym (ap has_places e) ∙ h) in
    let low = leb-true 1 b parts.0 in
    omega (arith, low)

module _ (params : List ℤ) (scope : Scope) (workers p : ℕ) (a : Anchor) (worker : p < workers) where
  can_own_in : (s : Statement) (loops : List ℤ) (around : List ℕ) (number phase constants : ℕ) (ends : List (ℤ × ℤ)) (marks : List Mark) → IsInEnds ends loops → is_good_statement scope around number s ≡ true → AreBelow number around → 1 ≤ number →
      number + loops_in s ≤ suc (length loops) → misplaced_within params workers phase a (own_ends params ends s) ≡ None → is_good_anchor constants (own_loops marks s around) a ≡ true → CanOwn params a workers p s loops
  can_own_in (do_loop head body) loops around number phase constants ends marks inside good below low count placed_is named =
      let g = good_loop scope around number head body good in
      let t = good_trips params ends loops scope around number head body inside g low count in
      let interval = head_interval params ends head in
      let own = own_loops marks (do_loop head body) around in
      let both = and_parts (names_only constants own a.form) (has_places a.dist) named in
      let all = list_all (λ (q : ℕ × ℤ). list_any (λ l. l == q.0) own) a.form.loops in
      let names = and_parts (is_form a.form && all) (list_all (λ (q : ℕ × ℤ). is_number_of constants q.0) a.form.params) both.0 in
      let parts = and_parts (is_form a.form) all names.0 in
      let bounds = and_parts _ (is_small head.step) g.bounds in
      let moves = (and_parts _ (nat_lt 0 (unsigned_abs head.step)) bounds.0).1 in
      let number_is = g.number in
      let some : 0 < head.number = omega (arith, number_is, low) in
      let within : head.number - 1 < length loops = omega (arith, number_is, low, count) in
      let lower : All (λ k. k ≤ head.number) own = own_low (is_doall (mark_of marks head.number)) head.number around (subst (λ n. AreBelow n around) (sym number_is) below) in (
        record {
          form = parts.0;
          number = some;
          within = within;
          steps = steps_not_0 head.step moves;
          worker = worker;
          block = λ b dist. block_long a.dist b both.1 dist;
          placed = λ b dist n lt.
              let v = form_value head.m1 loops params +ℤ (pos n *ℤ head.step) in
              let at = place_low params workers phase b a (with_ends ends head.number interval) (with_loop loops head.number v) dist (in_ends-step ends loops head.number interval v inside t.number (t.between n lt)) placed_is in
              subst (λ z. pos 0 ≤ℤ z) (form_from a.form head.number loops params v parts.0 some within) at;
        },
        named_within head.number own a.form.loops lower parts.1,
        good_above scope (head.number ∷ around) head.number (number + 1) body (omega (arith, number_is)) g.inside,
      )
  can_own_in (work w) loops around number phase constants ends marks inside good below low count placed_is named =
      let both = and_parts (names_only constants (own_loops marks (work w) around) a.form) (has_places a.dist) named in
      let all = list_all (λ (q : ℕ × ℤ). list_any (λ l. l == q.0) around) a.form.loops in
      let names = and_parts (is_form a.form && all) (list_all (λ (q : ℕ × ℤ). is_number_of constants q.0) a.form.params) both.0 in
      (and_parts (is_form a.form) all names.0).0
  can_own_in (continue line) loops around number phase constants ends marks inside good below low count placed_is named = tt

  pub can_own : (v : Visit) → IsGoodAt params scope workers a v → CanOwn params a workers p v.what v.loops
  can_own v g = can_own_in v.what v.loops g.around g.number g.phase g.constants g.ends g.marks g.inside g.good g.below g.low g.count g.placed g.anchor

-- a phase's anchor under a plan that fits
pub good_at : (tree : Tree) (plan : Plan) (v : Visit) (a : Anchor) → IsFit tree plan →
    IsThereFrom (param_values tree) (scope_of tree) 1 (stops_of (enters_outer plan.cut.marks) tree.items) (placed tree (enters_outer plan.cut.marks)) (ends_among (param_values tree) (enters_outer plan.cut.marks) no_ends tree.items) v →
    slice_get plan.anchors (v.place - 1) ≡ Some a → IsGoodAt (param_values tree) (scope_of tree) plan.workers a v
good_at tree plan v a fits f at =
    let parts = fit_parts tree plan fits in
    let t = f.there in
    let index : v.place - 1 ≡ f.k = omega (arith, f.place_is) in
    let anchor_at : slice_get plan.anchors f.k ≡ Some a = ap (slice_get plan.anchors) (sym index) ∙ at in
    let placed_is = placed_each tree plan.cut.marks plan.workers 1 plan.anchors (kind_anchors 1 plan.kinds) f.k a parts.placed anchor_at in
    let back : 1 + f.k - 1 ≡ f.k = omega arith in record {
      around = t.around;
      number = t.number;
      ends = t.ends;
      phase = 1 + f.k;
      marks = plan.cut.marks;
      constants = length tree.params;
      inside = t.inside;
      good = t.good;
      below = t.below;
      low = t.low;
      count = t.count;
      placed = ap (misplaced_at (param_values tree) plan.workers (1 + f.k) a) (sym (ap (phase_ends tree plan.cut.marks) back ∙ t.ends_are)) ∙ placed_is;
      anchor = good_each (length tree.params) plan.cut.marks (static_phases tree plan.cut.marks) plan.anchors f.k (record { what = v.what; around = t.around }) a parts.good_anchors t.at anchor_at;
    }
