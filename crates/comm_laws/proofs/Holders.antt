-- What stands at an anchor's value within its blocks has an owner among the processors.
use Rattle.std.proofs.Common.{◌≡◌, ℕ, zero, suc, ◌+◌, ◌*◌, ◌/◌, ◌%◌, ◌<◌, ◌≤◌, ◌==◌, ◌&&◌, ◌||◌, ℤ, pos, negsuc, ◌+ℤ◌, ◌*ℤ◌, ◌≤ℤ◌, neg_ℤ, int_le, int_lt, Bool, true, false, true≢false, Option, Some, None, List, [], ◌∷◌, ◌++◌, if◌then◌else◌, refl, ap, sym, ◌∙◌, subst, inl, inr, arith}
use Rattle.std.specs.Int.{int_div_euclid}
use Rattle.std.specs.List.{AllByRecursion, cons_option, list_all, list_any, slice_get}
use Rattle.std.specs.Option.{option_map}
use Rattle.std.proofs.Math.Nat.{div-lt_iff_lt-mul}
use Rattle.std.proofs.lemmas.Bool.{and_parts, cases_Bool, eqb-true}
use Rattle.std.proofs.lemmas.Int.{ints}
use Rattle.list_lemmas.proofs.Each.{all_split}
use Rattle.nest_tree.specs.Form.{Form, dot, form_value, is_form, numbered}
use Rattle.nest_tree.specs.Intervals.{dot_ends, ends_of, form_interval, multiple, plus}
use Rattle.nest_tree.specs.Layout.{count_of}
use Rattle.nest_tree.specs.Limits.{is_empty}
use Rattle.nest_tree.specs.Tree.{Head, Tree}
use Rattle.nest_tree.specs.WellFormed.{is_number_of, names_only}
use Rattle.nest_tree.proofs.FirstLimits.{neither}
use Rattle.nest_model.proofs.Within.{Between, IsInEnds, form_between}
use Rattle.nest_rows.proofs.Dots.{numbers}
use Rattle.owner_partition.specs.declared.anchor.Anchor.{Anchor}
use Rattle.owner_partition.specs.declared.anchor.Dist.{Dist}
use Rattle.owner_partition.specs.declared.anchor.Dist.TheVariants.{Block, Cyclic}
use Rattle.owner_partition.specs.declared.cut.Mark.{Mark}
use Rattle.owner_partition.specs.declared.placement.Placement.{Placement}
use Rattle.owner_partition.specs.Owners.{anchor_owner, dealt, reaches}
use Rattle.owner_partition.specs.Placement.{misplaced, misplaced_within, names_empty, unplaced}
use Rattle.sync_plan.specs.declared.plan.Kind.{Kind}
use Rattle.sync_plan.specs.declared.plan.Kind.TheVariants.{Producer}
use Rattle.sync_plan.specs.Fit.{kind_anchors, numbered_anchors}
use Rattle.sync_plan.specs.Kinds.{anchor_in}
use Rattle.comm_system.specs.Meetings.{Holder, Holds}
use Rattle.sync_plan.proofs.FitOwners.{none_empty}

-- the round in which a processor has a place
abbrev pub round_of : Dist → ℕ → ℤ → ℤ
round_of (Block b) workers w = pos 0
round_of Cyclic workers w = int_div_euclid w (pos workers)

abbrev pub holder_at : Anchor → ℕ → List ℤ → List ℤ → Holder
holder_at a workers loops params = record { owner = anchor_owner a workers loops params; round = round_of a.dist workers (form_value a.form loops params) }

remainder : (workers a : ℕ) → 0 < workers → (workers * (a / workers) + a % workers ≡ a) × (a % workers < workers)
remainder workers a some = (omega (arith, some), omega (arith, some))

-- a value within the blocks of so many workers has a holder
pub holds_within : (dist : Dist) (workers : ℕ) (interval : ℤ × ℤ) (w : ℤ) → 1 ≤ workers → reaches dist workers interval ≡ true → Between interval w → Holds dist workers w (record { owner = count_of (dealt dist workers w); round = round_of dist workers w })
holds_within (Block b) workers interval (pos n) some h between =
    let parts = and_parts (int_le (pos 0) interval.0) (int_lt interval.1 (pos (b * workers))) h in
    let less : n < workers * b = below parts.1 between.high in
    let place = positive b less in
    let rest = remainder b n place in
    let product : pos b *ℤ pos (n / b) ≡ pos (b * (n / b)) = refl in
    ((div-lt_iff_lt-mul place).1 less, omega (arith, ints, product, rest.0), omega (arith, ints, product, rest.0, rest.1))
  where
    below : int_lt interval.1 (pos (b * workers)) ≡ true → pos n ≤ℤ interval.1 → n < workers * b
    below lt le = grind (arith, ints, lt, le)

    positive : (c : ℕ) → n < workers * c → 0 < c
    positive zero lt = absurd (omega (arith, lt))
    positive (suc c) lt = omega arith
holds_within (Block b) workers interval (negsuc n) some h between =
    let parts = and_parts (int_le (pos 0) interval.0) (int_lt interval.1 (pos (b * workers))) h in
    absurd (never parts.0 between.low)
  where
    never : int_le (pos 0) interval.0 ≡ true → interval.0 ≤ℤ negsuc n → ⊥
    never a b = grind (arith, ints, a, b)
holds_within Cyclic workers interval (pos n) some h between =
    let rest = remainder workers n some in
    let product : pos workers *ℤ pos (n / workers) ≡ pos (workers * (n / workers)) = refl in
    (rest.1, omega (arith, ints, product, rest.0))
holds_within Cyclic workers interval (negsuc n) some h between =
    let rest = remainder workers n some in
    let product : pos workers *ℤ negsuc (n / workers) ≡ neg_ℤ (pos (workers * suc (n / workers))) = below workers (n / workers) in
    (omega (arith, rest.1, some), omega (arith, ints, product, rest.0, rest.1))
  where
    below : (a b : ℕ) → pos a *ℤ negsuc b ≡ neg_ℤ (pos (a * suc b))
    below a b = omega (arith, ints)

-- ---- forms of loops that are named

pub named_each : (P : ℕ → Type 0) (hs : List Head) (m : ℕ) → AllByRecursion (λ h. P h.number) hs → list_any (λ l. l == m) (numbers hs) ≡ true → P m
named_each P [] m all named = absurd (true≢false (sym named))
named_each P (h ∷ hs) m all named = elim (cases_Bool (h.number == m)) [
  | inl same ↦ subst P (eqb-true h.number m same) all.0
  | inr other ↦ named_each P hs m all.1 (sym (ap (λ b. b || list_any (λ l. l == m) (numbers hs)) other) ∙ named)
]

dot_keeps : (hs : List Head) (L M : List ℤ) (pairs : List (ℕ × ℤ)) → AllByRecursion (λ h. numbered L h.number ≡ numbered M h.number) hs → list_all (λ p. list_any (λ l. l == p.0) (numbers hs)) pairs ≡ true → dot pairs L ≡ dot pairs M
dot_keeps hs L M [] all named = refl
dot_keeps hs L M (p ∷ pairs) all named =
    let parts = and_parts (list_any (λ l. l == p.0) (numbers hs)) (list_all (λ (p : ℕ × ℤ). list_any (λ l. l == p.0) (numbers hs)) pairs) named in
    ap (λ z. p.1 *ℤ z +ℤ dot pairs L) (named_each (λ m. numbered L m ≡ numbered M m) hs p.0 all parts.0) ∙ ap (λ z. p.1 *ℤ numbered M p.0 +ℤ z) (dot_keeps hs L M pairs all parts.1)

pub loops_named : (constants : ℕ) (around : List ℕ) (f : Form) → names_only constants around f ≡ true → list_all (λ p. list_any (λ l. l == p.0) around) f.loops ≡ true
loops_named constants around f named =
    (and_parts (is_form f) (list_all (λ (p : ℕ × ℤ). list_any (λ l. l == p.0) around) f.loops) (and_parts (is_form f && list_all (λ (p : ℕ × ℤ). list_any (λ l. l == p.0) around) f.loops) (list_all (λ (p : ℕ × ℤ). is_number_of constants p.0) f.params) named).0).1

pub form_keeps : (constants : ℕ) (hs : List Head) (L M params : List ℤ) (f : Form) → names_only constants (numbers hs) f ≡ true → AllByRecursion (λ h. numbered L h.number ≡ numbered M h.number) hs → form_value f L params ≡ form_value f M params
form_keeps constants hs L M params f named all = ap (λ z. f.constant +ℤ z +ℤ dot f.params params) (dot_keeps hs L M f.loops all (loops_named constants (numbers hs) f named))

-- intervals that agree at the loops that are named
ends_keep : (hs : List Head) (E F : List (ℤ × ℤ)) (pairs : List (ℕ × ℤ)) → AllByRecursion (λ h. ends_of E h.number ≡ ends_of F h.number) hs → list_all (λ p. list_any (λ l. l == p.0) (numbers hs)) pairs ≡ true →
    (dot_ends pairs E ≡ dot_ends pairs F) × (names_empty E pairs ≡ names_empty F pairs)
ends_keep hs E F [] all named = (refl, refl)
ends_keep hs E F (p ∷ pairs) all named =
    let parts = and_parts (list_any (λ l. l == p.0) (numbers hs)) (list_all (λ (p : ℕ × ℤ). list_any (λ l. l == p.0) (numbers hs)) pairs) named in
    let here = named_each (λ m. ends_of E m ≡ ends_of F m) hs p.0 all parts.0 in
    let later = ends_keep hs E F pairs all parts.1 in
    (ap (λ e. plus (multiple p.1 e) (dot_ends pairs E)) here ∙ ap (λ d. plus (multiple p.1 (ends_of F p.0)) d) later.0, ap (λ e. is_empty e || names_empty E pairs) here ∙ ap (λ b. is_empty (ends_of F p.0) || b) later.1)

pub placed_keeps : (constants : ℕ) (hs : List Head) (params : List ℤ) (workers phase : ℕ) (a : Anchor) (E F : List (ℤ × ℤ)) → names_only constants (numbers hs) a.form ≡ true → AllByRecursion (λ h. ends_of E h.number ≡ ends_of F h.number) hs → misplaced_within params workers phase a E ≡ None → misplaced_within params workers phase a F ≡ None
placed_keeps constants hs params workers phase a E F named all none =
    let keep = ends_keep hs E F a.form.loops all (loops_named constants (numbers hs) a.form named) in
    let fixed = a.form.constant +ℤ dot a.form.params params in
    let interval : form_interval a.form E params ≡ form_interval a.form F params = ap (λ d. plus (fixed, fixed) d) keep.0 in
    sym (ap (λ b. if b then None else if reaches a.dist workers (form_interval a.form E params) then None else Some (record { phase = phase; low = (form_interval a.form E params).0; high = (form_interval a.form E params).1 })) keep.1
    ∙ ap (λ i. if names_empty F a.form.loops then None else if reaches a.dist workers i then None else Some (record { phase = phase; low = i.0; high = i.1 })) interval) ∙ none

-- a placed anchor has a holder where the loops lie within their intervals
pub placed_holds : (params : List ℤ) (workers phase : ℕ) (a : Anchor) (ends : List (ℤ × ℤ)) (loops : List ℤ) → 1 ≤ workers → IsInEnds ends loops → misplaced_within params workers phase a ends ≡ None → Holds a.dist workers (form_value a.form loops params) (holder_at a workers loops params)
placed_holds params workers phase a ends loops some h none =
    let interval = form_interval a.form ends params in
    let reached = passes (names_empty ends a.form.loops) (reaches a.dist workers interval) (record { phase = phase; low = interval.0; high = interval.1 }) none (none_empty ends loops a.form.loops h) in
    holds_within a.dist workers interval (form_value a.form loops params) some reached (form_between a.form ends loops params h)
  where
    passes : (b c : Bool) (x : Placement) → (if b then None else if c then None else Some x) ≡ None → b ≡ false → c ≡ true
    passes false true x e h = refl
    passes false false x e h = absurd (cc)
    passes true c x e h = absurd (true≢false h)

-- ---- the anchors of a plan are placed

all_placed : (tree : Tree) (marks : List Mark) (workers : ℕ) (us : List (ℕ × Anchor)) → unplaced tree marks workers us ≡ None → AllByRecursion (λ u. misplaced tree marks workers u.0 u.1 ≡ None) us
all_placed tree marks workers [] none = tt
all_placed tree marks workers (u ∷ us) none = let parts = neither (misplaced tree marks workers u.0 u.1) (unplaced tree marks workers us) none in (parts.0, all_placed tree marks workers us parts.1)

module _ (tree : Tree) (marks : List Mark) (workers : ℕ) where
  anchor_there : (n : ℕ) (anchors : List Anchor) (k : ℕ) (a : Anchor) → AllByRecursion (λ u. misplaced tree marks workers u.0 u.1 ≡ None) (numbered_anchors n anchors) → slice_get anchors k ≡ Some a → misplaced tree marks workers (n + k) a ≡ None
  anchor_there n [] k a all at = absurd (let no : None ≡ Some a = at in cc)
  anchor_there n (b ∷ anchors) zero a all at =
      let same : b ≡ a = cc in
      let here : n ≡ n + 0 = omega arith in
      subst (λ j. misplaced tree marks workers j a ≡ None) here (subst (λ x. misplaced tree marks workers n x ≡ None) same all.0)
  anchor_there n (b ∷ anchors) (suc k) a all at = let far : suc n + k ≡ n + suc k = omega arith in subst (λ j. misplaced tree marks workers j a ≡ None) far (anchor_there (suc n) anchors k a all.1 at)

  kind_there : (n : ℕ) (kinds : List Kind) (k : ℕ) (a : Anchor) → AllByRecursion (λ u. misplaced tree marks workers u.0 u.1 ≡ None) (kind_anchors n kinds) → slice_get kinds k ≡ Some (Producer a) → misplaced tree marks workers (n + k) a ≡ None
  kind_there n [] k a all at = absurd (let no : None ≡ Some (Producer a) = at in cc)
  kind_there n (kind ∷ kinds) zero a all at =
      let same : kind ≡ Producer a = cc in
      let here : n ≡ n + 0 = omega arith in
      subst (λ j. misplaced tree marks workers j a ≡ None) here (first (anchor_in kind) (ap anchor_in same) all)
    where
      first : (o : Option Anchor) → o ≡ Some a → AllByRecursion (λ u. misplaced tree marks workers u.0 u.1 ≡ None) (cons_option (option_map (λ (b : Anchor). (n, b)) o) (kind_anchors (suc n) kinds)) → misplaced tree marks workers n a ≡ None
      first None e h = absurd (cc)
      first (Some b) e h = let one : b ≡ a = cc in subst (λ x. misplaced tree marks workers n x ≡ None) one h.0
  kind_there n (kind ∷ kinds) (suc k) a all at =
      let far : suc n + k ≡ n + suc k = omega arith in
      subst (λ j. misplaced tree marks workers j a ≡ None) far (kind_there (suc n) kinds k a (later (anchor_in kind) all) at)
    where
      later : (o : Option Anchor) → AllByRecursion (λ u. misplaced tree marks workers u.0 u.1 ≡ None) (cons_option (option_map (λ (b : Anchor). (n, b)) o) (kind_anchors (suc n) kinds)) → AllByRecursion (λ u. misplaced tree marks workers u.0 u.1 ≡ None) (kind_anchors (suc n) kinds)
      later None h = h
      later (Some b) h = h.1

  pub anchor_placed : (anchors : List Anchor) (kinds : List Kind) (k : ℕ) (a : Anchor) → unplaced tree marks workers (numbered_anchors 1 anchors ++ kind_anchors 1 kinds) ≡ None → slice_get anchors k ≡ Some a → misplaced tree marks workers (1 + k) a ≡ None
  anchor_placed anchors kinds k a none at =
      anchor_there 1 anchors k a (all_split (λ (u : ℕ × Anchor). misplaced tree marks workers u.0 u.1 ≡ None) (numbered_anchors 1 anchors) (kind_anchors 1 kinds) (all_placed tree marks workers (numbered_anchors 1 anchors ++ kind_anchors 1 kinds) none)).0 at

  pub kind_placed : (anchors : List Anchor) (kinds : List Kind) (k : ℕ) (a : Anchor) → unplaced tree marks workers (numbered_anchors 1 anchors ++ kind_anchors 1 kinds) ≡ None → slice_get kinds k ≡ Some (Producer a) → misplaced tree marks workers (1 + k) a ≡ None
  kind_placed anchors kinds k a none at =
      kind_there 1 kinds k a (all_split (λ (u : ℕ × Anchor). misplaced tree marks workers u.0 u.1 ≡ None) (numbered_anchors 1 anchors) (kind_anchors 1 kinds) (all_placed tree marks workers (numbered_anchors 1 anchors ++ kind_anchors 1 kinds) none)).1 at
