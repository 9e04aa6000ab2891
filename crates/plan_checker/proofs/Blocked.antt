-- Where a barrier stands in front of each phase, each slot is blocked, and a plan has no obligations but those of its Doall loops and of its private scalars' paths.
use Rattle.std.proofs.Common.{◌≡◌, ℕ, zero, suc, ◌+◌, ◌-◌, ◌<◌, ◌≤◌, ◌==◌, Bool, true, false, ◌&&◌, ◌||◌, not, nat_le, nat_lt, List, [], ◌∷◌, ◌++◌, length, map, Some, None, if◌then◌else◌, refl, ap, sym, ◌∙◌, subst, inl, inr, arith}
use Rattle.std.specs.Prelude.{◌⊎◌, replicate, slice_get, sum_by}
use Rattle.std.specs.List.{AllByRecursion, flat_map, list_any, range_with_len}
use Rattle.std.proofs.lemmas.Bool.{and_from}
use Rattle.std.proofs.lemmas.Bool.Decides.{nat_tests}
use Rattle.std.proofs.lemmas.List.{append-nil, get_or-replicate, length-replicate}
use Rattle.std.proofs.lemmas.List.Folds.{list_any-append}
use Rattle.std.proofs.lemmas.Option.{slice_get-get_or, slice_get_within}
use Rattle.list_lemmas.proofs.Tests.{or_left_true, or_right_true}
use Rattle.farkas_cert.specs.declared.certificate.Certificate.{Certificate}
use Rattle.nest_tree.specs.Tree.{Head, Tree}
use Rattle.nest_rows.proofs.Nesting.{all-append, all-weaker}
use Rattle.owner_partition.specs.declared.anchor.Anchor.{Anchor}
use Rattle.owner_partition.specs.Cuts.{Cutting}
use Rattle.owner_partition.specs.Marks.{enters_outer}
use Rattle.sync_plan.specs.Barriers.{barrier_plan}
use Rattle.sync_plan.specs.declared.plan.Kind.TheVariants.{Barrier}
use Rattle.sync_plan.specs.declared.plan.Plan.{Plan}
use Rattle.sync_plan.specs.Fit.{IsFit}
use Rattle.sync_plan.specs.Shape.{static_phases, wrong_field}
use Rattle.comm_system.specs.Boundaries.{Boundary, Side, boundaries_where, certain_boundaries, is_before_second, is_behind_first, is_prefix, of_first, of_second}
use Rattle.comm_system.specs.Levels.{common, levels}
use Rattle.comm_system.specs.Obligations.{Slot, Task, numbered_from, obligations_of, paths_tasks, slot_signature, slot_tasks, slots_before, slots_between, slots_from, slots_of, trips_tasks}
use Rattle.comm_system.specs.References.{StaticPhase, phases_of}
use Rattle.comm_system.specs.Signatures.{blocked, waits, counted, is_barrier, kind_at, last_three, left_waits, or_nothing, producers_at, right_waits, signature_of}
use Rattle.comm_laws.proofs.Slots.{slot_at}
use Rattle.comm_laws.proofs.Zips.{same_among, stop_at}
use Rattle.plan_checker.specs.Accepted.{AreCertified, IsAccepted}
use Rattle.plan_checker.specs.Barriers.{doall_obligations}
use Rattle.plan_checker.proofs.Certified.{fit_shape}
use Rattle.comm_system.proofs.ShapeParts.{shaped}

-- ---- lists of which nothing is made

nothing_made : {X Y : Type 0} (f : X → List Y) (xs : List X) → AllByRecursion (λ x. f x ≡ []) xs → flat_map f xs ≡ []
nothing_made f [] all = refl
nothing_made f (x ∷ xs) all = ap (λ ys. ys ++ flat_map f xs) all.0 ∙ nothing_made f xs all.1

nothing_more : {X Y : Type 0} (f : X → List Y) (xs ys : List X) → flat_map f xs ≡ [] → flat_map f ys ≡ [] → flat_map f (xs ++ ys) ≡ []
nothing_more f [] ys a b = b
nothing_more f (x ∷ xs) ys a b = by (f x) refl (λ h. nothing_more f xs ys h b)
  where
    by : (zs : List _) → f x ≡ zs → (flat_map f xs ≡ [] → flat_map f (xs ++ ys) ≡ []) → f x ++ flat_map f (xs ++ ys) ≡ []
    by [] is rest = ap (λ zs. zs ++ flat_map f (xs ++ ys)) is ∙ rest (sym (ap (λ zs. zs ++ flat_map f xs) is) ∙ a)
    by (z ∷ zs) is rest = absurd (let clash = sym (ap (λ ws. ws ++ flat_map f xs) is) ∙ a in cc)

in_range : (P : ℕ → Type 0) (a n : ℕ) → ((k : ℕ) → a ≤ k → k < a + n → P k) → AllByRecursion P (range_with_len a n)
in_range P a zero h = tt
in_range P a (suc n) h = (h a (omega arith) (omega arith), in_range P (a + 1) n (λ k low high. h k (omega (arith, low)) (omega (arith, high))))

mapped_all : {X Y : Type 0} (P : Y → Type 0) (f : X → Y) (xs : List X) → AllByRecursion (λ x. P (f x)) xs → AllByRecursion P (map f xs)
mapped_all P f [] all = tt
mapped_all P f (x ∷ xs) all = (all.0, mapped_all P f xs all.1)

-- ---- the boundary in front of the second phase is certain

whole_prefix : (heads : List Head) → is_prefix heads heads ≡ true
whole_prefix [] = refl
whole_prefix (h ∷ heads) = let same : (h.number == h.number) ≡ true = grind (arith, nat_tests) in and_from (h.number == h.number) (is_prefix heads heads) same (whole_prefix heads)

common_few : (heads others : List Head) → common heads others ≤ length others
common_few [] others = omega arith
common_few (h ∷ heads) [] = omega arith
common_few (h ∷ heads) (g ∷ others) = by (h.number == g.number) (common_few heads others)
  where
    by : (b : Bool) → common heads others ≤ length others → (if b then suc (common heads others) else 0) ≤ suc (length others)
    by true rest = omega (arith, rest)
    by false rest = omega arith

some_there : (p : Boundary → Bool) (test : ℕ → List Head → Bool) (side : Side) (u k n : ℕ) (phases : List StaticPhase) (x : StaticPhase) → n ≡ u + k → slice_get phases k ≡ Some x → test n x.outer ≡ true → p (record { phase = n; side = side }) ≡ true →
    list_any p (boundaries_where test side u phases) ≡ true
some_there p test side u k n [] x is at passes barrier = absurd (let no : None ≡ Some x = at in cc)
some_there p test side u zero n (y ∷ phases) x is at passes barrier =
    let same : y ≡ x = cc in
    let number : n ≡ u = omega (arith, is) in
    let rest = boundaries_where test side (suc u) phases in
    let here : test u y.outer ≡ true = subst (λ m. test m y.outer ≡ true) number (subst (λ (z : StaticPhase). test n z.outer ≡ true) (sym same) passes) in
    ap (λ b. list_any p (if b then record { phase = u; side = side } ∷ rest else rest)) here
    ∙ or_left_true (p (record { phase = u; side = side })) (list_any p rest) (subst (λ m. p (record { phase = m; side = side }) ≡ true) number barrier)
some_there p test side u (suc k) n (y ∷ phases) x is at passes barrier = by (test u y.outer) (some_there p test side (suc u) k n phases x (omega (arith, is)) at passes barrier)
  where
    by : (b : Bool) → list_any p (boundaries_where test side (suc u) phases) ≡ true → list_any p (if b then record { phase = u; side = side } ∷ boundaries_where test side (suc u) phases else boundaries_where test side (suc u) phases) ≡ true
    by true later = or_right_true (p (record { phase = u; side = side })) (list_any p (boundaries_where test side (suc u) phases)) later
    by false later = later

-- of a slot, at a level that it may have
abbrev IsLevel : ℕ → ℕ → ℕ → ℕ → Type 0
IsLevel loops s t level = ((level ≡ 0) × (s < t)) ⊎ ((1 ≤ level) × (level ≤ loops))

levels_are : (loops s t : ℕ) → AllByRecursion (IsLevel loops s t) (levels loops s t)
levels_are loops s t = all-append (IsLevel loops s t) (range_with_len 1 loops) (if nat_lt s t then 0 ∷ [] else []) (in_range (IsLevel loops s t) 1 loops (λ k low high. inr (low, omega (arith, high)))) (by (nat_lt s t) refl)
  where
    by : (b : Bool) → nat_lt s t ≡ b → AllByRecursion (IsLevel loops s t) (if b then 0 ∷ [] else [])
    by true less = (inl (refl, grind (arith, nat_tests)), tt)
    by false more = tt

module _ (p : Boundary → Bool) (phases : List StaticPhase) (s : ℕ) (first : StaticPhase) (t : ℕ) (second : StaticPhase) (level : ℕ) (low : 1 ≤ t) (at : slice_get phases (t - 1) ≡ Some second) (barrier : (side : Side) → p (record { phase = t; side = side }) ≡ true) where
  abbrev firsts : List Boundary
  firsts = boundaries_where (is_behind_first first.outer s t level) of_first 1 phases

  abbrev seconds : List Boundary
  seconds = boundaries_where (is_before_second first.outer second.outer s t level) of_second 1 phases

  until : nat_le t t ≡ true
  until = grind (arith, nat_tests)

  on_first : is_behind_first first.outer s t level t second.outer ≡ true → (list_any p firsts || list_any p seconds) ≡ true
  on_first passes = or_left_true (list_any p firsts) (list_any p seconds) (some_there p (is_behind_first first.outer s t level) of_first 1 (t - 1) t phases second (omega (arith, low)) at passes (barrier of_first))

  on_second : is_before_second first.outer second.outer s t level t second.outer ≡ true → (list_any p firsts || list_any p seconds) ≡ true
  on_second passes = or_right_true (list_any p firsts) (list_any p seconds) (some_there p (is_before_second first.outer second.outer s t level) of_second 1 (t - 1) t phases second (omega (arith, low)) at passes (barrier of_second))

  plain : level ≡ 0 → nat_lt s t ≡ true → (b : Bool) → is_prefix second.outer first.outer ≡ b → (list_any p firsts || list_any p seconds) ≡ true
  plain is less true prefix =
      on_first (and_from (nat_lt s t && (if level == 0 then nat_le t t else nat_le level (length second.outer))) (is_prefix second.outer first.outer)
      (and_from (nat_lt s t) (if level == 0 then nat_le t t else nat_le level (length second.outer)) less (ap (λ l. if l == 0 then nat_le t t else nat_le l (length second.outer)) is ∙ until)) prefix)
  plain is less false prefix =
      on_second (and_from (nat_le t t && (if level == 0 then nat_lt s t && not (is_prefix second.outer first.outer) else nat_le level (length second.outer))) (is_prefix second.outer second.outer)
      (and_from (nat_le t t) (if level == 0 then nat_lt s t && not (is_prefix second.outer first.outer) else nat_le level (length second.outer)) until
      (ap (λ l. if l == 0 then nat_lt s t && not (is_prefix second.outer first.outer) else nat_le l (length second.outer)) is ∙ and_from (nat_lt s t) (not (is_prefix second.outer first.outer)) less (ap not prefix))) (whole_prefix second.outer))

  carried : 1 ≤ level → level ≤ common first.outer second.outer → (list_any p firsts || list_any p seconds) ≡ true
  carried some few =
      let other : (level == 0) ≡ false = grind (arith, nat_tests) in
      let length_few = common_few first.outer second.outer in
      let inside : nat_le level (length second.outer) ≡ true = grind (arith, nat_tests) in
      on_second (and_from (nat_le t t && (if level == 0 then nat_lt s t && not (is_prefix second.outer first.outer) else nat_le level (length second.outer))) (is_prefix second.outer second.outer)
      (and_from (nat_le t t) (if level == 0 then nat_lt s t && not (is_prefix second.outer first.outer) else nat_le level (length second.outer)) until
      (ap (λ b. if b then nat_lt s t && not (is_prefix second.outer first.outer) else nat_le level (length second.outer)) other ∙ inside)) (whole_prefix second.outer))

  where_it_is : IsLevel (common first.outer second.outer) s t level → (list_any p firsts || list_any p seconds) ≡ true
  where_it_is (inl h) = plain h.0 (let less = h.1 in grind (arith, nat_tests)) (is_prefix second.outer first.outer) refl
  where_it_is (inr h) = carried h.0 h.1

  certain_there : IsLevel (common first.outer second.outer) s t level → list_any p (certain_boundaries phases first.outer second.outer s t level) ≡ true
  certain_there may = list_any-append p firsts seconds ∙ where_it_is may

-- ---- so a slot has no systems

module _ (tree : Tree) (plan : Plan) (phases : List StaticPhase) (barriers : (k : ℕ) (x : StaticPhase) → slice_get phases k ≡ Some x → slice_get plan.kinds k ≡ Some Barrier) where
  abbrev made : Slot → List Task
  made slot = slot_tasks tree plan slot (slot_signature plan.version plan.kinds phases slot)

  none_seen : (slot : Slot) (us : List Boundary) → list_any (λ u. is_barrier (kind_at plan.kinds u)) us ≡ true → slot_tasks tree plan slot (signature_of plan.version plan.kinds us) ≡ []
  none_seen slot us any =
      ap (λ b. slot_tasks tree plan slot (if b then blocked else waits (counted plan.version (sum_by (λ u. left_waits (kind_at plan.kinds u)) us)) (counted plan.version (sum_by (λ u. right_waits (kind_at plan.kinds u)) us)) (last_three (flat_map (λ (u : Boundary). producers_at u.side (kind_at plan.kinds u)) us)))) any

  none_at : (s : ℕ) (first : StaticPhase) (n : ℕ) (second : StaticPhase) (level : ℕ) → slice_get phases n ≡ Some second → IsLevel (common first.outer second.outer) s (suc n) level → made (slot_at s first (suc n) second level) ≡ []
  none_at s first n second level at may =
      let place : suc n - 1 ≡ n = omega arith in
      none_seen (slot_at s first (suc n) second level) (certain_boundaries phases first.outer second.outer s (suc n) level)
      (certain_there (λ u. is_barrier (kind_at plan.kinds u)) phases s first (suc n) second level (omega arith) (ap (slice_get phases) place ∙ at)
      (λ side. ap (λ k. is_barrier (or_nothing k)) (ap (slice_get plan.kinds) place ∙ barriers n second at)) may)

  none_between : (s : ℕ) (first : StaticPhase) (n : ℕ) (second : StaticPhase) → slice_get phases n ≡ Some second → flat_map made (slots_between s first (suc n) second) ≡ []
  none_between s first n second at =
      nothing_made made (slots_between s first (suc n) second)
      (mapped_all (λ slot. made slot ≡ []) (slot_at s first (suc n) second) (levels (common first.outer second.outer) s (suc n))
      (all-weaker (IsLevel (common first.outer second.outer) s (suc n)) (λ level. made (slot_at s first (suc n) second level) ≡ []) (levels (common first.outer second.outer) s (suc n)) (λ level may. none_at s first n second level at may) (levels_are (common first.outer second.outer) s (suc n))))

  none_before : (s : ℕ) (firsts : List StaticPhase) (n : ℕ) (second : StaticPhase) → slice_get phases n ≡ Some second → flat_map made (slots_before s firsts (suc n) second) ≡ []
  none_before s [] n second at = refl
  none_before s (first ∷ firsts) n second at =
      nothing_more made (slots_between s first (suc n) second) (slots_before (suc s) firsts (suc n) second) (none_between s first n second at) (none_before (suc s) firsts n second at)

  none_from : (n : ℕ) (rest : List StaticPhase) → ((k : ℕ) (x : StaticPhase) → slice_get rest k ≡ Some x → slice_get phases (n + k) ≡ Some x) → flat_map made (slots_from phases (suc n) rest) ≡ []
  none_from n [] at = refl
  none_from n (second ∷ rest) at =
      let here : n + 0 ≡ n = omega arith in
      nothing_more made (slots_before 1 phases (suc n) second) (slots_from phases (suc (suc n)) rest)
      (none_before 1 phases n second (sym (ap (slice_get phases) here) ∙ at 0 second refl))
      (none_from (suc n) rest (λ k x is. let next : suc n + k ≡ n + suc k = omega arith in ap (slice_get phases) next ∙ at (suc k) x is))

  pub none_of_slots : flat_map (λ slot. slot_tasks tree plan slot (slot_signature plan.version plan.kinds phases slot)) (slots_of phases) ≡ []
  none_of_slots = none_from 0 phases (λ k x is. let same : 0 + k ≡ k = omega arith in ap (slice_get phases) same ∙ is)

-- ---- plans with a barrier in front of each phase

barriers_there : (tree : Tree) (plan : Plan) → plan.kinds ≡ replicate (length plan.anchors) Barrier → wrong_field tree plan ≡ None → (k : ℕ) (x : StaticPhase) → slice_get (phases_of tree plan.cut.marks) k ≡ Some x → slice_get plan.kinds k ≡ Some Barrier
barriers_there tree plan kinds fits k x at =
    let stop = stop_at (static_phases tree plan.cut.marks) (phases_of tree plan.cut.marks) k x (same_among (enters_outer plan.cut.marks) [] [] tree.items (λ n h. h)) at in
    let within = slice_get_within (static_phases tree plan.cut.marks) k stop.0 stop.1 in
    let many = (shaped tree plan fits).many_anchors in
    let long = length-replicate (length plan.anchors) Barrier in
    ap (λ ks. slice_get ks k) kinds
    ∙ slice_get-get_or (replicate (length plan.anchors) Barrier) k Barrier (omega (arith, within, many, long))
    ∙ ap Some (get_or-replicate (length plan.anchors) k Barrier Barrier (omega (arith, within, many)))

pub only_doall : (tree : Tree) (plan : Plan) → plan.kinds ≡ replicate (length plan.anchors) Barrier → wrong_field tree plan ≡ None → obligations_of tree plan ≡ doall_obligations tree plan
only_doall tree plan kinds fits =
    let phases = phases_of tree plan.cut.marks in
    let paths = flat_map (paths_tasks tree plan) phases in
    ap (λ ts. numbered_from 1 ((flat_map (trips_tasks tree plan) phases ++ ts) ++ paths)) (none_of_slots tree plan phases (barriers_there tree plan kinds fits))
    ∙ ap (λ ts. numbered_from 1 (ts ++ paths)) (append-nil (flat_map (trips_tasks tree plan) phases))

pub barriers_accepted : (tree : Tree) (cut : Cutting) (anchors : List Anchor) (workers : ℕ) (certificates : List Certificate) → IsFit tree (barrier_plan cut anchors workers certificates) →
    AreCertified (doall_obligations tree (barrier_plan cut anchors workers certificates)) certificates → IsAccepted tree (barrier_plan cut anchors workers certificates)
barriers_accepted tree cut anchors workers certificates fits certified =
    let plan = barrier_plan cut anchors workers certificates in
    record { fits = fits; certified = subst (λ os. AreCertified os certificates) (sym (only_doall tree plan refl (fit_shape tree plan fits))) certified }
