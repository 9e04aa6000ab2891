-- The accesses of a pair are those of its phases, and the conditions of a plan that fits are good and met.
use Rattle.std.proofs.Common.{◌≡◌, ℕ, Bool, true, false, cond, not, None, List, [], ◌∷◌, ◌++◌, length, map, if◌then◌else◌, sym, subst}
use Rattle.std.specs.List.{AllByRecursion, Contains, filter, flat_map, list_all}
use Rattle.std.proofs.lemmas.Bool.{and_parts}
use Rattle.std.proofs.lemmas.List.{length-map}
use Rattle.list_lemmas.proofs.Each.{all-contained}
use Rattle.nest_tree.specs.Tree.{Constant, Tree, param_values}
use Rattle.nest_tree.specs.WellFormed.{IsWellFormed, scope_of}
use Rattle.nest_tree.proofs.FirstLimits.{neither}
use Rattle.nest_rows.proofs.Nesting.{all-append}
use Rattle.owner_partition.specs.Placement.{unplaced}
use Rattle.sync_plan.specs.declared.plan.Conditions.{Conditions}
use Rattle.sync_plan.specs.declared.plan.Conditions.TheVariants.{Values, Rows}
use Rattle.sync_plan.specs.declared.plan.Plan.{Plan}
use Rattle.sync_plan.specs.declared.plan.Version.{Version}
use Rattle.sync_plan.specs.Fit.{IsFit, as_misfit, condition, misplaced_print, placed_anchors, placement, print_place, shape, unmet}
use Rattle.sync_plan.specs.Shape.{are_good_conditions, has_rows, is_good_row, static_phases, wrong_field}
use Rattle.comm_system.specs.Pairs.{Pair, pairs_among, pairs_of, pairs_within}
use Rattle.conflict_rules.specs.Conflicts.{conflict}
use Rattle.conflict_rules.specs.References.{Reference, StaticPhase, phases_of, references_of, variable_of}
use Rattle.comm_system.specs.Shown.{is_among, is_own_in, privates_in, shared_of, shown_among, shown_of}
use Rattle.owner_partition.specs.Marks.{enters_outer}
use Rattle.comm_laws.proofs.GoodReferences.{references_good}
use Rattle.comm_system.proofs.ShapeParts.{shaped}
use Rattle.comm_laws.proofs.Solved.{AreGoodConditions, IsGoodReference}
use Rattle.sync_plan.proofs.Fits.{nothing_misfits}

seconds : (G : Reference → Type 0) (a : Reference) (p : Reference → Bool) (bs : List Reference) → G a → AllByRecursion G bs → AllByRecursion (λ (pair : Pair). G pair.first × G pair.second) (map (λ b. record { first = a; second = b }) (filter p bs))
seconds G a p [] h all = tt
seconds G a p (b ∷ bs) h all = by (p b) (seconds G a p bs h all.1)
  where
    by : (t : Bool) → AllByRecursion (λ (pair : Pair). G pair.first × G pair.second) (map (λ b. record { first = a; second = b }) (filter p bs)) →
        AllByRecursion (λ (pair : Pair). G pair.first × G pair.second) (map (λ b. record { first = a; second = b }) (cond t (b ∷ filter p bs) (filter p bs)))
    by true rest = ((h, all.0), rest)
    by false rest = rest

firsts : (G : Reference → Type 0) (xs bs : List Reference) → AllByRecursion G xs → AllByRecursion G bs → AllByRecursion (λ (pair : Pair). G pair.first × G pair.second) (pairs_among xs bs)
firsts G [] bs h k = tt
firsts G (a ∷ xs) bs h k =
    let here : List Pair = map (λ b. record { first = a; second = b }) (filter (conflict a) bs) in
    let later : List Pair = flat_map (λ a. map (λ b. record { first = a; second = b }) (filter (conflict a) bs)) xs in
    all-append (λ (pair : Pair). G pair.first × G pair.second) here later (seconds G a (conflict a) bs h.0 k) (firsts G xs bs h.1 k)

-- those that others see, and those of shared cells, are among the accesses
pub shown_good : (G : Reference → Type 0) (privates taken : List ℕ) (rs : List Reference) → AllByRecursion G rs → AllByRecursion G (shown_among privates taken rs)
shown_good G privates taken [] all = tt
shown_good G privates taken (r ∷ rs) all = by (is_among privates (variable_of r.what)) (is_among taken (variable_of r.what)) (shown_good G privates taken rs all.1) (shown_good G privates (taken ++ variable_of r.what ∷ []) rs all.1)
  where
    by : (private before : Bool) → AllByRecursion G (shown_among privates taken rs) → AllByRecursion G (shown_among privates (taken ++ variable_of r.what ∷ []) rs) →
        AllByRecursion G (if private then (if before then shown_among privates taken rs else r ∷ shown_among privates (taken ++ variable_of r.what ∷ []) rs) else r ∷ shown_among privates taken rs)
    by true true rest more = rest
    by true false rest more = (all.0, more)
    by false before rest more = (all.0, rest)

kept_good : (G : Reference → Type 0) (p : Reference → Bool) (rs : List Reference) → AllByRecursion G rs → AllByRecursion G (filter p rs)
kept_good G p [] all = tt
kept_good G p (r ∷ rs) all = by (p r) (kept_good G p rs all.1)
  where
    by : (t : Bool) → AllByRecursion G (filter p rs) → AllByRecursion G (cond t (r ∷ filter p rs) (filter p rs))
    by true rest = (all.0, rest)
    by false rest = rest

abbrev AreGood : Tree → Pair → Type 0
AreGood tree pair = IsGoodReference (length (param_values tree)) (scope_of tree).ranks pair.first × IsGoodReference (length (param_values tree)) (scope_of tree).ranks pair.second

-- the accesses of a phase are good
phase_good : (tree : Tree) (plan : Plan) (s : StaticPhase) → IsWellFormed tree → Contains (phases_of tree plan.cut.marks) s → AllByRecursion (IsGoodReference (length (param_values tree)) (scope_of tree).ranks) (references_of s)
phase_good tree plan s formed here =
    all-contained (λ phase. AllByRecursion (IsGoodReference (length (param_values tree)) (scope_of tree).ranks) (references_of phase)) (phases_of tree plan.cut.marks) s (references_good tree (enters_outer plan.cut.marks) formed) here

-- both accesses of a pair are good
pub pair_good : (tree : Tree) (plan : Plan) (s t : StaticPhase) (pair : Pair) → IsWellFormed tree → Contains (phases_of tree plan.cut.marks) s → Contains (phases_of tree plan.cut.marks) t → Contains (pairs_of plan.cut s t) pair →
    IsGoodReference (length (param_values tree)) (scope_of tree).ranks pair.first × IsGoodReference (length (param_values tree)) (scope_of tree).ranks pair.second
pair_good tree plan s t pair formed here there among =
    let G = IsGoodReference (length (param_values tree)) (scope_of tree).ranks in
    let of_s = shown_good G (privates_in plan.cut s.what) [] (references_of s) (phase_good tree plan s formed here) in
    let of_t = shown_good G (privates_in plan.cut t.what) [] (references_of t) (phase_good tree plan t formed there) in
    all-contained (AreGood tree) (pairs_of plan.cut s t) pair (firsts G (shown_of plan.cut s) (shown_of plan.cut t) of_s of_t) among

-- and of one in two trips
pub within_good : (tree : Tree) (plan : Plan) (s : StaticPhase) (pair : Pair) → IsWellFormed tree → Contains (phases_of tree plan.cut.marks) s → Contains (pairs_within plan.cut s) pair →
    IsGoodReference (length (param_values tree)) (scope_of tree).ranks pair.first × IsGoodReference (length (param_values tree)) (scope_of tree).ranks pair.second
within_good tree plan s pair formed here among =
    let G = IsGoodReference (length (param_values tree)) (scope_of tree).ranks in
    let all = phase_good tree plan s formed here in
    all-contained (AreGood tree) (pairs_within plan.cut s) pair (firsts G (shared_of plan.cut s) (references_of s) (kept_good G (λ r. not (is_own_in plan.cut s r)) (references_of s) all) all) among

-- ---- the conditions

good_conditions : (constants : ℕ) (version : Version) (conditions : Conditions) → are_good_conditions constants version conditions ≡ true → AreGoodConditions constants conditions
good_conditions constants version Values h = tt
good_conditions constants version (Rows rows) h = (and_parts (has_rows version) (list_all (is_good_row constants) rows) h).1

pub fit_conditions : (tree : Tree) (plan : Plan) → IsFit tree plan → AreGoodConditions (length (param_values tree)) plan.conditions × (unmet (param_values tree) plan.conditions ≡ None)
fit_conditions tree plan fits =
    let text = static_phases tree plan.cut.marks in
    let constants = length tree.params in
    let first = neither (as_misfit shape (wrong_field tree plan)) _ fits in
    let second = neither (as_misfit placement (unplaced tree plan.cut.marks plan.workers (placed_anchors plan))) _ first.1 in
    let third = neither (as_misfit print_place (misplaced_print 1 plan.cut.marks text plan.anchors)) _ second.1 in
    let none = nothing_misfits shape (wrong_field tree plan) first.0 in
    let conditions = (shaped tree plan none).conditions in
    let as_many : constants ≡ length (param_values tree) = sym (length-map tree.params (λ (c : Constant). c.value)) in
    (subst (λ n. AreGoodConditions n plan.conditions) as_many (good_conditions constants plan.version plan.conditions conditions), nothing_misfits condition (unmet (param_values tree) plan.conditions) third.1)
