-- The loops on the paths of a phase's private scalars are as many as are counted.
use Rattle.std.proofs.Common.{◌≡◌, ℕ, suc, ◌+◌, ◌-◌, Bool, true, false, None, List, [], ◌∷◌, ◌++◌, length, length-append, if◌then◌else◌, refl, ap, ◌∙◌, arith}
use Rattle.std.specs.Prelude.{sum_by}
use Rattle.std.specs.List.{AllByRecursion, list_all}
use Rattle.std.proofs.lemmas.Bool.{and_parts}
use Rattle.std.proofs.lemmas.List.{length-map}
use Rattle.std.proofs.lemmas.List.Concat.{length-flat_map}
use Rattle.std.proofs.lemmas.List.FromFn.{length-map-range_with_len}
use Rattle.std.proofs.lemmas.List.Sums.{sum_by-cons}
use Rattle.nest_tree.specs.Tree.{Head, Statement, Statements, do_loop, work, continue, done, next, Tree}
use Rattle.nest_tree.specs.WellFormed.{IsWellFormed, Scope, scope_of}
use Rattle.nest_rows.specs.Nested.{nested_among, nested_in}
use Rattle.nest_rows.proofs.GoodNesting.{IsGoodNested, works_good}
use Rattle.own_scalars.specs.OwnScalars.{has_access, is_private, path_length, path_length_in, some_in}
use Rattle.owner_partition.specs.Cuts.{privates_of}
use Rattle.owner_partition.specs.Marks.{enters_outer, mark_of}
use Rattle.sync_plan.specs.declared.plan.Plan.{Plan}
use Rattle.sync_plan.specs.Shape.{are_good_privates, has_good_privates, have_good_privates, wrong_field}
use Rattle.comm_system.specs.Obligations.{zero_trip_task}
use Rattle.comm_system.specs.Paths.{PathLoop, path_of, path_to, paths_of}
use Rattle.comm_system.specs.References.{StaticPhase, phases_of}
use Rattle.comm_laws.proofs.FirstStores.{first_store, path_among, path_in}
use Rattle.comm_laws.proofs.GoodReferences.{AllIn, among_phases}
use Rattle.comm_laws.proofs.FirstAccesses.{stored_there}
use Rattle.obligation_numbers.proofs.Counted.{ArePathsCounted}
use Rattle.obligation_numbers.proofs.StoredFirst.{good_among, good_parts, shape_privates}

-- ---- the path of a scalar

mutual
  long_in : (v : ℕ) (s : Statement) → length (path_in v s) ≡ path_length_in v s
  long_in v (do_loop head body) = ap suc (long_among v body)
  long_in v (work w) = refl
  long_in v (continue line) = refl

  long_among : (v : ℕ) (ss : Statements) → length (path_among v ss) ≡ path_length v ss
  long_among v done = refl
  long_among v (next s rest) = by (some_in (has_access v) s) (long_in v s) (long_among v rest)
    where
      by : (b : Bool) → length (path_in v s) ≡ path_length_in v s → length (path_among v rest) ≡ path_length v rest → length (if b then path_in v s else path_among v rest) ≡ (if b then path_length_in v s else path_length v rest)
      by true here later = here
      by false here later = later

module _ (scope : Scope) (outer : List Head) (head : Head) (body : Statements) (goods : AllByRecursion (IsGoodNested scope) (nested_among (outer ++ head ∷ []) body)) where
  abbrev phase : StaticPhase
  phase = record { what = do_loop head body; outer = outer }

  path_counted : (v : ℕ) → is_private v body ≡ true → length (path_of phase v) ≡ path_length v body
  path_counted v private =
      let first = first_store v (outer ++ head ∷ []) body private in
      let f = stored_there scope outer head body goods v first.store first.plain first.before first.after first.away first.split in
      let many = length outer + 1 in
      let around = ap length f.around in
      let long : length f.store.around ≡ many + length (path_among v body) = omega (arith, around, length-append (outer ++ head ∷ []) (path_among v body), length-append outer (head ∷ [])) in
      let inside : length f.store.around - many ≡ length (path_among v body) = omega (arith, long) in
      ap (λ o. length (path_to phase o)) f.is ∙ length-map-range_with_len {X = PathLoop} (λ k. record { store = f.store; outside = k }) many (length f.store.around - many) ∙ inside ∙ long_among v body

  each_counted : (vs : List ℕ) → list_all (λ v. is_private v body) vs ≡ true → sum_by (λ v. length (path_of phase v)) vs ≡ sum_by (λ v. path_length v body) vs
  each_counted [] good = refl
  each_counted (v ∷ vs) good =
      let parts = and_parts (is_private v body) (list_all (λ v. is_private v body) vs) good in
      omega (arith, sum_by-cons (λ v. length (path_of phase v)) v vs, sum_by-cons (λ v. path_length v body) v vs, path_counted v parts.0, each_counted vs parts.1)

-- ---- the phases of a plan

phase_counted : (tree : Tree) (plan : Plan) (outer : List Head) (s : Statement) → has_good_privates plan.version plan.cut s ≡ true → AllByRecursion (IsGoodNested (scope_of tree)) (nested_in outer s) → ArePathsCounted tree plan (record { what = s; outer = outer })
phase_counted tree plan outer (do_loop head body) good goods =
    let vs = privates_of plan.cut.privates head.number in
    let s : StaticPhase = record { what = do_loop head body; outer = outer } in
    let mark = mark_of plan.cut.marks head.number in
    let parts = good_parts plan.version mark body vs (and_parts (are_good_privates plan.version mark body vs) (have_good_privates plan.version plan.cut body) good).0 in
    length-map (paths_of plan.cut s) (zero_trip_task tree plan) ∙ length-flat_map (path_of s) vs ∙ each_counted (scope_of tree) outer head body goods vs parts.1
phase_counted tree plan outer (work w) good goods = refl
phase_counted tree plan outer (continue line) good goods = refl

all_phases : (tree : Tree) (plan : Plan) (ps : List StaticPhase) → AllByRecursion (λ (p : StaticPhase). has_good_privates plan.version plan.cut p.what ≡ true) ps → AllByRecursion (AllIn (IsGoodNested (scope_of tree))) ps → AllByRecursion (ArePathsCounted tree plan) ps
all_phases tree plan [] good goods = tt
all_phases tree plan (p ∷ ps) good goods = (phase_counted tree plan p.outer p.what good.0 goods.0, all_phases tree plan ps good.1 goods.1)

pub paths_counted : (tree : Tree) (plan : Plan) → IsWellFormed tree → wrong_field tree plan ≡ None → AllByRecursion (ArePathsCounted tree plan) (phases_of tree plan.cut.marks)
paths_counted tree plan formed none =
    let enters = enters_outer plan.cut.marks in
    all_phases tree plan (phases_of tree plan.cut.marks) (good_among plan.version plan.cut enters [] tree.items (shape_privates tree plan none)) (among_phases (IsGoodNested (scope_of tree)) enters [] tree.items (works_good tree formed))
