-- The private scalars of a phase rise, and the first access of each is a store.
use Rattle.std.proofs.Common.{◌≡◌, ℕ, ◌&&◌, ◌||◌, ◌==◌, not, nat_le, Bool, true, false, true≢false, None, List, [], ◌∷◌, ◌++◌, length, if◌then◌else◌, refl, ap, sym, ◌∙◌, subst, inl, inr, arith}
use Rattle.std.specs.Prelude.{is_none}
use Rattle.std.specs.List.{AllByRecursion, flat_map, list_all}
use Rattle.std.proofs.lemmas.Bool.{and_parts, cases_Bool, eqb-true}
use Rattle.list_lemmas.proofs.Each.{all_split}
use Rattle.nest_tree.specs.Tree.{Head, Work, assign, print, Statement, Statements, do_loop, work, continue, done, next, Tree}
use Rattle.nest_tree.specs.WellFormed.{IsWellFormed, Scope, loops_of, scope_of}
use Rattle.nest_walk.specs.Tables.{element}
use Rattle.nest_rows.specs.Nested.{Nested, nested_among, nested_in}
use Rattle.nest_rows.proofs.GoodNesting.{IsGoodNested, works_good}
use Rattle.nest_rows.proofs.Nesting.{all-append}
use Rattle.own_scalars.specs.OwnScalars.{has_access, is_of, is_plain_store, is_private, loads}
use Rattle.owner_partition.specs.Cuts.{Cutting, privates_of}
use Rattle.owner_partition.specs.Marks.{enters_outer, is_doall, mark_of}
use Rattle.owner_partition.specs.declared.cut.Mark.{Mark}
use Rattle.sync_plan.specs.declared.plan.Plan.{Plan}
use Rattle.sync_plan.specs.declared.plan.Version.{Version}
use Rattle.sync_plan.specs.Shape.{are_good_anchors, are_good_conditions, are_good_kinds, are_good_privates, are_marked_well, do_rise, has_good_privates, has_privates, have_good_privates, have_good_sums, is_privately_good, static_phases, wrong_field}
use Rattle.sync_plan.proofs.Fits.{field_right}
use Rattle.comm_system.specs.References.{Reference, StaticPhase, phases_among, phases_in, phases_of, reference_of, references_in, variable_of}
use Rattle.comm_laws.proofs.FirstStores.{first_store, path_among, store_first, stored_rank}
use Rattle.comm_laws.proofs.GoodReferences.{AllIn, among_phases, stored_good}
use Rattle.obligation_numbers.proofs.Counted.{AreStoredFirst}
use Rattle.obligation_numbers.proofs.SeenSums.{first_stores}

first_behind : (v : ℕ) (before : List Reference) (r : Reference) (rest : List Reference) → AllByRecursion (λ (b : Reference). (variable_of b.what == v) ≡ false) before → (variable_of r.what == v) ≡ true → first_stores v (before ++ r ∷ rest) ≡ r.stores
first_behind v [] r rest away here = ap (λ b. if b then r.stores else first_stores v rest) here
first_behind v (b ∷ before) r rest away here = ap (λ c. if c then b.stores else first_stores v (before ++ r ∷ rest)) away.0 ∙ first_behind v before r rest away.1 here

-- behind pieces of work that haven't a scalar, a plain store of it is its first access
module _ (scope : Scope) (v : ℕ) (around : List Head) (before after : List Nested) where
  abbrev there : Work → List Nested
  there w = before ++ record { what = w; around = around } ∷ after

  plain_first : (w : Work) → is_plain_store v w ≡ true → AllByRecursion (IsGoodNested scope) (there w) → AllByRecursion (λ (n : Nested). has_access v n.what ≡ false) before → first_stores v (flat_map references_in (there w)) ≡ true
  plain_first (print p) plain goods none = absurd (true≢false (sym plain))
  plain_first (assign s) plain goods none =
      let n : Nested = record { what = assign s; around = around } in
      let split = all_split (IsGoodNested scope) before (n ∷ after) goods in
      let q = and_parts (is_of v s.target && not (loads v s.value)) (is_none s.guard) plain in
      let o = and_parts (is_of v s.target) (not (loads v s.value)) q.0 in
      let scalar = (stored_rank scope split.1.0.loops v s.target (stored_good scope split.1.0.loops (assign s) split.1.0.good).0 o.0).0 in
      let f = store_first scope v scalar before after s around split.0 split.1.0 none plain in
      ap (first_stores v) f.split ∙ first_behind v f.before (reference_of n true (element s.target)) f.after f.away f.variable

module _ (scope : Scope) (around : List Head) (body : Statements) (goods : AllByRecursion (IsGoodNested scope) (nested_among around body)) where
  private_first : (v : ℕ) → is_private v body ≡ true → first_stores v (flat_map references_in (nested_among around body)) ≡ true
  private_first v is =
      let f = first_store v around body is in
      ap (λ ns. first_stores v (flat_map references_in ns)) f.split
      ∙ plain_first scope v (around ++ path_among v body) f.before f.after f.store f.plain (subst (AllByRecursion (IsGoodNested scope)) f.split goods) f.away

  privates_first : (vs : List ℕ) → list_all (λ v. is_private v body) vs ≡ true → AllByRecursion (λ v. first_stores v (flat_map references_in (nested_among around body)) ≡ true) vs
  privates_first [] good = tt
  privates_first (v ∷ vs) good = let parts = and_parts (is_private v body) (list_all (λ v. is_private v body) vs) good in (private_first v parts.0, privates_first vs parts.1)

pub good_parts : (version : Version) (mark : Mark) (body : Statements) (vs : List ℕ) → are_good_privates version mark body vs ≡ true → (do_rise 0 vs ≡ true) × (list_all (λ v. is_private v body) vs ≡ true)
good_parts version mark body [] good = (refl, refl)
good_parts version mark body (v ∷ vs) good =
    let few = has_privates version && is_doall mark && nat_le (length (v ∷ vs)) 16 in
    let each = list_all (λ v. is_private v body) (v ∷ vs) in
    elim (cases_Bool (length (v ∷ vs) == 0)) [
      | inl empty ↦ let none = eqb-true (length (v ∷ vs)) 0 empty in absurd (omega (arith, none))
      | inr some ↦
          let parts = and_parts (few && do_rise 0 (v ∷ vs)) each (sym (ap (λ b. b || (few && do_rise 0 (v ∷ vs) && each)) some) ∙ good) in
          ((and_parts few (do_rise 0 (v ∷ vs)) parts.0).1, parts.1)
    ]

phase_first : (scope : Scope) (version : Version) (cut : Cutting) (outer : List Head) (s : Statement) → has_good_privates version cut s ≡ true → AllByRecursion (IsGoodNested scope) (nested_in outer s) → AreStoredFirst cut (record { what = s; outer = outer })
phase_first scope version cut outer (do_loop head body) good goods =
    let vs = privates_of cut.privates head.number in
    let parts = good_parts version (mark_of cut.marks head.number) body vs (and_parts (are_good_privates version (mark_of cut.marks head.number) body vs) (have_good_privates version cut body) good).0 in
    (parts.0, privates_first scope (outer ++ head ∷ []) body goods vs parts.1)
phase_first scope version cut outer (work w) good goods = (refl, tt)
phase_first scope version cut outer (continue line) good goods = (refl, tt)

-- ---- the phases of a plan

module _ (version : Version) (cut : Cutting) (enters : ℕ → Bool) where
  mutual
    good_in : (outer : List Head) (s : Statement) → has_good_privates version cut s ≡ true → AllByRecursion (λ (p : StaticPhase). has_good_privates version cut p.what ≡ true) (phases_in enters outer s)
    good_in outer (do_loop head body) good =
        let parts = and_parts (are_good_privates version (mark_of cut.marks head.number) body (privates_of cut.privates head.number)) (have_good_privates version cut body) good in
        elim (enters head.number) as (λ b. AllByRecursion (λ (p : StaticPhase). has_good_privates version cut p.what ≡ true) (if b then phases_among enters (outer ++ head ∷ []) body else record { what = do_loop head body; outer = outer } ∷ []))
        [ true ↦ good_among (outer ++ head ∷ []) body parts.1 | false ↦ (good, tt) ]
    good_in outer (work w) good = (refl, tt)
    good_in outer (continue line) good = tt

    pub good_among : (outer : List Head) (ss : Statements) → have_good_privates version cut ss ≡ true → AllByRecursion (λ (p : StaticPhase). has_good_privates version cut p.what ≡ true) (phases_among enters outer ss)
    good_among outer done good = tt
    good_among outer (next s rest) good =
        let parts = and_parts (has_good_privates version cut s) (have_good_privates version cut rest) good in
        all-append (λ (p : StaticPhase). has_good_privates version cut p.what ≡ true) (phases_in enters outer s) (phases_among enters outer rest) (good_in outer s parts.0) (good_among outer rest parts.1)

each_first : (scope : Scope) (version : Version) (cut : Cutting) (ps : List StaticPhase) → AllByRecursion (λ (p : StaticPhase). has_good_privates version cut p.what ≡ true) ps → AllByRecursion (AllIn (IsGoodNested scope)) ps → AllByRecursion (AreStoredFirst cut) ps
each_first scope version cut [] good goods = tt
each_first scope version cut (p ∷ ps) good goods = (phase_first scope version cut p.outer p.what good.0 goods.0, each_first scope version cut ps good.1 goods.1)

pub shape_privates : (tree : Tree) (plan : Plan) → wrong_field tree plan ≡ None → have_good_privates plan.version plan.cut tree.items ≡ true
shape_privates tree plan none =
    let text = static_phases tree plan.cut.marks in
    let constants = length tree.params in
    let workers = field_right (nat_le 1 plan.workers && nat_le plan.workers 64) 1 _ none in
    let marks = field_right (length plan.cut.marks == loops_of tree.items) 2 _ workers.1 in
    let marked = field_right (are_marked_well plan.cut.marks false tree.items) 3 _ marks.1 in
    let counts = field_right (length plan.anchors == length text && length plan.kinds == length text) 4 _ marked.1 in
    let anchors = field_right (are_good_anchors constants plan.cut.marks text plan.anchors) 5 _ counts.1 in
    let kinds = field_right (are_good_kinds constants text plan.kinds) 6 _ anchors.1 in
    let conditions = field_right (are_good_conditions constants plan.version plan.conditions) 8 _ kinds.1 in
    let sums = field_right (have_good_sums plan.version plan.cut.marks tree.items) 9 _ conditions.1 in
    let privates = field_right (is_privately_good plan.version plan.cut tree.items) 10 _ sums.1 in
    (and_parts (length plan.cut.privates == loops_of tree.items) (have_good_privates plan.version plan.cut tree.items) privates.0).1

pub stored_first : (tree : Tree) (plan : Plan) → IsWellFormed tree → wrong_field tree plan ≡ None → AllByRecursion (AreStoredFirst plan.cut) (phases_of tree plan.cut.marks)
stored_first tree plan formed none =
    let enters = enters_outer plan.cut.marks in
    each_first (scope_of tree) plan.version plan.cut (phases_of tree plan.cut.marks) (good_among plan.version plan.cut enters [] tree.items (shape_privates tree plan none))
    (among_phases (IsGoodNested (scope_of tree)) enters [] tree.items (works_good tree formed))
