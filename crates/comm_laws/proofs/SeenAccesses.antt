-- What others see of an execution at a cell is an access of its phase that others see; a private scalar's is made in the last trip.
use Rattle.std.proofs.Common.{◌≡◌, ℕ, ◌+◌, ◌-◌, ◌⊎◌, ◌&&◌, ◌||◌, ◌==◌, not, nat_lt, unsigned_abs, ℤ, ◌+ℤ◌, Bool, true, false, true≢false, cond, Option, Some, None, List, [], ◌∷◌, ◌++◌, append_assoc, length, map, if◌then◌else◌, refl, ap, sym, ◌∙◌, subst, inl, inr, arith}
use Rattle.std.specs.Prelude.{find, slice_get}
use Rattle.std.specs.List.{AllByRecursion, Contains, flat_map, list_any}
use Rattle.std.specs.Option.{option_to_list}
use Rattle.std.proofs.lemmas.Bool.{and_parts, cases_Bool, eq-eqb, eqb-true, ltb-true}
use Rattle.std.proofs.lemmas.List.Elements.{Contains-append_cases}
use Rattle.list_lemmas.proofs.Elements.{filter_has}
use Rattle.list_lemmas.proofs.Each.{all_split}
use Rattle.nest_tree.specs.Form.{form_value, numbered}
use Rattle.nest_tree.specs.Layout.{first_cell}
use Rattle.nest_tree.specs.Tree.{Head, Statement, Statements, do_loop, work, continue, Tree, param_values}
use Rattle.nest_tree.specs.WellFormed.{IsWellFormed, names_only, scope_of}
use Rattle.nest_model.specs.Accesses.{loads_of, store_of}
use Rattle.nest_model.specs.Instances.{Instance, head_trips}
use Rattle.nest_walk.specs.Tables.{element, stores_in}
use Rattle.nest_rows.specs.Nested.{Nested, nested_among, nested_in}
use Rattle.nest_rows.proofs.Dots.{numbers}
use Rattle.nest_rows.proofs.GoodNesting.{IsGoodNested, works_good}
use Rattle.nest_rows.proofs.GroupsMet.{is_head_among}
use Rattle.nest_rows.proofs.Nesting.{all-at}
use Rattle.own_scalars.specs.OwnScalars.{is_other, is_plain_store, is_private, is_sum, some_of, stores, sum_scalars}
use Rattle.own_scalars.proofs.OwnLaws.{sums_there}
use Rattle.owner_partition.specs.Cuts.{Cutting}
use Rattle.owner_partition.specs.Marks.{enters_outer, is_sum_mark, mark_of}
use Rattle.owner_partition.specs.Phases.{Execution}
use Rattle.sync_plan.specs.declared.plan.Plan.{Plan}
use Rattle.sync_plan.specs.Conflicts.{first_work, is_last_store, is_last_trip, is_value, last_value, seen_by, seen_cells, seen_loads, seen_store, seen_stored, works_before}
use Rattle.sync_plan.specs.Fit.{IsFit}
use Rattle.sync_plan.specs.Own.{OwnLoop, is_cell_of, own_loop, own_loop_at, own_loop_of, own_of}
use Rattle.sync_plan.specs.Shape.{static_phases}
use Rattle.comm_system.specs.Meetings.{IsInLastTrip, IsInLastTripWhere, IsPast}
use Rattle.conflict_rules.specs.References.{Reference, StaticPhase, phases_of, reference_of, references_in, references_of, variable_of}
use Rattle.comm_system.specs.Shown.{is_among, is_private_in, is_summed, last_in, privates_in, shown_among, shown_of}
use Rattle.comm_laws.proofs.Accesses.{IsAccessAt, IsExecutedAt, load_access, nested_good, phase_there, store_access}
use Rattle.comm_laws.proofs.FirstStores.{first_at, first_store, path_among, store_shown}
use Rattle.comm_laws.proofs.FirstWorks.{first_work_is}
use Rattle.comm_laws.proofs.GoodReferences.{AllIn, among_phases}
use Rattle.comm_laws.proofs.LastTrips.{last_past}
use Rattle.comm_system.proofs.Lists.{contains_cases, contains_nothing}
use Rattle.comm_laws.proofs.Owners.{index_is, there as there_at}
use Rattle.comm_laws.proofs.PrivateScalars.{ArePrivate, IsScalar, among_all, at_scalar_cell, phase_private, private_scalar, text_stored}
use Rattle.comm_system.proofs.ShownLists.{shown_plain}

-- ---- lists

none_found : (p : ℕ → Bool) (vs : List ℕ) → find p vs ≡ None → list_any p vs ≡ false
none_found p [] e = refl
none_found p (v ∷ vs) e = by (p v) e (none_found p vs)
  where
    by : (b : Bool) → cond b (Some v) (find p vs) ≡ None → (find p vs ≡ None → list_any p vs ≡ false) → (b || list_any p vs) ≡ false
    by true e rest = absurd (cc)
    by false e rest = rest e

one_found : (p : ℕ → Bool) (vs : List ℕ) (v : ℕ) → find p vs ≡ Some v → (is_among vs v ≡ true) × (p v ≡ true)
one_found p [] v e = absurd (let no : None ≡ Some v = e in cc)
one_found p (w ∷ vs) v e = by (p w) refl e (one_found p vs v)
  where
    by : (b : Bool) → p w ≡ b → cond b (Some w) (find p vs) ≡ Some v → (find p vs ≡ Some v → (is_among vs v ≡ true) × (p v ≡ true)) → (is_among (w ∷ vs) v ≡ true) × (p v ≡ true)
    by true is e rest = let same : w ≡ v = cc in (ap (λ b. b || is_among vs v) (eq-eqb w v same), ap p (sym same) ∙ is)
    by false is e rest =
        let h = rest e in
        (or_right (w == v) (is_among vs v) h.0, h.1)
      where
        or_right : (a b : Bool) → b ≡ true → (a || b) ≡ true
        or_right true b h = refl
        or_right false b h = h

cell_among : (tree : Tree) (vs : List ℕ) (v cell : ℕ) → is_among vs v ≡ true → first_cell tree v ≡ cell → is_cell_of tree vs cell ≡ true
cell_among tree [] v cell among is = absurd (true≢false (sym among))
cell_among tree (w ∷ vs) v cell among is = elim (cases_Bool (w == v)) [
  | inl same ↦ ap (λ b. b || is_cell_of tree vs cell) (eq-eqb (first_cell tree w) cell (ap (first_cell tree) (eqb-true w v same) ∙ is))
  | inr other ↦ behind (first_cell tree w == cell) (cell_among tree vs v cell (sym (ap (λ b. b || is_among vs v) other) ∙ among) is)
]
  where
    behind : (b : Bool) → is_cell_of tree vs cell ≡ true → (b || is_cell_of tree vs cell) ≡ true
    behind true h = refl
    behind false h = h

listed : (vs : List ℕ) (v : ℕ) → Contains vs v → is_among vs v ≡ true
listed [] v c = absurd (contains_nothing v c)
listed (w ∷ vs) v c = by (λ d. listed vs v d) (contains_cases w v vs c)
  where
    behind : (b : Bool) → is_among vs v ≡ true → (b || is_among vs v) ≡ true
    behind true is = refl
    behind false is = is

    by : (Contains vs v → is_among vs v ≡ true) → (w ≡ v) ⊎ Contains vs v → is_among (w ∷ vs) v ≡ true
    by rest (inl same) = ap (λ b. b || is_among vs v) (eq-eqb w v same)
    by rest (inr later) = behind (w == v) (rest later)

-- the loop inside these
inside_these : (heads : List Head) (head : Head) (inner : List Head) → slice_get (heads ++ head ∷ inner) (length heads) ≡ Some head
inside_these [] head inner = refl
inside_these (g ∷ heads) head inner = inside_these heads head inner

-- ---- an access that others see

-- the loop of a phase is in its last trip
abbrev pub IsOwnLast : Bool → List ℤ → Statement → List ℤ → Type 0
IsOwnLast false params what loops = Unit {0}
IsOwnLast true params (do_loop head body) loops = IsPast head.step (numbered loops head.number +ℤ head.step) (form_value head.m2 loops params)
IsOwnLast true params (work w) loops = ⊥
IsOwnLast true params (continue line) loops = ⊥

pub record IsSeen (tree : Tree) (cut : Cutting) (phase : StaticPhase) (around : List Head) (i : Instance) (a : Reference) : Type 0 where
  pub shown : Contains (shown_of cut phase) a
  pub last : IsInLastTripWhere (last_in cut phase a) (param_values tree) i.loops around
  pub own : IsOwnLast (is_private_in cut phase a) (param_values tree) phase.what i.loops

module _ (tree : Tree) (plan : Plan) (formed : IsWellFormed tree) (fits : IsFit tree plan) (x : Execution) (e : ℕ) (h : IsExecutedAt tree plan.cut.marks x e) where
  abbrev phase : StaticPhase
  phase = record { what = h.station.visit.what; outer = h.station.heads }

  abbrev around : List Head
  around = h.station.heads ++ h.placed.inner.heads

  abbrev privates : List ℕ
  privates = privates_in plan.cut h.station.visit.what

  abbrev Seen : ℕ → Reference → Type 0
  Seen cell a = IsAccessAt tree phase around x.instance cell a × IsSeen tree plan.cut phase around x.instance a

  static_at : slice_get (static_phases tree plan.cut.marks) (x.place - 1) ≡ Some (record { what = h.station.visit.what; around = (there_at tree plan formed fits e h.station h.at).there.around })
  static_at =
      let f = there_at tree plan formed fits e h.station h.at in
      ap (λ n. slice_get (static_phases tree plan.cut.marks) (n - 1)) h.place_is ∙ ap (slice_get (static_phases tree plan.cut.marks)) (index_is tree plan formed fits e h.station h.at) ∙ f.there.at

  own_is : own_loop tree plan x.place ≡ own_loop_of plan.cut h.station.visit.what
  own_is = ap (own_loop_at plan.cut) static_at

  own_privates : (what : Statement) → (own_loop_of plan.cut what).privates ≡ privates_in plan.cut what
  own_privates (do_loop head body) = refl
  own_privates (work w) = refl
  own_privates (continue line) = refl

  privates_are : (own_loop tree plan x.place).privates ≡ privates_in plan.cut h.station.visit.what
  privates_are = ap (λ (o : OwnLoop). o.privates) own_is ∙ own_privates h.station.visit.what

  -- the pieces of work of the phase are good
  goods : AllByRecursion (IsGoodNested (scope_of tree)) (nested_in h.station.heads h.station.visit.what)
  goods =
      let P = IsGoodNested (scope_of tree) in
      all-at (AllIn P) (phases_of tree plan.cut.marks) (h.station.visit.place - 1) phase (among_phases P (enters_outer plan.cut.marks) [] tree.items (works_good tree formed)) (phase_there tree plan.cut.marks formed e h.station h.at)

  -- a private scalar is one that may be private, and a scalar
  pub record IsLoopPrivate (v : ℕ) : Type 0 where
    pub head : Head
    pub body : Statements
    pub what : h.station.visit.what ≡ do_loop head body
    pub private : is_private v body ≡ true
    pub scalar : IsScalar tree v

  loop_private : (v : ℕ) → is_among (privates_in plan.cut h.station.visit.what) v ≡ true → IsLoopPrivate v
  loop_private v among = by h.station.visit.what refl
    where
      by : (what : Statement) → h.station.visit.what ≡ what → IsLoopPrivate v
      by (do_loop head body) is =
          let are = subst (λ w. ArePrivate plan.cut w) is (phase_private tree plan fits (h.station.visit.place - 1) phase (phase_there tree plan.cut.marks formed e h.station h.at)) in
          let private = among_all (λ u. is_private u body ≡ true) (privates_in plan.cut (do_loop head body)) v (sym (ap (λ w. is_among (privates_in plan.cut w) v) is) ∙ among) are in
          record { head = head; body = body; what = is; private = private; scalar = private_scalar tree v (h.station.heads ++ head ∷ []) body (subst (λ w. AllByRecursion (IsGoodNested (scope_of tree)) (nested_in h.station.heads w)) is goods) private }
      by (work w) is = absurd (true≢false (sym among ∙ ap (λ u. is_among (privates_in plan.cut u) v) is))
      by (continue line) is = absurd (true≢false (sym among ∙ ap (λ u. is_among (privates_in plan.cut u) v) is))

  -- at a cell of no private scalar
  plain_seen : (cell : ℕ) (a : Reference) → IsAccessAt tree phase around x.instance cell a → is_cell_of tree (own_loop tree plan x.place).privates cell ≡ false → IsSeen tree plan.cut phase around x.instance a
  plain_seen cell a access none = elim (cases_Bool (is_private_in plan.cut phase a)) [
    | inl private ↦
        let p = loop_private (variable_of a.what) private in
        let is = cell_among tree privates (variable_of a.what) cell private (at_scalar_cell tree (variable_of a.what) _ cell p.scalar access.touches.is) in
        absurd (true≢false (sym is ∙ sym (ap (λ vs. is_cell_of tree vs cell) privates_are) ∙ none))
    | inr plain ↦ record {
      shown = shown_plain privates [] (references_of phase) a access.among plain;
      last = subst (λ b. IsInLastTripWhere (if b then Some (length h.station.heads) else None) (param_values tree) x.instance.loops around) (sym plain) tt;
      own = subst (λ b. IsOwnLast b (param_values tree) h.station.visit.what x.instance.loops) (sym plain) tt;
    }
  ]

  pub seen_load : (cell : ℕ) → Contains (seen_loads tree plan x) cell → (a : Reference) × IsAccessAt tree phase around x.instance cell a × IsSeen tree plan.cut phase around x.instance a
  seen_load cell c =
      let k = filter_has (λ c. not (is_cell_of tree (own_loop tree plan x.place).privates c)) (loads_of tree x.instance) cell c in
      let a = load_access tree phase around x.instance cell h.placed.nested (nested_good tree plan.cut.marks formed x e h) h.placed.executed h.inside k.0 in
      (a.0, a.1, plain_seen cell a.0 a.1 (unkept (is_cell_of tree (own_loop tree plan x.place).privates cell) k.1))
    where
      unkept : (b : Bool) → not b ≡ true → b ≡ false
      unkept true h = absurd (true≢false (sym h))
      unkept false h = refl

  -- a private scalar's first store, in the last trip
  last_seen : (cell v : ℕ) (a : Reference) → is_among (privates_in plan.cut h.station.visit.what) v ≡ true → is_last_store tree plan x v ≡ true →
      Contains (map (λ y. reference_of (record { what = x.instance.what; around = around }) true (element y)) (stores_in x.instance.what)) a → IsSeen tree plan.cut phase around x.instance a
  last_seen cell v a among last stored =
      let p = loop_private v among in
      let params = param_values tree in
      let loops = x.instance.loops in
      let outer : List Head = h.station.heads ++ p.head ∷ [] in
      let f = first_store v outer p.body p.private in
      let inside : outer ++ path_among v p.body ≡ h.station.heads ++ p.head ∷ path_among v p.body = append_assoc h.station.heads (p.head ∷ []) (path_among v p.body) in
      let parts = and_parts (is_last_trip params (slice_get (static_phases tree plan.cut.marks) (x.place - 1)) loops) (x.instance.statement == first_work tree plan x.place + works_before v (own_loop tree plan x.place).body) last in
      let statement = eqb-true x.instance.statement (first_work tree plan x.place + works_before v (own_loop tree plan x.place).body) parts.1 in
      let body_is : (own_loop tree plan x.place).body ≡ p.body = ap (λ (o : OwnLoop). o.body) (own_is ∙ ap (own_loop_of plan.cut) p.what) in
      let before = ap (works_before v) body_is in
      let work_is = ap (first_work tree plan) h.place_is ∙ first_work_is tree plan e h.station h.at in
      let index : x.instance.statement - h.station.visit.first ≡ works_before v p.body = omega (arith, statement, before, work_is) in
      let number : slice_get (nested_among outer p.body) (works_before v p.body) ≡ Some (record { what = x.instance.what; around = around }) =
      sym (ap (λ w. slice_get (nested_in h.station.heads w) (works_before v p.body)) p.what) ∙ sym (ap (slice_get (nested_in h.station.heads h.station.visit.what)) index) ∙ h.placed.number in
      let same = some_nested (record { what = f.store; around = outer ++ path_among v p.body }) (record { what = x.instance.what; around = around }) (sym (first_at v (outer ++ path_among v p.body) (nested_among outer p.body) (works_before v p.body) f) ∙ number) in
      let split : nested_in h.station.heads h.station.visit.what ≡ f.before ++ record { what = x.instance.what; around = around } ∷ f.after = ap (nested_in h.station.heads) p.what ∙ f.split ∙ ap (λ n. f.before ++ n ∷ f.after) same in
      let good = all_split (IsGoodNested (scope_of tree)) f.before (record { what = x.instance.what; around = around } ∷ f.after) (subst (AllByRecursion (IsGoodNested (scope_of tree))) split goods) in
      let plain = ap (λ (n : Nested). is_plain_store v n.what) (sym same) ∙ f.plain in
      let there : Contains (shown_among privates [] (flat_map references_in (f.before ++ record { what = x.instance.what; around = around } ∷ f.after))) a = store_shown (scope_of tree) v p.scalar.rank privates f.before f.after x.instance.what around a among good.0 good.1.0 f.away plain stored in
      let around_is : h.station.heads ++ p.head ∷ path_among v p.body ≡ around = sym inside ∙ ap (λ (n : Nested). n.around) same in
      let heads = subst (λ hs. AllByRecursion (λ g. is_head_among (scope_of tree).constants (numbers hs) g ≡ true) hs) (sym around_is) good.1.0.heads in
      let head_good = (all_split (λ g. is_head_among (scope_of tree).constants (numbers (h.station.heads ++ p.head ∷ path_among v p.body)) g ≡ true) h.station.heads (p.head ∷ path_among v p.body) heads).1.0 in
      let moves = ltb-true 0 (unsigned_abs p.head.step) (and_parts (names_only (scope_of tree).constants (numbers (h.station.heads ++ p.head ∷ path_among v p.body)) p.head.m1 && names_only (scope_of tree).constants (numbers (h.station.heads ++ p.head ∷ path_among v p.body)) p.head.m2) (nat_lt 0 (unsigned_abs p.head.step)) head_good).1 in
      let trip : is_value (last_value (head_trips params p.head loops)) (numbered loops p.head.number) ≡ true =
      sym (ap (λ w. is_last_trip params (Some (record { what = w; around = (there_at tree plan formed fits e h.station h.at).there.around })) loops) p.what) ∙ sym (ap (λ o. is_last_trip params o loops) static_at) ∙ parts.0 in
      let past = last_past (form_value p.head.m1 loops params) (form_value p.head.m2 loops params) p.head.step (numbered loops p.head.number) moves trip in
      record {
        shown = subst (λ ns. Contains (shown_among privates [] (flat_map references_in ns)) a) (sym split) there;
        last = in_trip (is_private_in plan.cut phase a) (subst (IsInLastTrip params loops) (sym (inside_these h.station.heads p.head (path_among v p.body)) ∙ ap (λ hs. slice_get hs (length h.station.heads)) around_is) past);
        own = own_trip (is_private_in plan.cut phase a) (subst (λ w. IsOwnLast true params w loops) (sym p.what) past);
      }
    where
      some_nested : (m n : Nested) → Some m ≡ Some n → m ≡ n
      some_nested m n is = cc

      in_trip : (b : Bool) → IsInLastTrip (param_values tree) x.instance.loops (slice_get around (length h.station.heads)) → IsInLastTripWhere (if b then Some (length h.station.heads) else None) (param_values tree) x.instance.loops around
      in_trip true is = is
      in_trip false is = tt

      own_trip : (b : Bool) → IsOwnLast true (param_values tree) h.station.visit.what x.instance.loops → IsOwnLast b (param_values tree) h.station.visit.what x.instance.loops
      own_trip true is = is
      own_trip false is = tt

  pub seen_stores : (cell : ℕ) → seen_store tree plan x ≡ Some cell → (a : Reference) × IsAccessAt tree phase around x.instance cell a × IsSeen tree plan.cut phase around x.instance a × (a.stores ≡ true)
  seen_stores cell is = by (store_of tree x.instance) refl is
    where
      made : (c : ℕ) → store_of tree x.instance ≡ Some c → (a : Reference) × IsAccessAt tree phase around x.instance c a × (a.stores ≡ true) × Contains (map (λ y. reference_of (record { what = x.instance.what; around = around }) true (element y)) (stores_in x.instance.what)) a
      made c at = store_access tree phase around x.instance c h.placed.nested (nested_good tree plan.cut.marks formed x e h) h.placed.executed h.inside at

      found : (c : ℕ) → store_of tree x.instance ≡ Some c → (o : Option ℕ) → find (λ v. first_cell tree v == c) (own_loop tree plan x.place).privates ≡ o → seen_by tree plan x c o ≡ Some cell →
          (a : Reference) × IsAccessAt tree phase around x.instance cell a × IsSeen tree plan.cut phase around x.instance a × (a.stores ≡ true)
      found c at None none seen =
          let same : c ≡ cell = cc in
          let a = made cell (at ∙ ap Some same) in
          let away = none_found (λ v. first_cell tree v == c) (own_loop tree plan x.place).privates none in
          (a.0, a.1, plain_seen cell a.0 a.1 (sym (ap (is_cell_of tree (own_loop tree plan x.place).privates) same) ∙ away), a.2)
      found c at (Some v) one seen = last (is_last_store tree plan x v) refl seen
        where
          last : (b : Bool) → is_last_store tree plan x v ≡ b → (if b then Some c else None) ≡ Some cell → (a : Reference) × IsAccessAt tree phase around x.instance cell a × IsSeen tree plan.cut phase around x.instance a × (a.stores ≡ true)
          last true is seen =
              let same : c ≡ cell = cc in
              let a = made cell (at ∙ ap Some same) in
              let among = (one_found (λ v. first_cell tree v == c) (own_loop tree plan x.place).privates v one).0 in
              (a.0, a.1, last_seen cell v a.0 (sym (ap (λ vs. is_among vs v) privates_are) ∙ among) is a.3, a.2)
          last false is seen = absurd (let no : None ≡ Some cell = seen in cc)

      by : (o : Option ℕ) → store_of tree x.instance ≡ o → seen_stored tree plan x o ≡ Some cell → (a : Reference) × IsAccessAt tree phase around x.instance cell a × IsSeen tree plan.cut phase around x.instance a × (a.stores ≡ true)
      by None at seen = absurd (let no : None ≡ Some cell = seen in cc)
      by (Some c) at seen = found c at (find (λ v. first_cell tree v == c) (own_loop tree plan x.place).privates) refl seen

  pub seen_any : (cell : ℕ) → Contains (seen_cells tree plan x) cell → (a : Reference) × IsAccessAt tree phase around x.instance cell a × IsSeen tree plan.cut phase around x.instance a
  seen_any cell c = elim (Contains-append_cases (seen_loads tree plan x) (option_to_list (seen_store tree plan x)) cell c) [
    | inl load ↦ seen_load cell load
    | inr store ↦ let a = seen_stores cell (stored (seen_store tree plan x) store) in (a.0, a.1, a.2)
  ]
    where
      stored : (o : Option ℕ) → Contains (option_to_list o) cell → o ≡ Some cell
      stored None k = absurd (contains_nothing cell k)
      stored (Some n) k = elim (contains_cases n cell [] k) [ inl same ↦ ap Some same | inr none ↦ absurd (contains_nothing cell none) ]

  -- at a sum scalar's access the cell is that of one
  pub sum_seen : (cell : ℕ) (a : Reference) → IsAccessAt tree phase around x.instance cell a → is_summed plan.cut h.station.visit.what (variable_of a.what) ≡ true → (own_of tree plan x.place).is_sum cell ≡ true
  sum_seen cell a access summed = by h.station.visit.what refl
    where
      by : (what : Statement) → h.station.visit.what ≡ what → (own_of tree plan x.place).is_sum cell ≡ true
      by (do_loop head body) is =
          let v = variable_of a.what in
          let marked = is_sum_mark (mark_of plan.cut.marks head.number) in
          let parts = and_parts marked (is_sum v body) (sym (ap (λ w. is_summed plan.cut w v) is) ∙ summed) in
          let stored = (and_parts (some_of (stores v) body) (not (some_of (is_other v) body)) parts.1).0 in
          let scalar = text_stored tree v (h.station.heads ++ head ∷ []) body (subst (λ w. AllByRecursion (IsGoodNested (scope_of tree)) (nested_in h.station.heads w)) is goods) stored in
          let sums : (own_loop tree plan x.place).sums ≡ sum_scalars body = ap (λ (o : OwnLoop). o.sums) (own_is ∙ ap (own_loop_of plan.cut) is) ∙ ap (λ b. if b then sum_scalars body else []) parts.0 in
          ap (λ vs. is_cell_of tree vs cell) sums ∙ cell_among tree (sum_scalars body) v cell (listed (sum_scalars body) v (sums_there body v parts.1)) (at_scalar_cell tree v _ cell scalar access.touches.is)
      by (work w) is = absurd (true≢false (sym summed ∙ ap (λ u. is_summed plan.cut u (variable_of a.what)) is))
      by (continue line) is = absurd (true≢false (sym summed ∙ ap (λ u. is_summed plan.cut u (variable_of a.what)) is))
