-- The first access of a private scalar in a loop's text is the store of an assignment, which others see.
use Rattle.std.proofs.Common.{◌≡◌, ℕ, ◌+◌, ◌⊎◌, ◌&&◌, ◌==◌, not, nat_lt, Bool, true, false, true≢false, Some, List, [], ◌∷◌, ◌++◌, append_assoc, length, length-append, map, if◌then◌else◌, refl, ap, sym, ◌∙◌, subst, inl, inr, arith}
use Rattle.std.specs.Prelude.{is_none, slice_get}
use Rattle.std.specs.List.{AllByRecursion, Contains, flat_map, list_any}
use Rattle.std.proofs.lemmas.Bool.{and_from, and_parts, cases_Bool, eq-eqb, eqb-true, ltb-true}
use Rattle.std.proofs.lemmas.Grind.{flat_map-append}
use Rattle.std.proofs.lemmas.List.{append-nil}
use Rattle.std.proofs.lemmas.List.Folds.{list_any-append}
use Rattle.list_lemmas.proofs.Gets.{get-behind}
use Rattle.list_lemmas.proofs.Each.{all_split}
use Rattle.nest_tree.specs.declared.tree.Access.{Access}
use Rattle.nest_tree.specs.Loads.{loads_in, loads_in_item, loads_in_work}
use Rattle.nest_tree.specs.Tree.{Head, Printed, value, whole, text, Assignment, Work, assign, print, Statement, Statements, do_loop, work, continue, done, next}
use Rattle.nest_tree.specs.WellFormed.{Scope, is_good_access, is_number_of, rank_of}
use Rattle.nest_walk.specs.Tables.{Loaded, element, loaded_in_item, loaded_in_work, stores_in}
use Rattle.nest_model.specs.Instances.{works_in, works_of}
use Rattle.nest_rows.specs.Nested.{Nested, nested_among, nested_in}
use Rattle.nest_rows.proofs.GoodNesting.{IsGoodNested}
use Rattle.nest_rows.proofs.Nesting.{all-append}
use Rattle.own_scalars.specs.OwnScalars.{has_access, is_of, is_plain_store, is_private, is_stored_first, loads, some_in, some_of, stores}
use Rattle.own_scalars.proofs.Stored.{neither}
use Rattle.sync_plan.specs.Conflicts.{works_before, works_before_in}
use Rattle.conflict_rules.specs.References.{Reference, reference_of, references_in, variable_of}
use Rattle.comm_system.specs.Shown.{is_among, shown_among}
use Rattle.comm_laws.proofs.GoodReferences.{IsGoodLoaded, loaded_good, stored_good}
use Rattle.comm_system.proofs.Lists.{contains_cases, contains_nothing}
use Rattle.comm_system.proofs.ShownLists.{shown_first}

-- ---- where it stands in the text

mutual
  nested_count : (around : List Head) (s : Statement) → length (nested_in around s) ≡ works_in s
  nested_count around (do_loop head body) = nesteds_count (around ++ head ∷ []) body
  nested_count around (work w) = refl
  nested_count around (continue line) = refl

  nesteds_count : (around : List Head) (ss : Statements) → length (nested_among around ss) ≡ works_of ss
  nesteds_count around done = refl
  nesteds_count around (next s rest) = omega (arith, nested_count around s, nesteds_count around rest, length-append (nested_in around s) (nested_among around rest))

mutual
  none_nested : (v : ℕ) (around : List Head) (s : Statement) → some_in (has_access v) s ≡ false → AllByRecursion (λ (n : Nested). has_access v n.what ≡ false) (nested_in around s)
  none_nested v around (do_loop head body) none = nones_nested v (around ++ head ∷ []) body none
  none_nested v around (work w) none = (none, tt)
  none_nested v around (continue line) none = tt

  nones_nested : (v : ℕ) (around : List Head) (ss : Statements) → some_of (has_access v) ss ≡ false → AllByRecursion (λ (n : Nested). has_access v n.what ≡ false) (nested_among around ss)
  nones_nested v around done none = tt
  nones_nested v around (next s rest) none =
      let parts = neither (some_in (has_access v) s) (some_of (has_access v) rest) none in
      all-append (λ (n : Nested). has_access v n.what ≡ false) (nested_in around s) (nested_among around rest) (none_nested v around s parts.0) (nones_nested v around rest parts.1)

-- the path of a scalar: the loops inside a text round its first access, from the outermost
abbrev mutual
  pub path_in : ℕ → Statement → List Head
  path_in v (do_loop head body) = head ∷ path_among v body
  path_in v (work w) = []
  path_in v (continue line) = []

  pub path_among : ℕ → Statements → List Head
  path_among v done = []
  path_among v (next s rest) = if some_in (has_access v) s then path_in v s else path_among v rest

-- of these pieces of work one is a store without comparison inside these loops, and has so many in front of it, none of which has the scalar
pub record IsFirstStore (v : ℕ) (around : List Head) (all : List Nested) (front : ℕ) : Type 0 where
  pub before : List Nested
  pub store : Work
  pub after : List Nested
  pub split : all ≡ before ++ record { what = store; around = around } ∷ after
  pub place : front ≡ length before
  pub plain : is_plain_store v store ≡ true
  pub away : AllByRecursion (λ (n : Nested). has_access v n.what ≡ false) before

mutual
  first_in : (v : ℕ) (around : List Head) (s : Statement) → is_stored_first v s ≡ true → IsFirstStore v (around ++ path_in v s) (nested_in around s) (works_before_in v s)
  first_in v around (do_loop head body) is =
      subst (λ hs. IsFirstStore v hs (nested_among (around ++ head ∷ []) body) (works_before v body)) (append_assoc around (head ∷ []) (path_among v body)) (first_store v (around ++ head ∷ []) body is)
  first_in v around (work w) is = record { before = []; store = w; after = []; split = ap (λ hs. record { what = w; around = hs } ∷ []) (sym (append-nil around)); place = refl; plain = is; away = tt }
  first_in v around (continue line) is = absurd (true≢false (sym is))

  pub first_store : (v : ℕ) (around : List Head) (body : Statements) → is_private v body ≡ true → IsFirstStore v (around ++ path_among v body) (nested_among around body) (works_before v body)
  first_store v around done is = absurd (true≢false (sym is))
  first_store v around (next s rest) is = by (some_in (has_access v) s) refl (first_in v around s) (first_store v around rest) is
    where
      by : (b : Bool) → some_in (has_access v) s ≡ b → (is_stored_first v s ≡ true → IsFirstStore v (around ++ path_in v s) (nested_in around s) (works_before_in v s)) →
          (is_private v rest ≡ true → IsFirstStore v (around ++ path_among v rest) (nested_among around rest) (works_before v rest)) → (if b then is_stored_first v s else is_private v rest) ≡ true →
          IsFirstStore v (around ++ (if b then path_in v s else path_among v rest)) (nested_among around (next s rest)) (if b then works_before_in v s else works_in s + works_before v rest)
      by true e here later is =
          let f = here is in
          record {
            before = f.before;
            store = f.store;
            after = f.after ++ nested_among around rest;
            split = ap (λ ns. ns ++ nested_among around rest) f.split ∙ append_assoc f.before (record { what = f.store; around = around ++ path_in v s } ∷ f.after) (nested_among around rest);
            place = f.place;
            plain = f.plain;
            away = f.away;
          }
      by false e here later is =
          let f = later is in
          record {
            before = nested_in around s ++ f.before;
            store = f.store;
            after = f.after;
            split = ap (λ ns. nested_in around s ++ ns) f.split ∙ sym (append_assoc (nested_in around s) f.before (record { what = f.store; around = around ++ path_among v rest } ∷ f.after));
            place = omega (arith, f.place, nested_count around s, length-append (nested_in around s) f.before);
            plain = f.plain;
            away = all-append (λ (n : Nested). has_access v n.what ≡ false) (nested_in around s) f.before (none_nested v around s e) f.away;
          }

-- the piece of work there
pub first_at : (v : ℕ) (around : List Head) (all : List Nested) (front : ℕ) (f : IsFirstStore v around all front) → slice_get all front ≡ Some (record { what = f.store; around = around })
first_at v around all front f =
    let none : length f.before + 0 ≡ front = omega (arith, f.place) in
    let n : Nested = record { what = f.store; around = around } in
    ap (λ ns. slice_get ns front) f.split ∙ ap (slice_get (f.before ++ n ∷ f.after)) (sym none) ∙ get-behind f.before (n ∷ f.after) 0

-- ---- a scalar has no subscripts

-- a good piece of work that stores it plainly tells that it is one
pub stored_rank : (scope : Scope) (around : List ℕ) (v : ℕ) (a : Access) → is_good_access scope around a ≡ true → is_of v a ≡ true → (rank_of scope v ≡ 0) × (is_number_of (length scope.ranks) v ≡ true)
stored_rank scope around v a good is =
    let parts = and_parts (is_number_of (length scope.ranks) a.variable && length a.subscripts == rank_of scope a.variable) _ good in
    let two = and_parts (is_number_of (length scope.ranks) a.variable) (length a.subscripts == rank_of scope a.variable) parts.0 in
    let both = and_parts (a.variable == v) (length a.subscripts == 0) is in
    let same = eqb-true a.variable v both.0 in
    let none = eqb-true (length a.subscripts) 0 both.1 in
    let many = eqb-true (length a.subscripts) (rank_of scope a.variable) two.1 in
    (sym (ap (rank_of scope) same) ∙ sym many ∙ none, ap (is_number_of (length scope.ranks)) (sym same) ∙ two.0)

module _ (scope : Scope) (v : ℕ) (scalar : rank_of scope v ≡ 0) where
  access_away : (around : List ℕ) (a : Access) → is_good_access scope around a ≡ true → is_of v a ≡ false → (a.variable == v) ≡ false
  access_away around a good other = elim (cases_Bool (a.variable == v)) [
    | inl same ↦
        let parts = and_parts (is_number_of (length scope.ranks) a.variable && length a.subscripts == rank_of scope a.variable) _ good in
        let many = eqb-true (length a.subscripts) (rank_of scope a.variable) (and_parts (is_number_of (length scope.ranks) a.variable) (length a.subscripts == rank_of scope a.variable) parts.0).1 in
        let none : length a.subscripts ≡ 0 = many ∙ ap (rank_of scope) (eqb-true a.variable v same) ∙ scalar in
        absurd (true≢false (sym (and_from (a.variable == v) (length a.subscripts == 0) same (eq-eqb (length a.subscripts) 0 none)) ∙ other))
    | inr differs ↦ differs
  ]

  elements_away : (around : List ℕ) (xs : List Access) → AllByRecursion (IsGoodLoaded scope around) (map element xs) → list_any (is_of v) xs ≡ false → AllByRecursion (λ l. (variable_of l == v) ≡ false) (map element xs)
  elements_away around [] good none = tt
  elements_away around (x ∷ xs) good none =
      let parts = neither (is_of v x) (list_any (is_of v) xs) none in
      (access_away around x good.0 parts.0, elements_away around xs good.1 parts.1)

  item_away : (around : List ℕ) (p : Printed) → AllByRecursion (IsGoodLoaded scope around) (loaded_in_item p) → list_any (is_of v) (loads_in_item p) ≡ false → AllByRecursion (λ l. (variable_of l == v) ≡ false) (loaded_in_item p)
  item_away around (value e) good none = elements_away around (loads_in e) good none
  item_away around (whole variable) good none = (differs, tt)
    where
      differs : (variable == v) ≡ false
      differs = elim (cases_Bool (variable == v)) [
        | inl same ↦
            let some = ltb-true 0 (rank_of scope variable) (and_parts (is_number_of (length scope.ranks) variable) (nat_lt 0 (rank_of scope variable)) good.0).1 in
            let none : rank_of scope variable ≡ 0 = ap (rank_of scope) (eqb-true variable v same) ∙ scalar in
            absurd (omega (arith, some, none))
        | inr other ↦ other
      ]
  item_away around (text characters) good none = tt

  items_away : (around : List ℕ) (ps : List Printed) → AllByRecursion (IsGoodLoaded scope around) (flat_map loaded_in_item ps) → list_any (is_of v) (flat_map loads_in_item ps) ≡ false → AllByRecursion (λ l. (variable_of l == v) ≡ false) (flat_map loaded_in_item ps)
  items_away around [] good none = tt
  items_away around (p ∷ ps) good none =
      let goods = all_split (IsGoodLoaded scope around) (loaded_in_item p) (flat_map loaded_in_item ps) good in
      let parts = neither (list_any (is_of v) (loads_in_item p)) (list_any (is_of v) (flat_map loads_in_item ps)) (sym (list_any-append (is_of v) (loads_in_item p) (flat_map loads_in_item ps)) ∙ none) in
      all-append (λ l. (variable_of l == v) ≡ false) (loaded_in_item p) (flat_map loaded_in_item ps) (item_away around p goods.0 parts.0) (items_away around ps goods.1 parts.1)

  pub loaded_away : (around : List ℕ) (w : Work) → AllByRecursion (IsGoodLoaded scope around) (loaded_in_work w) → list_any (is_of v) (loads_in_work w) ≡ false → AllByRecursion (λ l. (variable_of l == v) ≡ false) (loaded_in_work w)
  loaded_away around (assign a) good none = elements_away around (loads_in a.value) good none
  loaded_away around (print p) good none = items_away around p.items good none

  pub loads_apart : (n : Nested) (ls : List Loaded) → AllByRecursion (λ l. (variable_of l == v) ≡ false) ls → AllByRecursion (λ (b : Reference). (variable_of b.what == v) ≡ false) (map (reference_of n false) ls)
  loads_apart n [] away = tt
  loads_apart n (l ∷ ls) away = (away.0, loads_apart n ls away.1)

  stores_apart : (n : Nested) (w : Work) (around : List ℕ) → AllByRecursion (λ a. is_good_access scope around a ≡ true) (stores_in w) → stores v w ≡ false → AllByRecursion (λ (b : Reference). (variable_of b.what == v) ≡ false) (map (λ a. reference_of n true (element a)) (stores_in w))
  stores_apart n (assign a) around good none = (access_away around a.target good.0 none, tt)
  stores_apart n (print p) around good none = tt

  -- the accesses of a piece of work that hasn't it
  nested_away : (n : Nested) → IsGoodNested scope n → has_access v n.what ≡ false → AllByRecursion (λ (b : Reference). (variable_of b.what == v) ≡ false) (references_in n)
  nested_away n good none =
      let parts = neither (list_any (is_of v) (loads_in_work n.what)) (stores v n.what) none in
      all-append (λ (b : Reference). (variable_of b.what == v) ≡ false) (map (reference_of n false) (loaded_in_work n.what)) (map (λ a. reference_of n true (element a)) (stores_in n.what))
      (loads_apart n (loaded_in_work n.what) (loaded_away good.loops n.what (loaded_good scope good.loops n.what good.good) parts.0)) (stores_apart n n.what good.loops (stored_good scope good.loops n.what good.good) parts.1)

  pub all_away : (ns : List Nested) → AllByRecursion (IsGoodNested scope) ns → AllByRecursion (λ (n : Nested). has_access v n.what ≡ false) ns → AllByRecursion (λ (b : Reference). (variable_of b.what == v) ≡ false) (flat_map references_in ns)
  all_away [] good none = tt
  all_away (n ∷ ns) good none = all-append (λ (b : Reference). (variable_of b.what == v) ≡ false) (references_in n) (flat_map references_in ns) (nested_away n good.0 none.0) (all_away ns good.1 none.1)

  -- a store of it is its first access
  pub record IsFirstAccess (rs : List Reference) (store : Reference) : Type 0 where
    pub before : List Reference
    pub after : List Reference
    pub split : rs ≡ before ++ store ∷ after
    pub away : AllByRecursion (λ (b : Reference). (variable_of b.what == v) ≡ false) before
    pub variable : (variable_of store.what == v) ≡ true

  pub store_first : (before after : List Nested) (s : Assignment) (around : List Head) → AllByRecursion (IsGoodNested scope) before → IsGoodNested scope (record { what = assign s; around = around }) → AllByRecursion (λ (m : Nested). has_access v m.what ≡ false) before → is_plain_store v (assign s) ≡ true →
      IsFirstAccess (flat_map references_in (before ++ record { what = assign s; around = around } ∷ after)) (reference_of (record { what = assign s; around = around }) true (element s.target))
  store_first before after s around goods good none plain =
      let n : Nested = record { what = assign s; around = around } in
      let t : Reference = reference_of n true (element s.target) in
      let q = and_parts (is_of v s.target && not (loads v s.value)) (is_none s.guard) plain in
      let o = and_parts (is_of v s.target) (not (loads v s.value)) q.0 in
      let first : List Reference = flat_map references_in before in
      let loaded : List Reference = map (reference_of n false) (loaded_in_work (assign s)) in
      let later : List Reference = flat_map references_in after in
      record {
        before = first ++ loaded;
        after = later;
        split = flat_map-append references_in before (n ∷ after) ∙ ap (λ l. first ++ l) (append_assoc loaded (t ∷ []) later) ∙ sym (append_assoc first loaded (t ∷ later));
        away = all-append (λ (b : Reference). (variable_of b.what == v) ≡ false) first loaded (all_away before goods none)
            (loads_apart n (loaded_in_work (assign s)) (loaded_away good.loops (assign s) (loaded_good scope good.loops (assign s) good.good) (unloaded (loads v s.value) o.1)));
        variable = (and_parts (s.target.variable == v) (length s.target.subscripts == 0) o.0).0;
      }
    where
      unloaded : (b : Bool) → not b ≡ true → b ≡ false
      unloaded true h = absurd (true≢false (sym h))
      unloaded false h = refl

  -- it is among the accesses that others see
  pub store_shown : (privates : List ℕ) (before after : List Nested) (w : Work) (around : List Head) (r : Reference) → is_among privates v ≡ true → AllByRecursion (IsGoodNested scope) before → IsGoodNested scope (record { what = w; around = around }) →
      AllByRecursion (λ (m : Nested). has_access v m.what ≡ false) before → is_plain_store v w ≡ true → Contains (map (λ x. reference_of (record { what = w; around = around }) true (element x)) (stores_in w)) r →
      Contains (shown_among privates [] (flat_map references_in (before ++ record { what = w; around = around } ∷ after))) r
  store_shown privates before after (print p) around r private goods good none plain is = absurd (true≢false (sym plain))
  store_shown privates before after (assign s) around r private goods good none plain is =
      let n : Nested = record { what = assign s; around = around } in
      let t : Reference = reference_of n true (element s.target) in
      let same : t ≡ r = only t (contains_cases t r [] is) in
      let f = store_first before after s around goods good none plain in
      let number : s.target.variable ≡ v = eqb-true s.target.variable v f.variable in
      let away : AllByRecursion (λ (b : Reference). (variable_of b.what == s.target.variable) ≡ false) f.before = subst (λ m. AllByRecursion (λ (b : Reference). (variable_of b.what == m) ≡ false) f.before) (sym number) f.away in
      let there = shown_first privates [] f.before f.after t (ap (is_among privates) number ∙ private) refl away in
      subst (λ z. Contains (shown_among privates [] (flat_map references_in (before ++ n ∷ after))) z) same (subst (λ rs. Contains (shown_among privates [] rs) t) (sym f.split) there)
    where
      only : (t : Reference) → (t ≡ r) ⊎ Contains [] r → t ≡ r
      only t (inl same) = same
      only t (inr none) = absurd (contains_nothing r none)
