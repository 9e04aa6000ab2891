-- The rows that are kept.
use Rattle.std.proofs.Common.{◌≡◌, ℕ, zero, suc, ◌+◌, ◌-◌, ◌*◌, ◌<◌, ◌≤◌, ℤ, pos, true, false, List, [], ◌∷◌, ◌++◌, append_assoc, map, length, get_or, inl, inr, if◌then◌else◌, refl, ap, ap₂, sym, ◌∙◌, subst, arith}
use Rattle.std.specs.Prelude.{◌==◌, nat_le, Err, Ok, OnOk, Result}
use Rattle.std.specs.List.{All, flat_map, range_with_len}
use Rattle.std.proofs.lemmas.Bool.{cases_Bool, cases_eq, eq-eqb, eqb-true, le-leb, leb-true, lt-leb, ne_eqb, false≢true, or_cases, or_left, or_right}
use Rattle.std.proofs.lemmas.List.{append-nil, length-append, length-map, map-append}
use Rattle.std.proofs.lemmas.List.Elements.{All-append, All-cons, All-head, All-nil, All-tail}
use Rattle.std.proofs.lemmas.List.FromFn.{length-map-range_with_len}
use Rattle.farkas_cert.specs.declared.system.Row.{Row}
use Rattle.farkas_cert.specs.Inequalities.{AreFull, Inequalities}
use Rattle.farkas_cert.specs.Combination.{no_row, row_at}
use Rattle.presolve.specs.Columns.{AreRising, IsZeroOutside, KeepsAll, is_kept, kept_row, with_columns}
use Rattle.presolve.specs.Rows.{KeepsLast, rows_at, with_rows}
use Rattle.presolve.specs.Presolution.{IsPresolved, Presolution}
use Rattle.nest_tree.specs.declared.tree.Parameter.{Parameter}
use Rattle.nest_rows.specs.declared.constraint.Constraint.{Constraint}
use Rattle.nest_rows.specs.declared.constraint.Sign.TheVariants.{Plus, Minus}
use Rattle.nest_systems.specs.declared.kept.KeptRows.{KeptRows}
use Rattle.nest_rows.specs.Constraints.{coefficient, row_of, system_of}
use Rattle.nest_rows.specs.Groups.{constants_have, equal}
use Rattle.nest_systems.specs.Kept.{HasKept, IsConstant, NamesKept, numbers_of, row_over, value_of}
use Rattle.nest_systems.proofs.KeptConstants.{kept-left, kept-range, kept-right, last-rising, rising-append, rising-few, rising-range, weaker}
use Rattle.nest_systems.proofs.KeptPlaces.{kept-same, zero-outside}

pub keeps-none : (old : KeptRows) → HasKept [] [] old old
keeps-none old = record {
  columns = refl;
  numbers = sym (append-nil old.numbers.items);
  system = let of : List Row → Inequalities = λ rs. record { vars = old.system.vars; rows = rs } in ap of (sym (append-nil old.system.rows));
}

pub keeps-both : (cs ds : List Constraint) (ms ns : List ℕ) (old middle new : KeptRows) → HasKept cs ms old middle → HasKept ds ns middle new → HasKept (cs ++ ds) (ms ++ ns) old new
keeps-both cs ds ms ns old middle new h k = record {
  columns = k.columns ∙ h.columns;
  numbers = k.numbers ∙ ap (λ xs. xs ++ ns) h.numbers ∙ append_assoc old.numbers.items ms ns;
  system =
      let f = row_over old.columns.now in
      let of : ℕ → List Row → Inequalities = λ n rs. record { vars = n; rows = rs } in
      k.system ∙ ap (λ (c : _). of middle.system.vars (middle.system.rows ++ map (row_over c.now) ds)) h.columns
      ∙ ap (λ (s : Inequalities). of s.vars (s.rows ++ map f ds)) h.system
      ∙ ap (of old.system.vars) (append_assoc old.system.rows (map f cs) (map f ds) ∙ ap (λ rs. old.system.rows ++ rs) (sym (map-append f cs ds)));
}

pub on-ok : {T E : Type 0} (result : Result T E) (P Q : Type 0) → (P → Q) → OnOk result P → OnOk result Q
on-ok (Ok x) P Q f h = f h
on-ok (Err e) P Q f h = tt

-- the two rows of a value that is there
pub value-kept : (values : List ℤ) (n : ℕ) (v : ℤ) (old new : KeptRows) → 1 ≤ n → n ≤ length values → get_or values (n - 1) (pos 0) ≡ v → HasKept (equal Plus n v ∷ equal Minus n v ∷ []) ((2 * n - 1) ∷ 2 * n ∷ []) old new → HasKept (value_of values n) (numbers_of (length values) n) old new
value-kept values n v old new some le at h =
    let within = le-leb n (length values) le in
    let is : equal Plus n v ∷ equal Minus n v ∷ [] ≡ value_of values n = ap (λ z. equal Plus n z ∷ equal Minus n z ∷ []) (sym at) ∙ sym (ap (λ b. if b then equal Plus n (get_or values (n - 1) (pos 0)) ∷ equal Minus n (get_or values (n - 1) (pos 0)) ∷ [] else []) within) in
    let numbers : (2 * n - 1) ∷ 2 * n ∷ [] ≡ numbers_of (length values) n = sym (ap (λ b. if b then (2 * n - 1) ∷ 2 * n ∷ [] else []) within) in
    subst (λ cs. HasKept cs (numbers_of (length values) n) old new) is (subst (λ ns. HasKept (equal Plus n v ∷ equal Minus n v ∷ []) ns old new) numbers h)

pub value-at : (params : List Parameter) (i : ℕ) (d : Parameter) → i < length params → get_or (map (λ (q : Parameter). q.value) params) i (pos 0) ≡ (get_or params i d).value
value-at [] i d lt = absurd (omega arith)
value-at (q ∷ params) zero d lt = refl
value-at (q ∷ params) (suc i) d lt = value-at params i d (omega (arith, lt))

-- nothing of one that isn't
pub value-none : (values : List ℤ) (n : ℕ) (old : KeptRows) → length values < n → HasKept (value_of values n) (numbers_of (length values) n) old old
value-none values n old past =
    let out = lt-leb n (length values) past in
    subst (λ cs. HasKept cs (numbers_of (length values) n) old old) (sym (ap (λ b. if b then equal Plus n (get_or values (n - 1) (pos 0)) ∷ equal Minus n (get_or values (n - 1) (pos 0)) ∷ [] else []) out))
    (subst (λ ns. HasKept [] ns old old) (sym (ap (λ b. if b then (2 * n - 1) ∷ 2 * n ∷ [] else []) out)) (keeps-none old))

pub kept-vars : (cs : List Constraint) (ns : List ℕ) (old new : KeptRows) → HasKept cs ns old new → old.system.vars ≡ length old.columns.now → new.system.vars ≡ length new.columns.now
kept-vars cs ns old new h vars = ap (λ (s : Inequalities). s.vars) h.system ∙ vars ∙ ap (λ cols. length cols.now) (sym h.columns)

at-behind : {X : Type 0} (xs ys : List X) (i : ℕ) (d : X) → get_or (xs ++ ys) (length xs + i) d ≡ get_or ys i d
at-behind [] ys i d = let e : 0 + i ≡ i = omega arith in ap (λ k. get_or ys k d) e
at-behind (x ∷ xs) ys i d = let e : suc (length xs) + i ≡ suc (length xs + i) = omega arith in ap (λ k. get_or (x ∷ (xs ++ ys)) k d) e ∙ at-behind xs ys i d

-- the rows with the numbers behind the first ones
rows-behind : (xs ys : List Row) → map (row_at (xs ++ ys)) (range_with_len (length xs + 1) (length ys)) ≡ ys
rows-behind xs [] = refl
rows-behind xs (y ∷ ys) =
    let first : length xs + 1 - 1 ≡ length xs + 0 = omega arith in
    let here : row_at (xs ++ y ∷ ys) (length xs + 1) ≡ y = ap (λ k. get_or (xs ++ y ∷ ys) k no_row) first ∙ at-behind xs (y ∷ ys) 0 no_row in
    let whole : xs ++ y ∷ ys ≡ (xs ++ y ∷ []) ++ ys = sym (append_assoc xs (y ∷ []) ys) in
    let long : length xs + 1 + 1 ≡ length (xs ++ y ∷ []) + 1 = let l = length-append xs (y ∷ []) in omega (arith, l) in
    ap₂ (λ r rs. r ∷ rs) here (ap₂ (λ rows n. map (row_at rows) (range_with_len n (length ys))) whole long ∙ rows-behind (xs ++ y ∷ []) ys)

constants-long : (n : ℕ) (vs : List ℤ) → length (constants_have n vs) ≡ 2 * length vs
constants-long n [] = refl
constants-long n (v ∷ vs) = let more = constants-long (suc n) vs in omega (arith, more)

-- the rows of a constant's value
module _ (vars : ℕ) where
  value-rows : (n : ℕ) (vs : List ℤ) (cs : List Constraint) (i : ℕ) → i < length vs →
      (get_or (map (row_of vars) (constants_have n vs ++ cs)) (2 * i) no_row ≡ row_of vars (equal Plus (n + i) (get_or vs i (pos 0)))) × (get_or (map (row_of vars) (constants_have n vs ++ cs)) (2 * i + 1) no_row ≡ row_of vars (equal Minus (n + i) (get_or vs i (pos 0))))
  value-rows n [] cs i lt = absurd (omega arith)
  value-rows n (v ∷ vs) cs zero lt =
      let e : n ≡ n + 0 = omega arith in (ap (λ k. row_of vars (equal Plus k v)) e, ap (λ k. row_of vars (equal Minus k v)) e)
  value-rows n (v ∷ vs) cs (suc i) lt =
      let rows = map (row_of vars) (constants_have n (v ∷ vs) ++ cs) in
      let e : 2 * suc i ≡ suc (suc (2 * i)) = omega arith in
      let f : 2 * suc i + 1 ≡ suc (suc (2 * i + 1)) = omega arith in
      let g : suc n + i ≡ n + suc i = omega arith in
      let more = value-rows (suc n) vs cs i (omega (arith, lt)) in (
        ap (λ k. get_or rows k no_row) e ∙ more.0 ∙ ap (λ k. row_of vars (equal Plus k (get_or vs i (pos 0)))) g,
        ap (λ k. get_or rows k no_row) f ∙ more.1 ∙ ap (λ k. row_of vars (equal Minus k (get_or vs i (pos 0)))) g,
      )

  rows-of-value : (vs : List ℤ) (cs : List Constraint) (k : ℕ) → 1 ≤ k → map (row_at (map (row_of vars) (constants_have 1 vs ++ cs))) (numbers_of (length vs) k) ≡ map (row_of vars) (value_of vs k)
  rows-of-value vs cs k some = elim (cases_Bool (nat_le k (length vs))) [
    | inl holds ↦
        let le = leb-true k (length vs) holds in
        let rows = map (row_of vars) (constants_have 1 vs ++ cs) in
        let at = value-rows 1 vs cs (k - 1) (omega (arith, le, some)) in
        let one : 2 * k - 1 - 1 ≡ 2 * (k - 1) = omega (arith, some) in
        let two : 2 * k - 1 ≡ 2 * (k - 1) + 1 = omega (arith, some) in
        let back : 1 + (k - 1) ≡ k = omega (arith, some) in
        let v = get_or vs (k - 1) (pos 0) in
        ap (λ b. map (row_at rows) (if b then (2 * k - 1) ∷ 2 * k ∷ [] else [])) holds
        ∙ ap₂ (λ r s. r ∷ s ∷ []) (ap (λ j. get_or rows j no_row) one ∙ at.0 ∙ ap (λ j. row_of vars (equal Plus j v)) back) (ap (λ j. get_or rows j no_row) two ∙ at.1 ∙ ap (λ j. row_of vars (equal Minus j v)) back)
        ∙ sym (ap (λ b. map (row_of vars) (if b then equal Plus k v ∷ equal Minus k v ∷ [] else [])) holds)
    | inr fails ↦
        let rows = map (row_of vars) (constants_have 1 vs ++ cs) in
        let v = get_or vs (k - 1) (pos 0) in
        ap (λ b. map (row_at rows) (if b then (2 * k - 1) ∷ 2 * k ∷ [] else [])) fails ∙ sym (ap (λ b. map (row_of vars) (if b then equal Plus k v ∷ equal Minus k v ∷ [] else [])) fails)
  ]

  rows-of-values : (vs : List ℤ) (cs : List Constraint) (from upto : ℕ) (kept : List ℕ) → 1 ≤ from → AreRising from upto kept →
      map (row_at (map (row_of vars) (constants_have 1 vs ++ cs))) (flat_map (numbers_of (length vs)) kept) ≡ map (row_of vars) (flat_map (value_of vs) kept)
  rows-of-values vs cs from upto [] some rising = refl
  rows-of-values vs cs from upto (k ∷ kept) some rising =
      let rows = map (row_of vars) (constants_have 1 vs ++ cs) in
      map-append (row_at rows) (numbers_of (length vs) k) (flat_map (numbers_of (length vs)) kept)
      ∙ ap₂ (λ xs ys. xs ++ ys) (rows-of-value vs cs k (omega (arith, some, rising.0))) (rows-of-values vs cs (k + 1) upto kept (omega arith) rising.2)
      ∙ sym (map-append (row_of vars) (value_of vs k) (flat_map (value_of vs) kept))

  -- the rows that are kept are those of these constraints
  pub rows-kept : (vs : List ℤ) (cs : List Constraint) (upto : ℕ) (kept : List ℕ) → AreRising 1 upto kept →
      rows_at (flat_map (numbers_of (length vs)) kept ++ range_with_len (2 * length vs + 1) (length cs)) (map (row_of vars) (constants_have 1 vs ++ cs)) ≡ map (row_of vars) (flat_map (value_of vs) kept ++ cs)
  rows-kept vs cs upto kept rising =
      let rows = map (row_of vars) (constants_have 1 vs ++ cs) in
      let split : rows ≡ map (row_of vars) (constants_have 1 vs) ++ map (row_of vars) cs = map-append (row_of vars) (constants_have 1 vs) cs in
      let long : 2 * length vs ≡ length (map (row_of vars) (constants_have 1 vs)) = sym (length-map (constants_have 1 vs) (row_of vars) ∙ constants-long 1 vs) in
      let behind : map (row_at rows) (range_with_len (2 * length vs + 1) (length cs)) ≡ map (row_of vars) cs =
      ap (λ rs. map (row_at rs) (range_with_len (2 * length vs + 1) (length cs))) split
      ∙ ap₂ (λ n m. map (row_at (map (row_of vars) (constants_have 1 vs) ++ map (row_of vars) cs)) (range_with_len (n + 1) m)) long (sym (length-map cs (row_of vars)))
      ∙ rows-behind (map (row_of vars) (constants_have 1 vs)) (map (row_of vars) cs) in
      map-append (row_at rows) (flat_map (numbers_of (length vs)) kept) (range_with_len (2 * length vs + 1) (length cs))
      ∙ ap₂ (λ xs ys. xs ++ ys) (rows-of-values vs cs 1 upto kept (omega arith) rising) behind
      ∙ sym (map-append (row_of vars) (flat_map (value_of vs) kept) cs)

-- the numbers rise
numbers-rising : (count from upto : ℕ) (kept : List ℕ) → 1 ≤ from → AreRising from upto kept → AreRising (2 * from - 1) (2 * count + 1) (flat_map (numbers_of count) kept)
numbers-rising count from upto [] some rising = tt
numbers-rising count from upto (k ∷ kept) some rising =
    let rest = numbers-rising count (k + 1) upto kept (omega arith) rising.2 in
    let step : 2 * (k + 1) - 1 ≡ 2 * k + 1 = omega arith in
    let low = rising.0 in
    elim (cases_Bool (nat_le k count)) [
      | inl holds ↦
          let le = leb-true k count holds in
          let again : 2 * k - 1 + 1 ≡ 2 * k = omega (arith, some, low) in
          subst (λ b. AreRising (2 * from - 1) (2 * count + 1) ((if b then (2 * k - 1) ∷ 2 * k ∷ [] else []) ++ flat_map (numbers_of count) kept)) (sym holds)
          (omega (arith, low, some), omega (arith, le), (omega (arith, some, low), omega (arith, le), subst (λ n. AreRising n (2 * count + 1) (flat_map (numbers_of count) kept)) step rest))
      | inr fails ↦
          subst (λ b. AreRising (2 * from - 1) (2 * count + 1) ((if b then (2 * k - 1) ∷ 2 * k ∷ [] else []) ++ flat_map (numbers_of count) kept)) (sym fails)
          (weaker (2 * from - 1) (2 * (k + 1) - 1) (2 * count + 1) (flat_map (numbers_of count) kept) (omega (arith, low)) rest)
    ]

number-here : (count k : ℕ) → 1 ≤ count → k ≡ count → is_kept (numbers_of count k) (2 * count) ≡ true
number-here count k some same =
    let within = le-leb k count (omega (arith, same)) in
    let first = ne_eqb (2 * k - 1) (2 * count) (λ e. omega (arith, e, same, some)) in
    let second = eq-eqb (2 * k) (2 * count) (omega (arith, same)) in
    ap (λ b. is_kept (if b then (2 * k - 1) ∷ 2 * k ∷ [] else []) (2 * count)) within ∙ rw (first, second) refl

numbers-last : (count : ℕ) (kept : List ℕ) → 1 ≤ count → is_kept kept count ≡ true → is_kept (flat_map (numbers_of count) kept) (2 * count) ≡ true
numbers-last count [] some h = absurd (cc)
numbers-last count (k ∷ kept) some h = elim (cases_eq k count) [
  | inl same ↦ kept-left (numbers_of count k) (flat_map (numbers_of count) kept) (2 * count) (number-here count k some same)
  | inr other ↦ kept-right (numbers_of count k) (flat_map (numbers_of count) kept) (2 * count) (numbers-last count kept some (elim (or_cases (k == count) (is_kept kept count) h) [
    | inl same ↦ absurd (other (eqb-true k count same))
    | inr later ↦ later
  ]))
]

positive : (n : ℕ) → (n ≡ 0 → ⊥) → 1 ≤ n
positive zero other = absurd (other refl)
positive (suc n) other = omega arith

module _ (constants vars : ℕ) (vs : List ℤ) (cs : List Constraint) (kept : List ℕ) (rising : AreRising 1 (constants + 1) kept) where
  abbrev count : ℕ
  count = length vs

  abbrev numbers : List ℕ
  numbers = flat_map (numbers_of count) kept ++ range_with_len (2 * count + 1) (length cs)

  abbrev rows : List Row
  rows = map (row_of vars) (constants_have 1 vs ++ cs)

  rows-long : length rows ≡ 2 * count + length cs
  rows-long = length-map (constants_have 1 vs ++ cs) (row_of vars) ∙ length-append (constants_have 1 vs) cs ∙ ap (λ n. n + length cs) (constants-long 1 vs)

  all-rising : AreRising 1 (length rows + 1) numbers
  all-rising =
      subst (λ n. AreRising 1 (n + 1) numbers) (sym rows-long)
      (rising-append 1 (2 * count + 1) (2 * count + length cs + 1) (flat_map (numbers_of count) kept) (range_with_len (2 * count + 1) (length cs)) (omega arith) (omega arith)
      (numbers-rising count 1 (constants + 1) kept (omega arith) rising) (rising-range (2 * count + 1) (length cs) (2 * count + length cs + 1) (omega arith)))

  -- the last row's number is among them, or there is none
  has-last : (cs : List Constraint) → (cs ≡ [] → 1 ≤ count → is_kept kept count ≡ true) → 1 ≤ 2 * count + length cs → is_kept (flat_map (numbers_of count) kept ++ range_with_len (2 * count + 1) (length cs)) (2 * count + length cs) ≡ true
  has-last [] last some =
      let e : 2 * count + 0 ≡ 2 * count = omega arith in
      let there : 1 ≤ count = omega (arith, some) in
      kept-left (flat_map (numbers_of count) kept) [] (2 * count + 0) (ap (is_kept (flat_map (numbers_of count) kept)) e ∙ numbers-last count kept there (last refl there))
  has-last (c ∷ cs) last some = kept-right (flat_map (numbers_of count) kept) (range_with_len (2 * count + 1) (suc (length cs))) (2 * count + suc (length cs)) (kept-range (2 * count + 1) (suc (length cs)) (2 * count + suc (length cs)) (omega arith) (omega arith))

  no-numbers : (from : ℕ) (ks : List ℕ) → 1 ≤ from → AreRising from (constants + 1) ks → flat_map (numbers_of 0) ks ≡ []
  no-numbers from [] some up = refl
  no-numbers from (k ∷ ks) some up =
      let none = lt-leb k 0 (omega (arith, some, up.0)) in
      ap (λ b. (if b then (2 * k - 1) ∷ 2 * k ∷ [] else []) ++ flat_map (numbers_of 0) ks) none ∙ no-numbers (k + 1) ks (omega arith) up.2

  none-there : (vs : List ℤ) (cs : List Constraint) → 2 * length vs + length cs ≡ 0 → flat_map (numbers_of (length vs)) kept ++ range_with_len (2 * length vs + 1) (length cs) ≡ []
  none-there [] [] e = append-nil (flat_map (numbers_of 0) kept) ∙ no-numbers 1 kept (omega arith) rising
  none-there [] (c ∷ cs) e = absurd (omega (arith, e))
  none-there (v ∷ vs) cs e = absurd (omega (arith, e))

  keeps-last : (cs ≡ [] → 1 ≤ count → is_kept kept count ≡ true) → KeepsLast numbers rows
  keeps-last last = record {
    rising = all-rising;
    last = elim (cases_eq (2 * count + length cs) 0) [
      | inl none ↦ ap (λ ns. get_or ns (length ns - 1) 0) (none-there vs cs none) ∙ sym (rows-long ∙ none)
      | inr some ↦ last-rising 1 (length rows) numbers all-rising (ap (is_kept numbers) rows-long ∙ has-last cs last (positive (2 * count + length cs) some))
    ];
  }

-- values name their own constant alone
value-named : (vars : ℕ) (columns : List ℕ) (vs : List ℤ) (k : ℕ) → (k ≤ length vs → (j : ℕ) → j < vars → is_kept columns j ≡ false → k ≡ j + 1 → ⊥) → All (NamesKept vars columns) (value_of vs k)
value-named vars columns vs k there = elim (cases_Bool (nat_le k (length vs))) [
  | inl holds ↦
      let v = get_or vs (k - 1) (pos 0) in
      let named : (c : Constraint) → c.terms ≡ (k, pos 1) ∷ [] → NamesKept vars columns c = λ c is j lt none.
      ap (λ ts. is_kept (map (λ (t : ℕ × ℤ). t.0) ts) (j + 1)) is ∙ rw (ne_eqb k (j + 1) (there (leb-true k (length vs) holds) j lt none)) refl in
      let minus : NamesKept vars columns (equal Minus k v) = λ j lt none. rw (ne_eqb k (j + 1) (there (leb-true k (length vs) holds) j lt none)) refl in
      subst (λ b. All (NamesKept vars columns) (if b then equal Plus k v ∷ equal Minus k v ∷ [] else [])) (sym holds)
      (All-cons (NamesKept vars columns) (equal Plus k v) (equal Minus k v ∷ []) (named (equal Plus k v) refl) (All-cons (NamesKept vars columns) (equal Minus k v) [] minus (All-nil (NamesKept vars columns))))
  | inr fails ↦
      let v = get_or vs (k - 1) (pos 0) in
      subst (λ b. All (NamesKept vars columns) (if b then equal Plus k v ∷ equal Minus k v ∷ [] else [])) (sym fails) (All-nil (NamesKept vars columns))
]

values-named : (constants vars : ℕ) (columns all : List ℕ) (vs : List ℤ) → ((j : ℕ) → j < vars → is_kept columns j ≡ false → IsConstant constants (j + 1) × (is_kept all (j + 1) ≡ false)) → (ks : List ℕ) → ((n : ℕ) → is_kept ks n ≡ true → is_kept all n ≡ true) → All (NamesKept vars columns) (flat_map (value_of vs) ks)
values-named constants vars columns all vs none [] within = All-nil (NamesKept vars columns)
values-named constants vars columns all vs none (k ∷ ks) within =
    All-append (NamesKept vars columns) (value_of vs k) (flat_map (value_of vs) ks)
    (value-named vars columns vs k (λ le j lt out same.
    let here : is_kept (k ∷ ks) (j + 1) ≡ true = or_left (k == j + 1) (is_kept ks (j + 1)) (eq-eqb k (j + 1) same) in
    false≢true (sym (none j lt out).1 ∙ within (j + 1) here)))
    (values-named constants vars columns all vs none ks (λ n holds. within n (or_right (k == n) (is_kept ks n) holds)))

all-full : (vars : ℕ) (cs : List Constraint) → AreFull vars (map (row_of vars) cs)
all-full vars [] = All-nil (λ (r : Row). length r.coefs ≡ vars)
all-full vars (c ∷ cs) = All-cons (λ (r : Row). length r.coefs ≡ vars) (row_of vars c) (map (row_of vars) cs) (length-map-range_with_len (coefficient c.terms) 1 vars) (all-full vars cs)

all-zero : (vars : ℕ) (columns : List ℕ) (cs : List Constraint) → All (NamesKept vars columns) cs → All (IsZeroOutside vars columns) (map (row_of vars) cs)
all-zero vars columns [] all = All-nil (IsZeroOutside vars columns)
all-zero vars columns (c ∷ cs) all =
    All-cons (IsZeroOutside vars columns) (row_of vars c) (map (row_of vars) cs) (zero-outside vars c columns (All-head (NamesKept vars columns) c cs all)) (all-zero vars columns cs (All-tail (NamesKept vars columns) c cs all))

all-same : (vars : ℕ) (columns : List ℕ) (cs : List Constraint) → AreRising 0 vars columns → map (kept_row columns) (map (row_of vars) cs) ≡ map (row_over columns) cs
all-same vars columns [] rising = refl
all-same vars columns (c ∷ cs) rising = ap₂ (λ r rs. r ∷ rs) (kept-same vars c columns rising) (all-same vars columns cs rising)

-- what is left of a system of constraints
pub presolved : (constants vars : ℕ) (vs : List ℤ) (cs : List Constraint) (kept columns : List ℕ) (p : Presolution) → AreRising 1 (constants + 1) kept → AreRising 0 vars columns →
    ((j : ℕ) → j < vars → is_kept columns j ≡ false → IsConstant constants (j + 1) × (is_kept kept (j + 1) ≡ false)) → All (NamesKept vars columns) cs → (cs ≡ [] → 1 ≤ length vs → is_kept kept (length vs) ≡ true) →
    p.vars ≡ vars → p.count ≡ 2 * length vs + length cs → p.columns ≡ columns → p.numbers ≡ flat_map (numbers_of (length vs)) kept ++ range_with_len (2 * length vs + 1) (length cs) →
    p.system ≡ record { vars = length columns; rows = map (row_over columns) (flat_map (value_of vs) kept ++ cs) } → IsPresolved (system_of vars (constants_have 1 vs ++ cs)) p
presolved constants vars vs cs kept columns p rising columns-rising none named last vars-is count-is columns-is numbers-is system-is =
    let whole = system_of vars (constants_have 1 vs ++ cs) in
    let ns = flat_map (numbers_of (length vs)) kept ++ range_with_len (2 * length vs + 1) (length cs) in
    let all = flat_map (value_of vs) kept ++ cs in
    let left : rows_at ns whole.rows ≡ map (row_of vars) all = rows-kept vars vs cs (constants + 1) kept rising in
    let all-names = All-append (NamesKept vars columns) (flat_map (value_of vs) kept) cs (values-named constants vars columns kept vs none kept (λ n holds. holds)) named in
    let keeps : KeepsAll columns (with_rows ns whole) = record {
      rising = columns-rising;
      full = subst (AreFull vars) (sym left) (all-full vars all);
      none = subst (All (IsZeroOutside vars columns)) (sym left) (all-zero vars columns all all-names);
    } in
    let of : List Row → Inequalities = λ rs. record { vars = length columns; rows = rs } in
    record {
      vars = vars-is;
      count = count-is ∙ sym (rows-long constants vars vs cs kept rising);
      last = subst (λ xs. KeepsLast xs whole.rows) (sym numbers-is) (keeps-last constants vars vs cs kept rising last);
      all = subst (λ xs. KeepsAll xs (with_rows p.numbers whole)) (sym columns-is) (subst (λ xs. KeepsAll columns (with_rows xs whole)) (sym numbers-is) keeps);
      system = system-is ∙ ap of (sym (all-same vars columns all columns-rising) ∙ ap (map (kept_row columns)) (sym left)) ∙ ap₂ (λ cols xs. with_columns cols (with_rows xs whole)) (sym columns-is) (sym numbers-is);
    }

-- two groups of rows behind none
pub all-kept : (cs ds : List Constraint) (ms ns : List ℕ) (old middle new : KeptRows) (columns : List ℕ) → old.numbers.items ≡ [] → old.columns.now ≡ columns → old.system ≡ record { vars = length columns; rows = [] } → HasKept cs ms old middle → HasKept ds ns middle new →
    (new.numbers.items ≡ ms ++ ns) × (new.system ≡ record { vars = length columns; rows = map (row_over columns) (cs ++ ds) })
all-kept cs ds ms ns old middle new columns none are empty h k =
    let both = keeps-both cs ds ms ns old middle new h k in
    let of : Inequalities → List ℕ → Inequalities = λ s cols. record { vars = s.vars; rows = s.rows ++ map (row_over cols) (cs ++ ds) } in
    (both.numbers ∙ ap (λ xs. xs ++ (ms ++ ns)) none, both.system ∙ ap₂ of empty are)

-- as many numbers as constraints, and no more than rows
pub kept-long : (vs : List ℤ) (cs : List Constraint) (upto : ℕ) (kept : List ℕ) → AreRising 1 upto kept → length (flat_map (numbers_of (length vs)) kept ++ range_with_len (2 * length vs + 1) (length cs)) ≡ length (flat_map (value_of vs) kept ++ cs)
kept-long vs cs upto kept rising =
    let ns = flat_map (numbers_of (length vs)) kept ++ range_with_len (2 * length vs + 1) (length cs) in
    let rows = map (row_of 0) (constants_have 1 vs ++ cs) in
    sym (length-map ns (row_at rows)) ∙ ap length (rows-kept 0 vs cs upto kept rising) ∙ length-map (flat_map (value_of vs) kept ++ cs) (row_of 0)

pub kept-within : (constants : ℕ) (vs : List ℤ) (cs : List Constraint) (kept : List ℕ) → AreRising 1 (constants + 1) kept → length (flat_map (numbers_of (length vs)) kept ++ range_with_len (2 * length vs + 1) (length cs)) ≤ 2 * length vs + length cs
kept-within constants vs cs kept rising =
    let few = rising-few 1 (length (rows constants 0 vs cs kept rising) + 1) (numbers constants 0 vs cs kept rising) (omega arith) (all-rising constants 0 vs cs kept rising) in
    let long = rows-long constants 0 vs cs kept rising in
    omega (arith, few, long)

-- what stands behind both
pub left-of : (vs : List ℤ) (count : ℕ) (cs : List Constraint) (kept again columns : List ℕ) (old middle new : KeptRows) → length vs ≡ count → again ≡ kept → old.numbers.items ≡ [] → old.columns.now ≡ columns → old.system ≡ record { vars = length columns; rows = [] } →
    HasKept (flat_map (value_of vs) again) (flat_map (numbers_of count) again) old middle → HasKept cs (range_with_len (2 * count + 1) (length cs)) middle new →
    (new.numbers.items ≡ flat_map (numbers_of (length vs)) kept ++ range_with_len (2 * length vs + 1) (length cs)) × (new.system ≡ record { vars = length columns; rows = map (row_over columns) (flat_map (value_of vs) kept ++ cs) })
left-of vs count cs kept again columns old middle new long same none are empty h k =
    let made = all-kept (flat_map (value_of vs) again) cs (flat_map (numbers_of count) again) (range_with_len (2 * count + 1) (length cs)) old middle new columns none are empty h k in
    let of : List Row → Inequalities = λ rs. record { vars = length columns; rows = rs } in (
      made.0 ∙ ap₂ (λ n ks. flat_map (numbers_of n) ks ++ range_with_len (2 * n + 1) (length cs)) (sym long) same,
      made.1 ∙ ap (λ ks. of (map (row_over columns) (flat_map (value_of vs) ks ++ cs))) same,
    )
