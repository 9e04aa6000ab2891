-- Which constants are kept, and which columns.
use Rattle.std.proofs.Common.{◌≡◌, ℕ, zero, suc, ◌+◌, ◌-◌, ◌<◌, ◌≤◌, Bool, true, false, List, [], ◌∷◌, ◌++◌, map, length, get_or, inl, inr, refl, ap, ap₂, sym, ◌∙◌, subst, arith}
use Rattle.std.specs.Prelude.{◌==◌, ◌||◌}
use Rattle.std.specs.List.{All, Contains, flat_map, range_with_len}
use Rattle.std.specs.List.Sorted.{IsStrictlyIncreasing}
use Rattle.std.proofs.lemmas.Bool.{cases_eq, cases_lt, eq-eqb, eqb-true, false_from_ne_true, ne_eqb, false≢true, or_cases, or_left, or_parts, or_right, true_from_ne_false}
use Rattle.std.proofs.lemmas.List.Elements.{All-head, All-push, All-tail}
use Rattle.std.proofs.lemmas.List.{get_or_default}
use Rattle.presolve.specs.Columns.{AreRising, is_kept}
use Rattle.nest_rows.specs.declared.constraint.Constraint.{Constraint}
use Rattle.nest_systems.specs.Kept.{HasTaken, IsConstant, NamesKept, unknowns_in}

pub kept-append : (xs ys : List ℕ) (n : ℕ) → is_kept (xs ++ ys) n ≡ (is_kept xs n || is_kept ys n)
kept-append [] ys n = refl
kept-append (x ∷ xs) ys n = ap (λ b. x == n || b) (kept-append xs ys n) ∙ assoc (x == n) (is_kept xs n) (is_kept ys n) where
  assoc : (a b c : Bool) → (a || (b || c)) ≡ ((a || b) || c)
  assoc true b c = refl
  assoc false b c = refl

pub kept-left : (xs ys : List ℕ) (n : ℕ) → is_kept xs n ≡ true → is_kept (xs ++ ys) n ≡ true
kept-left xs ys n h = kept-append xs ys n ∙ or_left (is_kept xs n) (is_kept ys n) h

pub kept-right : (xs ys : List ℕ) (n : ℕ) → is_kept ys n ≡ true → is_kept (xs ++ ys) n ≡ true
kept-right xs ys n h = kept-append xs ys n ∙ or_right (is_kept xs n) (is_kept ys n) h

pub kept-contains : (xs : List ℕ) (n : ℕ) → is_kept xs n ≡ true → Contains xs n
kept-contains [] n h = absurd (cc)
kept-contains (x ∷ xs) n h = elim (or_cases (x == n) (is_kept xs n) h) [
  | inl same ↦ (0, omega arith, eqb-true x n same)
  | inr later ↦ let (k, lt, at) = kept-contains xs n later in (suc k, omega (arith, lt), at)
]

pub contains-kept : (xs : List ℕ) (n k : ℕ) → k < length xs → get_or xs k n ≡ n → is_kept xs n ≡ true
contains-kept [] n k lt at = absurd (omega arith)
contains-kept (x ∷ xs) n zero lt at = or_left (x == n) (is_kept xs n) (eq-eqb x n at)
contains-kept (x ∷ xs) n (suc k) lt at = or_right (x == n) (is_kept xs n) (contains-kept xs n k (omega (arith, lt)) at)

-- nothing, one after another, and one
pub taken-none : (constants : ℕ) (xs : List ℕ) → HasTaken constants [] xs xs
taken-none constants xs = record { within = λ all. all; before = λ n h. h; taken = λ n is h. absurd (cc) }

pub taken-both : (constants : ℕ) (us vs xs ys zs : List ℕ) → HasTaken constants us xs ys → HasTaken constants vs ys zs → HasTaken constants (us ++ vs) xs zs
taken-both constants us vs xs ys zs h k = record {
  within = λ all. k.within (h.within all);
  before = λ n is. k.before n (h.before n is);
  taken = λ n is named. elim (or_cases (is_kept us n) (is_kept vs n) (sym (kept-append us vs n) ∙ named)) [
    | inl first ↦ k.before n (h.taken n is first)
    | inr second ↦ k.taken n is second
  ];
}

pub taken-one : (constants u : ℕ) (xs : List ℕ) → IsConstant constants u → HasTaken constants (u ∷ []) xs (xs ++ u ∷ [])
taken-one constants u xs is = record {
  within = λ all. All-push (IsConstant constants) xs u all is;
  before = λ n h. kept-left xs (u ∷ []) n h;
  taken = λ n within named. kept-right xs (u ∷ []) n named;
}

pub taken-other : (constants u : ℕ) (xs : List ℕ) → (IsConstant constants u → ⊥) → HasTaken constants (u ∷ []) xs xs
taken-other constants u xs not = record {
  within = λ all. all;
  before = λ n h. h;
  taken = λ n within named. elim (or_cases (u == n) false named) [
    | inl same ↦ absurd (not (subst (IsConstant constants) (sym (eqb-true u n same)) within))
    | inr fails ↦ absurd (cc)
  ];
}

above-first : (x : ℕ) (zs : List ℕ) → IsStrictlyIncreasing (x ∷ zs) → (k d : ℕ) → k < length zs → x + 1 ≤ get_or zs k d
above-first x [] up k d lt = absurd (omega arith)
above-first x (z ∷ zs) up zero d lt = let first = up 0 (omega arith) in omega (arith, first)
above-first x (z ∷ zs) up (suc k) d lt =
    let before = above-first x (z ∷ zs) up k d (omega (arith, lt)) in
    let behind : suc k + 1 ≡ suc (suc k) = omega arith in
    let step : get_or (z ∷ zs) k 0 < get_or (z ∷ zs) (suc k) 0 = subst (λ j. get_or (x ∷ z ∷ zs) (suc k) 0 < get_or (x ∷ z ∷ zs) j 0) behind (up (suc k) (omega (arith, lt))) in
    let one = get_or_default (z ∷ zs) k d 0 (omega (arith, lt)) in
    let two = get_or_default (z ∷ zs) (suc k) d 0 lt in
    omega (arith, before, step, one, two)

increasing-behind : (x : ℕ) (zs : List ℕ) → IsStrictlyIncreasing (x ∷ zs) → IsStrictlyIncreasing zs
increasing-behind x zs up = λ k lt.
    let behind : suc k + 1 ≡ suc (k + 1) = omega arith in
    subst (λ j. get_or zs k 0 < get_or (x ∷ zs) j 0) behind (up (suc k) (omega (arith, lt)))

pub rising-increasing : (from upto : ℕ) (xs : List ℕ) → IsStrictlyIncreasing xs → All (λ n. (from ≤ n) × (n < upto)) xs → AreRising from upto xs
rising-increasing from upto [] up all = tt
rising-increasing from upto (x ∷ []) up all =
    let here = All-head (λ n. (from ≤ n) × (n < upto)) x [] all in (here.0, here.1, tt)
rising-increasing from upto (x ∷ y ∷ ys) up all =
    let here = All-head (λ n. (from ≤ n) × (n < upto)) x (y ∷ ys) all in
    let behind = All-tail (λ n. (from ≤ n) × (n < upto)) x (y ∷ ys) all in (
      here.0,
      here.1,
      rising-increasing (x + 1) upto (y ∷ ys) (increasing-behind x (y ∷ ys) up) (λ k d lt. (above-first x (y ∷ ys) up k d lt, (behind k d lt).1)),
    )

pub weaker : (from middle upto : ℕ) (ys : List ℕ) → from ≤ middle → AreRising middle upto ys → AreRising from upto ys
weaker from middle upto [] le h = tt
weaker from middle upto (y ∷ ys) le h = (omega (arith, le, h.0), h.1, h.2)

pub rising-append : (from middle upto : ℕ) (xs ys : List ℕ) → from ≤ middle → middle ≤ upto → AreRising from middle xs → AreRising middle upto ys → AreRising from upto (xs ++ ys)
rising-append from middle upto [] ys low high h k = weaker from middle upto ys low k
rising-append from middle upto (x ∷ xs) ys low high h k =
    let inside = h.1 in
    (h.0, omega (arith, inside, high), rising-append (x + 1) middle upto xs ys (omega (arith, inside)) high h.2 k)

pub rising-range : (from count upto : ℕ) → from + count ≤ upto → AreRising from upto (range_with_len from count)
rising-range from zero upto le = tt
rising-range from (suc count) upto le = (omega arith, omega (arith, le), rising-range (from + 1) count upto (omega (arith, le)))

-- from numbers to places
pub rising-places : (from upto : ℕ) (xs : List ℕ) → AreRising (from + 1) (upto + 1) xs → AreRising from upto (map (λ n. n - 1) xs)
rising-places from upto [] h = tt
rising-places from upto (x ∷ xs) h =
    let e : x - 1 + 1 ≡ x = omega (arith, h.0) in
    (omega (arith, h.0), omega (arith, h.0, h.1), subst (λ k. AreRising k upto (map (λ n. n - 1) xs)) (sym e) (rising-places x upto xs h.2))

pub kept-places : (from upto : ℕ) (xs : List ℕ) (k : ℕ) → AreRising (from + 1) upto xs → is_kept (map (λ n. n - 1) xs) k ≡ is_kept xs (k + 1)
kept-places from upto [] k h = refl
kept-places from upto (x ∷ xs) k h = ap₂ (λ a b. a || b) same (kept-places x upto xs k h.2) where
  same : (x - 1 == k) ≡ (x == k + 1)
  same = elim (cases_eq x (k + 1)) [
    | inl e ↦ eq-eqb (x - 1) k (omega (arith, e)) ∙ sym (eq-eqb x (k + 1) e)
    | inr fails ↦ ne_eqb (x - 1) k (λ e. fails (omega (arith, e, h.0))) ∙ sym (ne_eqb x (k + 1) fails)
  ]

pub kept-range : (from count k : ℕ) → from ≤ k → k < from + count → is_kept (range_with_len from count) k ≡ true
kept-range from zero k low high = absurd (omega (arith, low, high))
kept-range from (suc count) k low high = elim (cases_eq from k) [
  | inl same ↦ or_left (from == k) (is_kept (range_with_len (from + 1) count) k) (eq-eqb from k same)
  | inr other ↦ or_right (from == k) (is_kept (range_with_len (from + 1) count) k) (kept-range (from + 1) count k (lower from k low other) (omega (arith, high)))
] where
  lower : (from k : ℕ) → from ≤ k → (from ≡ k → ⊥) → from + 1 ≤ k
  lower from k le fails = elim (cases_eq from k) [ inl same ↦ absurd (fails same) | inr other ↦ omega (arith, le, other) ]

-- the last of numbers that rise up to one that is among them
pub last-rising : (from last : ℕ) (xs : List ℕ) → AreRising from (last + 1) xs → is_kept xs last ≡ true → get_or xs (length xs - 1) 0 ≡ last
last-rising from last [] h kept = absurd (cc)
last-rising from last (x ∷ []) h kept = elim (or_cases (x == last) false kept) [
  | inl same ↦ eqb-true x last same
  | inr fails ↦ absurd (cc)
]
last-rising from last (x ∷ y ∷ xs) h kept =
    let e : suc (suc (length xs)) - 1 ≡ suc (suc (length xs) - 1) = omega arith in
    let next = h.2.0 in
    let under = h.2.1 in
    ap (λ k. get_or (x ∷ y ∷ xs) k 0) e ∙ last-rising (x + 1) last (y ∷ xs) h.2 (elim (or_cases (x == last) (is_kept (y ∷ xs) last) kept) [
      | inl same ↦ absurd (omega (arith, eqb-true x last same, next, under))
      | inr later ↦ later
    ])

-- the columns of constants that are kept, and of all behind the constants
module _ (constants vars : ℕ) (kept : List ℕ) (rising : AreRising 1 (constants + 1) kept) (within : constants ≤ vars) where
  abbrev columns : List ℕ
  columns = map (λ n. n - 1) kept ++ range_with_len constants (vars - constants)

  pub columns-rising : AreRising 0 vars columns
  columns-rising =
      rising-append 0 constants vars (map (λ n. n - 1) kept) (range_with_len constants (vars - constants)) (omega arith) within (rising-places 0 constants kept rising)
      (rising-range constants (vars - constants) vars (omega (arith, within)))

  -- what isn't kept is a constant that isn't
  pub columns-none : (k : ℕ) → k < vars → is_kept columns k ≡ false → IsConstant constants (k + 1) × (is_kept kept (k + 1) ≡ false)
  columns-none k lt none =
      let parts = or_parts (is_kept (map (λ n. n - 1) kept) k) (is_kept (range_with_len constants (vars - constants)) k) (sym (kept-append (map (λ n. n - 1) kept) (range_with_len constants (vars - constants)) k) ∙ none) in
      let small : k < constants = elim (cases_lt k constants) [
        | inl less ↦ less
        | inr le ↦ absurd (false≢true (sym parts.1 ∙ kept-range constants (vars - constants) k le (omega (arith, lt, within))))
      ] in
      ((omega arith, omega (arith, small)), sym (kept-places 0 (constants + 1) kept k rising) ∙ parts.0)

  pub columns-wanted : (wanted : List ℕ) → ((n : ℕ) → IsConstant constants n → is_kept wanted n ≡ true → is_kept kept n ≡ true) → (k : ℕ) → k < vars → is_kept wanted (k + 1) ≡ true → is_kept columns k ≡ true
  columns-wanted wanted all k lt named =
      let other : is_kept columns k ≡ false → ⊥ = λ out. false≢true (sym (columns-none k lt out).1 ∙ all (k + 1) (columns-none k lt out).0 named) in
      true_from_ne_false (is_kept columns k) other

names-each : (cs : List Constraint) (i : ℕ) (d : Constraint) (n : ℕ) → i < length cs → is_kept (flat_map (λ (c : Constraint). unknowns_in c.terms) cs) n ≡ false → is_kept (unknowns_in (get_or cs i d).terms) n ≡ false
names-each [] i d n lt gone = absurd (omega arith)
names-each (c ∷ cs) zero d n lt gone =
    let all = flat_map (λ (c : Constraint). unknowns_in c.terms) cs in
    (or_parts (is_kept (unknowns_in c.terms) n) (is_kept all n) (sym (kept-append (unknowns_in c.terms) all n) ∙ gone)).0
names-each (c ∷ cs) (suc i) d n lt gone =
    let all = flat_map (λ (c : Constraint). unknowns_in c.terms) cs in
    names-each cs i d n (omega (arith, lt)) (or_parts (is_kept (unknowns_in c.terms) n) (is_kept all n) (sym (kept-append (unknowns_in c.terms) all n) ∙ gone)).1

-- a constraint names kept unknowns alone, where all the constants that it names are kept
pub all-named : (constants vars : ℕ) (kept columns : List ℕ) (cs : List Constraint) → ((k : ℕ) → k < vars → is_kept columns k ≡ false → IsConstant constants (k + 1) × (is_kept kept (k + 1) ≡ false)) →
    ((n : ℕ) → IsConstant constants n → is_kept (flat_map (λ (c : Constraint). unknowns_in c.terms) cs) n ≡ true → is_kept kept n ≡ true) → All (NamesKept vars columns) cs
all-named constants vars kept columns cs none named = λ i d lt k low out.
    let at = none k low out in
    let gone = false_from_ne_true (is_kept (flat_map (λ (c : Constraint). unknowns_in c.terms) cs) (k + 1)) (λ holds. false≢true (sym at.1 ∙ named (k + 1) at.0 holds)) in
    names-each cs i d (k + 1) lt gone

again : (zs : List ℕ) (k d : ℕ) → k < length zs → get_or zs k (get_or zs k d) ≡ get_or zs k d
again zs k d lt = get_or_default zs k (get_or zs k d) d lt

pub all-from-contained : (constants : ℕ) (xs ys : List ℕ) → ((n : ℕ) → Contains ys n → Contains xs n) → All (IsConstant constants) xs → All (λ n. (1 ≤ n) × (n < constants + 1)) ys
all-from-contained constants xs ys within all = λ k d lt.
    let (j, low, at) = within (get_or ys k d) (k, lt, again ys k d lt) in
    let is = subst (IsConstant constants) at (all j (get_or ys k d) low) in
    (is.0, omega (arith, is.1))

pub rising-few : (from upto : ℕ) (xs : List ℕ) → from ≤ upto → AreRising from upto xs → length xs ≤ upto - from
rising-few from upto [] le h = omega arith
rising-few from upto (x ∷ xs) le h = let more = rising-few (x + 1) upto xs (omega (arith, h.1)) h.2 in omega (arith, more, h.0, h.1)
