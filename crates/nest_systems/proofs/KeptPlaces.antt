-- Unknowns numbered among the columns that are kept.
use Rattle.std.proofs.Common.{◌≡◌, ℕ, zero, suc, ◌+◌, ◌<◌, ◌≤◌, ℤ, pos, ◌+ℤ◌, false, List, [], ◌∷◌, map, length, get_or, inl, inr, ◌⊎◌, if◌then◌else◌, refl, ap, ap₂, sym, ◌∙◌, arith}
use Rattle.std.specs.Prelude.{◌==◌, Err, IfOk, Ok, Result}
use Rattle.std.specs.List.{range_with_len}
use Rattle.std.proofs.lemmas.Bool.{cases_eq, eq-eqb, ne_eqb, or_parts}
use Rattle.std.proofs.lemmas.List.FromFn.{get_or-map-range_with_len}
use Rattle.farkas_cert.specs.declared.system.Row.{Row}
use Rattle.presolve.specs.Columns.{AreRising, IsZeroOutside, is_kept, kept_row}
use Rattle.presolve.proofs.Searching.{at_least}
use Rattle.nest_rows.specs.declared.constraint.Constraint.{Constraint}
use Rattle.nest_rows.specs.Constraints.{coefficient, row_of}
use Rattle.nest_systems.specs.Kept.{NamesKept, number_among, row_over, unknowns_in}

pub here : (xs : List ℕ) (i : ℕ) → i < length xs → get_or xs i 0 ≡ get_or xs i (get_or xs i 0)
here [] i lt = absurd (omega arith)
here (x ∷ xs) zero lt = refl
here (x ∷ xs) (suc i) lt = here xs i (omega (arith, lt))

first-number : (next k n : ℕ) (columns : List ℕ) → k + 1 ≡ n → number_among next (k ∷ columns) n ≡ next
first-number next k n columns e = ap (λ b. if b then next else number_among (next + 1) columns n) (eq-eqb (k + 1) n e)

next-number : (next k n : ℕ) (columns : List ℕ) → (k + 1 ≡ n → ⊥) → number_among next (k ∷ columns) n ≡ number_among (next + 1) columns n
next-number next k n columns e = ap (λ b. if b then next else number_among (next + 1) columns n) (ne_eqb (k + 1) n e)

-- of the unknown at a place
pub number-at : (next from vars : ℕ) (columns : List ℕ) (n i : ℕ) → AreRising from vars columns → i < length columns → get_or columns i 0 + 1 ≡ n → number_among next columns n ≡ next + i
number-at next from vars [] n i rising lt is = absurd (omega arith)
number-at next from vars (k ∷ columns) n zero rising lt is = let e : next ≡ next + 0 = omega arith in first-number next k n columns is ∙ e
number-at next from vars (k ∷ columns) n (suc i) rising lt is =
    let more = at_least (k + 1) vars columns i rising.2 (omega (arith, lt)) in
    let e : next + 1 + i ≡ next + suc i = omega arith in
    next-number next k n columns (λ same. omega (arith, same, is, more)) ∙ number-at (next + 1) (k + 1) vars columns n i rising.2 (omega (arith, lt)) is ∙ e

-- of one that isn't among them
pub number-none : (next : ℕ) (columns : List ℕ) (n : ℕ) → ((i : ℕ) → i < length columns → get_or columns i 0 + 1 ≡ n → ⊥) → number_among next columns n ≡ 0
number-none next [] n none = refl
number-none next (k ∷ columns) n none =
    next-number next k n columns (λ same. none 0 (omega arith) same) ∙ number-none (next + 1) columns n (λ i lt same. none (suc i) (omega (arith, lt)) same)

number-large : (next : ℕ) (columns : List ℕ) (n : ℕ) → (number_among next columns n ≡ 0) ⊎ (next ≤ number_among next columns n)
number-large next [] n = inl refl
number-large next (k ∷ columns) n = elim (cases_eq (k + 1) n) [
  | inl same ↦ inr (let e = first-number next k n columns same in omega (arith, e))
  | inr other ↦
      let e = next-number next k n columns other in
      elim (number-large (next + 1) columns n) [
        | inl none ↦ inl (e ∙ none)
        | inr more ↦ inr (omega (arith, e, more))
      ]
]

-- who has a number stands at its place
pub number-back : (next : ℕ) (columns : List ℕ) (n i : ℕ) → 1 ≤ next → number_among next columns n ≡ next + i → get_or columns i 0 + 1 ≡ n
number-back next [] n i some is = absurd (let e : 0 ≡ next + i = is in omega (arith, some, e))
number-back next (k ∷ columns) n zero some is = elim (cases_eq (k + 1) n) [
  | inl same ↦ same
  | inr other ↦
      let e : number_among (next + 1) columns n ≡ next + 0 = sym (next-number next k n columns other) ∙ is in
      absurd (elim (number-large (next + 1) columns n) [
        | inl none ↦ omega (arith, none, e, some)
        | inr more ↦ omega (arith, more, e)
      ])
]
number-back next (k ∷ columns) n (suc i) some is = elim (cases_eq (k + 1) n) [
  | inl same ↦ absurd (let e : next ≡ next + suc i = sym (first-number next k n columns same) ∙ is in omega (arith, e))
  | inr other ↦
      let e : number_among (next + 1) columns n ≡ next + suc i = sym (next-number next k n columns other) ∙ is in
      let f : next + suc i ≡ next + 1 + i = omega arith in
      number-back (next + 1) columns n i (omega arith) (e ∙ f)
]

module _ (vars : ℕ) (columns : List ℕ) (rising : AreRising 0 vars columns) where
  same-test : (n i : ℕ) → i < length columns → (number_among 1 columns n == i + 1) ≡ (n == get_or columns i 0 + 1)
  same-test n i lt =
      let turn : 1 + i ≡ i + 1 = omega arith in
      elim (cases_eq n (get_or columns i 0 + 1)) [
        | inl same ↦ eq-eqb (number_among 1 columns n) (i + 1) (number-at 1 0 vars columns n i rising lt (sym same) ∙ turn) ∙ sym (eq-eqb n (get_or columns i 0 + 1) same)
        | inr other ↦ ne_eqb (number_among 1 columns n) (i + 1) (λ e. other (sym (number-back 1 columns n i (omega arith) (e ∙ sym turn)))) ∙ sym (ne_eqb n (get_or columns i 0 + 1) other)
      ]

  coefficient-same : (terms : List (ℕ × ℤ)) (i : ℕ) → i < length columns → coefficient (map (λ t. (number_among 1 columns t.0, t.1)) terms) (i + 1) ≡ coefficient terms (get_or columns i 0 + 1)
  coefficient-same [] i lt = refl
  coefficient-same ((n, c) ∷ terms) i lt = ap₂ (λ b z. (if b then c else pos 0) +ℤ z) (same-test n i lt) (coefficient-same terms i lt)

map-same : {X : Type 0} (f g : ℕ → X) (from : ℕ) (columns : List ℕ) → ((i : ℕ) → i < length columns → f (from + i) ≡ g (get_or columns i 0)) → map f (range_with_len from (length columns)) ≡ map g columns
map-same f g from [] h = refl
map-same f g from (k ∷ columns) h =
    let zero-behind : from ≡ from + 0 = omega arith in
    ap₂ (λ x xs. x ∷ xs) (ap f zero-behind ∙ h 0 (omega arith))
    (map-same f g (from + 1) columns (λ i lt. let e : from + 1 + i ≡ from + suc i = omega arith in ap f e ∙ h (suc i) (omega (arith, lt))))

-- the row of numbered terms is that over the columns
pub row-same : (vars : ℕ) (columns : List ℕ) (c numbered : Constraint) → AreRising 0 vars columns → numbered.terms ≡ map (λ t. (number_among 1 columns t.0, t.1)) c.terms → numbered.bound ≡ c.bound → row_of (length columns) numbered ≡ row_over columns c
row-same vars columns c numbered rising terms bound =
    let first = ap (λ ts. map (coefficient ts) (range_with_len 1 (length columns))) terms in
    let coefs = map-same (coefficient (map (λ t. (number_among 1 columns t.0, t.1)) c.terms)) (λ k. coefficient c.terms (k + 1)) 1 columns
    (λ i lt. let turn : 1 + i ≡ i + 1 = omega arith in ap (coefficient (map (λ t. (number_among 1 columns t.0, t.1)) c.terms)) turn ∙ coefficient-same vars columns rising c.terms i lt) in
    let of : List ℤ → ℤ → Row = λ cs b. record { coefs = cs; bound = b } in
    ap₂ of (first ∙ coefs) bound

module _ (vars : ℕ) (c : Constraint) where
  entry : (k : ℕ) → k < vars → get_or (map (coefficient c.terms) (range_with_len 1 vars)) k (pos 0) ≡ coefficient c.terms (k + 1)
  entry k lt = get_or-map-range_with_len (coefficient c.terms) 1 vars k (k + 1) (pos 0) lt (omega arith)

  coefs-kept : (from : ℕ) (columns : List ℕ) → AreRising from vars columns → map (λ k. get_or (map (coefficient c.terms) (range_with_len 1 vars)) k (pos 0)) columns ≡ map (λ k. coefficient c.terms (k + 1)) columns
  coefs-kept from [] rising = refl
  coefs-kept from (k ∷ columns) rising = rw (entry k rising.1, coefs-kept (k + 1) columns rising.2) refl

  -- the whole row, of which these columns are kept
  pub kept-same : (columns : List ℕ) → AreRising 0 vars columns → kept_row columns (row_of vars c) ≡ row_over columns c
  kept-same columns rising =
      let of : List ℤ → Row = λ cs. record { coefs = cs; bound = c.bound } in ap of (coefs-kept 0 columns rising)

  none-named : (n : ℕ) (terms : List (ℕ × ℤ)) → is_kept (unknowns_in terms) n ≡ false → coefficient terms n ≡ pos 0
  none-named n [] h = refl
  none-named n ((m, z) ∷ terms) h =
      let parts = or_parts (m == n) (is_kept (unknowns_in terms) n) h in
      rw (parts.0, none-named n terms parts.1) refl

  pub zero-outside : (columns : List ℕ) → NamesKept vars columns c → IsZeroOutside vars columns (row_of vars c)
  zero-outside columns named k lt none = entry k lt ∙ none-named (k + 1) c.terms (named k lt none)

pub ok-same : {E : Type 0} (result : Result Row E) (x y : Row) → IfOk result (λ r. r ≡ x) → x ≡ y → IfOk result (λ r. r ≡ y)
ok-same (Ok r) x y h e = h ∙ e
ok-same (Err error) x y h e = tt
