-- Terms counted one by one at their unknowns' places.
use Rattle.std.proofs.Common.{◌≡◌, ◌≢◌, ℕ, ◌+◌, ◌*◌, ◌^◌, ◌<◌, ◌≤◌, IsTrue, ℤ, pos, ◌+ℤ◌, unsigned_abs, true, List, [], map, length, replicate, drop, get_or, set, if◌then◌else◌, ⊎_elim, ap, sym, ◌∙◌, subst, arith}
use Rattle.std.specs.List.{range_with_len}
use Rattle.std.proofs.lemmas.Bool.{eq-eqb, le-leb, ne_eqb}
use Rattle.std.proofs.lemmas.Bool.Decides.{eqb_tells}
use Rattle.std.proofs.lemmas.Int.{ints}
use Rattle.std.proofs.lemmas.List.{ext_get_or, get_or-replicate, get_or-set_same, get_or-set_other, length-set}
use Rattle.std.proofs.lemmas.List.FromFn.{get_or-map-range_with_len, length-map-range_with_len}
use Rattle.farkas_cert.specs.Combination.{is_narrow}
use Rattle.nest_rows.specs.Constraints.{coefficient}
use Rattle.nest_rows.proofs.SmallTerms.{are_small, coefficient-more, near-more, small-at}

-- with the terms that are left, each place has what its unknown is counted
abbrev pub AreCounted : List (ℕ × ℤ) → ℕ → List ℤ → Type 0
AreCounted terms k sums = (i : ℕ) → i < length sums → get_or sums i (pos 0) +ℤ coefficient (drop k terms) (i + 1) ≡ coefficient terms (i + 1)

abbrev pub AreNear : ℕ → List ℤ → Type 0
AreNear k sums = (i : ℕ) → i < length sums → unsigned_abs (get_or sums i (pos 0)) ≤ k * 2147483647

pub counted-none : (terms : List (ℕ × ℤ)) (sums : List ℤ) → sums ≡ replicate (length sums) (pos 0) → AreCounted terms 0 sums × AreNear 0 sums
counted-none terms sums none =
    let zero_at : (i : ℕ) → i < length sums → get_or sums i (pos 0) ≡ pos 0 = λ i lt. ap (λ xs. get_or xs i (pos 0)) none ∙ get_or-replicate (length sums) i (pos 0) (pos 0) lt in
    (λ i lt. omega (arith, ints, zero_at i lt), λ i lt. omega (arith, ints, zero_at i lt))

module _ (terms : List (ℕ × ℤ)) (k : ℕ) (lt : k < length terms) (sums : List ℤ) where
  abbrev pub number : ℕ
  number = (get_or terms k (0, pos 0)).0

  abbrev pub term : ℤ
  term = (get_or terms k (0, pos 0)).1

  -- the term isn't of this place's unknown, or it is
  other : (i : ℕ) → number ≢ i + 1 → coefficient (drop k terms) (i + 1) ≡ coefficient (drop (k + 1) terms) (i + 1)
  other i apart =
      let more = coefficient-more terms k (i + 1) (0, pos 0) lt ∙ ap (λ b. (if b then term else pos 0) +ℤ coefficient (drop (k + 1) terms) (i + 1)) (ne_eqb number (i + 1) apart) in
      omega (arith, ints, more)

  own : (i : ℕ) → number ≡ i + 1 → coefficient (drop k terms) (i + 1) ≡ term +ℤ coefficient (drop (k + 1) terms) (i + 1)
  own i same = coefficient-more terms k (i + 1) (0, pos 0) lt ∙ ap (λ b. (if b then term else pos 0) +ℤ coefficient (drop (k + 1) terms) (i + 1)) (eq-eqb number (i + 1) same)

  -- a term whose unknown has no place
  pub counted-past : ((i : ℕ) → i < length sums → number ≢ i + 1) → AreCounted terms k sums → AreNear k sums → AreCounted terms (k + 1) sums × AreNear (k + 1) sums
  counted-past past counted near =
      (λ i low. omega (arith, ints, counted i low, other i (past i low)), λ i low. omega (arith, near i low))

  -- a term at its unknown's place
  pub counted-at : (place : ℕ) → number ≡ place + 1 → place < length sums → are_small terms ≡ true → AreCounted terms k sums → AreNear k sums →
      AreCounted terms (k + 1) (set sums place (get_or sums place (pos 0) +ℤ term)) × AreNear (k + 1) (set sums place (get_or sums place (pos 0) +ℤ term))
  counted-at place at within small counted near = (all, close) where
    next : List ℤ
    next = set sums place (get_or sums place (pos 0) +ℤ term)

    here : get_or next place (pos 0) ≡ get_or sums place (pos 0) +ℤ term
    here = get_or-set_same sums place (get_or sums place (pos 0) +ℤ term) (pos 0) within

    there : (i : ℕ) → i ≢ place → get_or next i (pos 0) ≡ get_or sums i (pos 0)
    there i apart = get_or-set_other sums place i (get_or sums place (pos 0) +ℤ term) (pos 0) apart

    long : length next ≡ length sums
    long = length-set sums place (get_or sums place (pos 0) +ℤ term)

    all : AreCounted terms (k + 1) next
    all i low =
        let low_before : i < length sums = omega (arith, long, low) in
        ⊎_elim (λ e. subst (λ j. get_or next j (pos 0) +ℤ coefficient (drop (k + 1) terms) (j + 1) ≡ coefficient terms (j + 1)) (sym e.1) (omega (arith, ints, here, counted place within, own place at)))
        (λ e. omega (arith, ints, there i e.1, counted i low_before, other i (λ same. e.1 (omega (arith, same, at)))))
        (eqb_tells i place)

    close : AreNear (k + 1) next
    close i low =
        let low_before : i < length sums = omega (arith, long, low) in
        ⊎_elim (λ e. subst (λ j. unsigned_abs (get_or next j (pos 0)) ≤ (k + 1) * 2147483647) (sym e.1) (subst (λ z. unsigned_abs z ≤ (k + 1) * 2147483647) (sym here) (near-more (get_or sums place (pos 0)) term k (near place within) (small-at terms k (0, pos 0) lt small))))
        (λ e. subst (λ z. unsigned_abs z ≤ (k + 1) * 2147483647) (sym (there i e.1)) (omega (arith, near i low_before)))
        (eqb_tells i place)

-- once all terms are counted
pub counted-all : (terms : List (ℕ × ℤ)) (k : ℕ) (sums : List ℤ) → drop k terms ≡ [] → AreCounted terms k sums → sums ≡ map (coefficient terms) (range_with_len 1 (length sums))
counted-all terms k sums end counted =
    let same : length sums ≡ length (map (coefficient terms) (range_with_len 1 (length sums))) = sym (length-map-range_with_len (coefficient terms) 1 (length sums)) in
    ext_get_or (pos 0) sums (map (coefficient terms) (range_with_len 1 (length sums))) same (λ i low.
    let none : coefficient (drop k terms) (i + 1) ≡ pos 0 = ap (λ ts. coefficient ts (i + 1)) end in
    let all : get_or sums i (pos 0) ≡ coefficient terms (i + 1) = omega (arith, ints, counted i low, none) in
    all ∙ sym (get_or-map-range_with_len (coefficient terms) 1 (length sums) i (i + 1) (pos 0) low (omega arith)))

-- so few terms make narrow sums
pub near-narrow : (z : ℤ) (k count : ℕ) → unsigned_abs z ≤ k * 2147483647 → k ≤ count → count * 16 < 2 ^ 63 → IsTrue (is_narrow z)
near-narrow z k count near within few = le-leb (unsigned_abs z) (2 ^ 126) (omega (arith, near, within, few))
