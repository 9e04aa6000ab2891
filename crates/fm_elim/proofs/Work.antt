-- Of how many pairs levels are formed.
use Rattle.std.proofs.Common.{◌≡◌, ℕ, zero, suc, ◌+◌, ◌*◌, ◌<◌, pos, ◌<ℤ◌, Bool, true, false, cond, slice_index, List, [], ◌∷◌, ◌++◌, map, length, refl, ap, sym, ◌∙◌, subst, arith}
use Rattle.std.specs.Prelude.{int_lt}
use Rattle.std.specs.List.{AllPairs, filter}
use Rattle.std.proofs.lemmas.Int.{ints}
use Rattle.std.proofs.lemmas.List.Kept.{AllPairs-filter}
use Rattle.list_lemmas.proofs.Elements.{Contains-filter, filter_has}
use Rattle.farkas_cert.specs.declared.system.Row.{Row}
use Rattle.farkas_cert.specs.Inequalities.{Inequalities}
use Rattle.elim_rows.specs.declared.derivation.Derivation.{Derivation}
use Rattle.elim_rows.specs.Pairs.{coef_of}
use Rattle.elim_level.specs.declared.level.Held.{Held}
use Rattle.elim_level.specs.declared.level.HeldRows.{HeldRows}
use Rattle.elim_level.specs.Levels.{IsDerived, HasCount, HasPairs, IsWork}
use Rattle.elim_level.specs.Logs.{rows_of}
use Rattle.elim_level.specs.Gathering.{pair_count}
use Rattle.elim_level.proofs.Splitting.{int_lt-true, true-int_lt}
use Rattle.fm_elim.specs.Reached.{IsExact, IsReached}
use Rattle.fm_elim.proofs.Derived.{derived_lowest, derived_useful}
use Rattle.fm_elim.proofs.Further.{AreAlike, AreWithout, derived_agree, derived_same, extended, pair_forth, with_back}

one_more : {X Y : Type 0} (b : Bool) (x : X) (y : Y) (xs : List X) (ys : List Y) → length xs ≡ length ys → length (cond b (x ∷ xs) xs) ≡ length (cond b (y ∷ ys) ys)
one_more true x y xs ys e = ap suc e
one_more false x y xs ys e = e

-- as many pass a test as there are elements whose images do
count_images : {X Y : Type 0} (f : X → Y) (test : Y → Bool) (xs : List X) → length (filter (λ x. test (f x)) xs) ≡ length (filter test (map f xs))
count_images f test [] = refl
count_images f test (x ∷ xs) = one_more (test (f x)) x (f x) (filter (λ y. test (f y)) xs) (filter test (map f xs)) (count_images f test xs)

-- a list of the rows of a set, no two with equal coefficients, has as many that pass a test as the set
counted_rows : (set : Row → Type 0) (rows : List Row) → IsExact set rows → AllPairs (λ r s. r.coefs ≡ s.coefs → ⊥) rows → (P : Row → Type 0) (test : Row → Bool) → ((r : Row) → P r → test r ≡ true) → ((r : Row) → test r ≡ true → P r) → HasCount (λ r. set r × P r) (length (filter test rows))
counted_rows set rows exact apart P test passes holds = record {
  rows = filter test rows;
  has = λ r h. Contains-filter test rows r (exact.has r h.0) (passes r h.1);
  only = λ r there. let found = filter_has test rows r there in (exact.only r found.0, holds r found.1);
  apart = λ i j d lt h e. AllPairs-filter (λ r s. r.coefs ≡ s.coefs → ⊥) test rows apart i j d lt h (ap (λ r. r.coefs) e);
  counted = refl;
}

module _ (system : Inequalities) (order : List ℕ) (k most : ℕ) (log : List Derivation) (level : HeldRows) (reached : IsReached system order k most log level) where
  -- the pairs of a level that was reached
  pub pairs_here : (v pairs : ℕ) → v ≡ slice_index order k → pairs ≡ pair_count v level.rows.items → HasPairs system order k pairs
  pairs_here v pairs is counted =
      let held = level.rows.items in
      let rows = rows_of held in
      let w = slice_index order k in
      let above : Row → Bool = λ r. int_lt (pos 0) (coef_of w r) in
      let below : Row → Bool = λ r. int_lt (coef_of w r) (pos 0) in
      let uppers : length (filter (λ (h : Held). above h.row) held) ≡ length (filter above rows) = count_images (λ (h : Held). h.row) above held in
      let lowers : length (filter (λ (h : Held). below h.row) held) ≡ length (filter below rows) = count_images (λ (h : Held). h.row) below held in
      record {
        uppers = length (filter above rows);
        lowers = length (filter below rows);
        above = counted_rows (IsDerived system order k) rows reached.exact reached.table.distinct (λ r. pos 0 <ℤ coef_of w r) above (λ r h. true-int_lt (pos 0) (coef_of w r) h) (λ r h. int_lt-true (pos 0) (coef_of w r) h);
        below = counted_rows (IsDerived system order k) rows reached.exact reached.table.distinct (λ r. coef_of w r <ℤ pos 0) below (λ r h. true-int_lt (coef_of w r) (pos 0) h) (λ r h. int_lt-true (coef_of w r) (pos 0) h);
        product = counted ∙ ap (λ i. pair_count i held) is ∙ ap (λ n. n * length (filter (λ (h : Held). below h.row) held)) uppers ∙ ap (λ n. length (filter above rows) * n) lowers;
      }

  -- those of one level more
  pub work_next : (v before here : ℕ) → v ≡ slice_index order k → here ≡ pair_count v level.rows.items → IsWork system order k before → IsWork system order (k + 1) (before + here)
  work_next v before here is counted work =
      let next : suc k ≡ k + 1 = omega arith in
      subst (λ j. IsWork system order j (before + here)) next (before, here, work, pairs_here v here is counted, refl)

-- sets with the same rows have as many
count_alike : (P Q : Row → Type 0) → AreAlike P Q → (count : ℕ) → HasCount P count → HasCount Q count
count_alike P Q alike count c = record { rows = c.rows; has = λ r q. c.has r (alike.1 r q); only = λ r there. alike.0 r (c.only r there); apart = c.apart; counted = c.counted }

-- an order that begins with the same variables
module _ (system : Inequalities) (order other : List ℕ) where
  pairs_agree : (k : ℕ) → ((j : ℕ) → j < suc k → slice_index order j ≡ slice_index other j) → (pairs : ℕ) → HasPairs system order k pairs → HasPairs system other k pairs
  pairs_agree k agree pairs h =
      let e : slice_index order k ≡ slice_index other k = agree k (omega arith) in
      let forth = derived_agree system order other k (λ j lt. agree j (omega arith)) in
      let back = derived_agree system other order k (λ j lt. sym (agree j (omega arith))) in
      record {
        uppers = h.uppers;
        lowers = h.lowers;
        above = count_alike (λ r. IsDerived system order k r × (pos 0 <ℤ coef_of (slice_index order k) r)) (λ r. IsDerived system other k r × (pos 0 <ℤ coef_of (slice_index other k) r))
            (λ r d. (forth r d.0, subst (λ v. pos 0 <ℤ coef_of v r) e d.1), λ r d. (back r d.0, subst (λ v. pos 0 <ℤ coef_of v r) (sym e) d.1)) h.uppers h.above;
        below = count_alike (λ r. IsDerived system order k r × (coef_of (slice_index order k) r <ℤ pos 0)) (λ r. IsDerived system other k r × (coef_of (slice_index other k) r <ℤ pos 0))
            (λ r d. (forth r d.0, subst (λ v. coef_of v r <ℤ pos 0) e d.1), λ r d. (back r d.0, subst (λ v. coef_of v r <ℤ pos 0) (sym e) d.1)) h.lowers h.below;
        product = h.product;
      }

  pub work_agree : (k : ℕ) → ((j : ℕ) → j < k → slice_index order j ≡ slice_index other j) → (pairs : ℕ) → IsWork system order k pairs → IsWork system other k pairs
  work_agree zero agree pairs w = w
  work_agree (suc k) agree pairs w = (w.0, w.1, work_agree k (λ j lt. agree j (omega arith)) w.0 w.2, pairs_agree k agree w.1 w.3, w.4)

-- further rows without the variables that are gone
module _ (small whole : Inequalities) (order : List ℕ) (more : List Row) (is : whole.rows ≡ small.rows ++ more) where
  count_extended : (j : ℕ) → AreWithout small whole order more is (suc j) → (P : Row → Type 0) → ((r : Row) → P r → coef_of (slice_index order j) r ≡ pos 0 → ⊥) → (count : ℕ) → HasCount (λ r. IsDerived small order j r × P r) count → HasCount (λ r. IsDerived whole order j r × P r) count
  count_extended j gone P some count c =
      let v = slice_index order j in
      let D : Row → Type 0 = λ r. IsDerived small order j r in
      let law = extended small whole order more is j (λ i lt. gone i (omega arith)) in
      let forth = pair_forth v D more (derived_lowest small order j) (derived_useful small order j) (derived_same small whole order more is j) (gone j (omega arith)) (λ r. IsDerived whole order j r) law in
      let back = with_back v D more (derived_lowest small order j) (derived_useful small order j) (derived_same small whole order more is j) (gone j (omega arith)) in
      count_alike (λ r. IsDerived small order j r × P r) (λ r. IsDerived whole order j r × P r)
      (λ r d. (law.1 r (back r d.0 (some r d.1)), d.1), λ r d. (forth r d.0 (some r d.1), d.1)) count c

  pairs_extended : (j : ℕ) → AreWithout small whole order more is (suc j) → (pairs : ℕ) → HasPairs small order j pairs → HasPairs whole order j pairs
  pairs_extended j gone pairs h =
      let v = slice_index order j in
      record {
        uppers = h.uppers;
        lowers = h.lowers;
        above = count_extended j gone (λ r. pos 0 <ℤ coef_of v r) (λ r a e. omega (arith, ints, a, e)) h.uppers h.above;
        below = count_extended j gone (λ r. coef_of v r <ℤ pos 0) (λ r a e. omega (arith, ints, a, e)) h.lowers h.below;
        product = h.product;
      }

  pub work_extended : (k : ℕ) → AreWithout small whole order more is k → (pairs : ℕ) → IsWork small order k pairs → IsWork whole order k pairs
  work_extended zero gone pairs w = w
  work_extended (suc k) gone pairs w = (w.0, w.1, work_extended k (λ j lt. gone j (omega arith)) w.0 w.2, pairs_extended k gone w.1 w.3, w.4)
