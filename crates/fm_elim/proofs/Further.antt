-- Further rows without the variables that are gone: level k of a system becomes the level k of the system with these rows.
use Rattle.std.proofs.Common.{◌≡◌, ℕ, zero, suc, ◌+◌, ◌-◌, ◌<◌, ℤ, pos, ◌≤ℤ◌, ◌<ℤ◌, ◌⊎◌, ⊎_elim, inl, inr, false, slice_index, List, [], ◌∷◌, ◌++◌, map, length, get_or, refl, ap, sym, ◌∙◌, subst, arith}
use Rattle.std.specs.List.{All, AllPairs, Contains}
use Rattle.std.proofs.lemmas.Int.{ints}
use Rattle.std.proofs.lemmas.List.{length-map}
use Rattle.std.proofs.lemmas.List.Elements.{All-head, All-tail, All-nil, All-cons, All-contains, All-weaker, Contains-append_left, Contains-append_right, Contains-append_cases}
use Rattle.std.proofs.lemmas.List.Kept.{AllPairs-cons}
use lib.Signed.{≤ℤ_refl}
use Rattle.list_lemmas.proofs.Elements.{Contains-map}
use Rattle.farkas_cert.specs.declared.system.Row.{Row}
use Rattle.farkas_cert.specs.Inequalities.{Inequalities}
use Rattle.elim_rows.specs.Reduction.{IsReduced}
use Rattle.farkas_cert.specs.Combination.{stays_narrow}
use Rattle.elim_rows.specs.Pairs.{coef_of, products_of}
use Rattle.elim_rows.specs.Candidates.{IsEmpty}
use Rattle.elim_level.specs.Levels.{IsLevelRow, IsCombined, IsRaw, IsDerived, HasMoreThan}
use Rattle.elim_level.specs.Forming.{IsFormed}
use Rattle.fm_elim.specs.Answers.{HasNoWidePair}
use Rattle.fm_elim.specs.Reached.{IsExact}
use Rattle.fm_elim.proofs.AtMost.{at_most}
use Rattle.elim_rows.proofs.Combined.{by_lt}
use Rattle.elim_level.proofs.Lowest.{IsReduced-lowest}
use Rattle.fm_elim.proofs.Columns.{zero_reduced}
use Rattle.elim_level.proofs.Unique.{IsReduced-unique}
use Rattle.fm_elim.proofs.Exactness.{raw_of_other, kept_of_other, kept_from_formed, formed_has_kept}
use Rattle.elim_level.proofs.Least.{Listed, listed_both, reduction_exists}
use Rattle.fm_elim.proofs.Finite.{kept_for, level_same, listed_rows, listed_without, level_list, listed_after}
use Rattle.fm_elim.proofs.Derived.{derived_lowest, derived_useful}

-- sets with the same rows
abbrev pub AreAlike : (Row → Type 0) → (Row → Type 0) → Type 0
AreAlike P Q = ((r : Row) → P r → Q r) × ((r : Row) → Q r → P r)

AreAlike-sym : (P Q : Row → Type 0) → AreAlike P Q → AreAlike Q P
AreAlike-sym P Q h = (h.1, h.0)

AreAlike-trans : (P Q R : Row → Type 0) → AreAlike P Q → AreAlike Q R → AreAlike P R
AreAlike-trans P Q R a b = (λ r h. b.0 r (a.0 r h), λ r h. a.1 r (b.1 r h))

-- have the same level rows
pub levels_alike : (P Q : Row → Type 0) → AreAlike P Q → AreAlike (IsLevelRow P) (IsLevelRow Q)
levels_alike P Q h = (kept_of_other P Q h.0 h.1, kept_of_other Q P h.1 h.0)

-- a level row is its own reduction
lowest_of : (A : Row → Type 0) (r : Row) → IsLevelRow A r → IsReduced r r
lowest_of A r h = IsReduced-lowest h.reduced.0 r h.reduced.2

-- a level of raw rows is the level of some of them in their level's form, and the others
module _ (A B : Row → Type 0) where
  absorbed : (r : Row) → IsLevelRow (λ s. A s ⊎ B s) r → IsLevelRow (λ s. IsLevelRow A s ⊎ B s) r
  absorbed r h = record {
    reduced = ⊎_elim
        (λ a. (r, inl (record { reduced = (h.reduced.0, a, h.reduced.2); least = λ raw other has made same. h.least raw other (inl has) made same; useful = h.useful }), IsReduced-lowest h.reduced.0 r h.reduced.2))
        (λ b. (h.reduced.0, inr b, h.reduced.2)) h.reduced.1;
    least = λ raw other has made same. ⊎_elim
        (λ kept. let one : raw ≡ other = IsReduced-unique raw raw other (lowest_of A raw kept) made in
        h.least kept.reduced.0 other (inl kept.reduced.1) (subst (IsReduced kept.reduced.0) one kept.reduced.2) same)
        (λ b. h.least raw other (inr b) made same) has;
    useful = h.useful;
  }

  unabsorbed : Listed A → (r : Row) → IsLevelRow (λ s. IsLevelRow A s ⊎ B s) r → IsLevelRow (λ s. A s ⊎ B s) r
  unabsorbed listed r h = record {
    reduced = ⊎_elim
        (λ kept. let one : h.reduced.0 ≡ r = IsReduced-unique h.reduced.0 h.reduced.0 r (lowest_of A h.reduced.0 kept) h.reduced.2 in
        (kept.reduced.0, inl kept.reduced.1, subst (IsReduced kept.reduced.0) one kept.reduced.2))
        (λ b. (h.reduced.0, inr b, h.reduced.2)) h.reduced.1;
    least = λ raw other has made same. ⊎_elim
        (λ a. ⊎_elim
        (λ idle. let low = h.useful (subst (All (λ a. a ≡ pos 0)) same idle.0) in omega (arith, ints, low, idle.1))
        (λ k. let below = h.least k.0 k.0 (inl k.1) (lowest_of A k.0 k.1) (k.2 ∙ same) in omega (arith, ints, below, k.3)) (kept_for A listed raw other a made))
        (λ b. h.least raw other (inr b) made same) has;
    useful = h.useful;
  }

  pub absorb : Listed A → AreAlike (IsLevelRow (λ s. A s ⊎ B s)) (IsLevelRow (λ s. IsLevelRow A s ⊎ B s))
  absorb listed = (absorbed, unabsorbed listed)

-- one variable more is gone, which no further row has
module _ (v : ℕ) (D : Row → Type 0) (more : List Row) (lowest : (r : Row) → D r → IsReduced r r) (useful : (r : Row) → D r → IsEmpty r → r.bound <ℤ pos 0) (same : (r s : Row) → D r → D s → r.coefs ≡ s.coefs → r ≡ s) (gone : All (λ r. coef_of v r ≡ pos 0) more) where
  both : Row → Type 0
  both r = IsLevelRow (λ s. D s ⊎ Contains more s) r

  without : Row → Type 0
  without r = D r × (coef_of v r ≡ pos 0)

  gone_at : (r q : Row) → Contains more q → IsReduced q r → coef_of v r ≡ pos 0
  gone_at r q there made = zero_reduced v q r made (All-contains (λ s. coef_of v s ≡ pos 0) more q gone there)

  -- the rows without the variable
  alone_forth : (r : Row) → IsLevelRow (λ s. D s ⊎ Contains more s) r → coef_of v r ≡ pos 0 → IsLevelRow (λ s. (D s × (coef_of v s ≡ pos 0)) ⊎ Contains more s) r
  alone_forth r h none = record {
    reduced = ⊎_elim
        (λ d. let one : h.reduced.0 ≡ r = IsReduced-unique h.reduced.0 h.reduced.0 r (lowest h.reduced.0 d) h.reduced.2 in
        (h.reduced.0, inl (d, ap (coef_of v) one ∙ none), h.reduced.2))
        (λ m. (h.reduced.0, inr m, h.reduced.2)) h.reduced.1;
    least = λ raw other has made e. h.least raw other (⊎_elim (λ z. inl z.0) (λ m. inr m) has) made e;
    useful = h.useful;
  }

  alone_back : (r : Row) → IsLevelRow (λ s. (D s × (coef_of v s ≡ pos 0)) ⊎ Contains more s) r → IsLevelRow (λ s. D s ⊎ Contains more s) r × (coef_of v r ≡ pos 0)
  alone_back r h =
      let none : coef_of v r ≡ pos 0 = ⊎_elim (λ z. zero_reduced v h.reduced.0 r h.reduced.2 z.1) (λ m. gone_at r h.reduced.0 m h.reduced.2) h.reduced.1 in (
        record {
          reduced = ⊎_elim (λ z. (h.reduced.0, inl z.0, h.reduced.2)) (λ m. (h.reduced.0, inr m, h.reduced.2)) h.reduced.1;
          least = λ raw other has made e. ⊎_elim
              (λ d. let one : raw ≡ other = IsReduced-unique raw raw other (lowest raw d) made in
              let zero_there : coef_of v raw ≡ pos 0 = ap (coef_of v) one ∙ ap (λ xs. get_or xs (v - 1) (pos 0)) e ∙ none in
              h.least raw other (inl (d, zero_there)) made e)
              (λ m. h.least raw other (inr m) made e) has;
          useful = h.useful;
        },
        none,
      )

  -- the rows with it
  with_forth : (r : Row) → IsLevelRow (λ s. D s ⊎ Contains more s) r → (coef_of v r ≡ pos 0 → ⊥) → D r
  with_forth r h some = ⊎_elim
      (λ d. let one : h.reduced.0 ≡ r = IsReduced-unique h.reduced.0 h.reduced.0 r (lowest h.reduced.0 d) h.reduced.2 in subst D one d)
      (λ m. absurd (some (gone_at r h.reduced.0 m h.reduced.2))) h.reduced.1

  pub with_back : (r : Row) → D r → (coef_of v r ≡ pos 0 → ⊥) → IsLevelRow (λ s. D s ⊎ Contains more s) r
  with_back r d some = record {
    reduced = (r, inl d, lowest r d);
    least = λ raw other has made e. ⊎_elim
        (λ o. let one : raw ≡ other = IsReduced-unique raw raw other (lowest raw o) made in
        let twin : r ≡ other = same r other d (subst D one o) (sym e) in
        subst (λ s. r.bound ≤ℤ s.bound) twin (≤ℤ_refl r.bound))
        (λ m. absurd (some (ap (λ xs. get_or xs (v - 1) (pos 0)) (sym e) ∙ gone_at other raw m made))) has;
    useful = useful r d;
  }

  above : (z : ℤ) → pos 0 <ℤ z → z ≡ pos 0 → ⊥
  above z h e = omega (arith, ints, h, e)

  below : (z : ℤ) → z <ℤ pos 0 → z ≡ pos 0 → ⊥
  below z h e = omega (arith, ints, h, e)

  -- the next raw rows
  module _ (set : Row → Type 0) (alike : AreAlike set (IsLevelRow (λ s. D s ⊎ Contains more s))) where
    pub pair_forth : (r : Row) → set r → (coef_of v r ≡ pos 0 → ⊥) → D r
    pair_forth r h some = with_forth r (alike.0 r h) some

    raw_forth : (r : Row) → IsRaw v set r → IsLevelRow (λ s. (D s × (coef_of v s ≡ pos 0)) ⊎ Contains more s) r ⊎ IsCombined v D r
    raw_forth r h = ⊎_elim (λ a. inl (alone_forth r (alike.0 r a.0) a.1))
        (λ b. inr (record {
          upper = b.upper;
          lower = b.lower;
          m = b.m;
          n = b.n;
          has_upper = pair_forth b.upper b.has_upper (above (coef_of v b.upper) b.pair.above);
          has_lower = pair_forth b.lower b.has_lower (below (coef_of v b.lower) b.pair.below);
          pair = b.pair;
          made = b.made;
        })) h

    raw_back : (r : Row) → IsLevelRow (λ s. (D s × (coef_of v s ≡ pos 0)) ⊎ Contains more s) r ⊎ IsCombined v D r → IsRaw v set r
    raw_back r h = ⊎_elim (λ a. let both = alone_back r a in inl (alike.1 r both.0, both.1))
        (λ b. inr (record {
          upper = b.upper;
          lower = b.lower;
          m = b.m;
          n = b.n;
          has_upper = alike.1 b.upper (with_back b.upper b.has_upper (above (coef_of v b.upper) b.pair.above));
          has_lower = alike.1 b.lower (with_back b.lower b.has_lower (below (coef_of v b.lower) b.pair.below));
          pair = b.pair;
          made = b.made;
        })) h

    -- the next level
    pub next_alike : Listed (λ r. D r × (coef_of v r ≡ pos 0)) → Listed (IsRaw v D) → AreAlike (IsLevelRow (IsRaw v set)) (IsLevelRow (λ s. IsLevelRow (IsRaw v D) s ⊎ Contains more s))
    next_alike listed_apart listed =
        let P : Row → Type 0 = λ r. D r × (coef_of v r ≡ pos 0) in
        let A : Row → Type 0 = λ s. P s ⊎ Contains more s in
        let C : Row → Type 0 = IsCombined v D in
        let first = levels_alike (IsRaw v set) (λ s. IsLevelRow A s ⊎ C s) (raw_forth, raw_back) in
        let second = AreAlike-sym (IsLevelRow (λ s. A s ⊎ C s)) (IsLevelRow (λ s. IsLevelRow A s ⊎ C s)) (absorb A C (listed_both P (Contains more) listed_apart (listed_rows more))) in
        let third = levels_alike (λ s. A s ⊎ C s) (λ s. IsRaw v D s ⊎ Contains more s)
        (λ r h. ⊎_elim (λ a. ⊎_elim (λ p. inl (inl p)) (λ m. inr m) a) (λ c. inl (inr c)) h, λ r h. ⊎_elim (λ w. ⊎_elim (λ p. inl (inl p)) (λ c. inr c) w) (λ m. inl (inr m)) h) in
        let fourth = absorb (IsRaw v D) (Contains more) listed in
        AreAlike-trans (IsLevelRow (IsRaw v set)) (IsLevelRow (λ s. IsLevelRow A s ⊎ C s)) (IsLevelRow (λ s. IsLevelRow (IsRaw v D) s ⊎ Contains more s)) first
        (AreAlike-trans (IsLevelRow (λ s. IsLevelRow A s ⊎ C s)) (IsLevelRow (λ s. A s ⊎ C s)) (IsLevelRow (λ s. IsLevelRow (IsRaw v D) s ⊎ Contains more s)) second
        (AreAlike-trans (IsLevelRow (λ s. A s ⊎ C s)) (IsLevelRow (λ s. IsRaw v D s ⊎ Contains more s)) (IsLevelRow (λ s. IsLevelRow (IsRaw v D) s ⊎ Contains more s)) third fourth))

-- rows of either kind, different from one another, in two lists
record AreParted (P Q : Row → Type 0) (rows ones others : List Row) : Type 0 where
  count : length ones + length others ≡ length rows
  all_ones : All P ones
  all_others : All Q others
  from_ones : All (Contains rows) ones
  from_others : All (Contains rows) others
  ones_apart : AllPairs (λ r s. r ≡ s → ⊥) ones
  others_apart : AllPairs (λ r s. r ≡ s → ⊥) others

parted : (P Q : Row → Type 0) (rows : List Row) → All (λ r. P r ⊎ Q r) rows → AllPairs (λ r s. r ≡ s → ⊥) rows → (ones : List Row) × (others : List Row) × AreParted P Q rows ones others
parted P Q [] all apart = (
  [],
  [],
  record {
    count = omega arith;
    all_ones = All-nil P;
    all_others = All-nil Q;
    from_ones = All-nil (Contains []);
    from_others = All-nil (Contains []);
    ones_apart = λ i j d lt h. absurd (omega arith);
    others_apart = λ i j d lt h. absurd (omega arith);
  },
)
parted P Q (x ∷ rows) all apart =
    let rest = parted P Q rows (All-tail (λ r. P r ⊎ Q r) x rows all) (λ i j d lt h. apart (suc i) (suc j) d (omega arith) (omega arith)) in
    let p = rest.2 in
    let fresh : (r : Row) → Contains rows r → x ≡ r → ⊥ = λ r there e. apart 0 (suc there.0) r (omega arith) (omega (arith, there.1)) (e ∙ sym there.2) in
    let later = λ (xs : List Row) (all : All (Contains rows) xs). All-weaker (Contains rows) (Contains (x ∷ rows)) (λ r h. Contains-append_right (x ∷ []) rows r h) xs all in
    ⊎_elim
    (λ one. (
      x ∷ rest.0,
      rest.1,
      record {
        count = omega (arith, p.count);
        all_ones = All-cons P x rest.0 one p.all_ones;
        all_others = p.all_others;
        from_ones = All-cons (Contains (x ∷ rows)) x rest.0 (0, omega arith, refl) (later rest.0 p.from_ones);
        from_others = later rest.1 p.from_others;
        ones_apart = AllPairs-cons (λ r s. r ≡ s → ⊥) x rest.0 (All-weaker (Contains rows) (λ r. x ≡ r → ⊥) fresh rest.0 p.from_ones) p.ones_apart;
        others_apart = p.others_apart;
      },
    ))
    (λ other. (
      rest.0,
      x ∷ rest.1,
      record {
        count = omega (arith, p.count);
        all_ones = p.all_ones;
        all_others = All-cons Q x rest.1 other p.all_others;
        from_ones = later rest.0 p.from_ones;
        from_others = All-cons (Contains (x ∷ rows)) x rest.1 (0, omega arith, refl) (later rest.1 p.from_others);
        ones_apart = p.ones_apart;
        others_apart = AllPairs-cons (λ r s. r ≡ s → ⊥) x rest.1 (All-weaker (Contains rows) (λ r. x ≡ r → ⊥) fresh rest.1 p.from_others) p.others_apart;
      },
    ))
    (All-head (λ r. P r ⊎ Q r) x rows all)

-- of rows of two sets, there are at most as many as both sets have
few_of_both : (most : ℕ) (D : Row → Type 0) (more : List Row) → (HasMoreThan most D → ⊥) → ((r : Row) → D r → IsReduced r r) → HasMoreThan (most + length more) (IsLevelRow (λ r. D r ⊎ Contains more r)) → ⊥
few_of_both most D more few lowest h =
    let Q : Row → Type 0 = λ r. (q : Row) × Contains more q × IsReduced q r in
    let all = All-weaker (IsLevelRow (λ r. D r ⊎ Contains more r)) (λ r. D r ⊎ Q r)
    (λ r level. ⊎_elim (λ d. inl (subst D (IsReduced-unique level.reduced.0 level.reduced.0 r (lowest level.reduced.0 d) level.reduced.2) d)) (λ m. inr (level.reduced.0, m, level.reduced.2)) level.reduced.1) h.0 h.3 in
    let p = parted D Q h.0 all h.2 in
    let reductions = map (λ q. (reduction_exists q).0) more in
    let listed = All-weaker Q (Contains reductions) (λ r q. subst (Contains reductions) (IsReduced-unique q.0 (reduction_exists q.0).0 r (reduction_exists q.0).1 q.2) (Contains-map (λ q. (reduction_exists q).0) more q.0 q.1)) p.1 p.2.all_others in
    let others = at_most p.1 reductions p.2.others_apart listed in
    by_lt {P = ⊥} most (length p.0)
    (λ many. few (p.0, many, p.2.ones_apart, p.2.all_ones))
    (λ within. omega (arith, within, others, length-map more (λ q. (reduction_exists q).0), p.2.count, h.1))

-- a system with further rows
module _ (small whole : Inequalities) (order : List ℕ) (more : List Row) (is : whole.rows ≡ small.rows ++ more) where
  -- the further rows are without the first k variables of the order
  abbrev pub AreWithout : ℕ → Type 0
  AreWithout k = (j : ℕ) → j < k → All (λ r. coef_of (slice_index order j) r ≡ pos 0) more

  abbrev pub joined : ℕ → Row → Type 0
  joined k r = IsLevelRow (λ s. IsDerived small order k s ⊎ Contains more s) r

  pub derived_same : (k : ℕ) (r s : Row) → IsDerived small order k r → IsDerived small order k s → r.coefs ≡ s.coefs → r ≡ s
  derived_same zero r s a b e = level_same (λ q. Contains small.rows q) r s a b e
  derived_same (suc k) r s a b e = level_same (IsRaw (slice_index order k) (λ q. IsDerived small order k q)) r s a b e

  pub extended : (k : ℕ) → AreWithout k → AreAlike (λ r. IsDerived whole order k r) (joined k)
  extended zero gone =
      AreAlike-trans (IsLevelRow (Contains whole.rows)) (IsLevelRow (λ s. Contains small.rows s ⊎ Contains more s)) (joined 0)
      (levels_alike (Contains whole.rows) (λ s. Contains small.rows s ⊎ Contains more s)
      (λ r h. Contains-append_cases small.rows more r (subst (λ rows. Contains rows r) is h), λ r h. subst (λ rows. Contains rows r) (sym is) (⊎_elim (λ a. Contains-append_left small.rows more r a) (λ b. Contains-append_right small.rows more r b) h)))
      (absorb (Contains small.rows) (Contains more) (listed_rows small.rows))
  extended (suc k) gone =
      let list = level_list small order k in
      next_alike (slice_index order k) (λ r. IsDerived small order k r) more (derived_lowest small order k) (derived_useful small order k) (derived_same k) (gone k (omega arith))
      (λ r. IsDerived whole order k r) (extended k (λ j lt. gone j (omega arith))) (listed_without (slice_index order k) (λ r. IsDerived small order k r) list.0 list.1) (listed_after small order k)

  -- a list of both
  pub exact_extended : (k : ℕ) (rows all : List Row) → AreWithout k → IsExact (IsDerived small order k) rows → IsFormed (λ r. Contains rows r ⊎ Contains more r) all → IsExact (IsDerived whole order k) all
  exact_extended k rows all gone exact formed =
      let here : Row → Type 0 = λ r. Contains rows r ⊎ Contains more r in
      let there : Row → Type 0 = λ r. IsDerived small order k r ⊎ Contains more r in
      let alike : AreAlike here there = (λ r h. ⊎_elim (λ a. inl (exact.only r a)) (λ b. inr b) h, λ r h. ⊎_elim (λ a. inl (exact.has r a)) (λ b. inr b) h) in
      let levels = levels_alike here there alike in
      let law = extended k gone in
      record {
        has = λ r d. formed_has_kept here all formed r (levels.1 r (law.0 r d));
        only = λ r there. law.1 r (levels.0 r (kept_from_formed here all formed r there));
      }

  -- at most so many rows
  pub few_extended : (k most : ℕ) → AreWithout k → (HasMoreThan most (IsDerived small order k) → ⊥) → HasMoreThan (most + length more) (IsDerived whole order k) → ⊥
  few_extended k most gone few h =
      few_of_both most (λ r. IsDerived small order k r) more few (derived_lowest small order k)
      (h.0, h.1, h.2, All-weaker (IsDerived whole order k) (joined k) ((extended k gone).0) h.0 h.3)

  -- and no new pair
  pub narrow_extended : (j k : ℕ) → j < k → AreWithout k → whole.vars ≡ small.vars → HasNoWidePair small order j → HasNoWidePair whole order j
  narrow_extended j k lt gone same narrow upper lower w =
      let v = slice_index order j in
      let D : Row → Type 0 = λ r. IsDerived small order j r in
      let forth = pair_forth v D more (derived_lowest small order j) (derived_useful small order j) (derived_same j) (gone j lt) (λ r. IsDerived whole order j r) (extended j (λ i h. gone i (omega arith))) in
      narrow upper lower (record {
        m = w.m;
        n = w.n;
        has_upper = forth upper w.has_upper (λ e. omega (arith, ints, w.pair.above, e));
        has_lower = forth lower w.has_lower (λ e. omega (arith, ints, w.pair.below, e));
        pair = w.pair;
        wide = (w.wide.0, omega (arith, same, w.wide.1), subst (λ n. stays_narrow (pos 0) (products_of n w.m upper w.n lower w.wide.0) ≡ false) same w.wide.2);
      })

-- an order that begins with the same variables
pub derived_agree : (system : Inequalities) (order other : List ℕ) (k : ℕ) → ((j : ℕ) → j < k → slice_index order j ≡ slice_index other j) → (r : Row) → IsDerived system order k r → IsDerived system other k r
derived_agree system order other zero agree r d = d
derived_agree system order other (suc k) agree r d =
    let D : Row → Type 0 = λ r. IsDerived system order k r in
    let E : Row → Type 0 = λ r. IsDerived system other k r in
    let v = slice_index order k in
    let w = slice_index other k in
    let e : v ≡ w = agree k (omega arith) in
    kept_of_other (IsRaw v D) (IsRaw w E)
    (λ raw h. subst (λ i. IsRaw i E raw) e (raw_of_other v D E (derived_agree system order other k (λ j lt. agree j (omega arith))) raw h))
    (λ raw h. raw_of_other v E D (derived_agree system other order k (λ j lt. sym (agree j (omega arith)))) raw (subst (λ i. IsRaw i E raw) (sym e) h)) r d
