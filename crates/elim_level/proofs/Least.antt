-- Of the raw rows of a level with equal reduced coefficients one has the least bound, since there are finitely many.
use Rattle.std.proofs.Common.{◌≡◌, ℕ, zero, suc, ◌<◌, ℤ, pos, ◌≤ℤ◌, ◌<ℤ◌, unsigned_abs, max, ◌⊎◌, ⊎_elim, inl, inr, List, [], ◌∷◌, ◌++◌, length, get_or, refl, ap, sym, ◌∙◌, subst, arith}
use Rattle.std.specs.Int.{◌∣◌}
use Rattle.std.specs.Cmp.Lexicographic.{pointwise}
use Rattle.std.specs.Ordering.{int_eq}
use Rattle.std.specs.List.{All, AllZip, Contains}
use Rattle.std.proofs.lemmas.Int.{ints, by_lt_z}
use Rattle.std.proofs.lemmas.Bool.{cases_Bool}
use Rattle.std.proofs.lemmas.Bool.Decides.{Decides-int_eq, not_from_Decides}
use Rattle.std.proofs.lemmas.Slice.Eq.{slice_eq-Decides}
use Rattle.std.proofs.lemmas.Nat.Gcd.{dvd_trans}
use Rattle.std.proofs.lemmas.List.{length-map, get_or-map}
use Rattle.std.proofs.lemmas.List.Elements.{All-map, All-head, All-tail, All-nil, All-cons, All-append, All-contains, AllZip-get_or, length_all_zip, Contains-append_left, Contains-append_right, Contains-append_cases}
use lib.Signed.{≤ℤ_refl}
use Rattle.farkas_cert.specs.declared.system.Row.{Row}
use Rattle.elim_rows.specs.declared.candidate.Candidate.{Candidate}
use Rattle.elim_rows.specs.declared.candidate.Origin.TheVariants.{Numbered}
use Rattle.elim_rows.specs.Reduction.{IsCommonDivisor, IsReduced, divided}
use Rattle.elim_rows.specs.Pairs.{coef_of, combination}
use Rattle.elim_level.specs.Levels.{IsLevelRow, IsRaw, HasMoreThan}
use Rattle.elim_rows.specs.Candidates.{rows_among, IsUseful}
use Rattle.elim_level.specs.Gathering.{IsPaired, HasApart, IsSound}
use Rattle.elim_rows.proofs.Divisors.{IsCommonDivisor-nil}
use Rattle.elim_level.proofs.Unique.{IsReduced-unique}
use Rattle.elim_level.proofs.Existence.{gcd_exists, pair_exists}
use Rattle.elim_level.proofs.Gathered.{IsPaired-unique}

-- each row has a reduction
common_exists : (coefs : List ℤ) → (g : ℕ) × IsCommonDivisor coefs g
common_exists [] = (0, IsCommonDivisor-nil)
common_exists (a ∷ coefs) =
    let rest = common_exists coefs in
    let both = gcd_exists (unsigned_abs a) rest.0 in (
      both.0,
      (
        All-cons (λ b. both.0 ∣ unsigned_abs b) a coefs both.1.0 (λ k d h. dvd_trans both.0 both.1.1 (rest.1.0 k d h)),
        λ d each. both.1.2 d (All-head (λ b. d ∣ unsigned_abs b) a coefs each) (rest.1.1 d (All-tail (λ b. d ∣ unsigned_abs b) a coefs each)),
      ),
    )

pub reduction_exists : (raw : Row) → (row : Row) × IsReduced raw row
reduction_exists raw = let found = common_exists raw.coefs in (divided (max found.0 1) raw, (found.0, (found.1, refl)))

-- the reductions of the raw rows are in a list
pub record IsListed (raws : Row → Type 0) (list : List Row) : Type 0 where
  pub sound : All (λ r. (raw : Row) × raws raw × IsReduced raw r) list
  pub complete : (raw : Row) → raws raw → (row : Row) × IsReduced raw row × Contains list row

abbrev pub Listed : (Row → Type 0) → Type 0
Listed raws = (list : List Row) × IsListed raws list

-- no raw row, and one
listed_none : (raws : Row → Type 0) → ((raw : Row) → raws raw → ⊥) → Listed raws
listed_none raws none = ([], record { sound = All-nil (λ r. (raw : Row) × raws raw × IsReduced raw r); complete = λ raw has. absurd (none raw has) })

pub listed_one : (raws : Row → Type 0) (raw : Row) → raws raw → ((other : Row) → raws other → raw ≡ other) → Listed raws
listed_one raws raw has only =
    let found = reduction_exists raw in (
      found.0 ∷ [],
      record {
        sound = All-cons (λ r. (raw : Row) × raws raw × IsReduced raw r) found.0 [] (raw, has, found.1) (All-nil (λ r. (raw : Row) × raws raw × IsReduced raw r));
        complete = λ other there. (found.0, subst (λ r. IsReduced r found.0) (only other there) found.1, (0, omega arith, refl));
      },
    )

-- those of two sets
pub listed_both : (P Q : Row → Type 0) → Listed P → Listed Q → Listed (λ raw. P raw ⊎ Q raw)
listed_both P Q a b = (
  a.0 ++ b.0,
  record {
    sound = All-append (λ r. (raw : Row) × (P raw ⊎ Q raw) × IsReduced raw r) a.0 b.0 (λ k d h. let at = a.1.sound k d h in (at.0, inl at.1, at.2)) (λ k d h. let at = b.1.sound k d h in (at.0, inr at.1, at.2));
    complete = λ raw has. ⊎_elim (λ p. let at = a.1.complete raw p in (at.0, at.1, Contains-append_left a.0 b.0 at.0 at.2)) (λ q. let at = b.1.complete raw q in (at.0, at.1, Contains-append_right a.0 b.0 at.0 at.2)) has;
  },
)

-- those that belong to an element of a list
pub listed_each : (xs : List Row) (S : Row → Row → Type 0) → ((x : Row) → Listed (S x)) → Listed (λ raw. (x : Row) × Contains xs x × S x raw)
listed_each [] S each = listed_none (λ raw. (x : Row) × Contains [] x × S x raw) (λ raw has. absurd (omega (arith, has.1.1)))
listed_each (x ∷ xs) S each =
    let both = listed_both (S x) (λ raw. (y : Row) × Contains xs y × S y raw) (each x) (listed_each xs S each) in (
      both.0,
      record {
        sound = λ k d h. let at = both.1.sound k d h in
            (at.0, ⊎_elim (λ here. (x, (0, omega arith, refl), here)) (λ later. (later.0, Contains-append_right (x ∷ []) xs later.0 later.1, later.2)) at.1, at.2);
        complete = λ raw has. both.1.complete raw (⊎_elim (λ first. inl (subst (λ y. S y raw) (first_is first) has.2)) (λ later. inr (has.0, later, has.2)) (Contains-append_cases (x ∷ []) xs has.0 has.1));
      },
    )
  where
    first_is : {y : Row} → Contains (x ∷ []) y → y ≡ x
    first_is {y} h = only h.0 h.1 h.2
      where
        only : (k : ℕ) → k < length (x ∷ []) → get_or (x ∷ []) k y ≡ y → y ≡ x
        only zero lt e = sym e
        only (suc k) lt e = absurd (omega arith)

-- a row alone, where it is without the variable
pub listed_alone : (v : ℕ) (x : Row) → Listed (λ raw. (x ≡ raw) × (coef_of v x ≡ pos 0))
listed_alone v x =
    ⊎_elim (λ yes. listed_one (λ raw. (x ≡ raw) × (coef_of v x ≡ pos 0)) x (refl, (Decides-int_eq (coef_of v x) (pos 0)).0 yes) (λ other h. h.0))
    (λ no. listed_none (λ raw. (x ≡ raw) × (coef_of v x ≡ pos 0)) (λ raw h. not_from_Decides (int_eq (coef_of v x) (pos 0)) (Decides-int_eq (coef_of v x) (pos 0)) no h.1))
    (cases_Bool (int_eq (coef_of v x) (pos 0)))

-- a pair's least combination, where it is one
listed_pair : (v : ℕ) (upper lower : Row) → Listed (IsPaired v upper lower)
listed_pair v upper lower =
    by_lt_z {P = Listed (IsPaired v upper lower)} (pos 0) (coef_of v upper)
    (λ above. by_lt_z {P = Listed (IsPaired v upper lower)} (coef_of v lower) (pos 0)
    (λ below.
    let pair = pair_exists v upper lower above below in
    let raw = combination pair.0 upper pair.1 lower in
    let paired : IsPaired v upper lower raw = record { m = pair.0; n = pair.1; pair = pair.2; made = refl } in
    listed_one (IsPaired v upper lower) raw paired (λ other h. IsPaired-unique v upper lower raw other paired h))
    (λ not_below. listed_none (IsPaired v upper lower) (λ raw h. absurd (omega (arith, ints, h.pair.below, not_below)))))
    (λ not_above. listed_none (IsPaired v upper lower) (λ raw h. absurd (omega (arith, ints, h.pair.above, not_above))))

-- the raw rows of the next level
pub listed_raws : (v : ℕ) (rows : List Row) → Listed (IsRaw v (Contains rows))
listed_raws v rows =
    let P : Row → Type 0 = λ raw. (x : Row) × Contains rows x × ((x ≡ raw) × (coef_of v x ≡ pos 0)) in
    let Q : Row → Type 0 = λ raw. (x : Row) × Contains rows x × ((y : Row) × Contains rows y × IsPaired v x y raw) in
    let both = listed_both P Q (listed_each rows (λ x raw. (x ≡ raw) × (coef_of v x ≡ pos 0)) (listed_alone v)) (listed_each rows (λ x raw. (y : Row) × Contains rows y × IsPaired v x y raw) (λ x. listed_each rows (IsPaired v x) (listed_pair v x))) in (
      both.0,
      record {
        sound = λ k d h. let at = both.1.sound k d h in (
          at.0,
          ⊎_elim (λ p. inl (subst (λ r. Contains rows r × (coef_of v r ≡ pos 0)) p.2.0 (p.1, p.2.1)))
              (λ q. let p = q.2.2 in inr (record { upper = q.0; lower = q.2.0; m = p.m; n = p.n; has_upper = q.1; has_lower = q.2.1; pair = p.pair; made = p.made })) at.1,
          at.2,
        );
        complete = λ raw has. both.1.complete raw (⊎_elim (λ a. inl (raw, a.0, (refl, a.1))) (λ b. inr (b.upper, b.has_upper, (b.lower, b.has_lower, record { m = b.m; n = b.n; pair = b.pair; made = b.made }))) has);
      },
    )

-- lists of numbers are the same or not
same_or_not : (xs ys : List ℤ) → (xs ≡ ys) ⊎ (xs ≡ ys → ⊥)
same_or_not xs ys =
    let decided = slice_eq-Decides {E = int_eq} Decides-int_eq xs ys (pointwise int_eq xs ys) refl in
    ⊎_elim (λ yes. inl (decided.0 yes)) (λ no. inr (not_from_Decides (pointwise int_eq xs ys) decided no)) (cases_Bool (pointwise int_eq xs ys))

-- the least bound among the rows with these coefficients
record IsLeast (coefs : List ℤ) (list : List Row) (row : Row) : Type 0 where
  there : Contains list row
  same : row.coefs ≡ coefs
  least : (other : Row) → Contains list other → other.coefs ≡ coefs → row.bound ≤ℤ other.bound

least_among : (coefs : List ℤ) (list : List Row) → ((row : Row) → Contains list row → row.coefs ≡ coefs → ⊥) ⊎ ((row : Row) × IsLeast coefs list row)
least_among coefs [] = inl (λ row h e. absurd (omega (arith, h.1)))
least_among coefs (x ∷ list) = ⊎_elim (λ none. first_only none) (λ some. compare_first some.0 some.1) (least_among coefs list)
  where
    is_first : {y : Row} → Contains (x ∷ []) y → x ≡ y
    is_first {y} h = only h.0 h.1 h.2
      where
        only : (k : ℕ) → k < length (x ∷ []) → get_or (x ∷ []) k y ≡ y → x ≡ y
        only zero lt e = e
        only (suc k) lt e = absurd (omega arith)

    at_front : Contains (x ∷ list) x
    at_front = (0, omega arith, refl)

    first_only : ((row : Row) → Contains list row → row.coefs ≡ coefs → ⊥) → ((row : Row) → Contains (x ∷ list) row → row.coefs ≡ coefs → ⊥) ⊎ ((row : Row) × IsLeast coefs (x ∷ list) row)
    first_only none =
        ⊎_elim (λ same. inr (
          x,
          record {
            there = at_front;
            same = same;
            least = λ other h e. ⊎_elim (λ front. subst (λ r. x.bound ≤ℤ r.bound) (is_first front) (≤ℤ_refl x.bound)) (λ later. absurd (none other later e)) (Contains-append_cases (x ∷ []) list other h);
          },
        ))
        (λ apart. inl (λ row h e. ⊎_elim (λ front. apart (ap (λ r. r.coefs) (is_first front) ∙ e)) (λ later. none row later e) (Contains-append_cases (x ∷ []) list row h))) (same_or_not x.coefs coefs)

    keep : (row : Row) → IsLeast coefs list row → (x.coefs ≡ coefs → row.bound ≤ℤ x.bound) → IsLeast coefs (x ∷ list) row
    keep row h below = record {
      there = Contains-append_right (x ∷ []) list row h.there;
      same = h.same;
      least = λ other o e. ⊎_elim (λ front. subst (λ r. row.bound ≤ℤ r.bound) (is_first front) (below (ap (λ r. r.coefs) (is_first front) ∙ e))) (λ later. h.least other later e) (Contains-append_cases (x ∷ []) list other o);
    }

    change : (row : Row) → IsLeast coefs list row → x.coefs ≡ coefs → x.bound ≤ℤ row.bound → IsLeast coefs (x ∷ list) x
    change row h same below = record {
      there = at_front;
      same = same;
      least = λ other o e. ⊎_elim (λ front. subst (λ r. x.bound ≤ℤ r.bound) (is_first front) (≤ℤ_refl x.bound)) (λ later. let more = h.least other later e in omega (arith, ints, below, more)) (Contains-append_cases (x ∷ []) list other o);
    }

    compare_first : (row : Row) → IsLeast coefs list row → ((row : Row) → Contains (x ∷ list) row → row.coefs ≡ coefs → ⊥) ⊎ ((row : Row) × IsLeast coefs (x ∷ list) row)
    compare_first row h =
        ⊎_elim (λ same. by_lt_z {P = ((row : Row) → Contains (x ∷ list) row → row.coefs ≡ coefs → ⊥) ⊎ ((row : Row) × IsLeast coefs (x ∷ list) row)} x.bound row.bound
        (λ less. inr (x, change row h same (omega (arith, ints, less))))
        (λ more. inr (row, keep row h (λ e. more))))
        (λ apart. inr (row, keep row h (λ e. absurd (apart e)))) (same_or_not x.coefs coefs)

-- a level keeps a row with the coefficients of each useful reduction
pub kept_exists : (raws : Row → Type 0) → Listed raws → (row raw : Row) → raws raw → IsReduced raw row → IsUseful row → (kept : Row) × IsLevelRow raws kept × (kept.coefs ≡ row.coefs)
kept_exists raws listed row raw has reduced useful =
    let found = listed.1.complete raw has in
    let one : found.0 ≡ row = IsReduced-unique raw found.0 row found.1 reduced in
    let there : Contains listed.0 row = subst (Contains listed.0) one found.2 in
    ⊎_elim (λ none. absurd (none row there refl)) (λ some.
    let least = some.1 in (
      some.0,
      record {
        reduced = All-contains (λ r. (raw : Row) × raws raw × IsReduced raw r) listed.0 some.0 listed.1.sound least.there;
        least = λ other_raw other from made e.
            let at = listed.1.complete other_raw from in
            let same : at.0 ≡ other = IsReduced-unique other_raw at.0 other at.1 made in
            least.least other (subst (Contains listed.0) same at.2) (e ∙ least.same);
        useful = λ empty.
            let low : row.bound <ℤ pos 0 = useful (subst IsZero least.same empty) in
            let below = least.least row there refl in
            omega (arith, ints, low, below);
      },
      least.same,
    )) (least_among row.coefs listed.0)
  where
    IsZero : List ℤ → Type 0
    IsZero coefs = All (λ a. a ≡ pos 0) coefs

-- rows that the level keeps, one for each of these
kept_for : (raws : Row → Type 0) → Listed raws → (rows : List Row) → All (λ r. IsUseful r × ((raw : Row) × raws raw × IsReduced raw r)) rows → (kept : List Row) × AllZip (λ k r. IsLevelRow raws k × (k.coefs ≡ r.coefs)) kept rows
kept_for raws listed [] all = ([], tt)
kept_for raws listed (row ∷ rows) all =
    let first = All-head (λ r. IsUseful r × ((raw : Row) × raws raw × IsReduced raw r)) row rows all in
    let found = kept_exists raws listed row first.1.0 first.1.1 first.1.2 first.0 in
    let rest = kept_for raws listed rows (All-tail (λ r. IsUseful r × ((raw : Row) × raws raw × IsReduced raw r)) row rows all) in
    (found.0 ∷ rest.0, ((found.1, found.2), rest.1))

-- sound candidates that are apart stand for as many rows of the level
pub many_from : (limit : ℕ) (raws : Row → Type 0) → Listed raws → HasApart limit (IsSound raws) → HasMoreThan limit (IsLevelRow raws)
many_from limit raws listed h =
    let rows = rows_among h.kept in
    let sound : All (λ r. IsUseful r × ((raw : Row) × raws raw × IsReduced raw r)) rows = All-map (λ r. IsUseful r × ((raw : Row) × raws raw × IsReduced raw r)) (λ (c : Candidate). c.row) h.kept h.all in
    let kept = kept_for raws listed rows sound in
    let long : length kept.0 ≡ length h.kept = length_all_zip (λ k r. IsLevelRow raws k × (k.coefs ≡ r.coefs)) kept.0 rows kept.1 ∙ length-map h.kept (λ (c : Candidate). c.row) in (
      kept.0,
      omega (arith, long, h.many),
      λ i j d lt within e.
          let c : Candidate = record { row = d; origin = Numbered 0 } in
          let within_c : j < length h.kept = omega (arith, long, within) in
          let at_i = AllZip-get_or (λ k r. IsLevelRow raws k × (k.coefs ≡ r.coefs)) kept.0 rows i d d kept.1 (omega arith) in
          let at_j = AllZip-get_or (λ k r. IsLevelRow raws k × (k.coefs ≡ r.coefs)) kept.0 rows j d d kept.1 within in
          let row_i = get_or-map (λ (c : Candidate). c.row) h.kept i c d (omega arith) in
          let row_j = get_or-map (λ (c : Candidate). c.row) h.kept j c d within_c in
          h.apart i j c lt within_c (ap (λ (r : Row). r.coefs) (sym row_i) ∙ sym at_i.1 ∙ ap (λ (r : Row). r.coefs) e ∙ at_j.1 ∙ ap (λ (r : Row). r.coefs) row_j),
      λ k d within. (AllZip-get_or (λ k r. IsLevelRow raws k × (k.coefs ≡ r.coefs)) kept.0 rows k d d kept.1 within).0,
    )
