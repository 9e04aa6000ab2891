-- Each level is a finite list of rows, and covers the raw rows that it is formed from.
use Rattle.std.proofs.Common.{◌≡◌, ℕ, zero, suc, ℤ, pos, ◌≤ℤ◌, ◌<◌, ◌⊎◌, ⊎_elim, inl, inr, slice_index, List, [], ◌∷◌, length, get_or, refl, ap, sym, ◌∙◌, subst, arith}
use Rattle.std.specs.List.{All, Contains}
use Rattle.std.specs.Ordering.{int_eq}
use Rattle.std.proofs.lemmas.Int.{ints, by_lt_z}
use Rattle.std.proofs.lemmas.Bool.{cases_Bool}
use Rattle.std.proofs.lemmas.Bool.Decides.{Decides-int_eq, not_from_Decides}
use Rattle.std.proofs.lemmas.List.Elements.{All-head, All-tail, All-nil, All-cons, All-contains, Contains-append_right, Contains-append_cases}
use Rattle.farkas_cert.specs.declared.system.Row.{Row}
use Rattle.farkas_cert.specs.Inequalities.{Inequalities}
use Rattle.elim_rows.specs.Reduction.{IsReduced}
use Rattle.elim_rows.specs.Pairs.{coef_of}
use Rattle.elim_rows.specs.Candidates.{IsEmpty, IsUseful}
use Rattle.elim_level.specs.Levels.{IsLevelRow, IsRaw, IsDerived}
use Rattle.fm_elim.specs.Reached.{IsExact}
use Rattle.elim_level.proofs.Unique.{IsReduced-unique}
use Rattle.fm_elim.proofs.Exactness.{row_same, raw_of_other}
use Rattle.fm_elim.proofs.Back.{IsComplete}
use Rattle.elim_level.proofs.Least.{Listed, listed_one, listed_each, listed_alone, listed_raws, reduction_exists, kept_exists}

-- a row has coefficients or not
empty_or_not : (coefs : List ℤ) → All (λ a. a ≡ pos 0) coefs ⊎ (All (λ a. a ≡ pos 0) coefs → ⊥)
empty_or_not [] = inl (All-nil (λ a. a ≡ pos 0))
empty_or_not (a ∷ coefs) =
    ⊎_elim (λ yes. ⊎_elim (λ all. inl (All-cons (λ b. b ≡ pos 0) a coefs ((Decides-int_eq a (pos 0)).0 yes) all)) (λ not. inr (λ h. not (All-tail (λ b. b ≡ pos 0) a coefs h))) (empty_or_not coefs))
    (λ no. inr (λ h. not_from_Decides (int_eq a (pos 0)) (Decides-int_eq a (pos 0)) no (All-head (λ b. b ≡ pos 0) a coefs h)))
    (cases_Bool (int_eq a (pos 0)))

-- a level row that says as much, or none is needed
abbrev pub IsKeptFor : (Row → Type 0) → Row → Type 0
IsKeptFor raws row = (IsEmpty row × (pos 0 ≤ℤ row.bound)) ⊎ ((kept : Row) × IsLevelRow raws kept × (kept.coefs ≡ row.coefs) × (kept.bound ≤ℤ row.bound))

-- the level says as much as each raw row
pub kept_for : (raws : Row → Type 0) → Listed raws → (raw row : Row) → raws raw → IsReduced raw row → IsKeptFor raws row
kept_for raws listed raw row has reduced =
    by_lt_z {P = IsKeptFor raws row} row.bound (pos 0) (λ lt. found (λ e. lt)) (λ ge. ⊎_elim (λ e. inl (e, ge)) (λ not. found (λ e. absurd (not e))) (empty_or_not row.coefs))
  where
    found : IsUseful row → IsKeptFor raws row
    found useful = let k = kept_exists raws listed row raw has reduced useful in inr (k.0, k.1, k.2, k.1.least raw row has reduced (sym k.2))

-- rows of a level with equal coefficients are one
pub level_same : (raws : Row → Type 0) (r s : Row) → IsLevelRow raws r → IsLevelRow raws s → r.coefs ≡ s.coefs → r ≡ s
level_same raws r s a b e =
    let down = a.least b.reduced.0 s b.reduced.1 b.reduced.2 (sym e) in
    let up = b.least a.reduced.0 r a.reduced.1 a.reduced.2 e in
    row_same r s e (omega (arith, ints, down, up))

-- of the reductions in a list, the rows that the level keeps for them
record IsKeptOf (raws : Row → Type 0) (rows kept : List Row) : Type 0 where
  only : All (IsLevelRow raws) kept
  has : (r : Row) → Contains rows r → IsLevelRow raws r → (k : Row) × Contains kept k × (k.coefs ≡ r.coefs)

is_first : (x : Row) (y : Row) → Contains (x ∷ []) y → x ≡ y
is_first x y h = only h.0 h.1 h.2
  where
    only : (k : ℕ) → k < length (x ∷ []) → get_or (x ∷ []) k y ≡ y → x ≡ y
    only zero lt e = e
    only (suc k) lt e = absurd (omega arith)

kept_of : (raws : Row → Type 0) → Listed raws → (rows : List Row) → All (λ r. (raw : Row) × raws raw × IsReduced raw r) rows → (kept : List Row) × IsKeptOf raws rows kept
kept_of raws listed [] all = ([], record { only = All-nil (IsLevelRow raws); has = λ r h level. absurd (omega (arith, h.1)) })
kept_of raws listed (x ∷ rows) all =
    let rest = kept_of raws listed rows (All-tail (λ r. (raw : Row) × raws raw × IsReduced raw r) x rows all) in
    let first = All-head (λ r. (raw : Row) × raws raw × IsReduced raw r) x rows all in
    ⊎_elim (λ idle. (
      rest.0,
      record {
        only = rest.1.only;
        has = λ r h level. ⊎_elim
            (λ front. let same = is_first x r front in
            let low = level.useful (subst IsEmpty same idle.0) in
            let high : pos 0 ≤ℤ r.bound = subst (λ s. pos 0 ≤ℤ s.bound) same idle.1 in
            absurd (omega (arith, ints, low, high)))
            (λ later. rest.1.has r later level) (Contains-append_cases (x ∷ []) rows r h);
      },
    ))
    (λ k. (
      k.0 ∷ rest.0,
      record {
        only = All-cons (IsLevelRow raws) k.0 rest.0 k.1 rest.1.only;
        has = λ r h level. ⊎_elim
            (λ front. (k.0, (0, omega arith, refl), k.2 ∙ ap (λ s. s.coefs) (is_first x r front)))
            (λ later. let at = rest.1.has r later level in (at.0, Contains-append_right (k.0 ∷ []) rest.0 at.0 at.1, at.2)) (Contains-append_cases (x ∷ []) rows r h);
      },
    ))
    (kept_for raws listed first.0 x first.1 first.2)

-- so the level is a list
pub exact_list : (raws : Row → Type 0) → Listed raws → (rows : List Row) × IsExact (IsLevelRow raws) rows
exact_list raws listed =
    let made = kept_of raws listed listed.0 listed.1.sound in (
      made.0,
      record {
        has = λ r level.
            let at = listed.1.complete level.reduced.0 level.reduced.1 in
            let there : Contains listed.0 r = subst (Contains listed.0) (IsReduced-unique level.reduced.0 at.0 r at.1 level.reduced.2) at.2 in
            let k = made.1.has r there level in
            subst (Contains made.0) (level_same raws k.0 r (All-contains (IsLevelRow raws) made.0 k.0 made.1.only k.1) level k.2) k.1;
        only = λ r there. All-contains (IsLevelRow raws) made.0 r made.1.only there;
      },
    )

-- sets with the same rows
pub listed_same : (P Q : Row → Type 0) → ((r : Row) → P r → Q r) → ((r : Row) → Q r → P r) → Listed P → Listed Q
listed_same P Q forth back list = (
  list.0,
  record {
    sound = λ k d h. let at = list.1.sound k d h in (at.0, forth at.0 at.1, at.2);
    complete = λ raw has. list.1.complete raw (back raw has);
  },
)

pub listed_rows : (rows : List Row) → Listed (Contains rows)
listed_rows rows = listed_same (λ raw. (x : Row) × Contains rows x × (x ≡ raw)) (Contains rows) (λ r h. subst (Contains rows) h.2 h.1) (λ r h. (r, h, refl))
    (listed_each rows (λ x raw. x ≡ raw) (λ x. listed_one (λ raw. x ≡ raw) x refl (λ other e. e)))

pub listed_next : (v : ℕ) (set : Row → Type 0) (rows : List Row) → IsExact set rows → Listed (IsRaw v set)
listed_next v set rows exact = listed_same (IsRaw v (Contains rows)) (IsRaw v set) (raw_of_other v (Contains rows) set exact.only) (raw_of_other v set (Contains rows) exact.has) (listed_raws v rows)

pub listed_without : (v : ℕ) (set : Row → Type 0) (rows : List Row) → IsExact set rows → Listed (λ r. set r × (coef_of v r ≡ pos 0))
listed_without v set rows exact =
    listed_same (λ raw. (x : Row) × Contains rows x × ((x ≡ raw) × (coef_of v x ≡ pos 0))) (λ r. set r × (coef_of v r ≡ pos 0))
    (λ r h. subst (λ s. set s × (coef_of v s ≡ pos 0)) h.2.0 (exact.only h.0 h.1, h.2.1)) (λ r h. (r, exact.has r h.0, (refl, h.1)))
    (listed_each rows (λ x raw. (x ≡ raw) × (coef_of v x ≡ pos 0)) (listed_alone v))

-- a list of the level covers the raw rows
pub complete_from : (raws : Row → Type 0) (rows : List Row) → Listed raws → IsExact (IsLevelRow raws) rows → IsComplete raws rows
complete_from raws rows listed exact raw has =
    let r = reduction_exists raw in
    (r.0, r.1, ⊎_elim (λ idle. inl idle) (λ k. inr (k.0, exact.has k.0 k.1, k.2, k.3)) (kept_for raws listed raw r.0 has r.1))

-- the levels of a system
module _ (system : Inequalities) (order : List ℕ) where
  pub level_list : (k : ℕ) → (rows : List Row) × IsExact (IsDerived system order k) rows
  level_list zero = exact_list (λ r. Contains system.rows r) (listed_rows system.rows)
  level_list (suc k) = let before = level_list k in exact_list (IsRaw (slice_index order k) (λ r. IsDerived system order k r)) (listed_next (slice_index order k) (λ r. IsDerived system order k r) before.0 before.1)

  pub listed_after : (k : ℕ) → Listed (IsRaw (slice_index order k) (λ r. IsDerived system order k r))
  listed_after k = let at = level_list k in listed_next (slice_index order k) (λ r. IsDerived system order k r) at.0 at.1
