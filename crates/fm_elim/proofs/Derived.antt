-- What holds of all derived rows: how long they are, which coefficients are gone, that a contradiction stays, and that what satisfies a level can be moved to satisfy the system.
use Rattle.std.proofs.Common.{◌≡◌, ℕ, zero, suc, ◌-◌, ◌≤◌, ◌<◌, max, ℤ, pos, ◌<ℤ◌, int_div, ⊎_elim, inl, slice_index, List, [], ◌∷◌, length, get_or, refl, ap, sym, ◌∙◌, subst, arith}
use Rattle.std.specs.List.{All, Contains}
use Rattle.std.proofs.lemmas.List.{length-map}
use Rattle.std.proofs.lemmas.List.Elements.{All-head, All-tail, All-contains, Contains-get_or}
use Rattle.farkas_cert.specs.declared.system.Row.{Row}
use Rattle.farkas_cert.specs.Inequalities.{Inequalities, AreFull}
use Rattle.elim_rows.specs.Reduction.{IsReduced}
use Rattle.elim_rows.specs.Pairs.{coef_of}
use Rattle.elim_rows.specs.Candidates.{IsEmpty}
use Rattle.elim_level.specs.Levels.{IsRaw, IsDerived}
use Rattle.fm_elim.specs.Reached.{IsExact}
use Rattle.elim_rows.proofs.Combined.{by_lt}
use Rattle.elim_level.proofs.Steps.{length-combined}
use Rattle.elim_level.proofs.Lowest.{IsReduced-lowest}
use Rattle.fm_elim.proofs.Removal.{IsSolvable}
use Rattle.fm_elim.proofs.Exactness.{raw_of_other}
use Rattle.elim_level.proofs.Least.{kept_exists}
use Rattle.fm_elim.proofs.Back.{solvable_before, solvable_system}
use Rattle.fm_elim.proofs.Columns.{rid_next, zero_reduced}
use Rattle.fm_elim.proofs.Finite.{listed_rows, complete_from, level_list, listed_after}

-- a reduction is as long as the row
pub length_reduced : (raw row : Row) → IsReduced raw row → length row.coefs ≡ length raw.coefs
length_reduced raw row reduced = ap (λ r. length r.coefs) reduced.1.1 ∙ length-map raw.coefs (λ a. int_div a (pos (max reduced.0 1)))

-- a row without coefficients has none of any variable
none_at : (coefs : List ℤ) → All (λ a. a ≡ pos 0) coefs → (k : ℕ) → get_or coefs k (pos 0) ≡ pos 0
none_at [] all k = refl
none_at (a ∷ coefs) all zero = All-head (λ b. b ≡ pos 0) a coefs all
none_at (a ∷ coefs) all (suc k) = none_at coefs (All-tail (λ b. b ≡ pos 0) a coefs all) k

module _ (system : Inequalities) (order : List ℕ) where
  -- a derived row is in its lowest terms, and useful
  pub derived_lowest : (k : ℕ) (r : Row) → IsDerived system order k r → IsReduced r r
  derived_lowest zero r d = IsReduced-lowest d.reduced.0 r d.reduced.2
  derived_lowest (suc k) r d = IsReduced-lowest d.reduced.0 r d.reduced.2

  pub derived_useful : (k : ℕ) (r : Row) → IsDerived system order k r → IsEmpty r → r.bound <ℤ pos 0
  derived_useful zero r d = d.useful
  derived_useful (suc k) r d = d.useful

  -- a contradiction stays
  stays_once : (k : ℕ) (r : Row) → IsDerived system order k r → IsEmpty r → (s : Row) × IsDerived system order (suc k) s × IsEmpty s
  stays_once k r d empty =
      let v = slice_index order k in
      let kept = kept_exists (IsRaw v (λ r. IsDerived system order k r)) (listed_after system order k) r r (inl (d, none_at r.coefs empty (v - 1))) (derived_lowest k r d) (derived_useful k r d) in
      (kept.0, kept.1, subst (All (λ a. a ≡ pos 0)) (sym kept.2) empty)

  pub contradiction_stays : (j k : ℕ) (r : Row) → j ≤ k → IsDerived system order j r → IsEmpty r → (s : Row) × IsDerived system order k s × IsEmpty s
  contradiction_stays j zero r h d empty = let e : j ≡ 0 = omega arith in (r, subst (λ n. IsDerived system order n r) e d, empty)
  contradiction_stays j (suc k) r h d empty =
      by_lt {P = (s : Row) × IsDerived system order (suc k) s × IsEmpty s} j (suc k)
      (λ early. let before = contradiction_stays j k r (omega arith) d empty in stays_once k before.0 before.1 before.2)
      (λ here. let e : j ≡ suc k = omega arith in (r, subst (λ n. IsDerived system order n r) e d, empty))

  module _ (full : AreFull system.vars system.rows) where
    -- a coefficient for each variable
    pub derived_full : (k : ℕ) (r : Row) → IsDerived system order k r → length r.coefs ≡ system.vars
    derived_full zero r d = length_reduced d.reduced.0 r d.reduced.2 ∙ All-contains (λ r. length r.coefs ≡ system.vars) system.rows d.reduced.0 full d.reduced.1
    derived_full (suc k) r d =
        length_reduced d.reduced.0 r d.reduced.2 ∙ ⊎_elim (λ alone. derived_full k d.reduced.0 alone.0)
        (λ both.
        let upper = derived_full k both.upper both.has_upper in
        let lower = derived_full k both.lower both.has_lower in
        ap (λ r. length r.coefs) both.made ∙ length-combined both.m both.n both.upper.coefs both.lower.coefs (lower ∙ sym upper) ∙ upper) d.reduced.1

    -- none of the variables that are gone
    pub derived_rid : (k : ℕ) (r : Row) → IsDerived system order k r → (j : ℕ) → j < k → coef_of (slice_index order j) r ≡ pos 0
    derived_rid zero r d j lt = absurd (omega arith)
    derived_rid (suc k) r d j lt = zero_reduced (slice_index order j) d.reduced.0 r d.reduced.2 (rid_next order k system.vars (λ r. IsDerived system order k r) (derived_full k) (derived_rid k) d.reduced.0 d.reduced.1 j lt)

    -- what satisfies a level can be moved to satisfy the system
    pub solvable_from : (k : ℕ) (rows : List Row) → ((j : ℕ) → j < k → (1 ≤ slice_index order j) × (slice_index order j ≤ system.vars)) → IsExact (IsDerived system order k) rows → IsSolvable system.vars rows → IsSolvable system.vars system.rows
    solvable_from zero rows within exact s = solvable_system system.vars system.rows rows (complete_from (Contains system.rows) rows (listed_rows system.rows) exact) s
    solvable_from (suc k) rows within exact s =
        let v = slice_index order k in
        let set : Row → Type 0 = λ r. IsDerived system order k r in
        let before = level_list system order k in
        let full' : AreFull system.vars before.0 = λ i d h. derived_full k (get_or before.0 i d) (before.1.only (get_or before.0 i d) (Contains-get_or before.0 i d h)) in
        let complete = complete_from (IsRaw v set) rows (listed_after system order k) exact in
        solvable_from k before.0 (λ j lt. within j (omega arith)) before.1
        (solvable_before v system.vars before.0 rows (within k (omega arith)).0 (within k (omega arith)).1 full' (λ raw has. complete raw (raw_of_other v (Contains before.0) set before.1.only raw has)) s)
