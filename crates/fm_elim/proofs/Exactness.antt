-- A list that is formed from a level's raw rows has exactly the rows of the next level.
use Rattle.std.proofs.Common.{◌≡◌, ℕ, suc, pos, ◌<ℤ◌, slice_index, ⊎_elim, inl, inr, List, get_or, ap, sym, ◌∙◌, subst, arith}
use Rattle.std.specs.List.{All, AllPairs, Contains}
use Rattle.std.proofs.lemmas.Int.{ints}
use Rattle.std.proofs.lemmas.List.{get_or_default}
use Rattle.std.proofs.lemmas.List.Elements.{All-contains}
use Rattle.farkas_cert.specs.declared.system.Row.{Row}
use Rattle.farkas_cert.specs.Inequalities.{Inequalities}
use Rattle.elim_rows.specs.Reduction.{IsReduced}
use Rattle.elim_rows.specs.Candidates.{IsEmpty, Covers}
use Rattle.elim_level.specs.Levels.{IsLevelRow, IsRaw, IsDerived}
use Rattle.elim_level.specs.Forming.{IsFormed}
use Rattle.fm_elim.specs.Reached.{IsExact}
use Rattle.elim_rows.proofs.Combined.{by_lt}
use Rattle.elim_level.proofs.Unique.{IsReduced-unique}

pub row_same : (r s : Row) → r.coefs ≡ s.coefs → r.bound ≡ s.bound → r ≡ s
row_same r s e f = ap (λ xs. record { coefs = xs; bound = r.bound }) e ∙ ap (λ b. record { coefs = s.coefs; bound = b }) f

-- rows of the list with equal coefficients are one
distinct_same : (rows : List Row) → AllPairs (λ r s. r.coefs ≡ s.coefs → ⊥) rows → (r s : Row) → Contains rows r → Contains rows s → r.coefs ≡ s.coefs → r ≡ s
distinct_same rows apart r s a b e =
    let here : get_or rows b.0 r ≡ s = get_or_default rows b.0 r s b.1 ∙ b.2 in
    by_lt {P = r ≡ s} a.0 b.0
    (λ lt. absurd (apart a.0 b.0 r lt b.1 (ap (λ x. x.coefs) a.2 ∙ e ∙ sym (ap (λ x. x.coefs) here))))
    (λ ge. by_lt {P = r ≡ s} b.0 a.0
    (λ lt. absurd (apart b.0 a.0 r lt a.1 (ap (λ x. x.coefs) here ∙ sym e ∙ sym (ap (λ x. x.coefs) a.2))))
    (λ le. let same : a.0 ≡ b.0 = omega arith in sym a.2 ∙ ap (λ k. get_or rows k r) same ∙ here))

module _ (raws : Row → Type 0) (rows : List Row) (formed : IsFormed raws rows) where
  -- what the list has, the level keeps
  pub kept_from_formed : (r : Row) → Contains rows r → IsLevelRow raws r
  kept_from_formed r there = record {
    reduced = All-contains (λ s. (raw : Row) × raws raw × IsReduced raw s) rows r formed.sound there;
    least = λ raw other has reduced same.
        let found = formed.complete raw has in
        let one : found.0 ≡ other = IsReduced-unique raw found.0 other found.1 reduced in
        let covered : Covers rows other = subst (Covers rows) one found.2 in
        ⊎_elim (λ none. let empty : IsEmpty r = subst (λ xs. All (λ a. a ≡ pos 0) xs) same none.0 in
        let low = All-contains (λ s. IsEmpty s → s.bound <ℤ pos 0) rows r formed.useful there empty in
        omega (arith, ints, low, none.1))
        (λ some. let twin : r ≡ some.0 = distinct_same rows formed.distinct r some.0 there some.1 (sym same ∙ sym some.2) in
        omega (arith, ints, ap (λ s. s.bound) twin, some.3)) covered;
    useful = All-contains (λ s. IsEmpty s → s.bound <ℤ pos 0) rows r formed.useful there;
  }

  -- what the level keeps, the list has
  pub formed_has_kept : (r : Row) → IsLevelRow raws r → Contains rows r
  formed_has_kept r kept =
      let raw = kept.reduced.0 in
      let found = formed.complete raw kept.reduced.1 in
      let one : found.0 ≡ r = IsReduced-unique raw found.0 r found.1 kept.reduced.2 in
      let covered : Covers rows r = subst (Covers rows) one found.2 in
      ⊎_elim (λ none. absurd (let low = kept.useful none.0 in omega (arith, ints, low, none.1)))
      (λ some.
      let made = All-contains (λ s. (raw' : Row) × raws raw' × IsReduced raw' s) rows some.0 formed.sound some.1 in
      let least = kept.least made.0 some.0 made.1 made.2 some.2 in
      let bound : some.0.bound ≡ r.bound = omega (arith, ints, least, some.3) in
      subst (Contains rows) (row_same some.0 r some.2 bound) some.1) covered

-- raw rows of two sets that have the same rows
module _ (v : ℕ) (set other : Row → Type 0) (forth : (r : Row) → set r → other r) where
  pub raw_of_other : (raw : Row) → IsRaw v set raw → IsRaw v other raw
  raw_of_other raw h =
      ⊎_elim (λ alone. inl (forth raw alone.0, alone.1))
      (λ both. inr (record { upper = both.upper; lower = both.lower; m = both.m; n = both.n; has_upper = forth both.upper both.has_upper; has_lower = forth both.lower both.has_lower; pair = both.pair; made = both.made })) h

pub kept_of_other : (raws other : Row → Type 0) → ((r : Row) → raws r → other r) → ((r : Row) → other r → raws r) → (r : Row) → IsLevelRow raws r → IsLevelRow other r
kept_of_other raws other forth back r kept = record {
  reduced = (kept.reduced.0, forth kept.reduced.0 kept.reduced.1, kept.reduced.2);
  least = λ raw o has reduced same. kept.least raw o (back raw has) reduced same;
  useful = kept.useful;
}

-- level 0
pub IsExact-first : (system : Inequalities) (order : List ℕ) (rows : List Row) → IsFormed (λ r. Contains system.rows r) rows → IsExact (IsDerived system order 0) rows
IsExact-first system order rows formed = record { has = formed_has_kept (λ r. Contains system.rows r) rows formed; only = kept_from_formed (λ r. Contains system.rows r) rows formed }

-- level k + 1
pub IsExact-next : (system : Inequalities) (order : List ℕ) (k : ℕ) (rows next : List Row) → IsExact (IsDerived system order k) rows → IsFormed (IsRaw (slice_index order k) (Contains rows)) next → IsExact (IsDerived system order (suc k)) next
IsExact-next system order k rows next exact formed =
    let v = slice_index order k in
    let here : Row → Type 0 = IsRaw v (Contains rows) in
    let there : Row → Type 0 = IsRaw v (λ r. IsDerived system order k r) in
    let forth : (r : Row) → here r → there r = raw_of_other v (Contains rows) (λ r. IsDerived system order k r) exact.only in
    let back : (r : Row) → there r → here r = raw_of_other v (λ r. IsDerived system order k r) (Contains rows) exact.has in
    record {
      has = λ r h. formed_has_kept here next formed r (kept_of_other there here back forth r h);
      only = λ r h. kept_of_other here there forth back r (kept_from_formed here next formed r h);
    }
