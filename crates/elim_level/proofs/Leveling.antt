-- A level from its candidates: tightened, they are formed, and where too many are apart it has too many rows.
use Rattle.std.proofs.Common.{◌≡◌, ℕ, ◌<◌, ℤ, pos, ◌<ℤ◌, ⊎_elim, inl, inr, List, [], map, length, get_or, ap, sym, ◌∙◌, subst}
use Rattle.std.specs.List.{All, AllPairs, Contains}
use Rattle.std.proofs.lemmas.Bool.{false≢true}
use Rattle.std.proofs.lemmas.List.Elements.{Contains-get_or, All-map, All-weaker, All-contains}
use Rattle.list_lemmas.proofs.Elements.{Contains-map}
use Rattle.farkas_cert.specs.declared.system.Row.{Row}
use Rattle.farkas_cert.specs.Inequalities.{Inequalities}
use Rattle.elim_rows.specs.declared.derivation.Derivation.{Derivation}
use Rattle.elim_level.specs.declared.level.Held.{Held}
use Rattle.elim_rows.specs.declared.candidate.Candidate.{Candidate}
use Rattle.elim_rows.specs.Reduction.{IsReduced}
use Rattle.elim_rows.specs.Pairs.{coef_of, IsPair, IsWide}
use Rattle.elim_rows.specs.Candidates.{IsEmpty, Covers, rows_among, IsUseful}
use Rattle.elim_level.specs.Levels.{IsLevelRow, IsRaw, HasMoreThan}
use Rattle.elim_level.specs.Forming.{IsFormed}
use Rattle.elim_level.specs.Logs.{IsFounded, IsHeld, rows_of}
use Rattle.elim_level.specs.Next.{AreNowhereWide}
use Rattle.elim_level.specs.Gathering.{apart_of, IsSplit, IsPaired, IsMade, candidate_of, CoversPair, HasApart, IsNarrowPair, IsTooWide, IsSource, IsGathered, IsSound, IsCovered}
use Rattle.elim_level.proofs.Lowest.{IsReduced-lowest}
use Rattle.elim_rows.proofs.Covering.{Contains-unmap}
use Rattle.elim_level.proofs.Gathered.{IsGathered-start, HasApart-weaker, apart_from_rows}
use Rattle.elim_level.proofs.Least.{listed_raws, many_from}
use Rattle.elim_level.proofs.Splitting.{apart_has, has_apart, uppers_have, has_upper, lowers_have, has_lower}

-- candidates that are sound, cover all raw rows and are apart
pub formed_from : (raws : Row → Type 0) (candidates : List Candidate) → All (IsSound raws) candidates → ((raw : Row) → raws raw → IsCovered candidates raw) → AllPairs (λ r s. r.coefs ≡ s.coefs → ⊥) (rows_among candidates) → IsFormed raws (rows_among candidates)
formed_from raws candidates sound covered apart = record {
  sound = All-map (λ r. (raw : Row) × raws raw × IsReduced raw r) (λ (c : Candidate). c.row) candidates (λ k d h. (sound k d h).1);
  complete = covered;
  distinct = apart;
  useful = All-map (λ r. IsEmpty r → r.bound <ℤ pos 0) (λ (c : Candidate). c.row) candidates (λ k d h. (sound k d h).0);
}

pub lowest_from : (raws : Row → Type 0) (candidates : List Candidate) → All (IsSound raws) candidates → All (λ c. IsReduced c.row c.row) candidates
lowest_from raws candidates sound k d h = IsReduced-lowest (sound k d h).1.0 (get_or candidates k d).row (sound k d h).1.2

-- the sources of the next level
module _ (v : ℕ) (level uppers lowers : List Held) (split : IsSplit v level uppers lowers) (system : Inequalities) (log : List Derivation) (held : All (IsHeld system log) level) where
  pub source_sound : (c : Candidate) → IsSource v (apart_of v level) uppers lowers c → IsSound (IsRaw v (Contains (rows_of level))) c
  source_sound c source = (source.0, ⊎_elim carried made source.1)
    where
      carried : Contains (map candidate_of (apart_of v level)) c → (raw : Row) × IsRaw v (Contains (rows_of level)) raw × IsReduced raw c.row
      carried there =
          let found = Contains-unmap candidate_of (apart_of v level) c there in
          let at = apart_has v level uppers lowers split found.0 found.1 in
          let lowest = (All-contains (IsHeld system log) level found.0 held at.0).lowest in
          (found.0.row, inl (Contains-map (λ (h : Held). h.row) level found.0 at.0, at.1), subst (IsReduced found.0.row) (ap (λ (c : Candidate). c.row) found.2) lowest)

      made : (upper : Held) × (lower : Held) × Contains uppers upper × Contains lowers lower × IsMade v upper lower c → (raw : Row) × IsRaw v (Contains (rows_of level)) raw × IsReduced raw c.row
      made m =
          let p = m.4.paired in
          let up = (uppers_have v level uppers lowers split m.0 m.2).0 in
          let low = (lowers_have v level uppers lowers split m.1 m.3).0 in
          (m.4.raw, inr (record { upper = m.0.row; lower = m.1.row; m = p.m; n = p.n; has_upper = Contains-map (λ (h : Held). h.row) level m.0 up; has_lower = Contains-map (λ (h : Held). h.row) level m.1 low; pair = p.pair; made = p.made }), m.4.reduced)

  -- the rows without the variable are there
  pub start_gathered : All (λ h. IsUseful h.row) level → (candidates : List Candidate) → candidates ≡ map candidate_of (apart_of v level) → IsGathered v (apart_of v level) [] lowers candidates
  start_gathered useful candidates is = subst (IsGathered v (apart_of v level) [] lowers) (sym is)
      (IsGathered-start v (apart_of v level) lowers (λ k d h. All-contains (λ h. IsUseful h.row) level (get_or (apart_of v level) k d) useful (apart_has v level uppers lowers split (get_or (apart_of v level) k d) (Contains-get_or (apart_of v level) k d h)).0))

  pub source_founded : (c : Candidate) → IsSource v (apart_of v level) uppers lowers c → IsFounded system log c
  source_founded c source = ⊎_elim carried made source.1
    where
      carried : Contains (map candidate_of (apart_of v level)) c → IsFounded system log c
      carried there =
          let found = Contains-unmap candidate_of (apart_of v level) c there in
          let h = All-contains (IsHeld system log) level found.0 held (apart_has v level uppers lowers split found.0 found.1).0 in
          subst (IsFounded system log) found.2 (record { suited = h.suited; origin = h.number })

      made : (upper : Held) × (lower : Held) × Contains uppers upper × Contains lowers lower × IsMade v upper lower c → IsFounded system log c
      made m = m.4.founded system log (All-contains (IsHeld system log) level m.0 held (uppers_have v level uppers lowers split m.0 m.2).0) (All-contains (IsHeld system log) level m.1 held (lowers_have v level uppers lowers split m.1 m.3).0)

  pub gathered_covers : (candidates : List Candidate) → IsGathered v (apart_of v level) uppers lowers candidates → (raw : Row) → IsRaw v (Contains (rows_of level)) raw → IsCovered candidates raw
  gathered_covers candidates gathered raw is_raw =
      ⊎_elim (λ alone.
      let found = Contains-unmap (λ (h : Held). h.row) level raw alone.0 in
      let zero_there : coef_of v found.0.row ≡ pos 0 = ap (coef_of v) found.2 ∙ alone.1 in
      let there = has_apart v level uppers lowers split found.0 found.1 zero_there in
      let lowest : IsReduced raw raw = subst (λ r. IsReduced r r) found.2 (All-contains (IsHeld system log) level found.0 held found.1).lowest in
      (raw, lowest, subst (Covers (rows_among candidates)) found.2 (All-contains (λ h. Covers (rows_among candidates) h.row) (apart_of v level) found.0 gathered.carried there)))
      (λ both.
      let up = Contains-unmap (λ (h : Held). h.row) level both.upper both.has_upper in
      let low = Contains-unmap (λ (h : Held). h.row) level both.lower both.has_lower in
      let there_up = has_upper v level uppers lowers split up.0 up.1 (subst (λ r. pos 0 <ℤ coef_of v r) (sym up.2) both.pair.above) in
      let there_low = has_lower v level uppers lowers split low.0 low.1 (subst (λ r. coef_of v r <ℤ pos 0) (sym low.2) both.pair.below) in
      let paired : IsPaired v up.0.row low.0.row raw = subst (λ u. IsPaired v u low.0.row raw) (sym up.2) (subst (λ l. IsPaired v both.upper l raw) (sym low.2) (record { m = both.m; n = both.n; pair = both.pair; made = both.made })) in
      let at_up = All-contains (λ u. All (λ l. CoversPair v (rows_among candidates) u.row l.row) lowers) uppers up.0 gathered.pairs there_up in
      let at_low = All-contains (λ l. CoversPair v (rows_among candidates) up.0.row l.row) lowers low.0 at_up there_low in
      at_low raw paired) is_raw

  -- a wide pair is one of the level's rows
  pub wide_there : (u l : Held) → Contains uppers u → Contains lowers l → IsTooWide v u.row l.row → Contains (rows_of level) u.row × Contains (rows_of level) l.row × ((m : ℤ) × (n : ℤ) × IsPair v u.row l.row m n × IsWide system.vars m u.row n l.row)
  wide_there u l has_u has_l wide =
      let up = (uppers_have v level uppers lowers split u has_u).0 in
      let low = (lowers_have v level uppers lowers split l has_l).0 in
      let full = (All-contains (IsHeld system log) level u held up).suited.full in
      (Contains-map (λ (h : Held). h.row) level u up, Contains-map (λ (h : Held). h.row) level l low, (wide.0, wide.1, wide.2, subst (λ k. IsWide k wide.0 u.row wide.1 l.row) full wide.3))

  -- where no pair of the two lists is wide, no pair of the level is
  pub nowhere_wide : All (λ u. All (λ l. IsNarrowPair v u.row l.row) lowers) uppers → AreNowhereWide system.vars v (rows_of level)
  nowhere_wide narrow upper lower m n has_u has_l pair wide =
      let up = Contains-unmap (λ (h : Held). h.row) level upper has_u in
      let low = Contains-unmap (λ (h : Held). h.row) level lower has_l in
      let there_up = has_upper v level uppers lowers split up.0 up.1 (subst (λ r. pos 0 <ℤ coef_of v r) (sym up.2) pair.above) in
      let there_low = has_lower v level uppers lowers split low.0 low.1 (subst (λ r. coef_of v r <ℤ pos 0) (sym low.2) pair.below) in
      let at_up = All-contains (λ u. All (λ l. IsNarrowPair v u.row l.row) lowers) uppers up.0 narrow there_up in
      let at_low = All-contains (λ l. IsNarrowPair v up.0.row l.row) lowers low.0 at_up there_low in
      let pair' : IsPair v up.0.row low.0.row m n = subst (λ u. IsPair v u low.0.row m n) (sym up.2) (subst (λ l. IsPair v upper l m n) (sym low.2) pair) in
      let full = (All-contains (IsHeld system log) level up.0 held up.1).suited.full in
      let wide' : IsWide (length up.0.row.coefs) m up.0.row n low.0.row = subst (λ k. IsWide k m up.0.row n low.0.row) (sym full) (subst (λ u. IsWide system.vars m u n low.0.row) (sym up.2) (subst (λ l. IsWide system.vars m upper n l) (sym low.2) wide)) in
      false≢true (sym wide'.2 ∙ at_low.narrow m n pair' wide'.0 wide'.1)

  -- too many sources apart
  pub many_there : HasApart 20000 (IsSource v (apart_of v level) uppers lowers) → HasMoreThan 20000 (IsLevelRow (IsRaw v (Contains (rows_of level))))
  many_there h = many_from 20000 (IsRaw v (Contains (rows_of level))) (listed_raws v (rows_of level)) (HasApart-weaker 20000 (IsSource v (apart_of v level) uppers lowers) (IsSound (IsRaw v (Contains (rows_of level)))) source_sound h)

  -- gathered candidates that are apart
  module _ (candidates : List Candidate) (gathered : IsGathered v (apart_of v level) uppers lowers candidates) (distinct : AllPairs (λ r s. r.coefs ≡ s.coefs → ⊥) (rows_among candidates)) where
    sound : All (IsSound (IsRaw v (Contains (rows_of level)))) candidates
    sound = All-weaker (IsSource v (apart_of v level) uppers lowers) (IsSound (IsRaw v (Contains (rows_of level)))) source_sound candidates gathered.only

    pub next_formed : IsFormed (IsRaw v (Contains (rows_of level))) (rows_among candidates)
    next_formed = formed_from (IsRaw v (Contains (rows_of level))) candidates sound (gathered_covers candidates gathered) distinct

    pub next_lowest : All (λ c. IsReduced c.row c.row) candidates
    next_lowest = lowest_from (IsRaw v (Contains (rows_of level))) candidates sound

    pub next_founded : All (IsFounded system log) candidates
    next_founded = All-weaker (IsSource v (apart_of v level) uppers lowers) (IsFounded system log) source_founded candidates gathered.only

    pub next_many : 20000 < length candidates → HasMoreThan 20000 (IsLevelRow (IsRaw v (Contains (rows_of level))))
    next_many many = many_there (record { kept = candidates; many = many; all = gathered.only; apart = apart_from_rows candidates distinct })
