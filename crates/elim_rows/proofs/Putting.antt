-- A candidate that is put among others: they stay different, and cover what they covered, and it.
use Rattle.std.proofs.Common.{◌≡◌, ℕ, ◌<◌, ℤ, pos, ◌≤ℤ◌, ◌<ℤ◌, ◌⊎◌, ⊎_elim, inl, inr, List, length, get_or, set, refl, ap, sym, ◌∙◌, subst, arith}
use Rattle.std.specs.List.{All, Contains}
use Rattle.std.proofs.lemmas.Int.{ints, by_lt_z}
use Rattle.std.proofs.lemmas.List.{get_or_default, get_or-map, length-map, length-set, get_or-set_same, get_or-set_other}
use Rattle.std.proofs.lemmas.List.Elements.{All-weaker, All-contains_itself, Contains-get_or}
use lib.Signed.{≤ℤ_refl}
use Rattle.list_lemmas.proofs.Elements.{Contains-map}
use Rattle.farkas_cert.specs.declared.system.Row.{Row}
use Rattle.farkas_cert.specs.Combination.{no_row}
use Rattle.elim_rows.specs.declared.chains.Link.{Link}
use Rattle.elim_rows.specs.declared.candidate.Candidate.{Candidate}
use Rattle.elim_rows.specs.declared.candidate.Origin.{Origin}
use Rattle.elim_rows.specs.Chains.{hash_of}
use Rattle.elim_rows.specs.Candidates.{Covers, IsAdded, IsUseful, rows_among}
use Rattle.elim_rows.specs.Table.{IsTable, IsPut, IsLowered, candidate_with}
use Rattle.elim_rows.proofs.Combined.{by_lt}
use Rattle.elim_rows.proofs.Covering.{Contains-unmap, Covers-added, Covers-kept, All-added}

-- rows with the same coefficients have the same table
pub IsTable-alike : (rows more : List Row) (links : List Link) (latest : List ℕ) → length rows ≡ length more → ((k : ℕ) → k < length rows → (get_or rows k no_row).coefs ≡ (get_or more k no_row).coefs) → IsTable rows links latest → IsTable more links latest
IsTable-alike rows more links latest count same table = record {
  chained = table.chained;
  count = table.count ∙ count;
  hashes = λ k h. let low : k < length rows = omega (arith, count, h) in table.hashes k low ∙ ap hash_of (same k low);
  distinct = λ i j d lt h e.
      let low : j < length rows = omega (arith, count, h) in
      let at : (k : ℕ) → k < length rows → (get_or rows k d).coefs ≡ (get_or more k d).coefs = λ k within. ap (λ r. r.coefs) (get_or_default rows k d no_row within) ∙ same k within ∙ ap (λ r. r.coefs) (get_or_default more k no_row d (omega (arith, count, within))) in
      table.distinct i j d lt low (at i (omega arith) ∙ e ∙ sym (at j low));
}

-- what isn't a row `0 <= bound` that holds is useful
pub useful_from : (coefs : List ℤ) (bound : ℤ) → (All (λ a. a ≡ pos 0) coefs × (pos 0 ≤ℤ bound) → ⊥) → IsUseful (record { coefs = coefs; bound = bound })
useful_from coefs bound not empty = by_lt_z {P = bound <ℤ pos 0} bound (pos 0) (λ lt. lt) (λ ge. absurd (not (empty, ge)))

-- added, or left out
pub IsPut-added : (old new : List Candidate) (c : Candidate) → IsAdded old c new → IsPut old c new
IsPut-added old new c added = record {
  only = All-added (λ b. Contains old b ⊎ ((b ≡ c) × IsUseful c.row)) old new c added (All-weaker (Contains old) (λ b. Contains old b ⊎ ((b ≡ c) × IsUseful c.row)) (λ b h. inl h) old (All-contains_itself old)) (λ useful. inr (refl, useful));
  keeps = Covers-kept old new c added;
  has = Covers-added old new c added;
}

-- lowered, or left as it was
module _ (old new : List Candidate) (place : ℕ) (coefs : List ℤ) (bound : ℤ) (origin : Origin) (within : place < length old) (same : (get_or (rows_among old) place no_row).coefs ≡ coefs) (lowered : IsLowered old place bound origin new) (useful : IsUseful (candidate_with coefs bound origin).row) where
  abbrev pub candidate : Candidate
  candidate = candidate_with coefs bound origin

  abbrev was : Candidate
  was = get_or old place candidate

  was_same : was.row.coefs ≡ coefs
  was_same = ap (λ r. r.coefs) (sym (get_or-map (λ (c : Candidate). c.row) old place candidate no_row within)) ∙ same

  changed : new ≡ set old place (candidate_with was.row.coefs bound origin) → new ≡ set old place candidate
  changed e = e ∙ ap (λ xs. set old place (candidate_with xs bound origin)) was_same

  -- what stands elsewhere is as it was
  elsewhere : new ≡ set old place candidate → (k : ℕ) (d : Candidate) → (k ≡ place → ⊥) → get_or new k d ≡ get_or old k d
  elsewhere e k d not = ap (λ cs. get_or cs k d) e ∙ get_or-set_other old place k candidate d not

  here : new ≡ set old place candidate → (d : Candidate) → get_or new place d ≡ candidate
  here e d = ap (λ cs. get_or cs place d) e ∙ get_or-set_same old place candidate d within

  count : new ≡ set old place candidate → length new ≡ length old
  count e = ap length e ∙ length-set old place candidate

  -- a number is the place, or another
  at_place : {P : Type 0} (k : ℕ) → (k ≡ place → P) → ((k ≡ place → ⊥) → P) → P
  at_place {P} k at off =
      by_lt {P = P} k place (λ lt. off (λ e. omega (arith, lt, e)))
      (λ ge. by_lt {P = P} place k (λ lt. off (λ e. omega (arith, lt, e))) (λ le. at (omega (arith, ge, le))))

  was_there : Contains old was
  was_there = Contains-get_or old place candidate within

  kept_put : was.row.bound ≤ℤ bound → IsPut old candidate old
  kept_put low = record {
    only = All-weaker (Contains old) (λ c. Contains old c ⊎ ((c ≡ candidate) × IsUseful candidate.row)) (λ c h. inl h) old (All-contains_itself old);
    keeps = λ row h. h;
    has = inr (was.row, Contains-map (λ (c : Candidate). c.row) old was was_there, was_same, low);
  }

  lower_put : bound <ℤ was.row.bound → new ≡ set old place candidate → IsPut old candidate new
  lower_put less e = record {
    only = λ k d h. at_place {P = Contains old (get_or new k d) ⊎ ((get_or new k d ≡ candidate) × IsUseful candidate.row)} k
        (λ is. inr (ap (λ i. get_or new i d) is ∙ here e d, useful))
        (λ not. inl (subst (Contains old) (sym (elsewhere e k d not)) (Contains-get_or old k d (omega (arith, h, count e)))));
    keeps = λ row h. ⊎_elim (λ none. inl none) (λ some. keep row some.0 some.1 some.2 some.3) h;
    has = inr (candidate.row, Contains-map (λ (c : Candidate). c.row) new candidate put_there, refl, ≤ℤ_refl bound);
  }
    where
      put_there : Contains new candidate
      put_there = (place, omega (arith, within, count e), here e candidate)

      keep : (row least : Row) → Contains (rows_among old) least → least.coefs ≡ row.coefs → least.bound ≤ℤ row.bound → Covers (rows_among new) row
      keep row least there coefs_same low =
          let found = Contains-unmap (λ (c : Candidate). c.row) old least there in
          let i = found.1.0 in
          at_place {P = Covers (rows_among new) row} i
          (λ is.
          let twin : was ≡ found.0 = get_or_default old place candidate found.0 within ∙ ap (λ j. get_or old j found.0) (sym is) ∙ found.1.2 in
          let alike : coefs ≡ row.coefs = sym was_same ∙ ap (λ (c : Candidate). c.row.coefs) twin ∙ ap (λ (r : Row). r.coefs) found.2 ∙ coefs_same in
          inr (candidate.row, Contains-map (λ (c : Candidate). c.row) new candidate put_there, alike, omega (arith, ints, less, ap (λ (c : Candidate). c.row.bound) twin, ap (λ (r : Row). r.bound) found.2, low)))
          (λ not.
          let stays : Contains new found.0 = (i, omega (arith, found.1.1, count e), elsewhere e i found.0 not ∙ found.1.2) in
          inr (least, subst (Contains (rows_among new)) found.2 (Contains-map (λ (c : Candidate). c.row) new found.0 stays), coefs_same, low))

  pub IsPut-lowered : IsPut old candidate new
  IsPut-lowered = ⊎_elim (λ kept. subst (IsPut old candidate) (sym kept.1) (kept_put kept.0)) (λ less. lower_put less.0 (changed less.1)) (lowered candidate)

  pub IsTable-lowered : (links : List Link) (latest : List ℕ) → IsTable (rows_among old) links latest → IsTable (rows_among new) links latest
  IsTable-lowered links latest table = ⊎_elim (λ kept. subst (λ cs. IsTable (rows_among cs) links latest) (sym kept.1) table) (λ less. lower less.0 (changed less.1)) (lowered candidate)
    where
      lower : bound <ℤ was.row.bound → new ≡ set old place candidate → IsTable (rows_among new) links latest
      lower less e =
          let long : length (rows_among old) ≡ length (rows_among new) = length-map old (λ (c : Candidate). c.row) ∙ sym (count e) ∙ sym (length-map new (λ (c : Candidate). c.row)) in
          IsTable-alike (rows_among old) (rows_among new) links latest long (λ k h.
          let low : k < length old = omega (arith, h, length-map old (λ (c : Candidate). c.row)) in
          let at_old = get_or-map (λ (c : Candidate). c.row) old k candidate no_row low in
          let at_new = get_or-map (λ (c : Candidate). c.row) new k candidate no_row (omega (arith, low, count e)) in
          let alike : (get_or old k candidate).row.coefs ≡ (get_or new k candidate).row.coefs =
          at_place {P = (get_or old k candidate).row.coefs ≡ (get_or new k candidate).row.coefs} k
          (λ is. ap (λ j. (get_or old j candidate).row.coefs) is ∙ was_same ∙ sym (ap (λ (c : Candidate). c.row.coefs) (ap (λ j. get_or new j candidate) is ∙ here e candidate)))
          (λ not. ap (λ (c : Candidate). c.row.coefs) (sym (elsewhere e k candidate not))) in
          ap (λ (r : Row). r.coefs) at_old ∙ alike ∙ sym (ap (λ (r : Row). r.coefs) at_new)) table
