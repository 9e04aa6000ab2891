-- A level's rows and further rows as candidates.
use Rattle.std.proofs.Common.{◌≡◌, ℕ, ◌+◌, ◌-◌, ◌<◌, ◌≤◌, ◌⊎◌, ⊎_elim, inl, inr, List, [], ◌∷◌, ◌++◌, drop, take, map, length, get_or, ap, sym, ◌∙◌, subst, append_assoc, arith}
use Rattle.std.specs.List.{All, AllPairs, Contains}
use Rattle.std.proofs.lemmas.List.{take_all, take_more, map-append, length-drop}
use Rattle.std.proofs.lemmas.List.Elements.{All-contains, Contains-get_or, Contains-append_left, Contains-append_right}
use Rattle.list_lemmas.proofs.Elements.{Contains-map}
use Rattle.farkas_cert.specs.declared.system.Row.{Row}
use Rattle.farkas_cert.specs.Inequalities.{Inequalities}
use Rattle.elim_rows.specs.declared.derivation.Derivation.{Derivation}
use Rattle.elim_level.specs.declared.level.Held.{Held}
use Rattle.elim_rows.specs.declared.candidate.Candidate.{Candidate}
use Rattle.elim_rows.specs.declared.candidate.Origin.TheVariants.{Numbered}
use Rattle.elim_rows.specs.Reduction.{IsReduced}
use Rattle.elim_level.specs.Forming.{IsFormed}
use Rattle.fm_elim.specs.Moved.{moved_by, moved_held}
use Rattle.elim_rows.specs.Table.{IsPut, candidate_with}
use Rattle.elim_level.specs.Logs.{step_of, all_rows, IsNumber, IsFounded, IsHeld, rows_of}
use Rattle.elim_rows.specs.Candidates.{rows_among}
use Rattle.elim_level.specs.Gathering.{IsCovered, AreTaken}
use Rattle.elim_level.proofs.Steps.{rows_after-begins, IsNumber-append}
use Rattle.elim_level.proofs.Leveling.{formed_from}
use Rattle.elim_level.proofs.Given.{given_number, AreTaken-more}

-- a row of one list or the other
abbrev pub IsEither : List Row → List Row → Row → Type 0
IsEither rows further r = Contains rows r ⊎ Contains further r

-- the rest of a list is as long as what is left
pub rest_whole : {X : Type 0} (k : ℕ) (xs : List X) → take (length xs - k) (drop k xs) ≡ drop k xs
rest_whole k xs = take_all (length xs - k) (drop k xs) (omega (arith, length-drop k xs))

-- a given row's number among all rows
pub number_given : (system : Inequalities) (log : List Derivation) (k : ℕ) (raw : Row) → k < length system.rows → raw ≡ get_or system.rows k raw → IsNumber (all_rows system log) (k + 1) raw
number_given system log k raw h at =
    let more = rows_after-begins system.vars system.rows (map step_of log) in
    subst (λ rows. IsNumber rows (k + 1) raw) (sym more.1) (IsNumber-append system.rows more.0 (k + 1) raw (given_number system.rows k raw h at))

module _ (whole : Inequalities) (log : List Derivation) (rows : List Held) (further : List Row) where
  -- one of the level's rows more
  pub taken_held : (given more i : ℕ) (h : Held) (old new : List Candidate) → i < length rows → h ≡ get_or rows i h → All (λ h. IsHeld whole log (moved_held given more h)) rows → AreTaken whole log (IsEither (rows_of rows) further) (rows_of (take i rows)) old → IsPut old (candidate_with h.row.coefs h.row.bound (Numbered (moved_by given more h.number))) new → AreTaken whole log (IsEither (rows_of rows) further) (rows_of (take (i + 1) rows)) new
  taken_held given more i h old new within is held taken put =
      let at : IsHeld whole log (moved_held given more h) = subst (λ x. IsHeld whole log (moved_held given more x)) (sym is) (held i h within) in
      let there : Contains (rows_of rows) h.row = Contains-map (λ (h : Held). h.row) rows h (subst (Contains rows) (sym is) (Contains-get_or rows i h within)) in
      let next : rows_of (take (i + 1) rows) ≡ rows_of (take i rows) ++ h.row ∷ [] = ap rows_of (take_more rows i h within ∙ ap (λ x. take i rows ++ x ∷ []) (sym is)) ∙ map-append (λ (h : Held). h.row) (take i rows) (h ∷ []) in
      subst (λ rs. AreTaken whole log (IsEither (rows_of rows) further) rs new) (sym next)
      (AreTaken-more whole log (IsEither (rows_of rows) further) (rows_of (take i rows)) h.row old new (candidate_with h.row.coefs h.row.bound (Numbered (moved_by given more h.number))) (inl there) taken at.lowest (record { suited = at.suited; origin = at.number }) put)

  -- one of the further rows more
  pub taken_further : (i : ℕ) (raw : Row) (old new : List Candidate) (c : Candidate) → i < length further → raw ≡ get_or further i raw → AreTaken whole log (IsEither (rows_of rows) further) (rows_of rows ++ take i further) old → IsReduced raw c.row → IsFounded whole log c → IsPut old c new → AreTaken whole log (IsEither (rows_of rows) further) (rows_of rows ++ take (i + 1) further) new
  taken_further i raw old new c within is taken reduced founded put =
      let there : Contains further raw = subst (Contains further) (sym is) (Contains-get_or further i raw within) in
      let next : rows_of rows ++ take (i + 1) further ≡ (rows_of rows ++ take i further) ++ raw ∷ [] =
      ap (λ xs. rows_of rows ++ xs) (take_more further i raw within ∙ ap (λ x. take i further ++ x ∷ []) (sym is)) ∙ sym (append_assoc (rows_of rows) (take i further) (raw ∷ [])) in
      subst (λ rs. AreTaken whole log (IsEither (rows_of rows) further) rs new) (sym next)
      (AreTaken-more whole log (IsEither (rows_of rows) further) (rows_of rows ++ take i further) raw old new c (inr there) taken reduced founded put)

  -- all of both
  pub both_formed : (i : ℕ) (candidates : List Candidate) → length further ≤ i → AreTaken whole log (IsEither (rows_of rows) further) (rows_of rows ++ take i further) candidates → AllPairs (λ r s. r.coefs ≡ s.coefs → ⊥) (rows_among candidates) → IsFormed (IsEither (rows_of rows) further) (rows_among candidates)
  both_formed i candidates all taken distinct =
      let covered = subst (λ xs. All (IsCovered candidates) (rows_of rows ++ xs)) (take_all i further all) taken.covered in
      formed_from (IsEither (rows_of rows) further) candidates taken.sound
      (λ raw h. ⊎_elim (λ a. All-contains (IsCovered candidates) (rows_of rows ++ further) raw covered (Contains-append_left (rows_of rows) further raw a)) (λ b. All-contains (IsCovered candidates) (rows_of rows ++ further) raw covered (Contains-append_right (rows_of rows) further raw b)) h) distinct
