-- The system's rows as candidates of level 0.
use Rattle.std.proofs.Common.{◌≡◌, ℕ, ◌+◌, ◌-◌, ◌<◌, IsTrue, ◌⊎◌, ⊎_elim, List, [], ◌∷◌, ◌++◌, length, get_or, take, ap, sym, ◌∙◌, subst, arith}
use Rattle.std.specs.List.{All, AllPairs, Contains}
use Rattle.std.proofs.lemmas.List.{take_more, get_or_default}
use Rattle.std.proofs.lemmas.List.Elements.{All-nil, All-push, All-weaker, All-contains, Contains-get_or}
use Rattle.farkas_cert.specs.declared.system.Row.{Row}
use Rattle.farkas_cert.specs.Inequalities.{Inequalities, AreFull}
use Rattle.farkas_cert.specs.Combination.{no_row, is_narrow}
use Rattle.elim_rows.specs.declared.derivation.Derivation.{Derivation}
use Rattle.elim_rows.specs.declared.candidate.Candidate.{Candidate}
use Rattle.elim_rows.specs.Reduction.{IsReduced}
use Rattle.elim_level.specs.Forming.{IsFormed}
use Rattle.elim_rows.specs.Table.{IsPut}
use Rattle.elim_level.specs.Logs.{IsNumber, IsSuited, IsFounded}
use Rattle.elim_rows.specs.Candidates.{rows_among, IsUseful}
use Rattle.farkas_cert.specs.Narrow.{AreNarrow}
use Rattle.elim_level.specs.Gathering.{IsSound, IsCovered, AreTaken, AreGiven}
use Rattle.elim_level.proofs.Leveling.{formed_from, lowest_from}

pub given_suited : (vars : ℕ) (rows : List Row) (raw : Row) → AreFull vars rows → AreNarrow rows → Contains rows raw → IsSuited vars raw
given_suited vars rows raw full narrow there =
    let at = All-contains (λ r. All (λ a. IsTrue (is_narrow a)) r.coefs × IsTrue (is_narrow r.bound)) rows raw narrow there in
    record { full = All-contains (λ r. length r.coefs ≡ vars) rows raw full there; coefs = at.0; bound = at.1 }

pub given_number : (rows : List Row) (i : ℕ) (raw : Row) → i < length rows → raw ≡ get_or rows i raw → IsNumber rows (i + 1) raw
given_number rows i raw within at =
    let place : i + 1 - 1 ≡ i = omega arith in
    (omega arith, omega arith, ap (λ k. get_or rows k no_row) place ∙ get_or_default rows i no_row raw within ∙ sym at)

pub AreTaken-start : (system : Inequalities) (log : List Derivation) (raws : Row → Type 0) → AreTaken system log raws [] []
AreTaken-start system log raws = record {
  sound = All-nil (IsSound raws);
  founded = All-nil (IsFounded system log);
  covered = All-nil (IsCovered []);
}

-- one row more
pub AreTaken-more : (system : Inequalities) (log : List Derivation) (raws : Row → Type 0) (done : List Row) (raw : Row) (old new : List Candidate) (c : Candidate) → raws raw → AreTaken system log raws done old → IsReduced raw c.row → IsFounded system log c → IsPut old c new → AreTaken system log raws (done ++ raw ∷ []) new
AreTaken-more system log raws done raw old new c there taken reduced founded put = record {
  sound = All-weaker (λ b. Contains old b ⊎ ((b ≡ c) × IsUseful c.row)) (IsSound raws)
      (λ b h. ⊎_elim (λ was. All-contains (IsSound raws) old b taken.sound was) (λ is. subst (IsSound raws) (sym is.0) (is.1, (raw, there, reduced))) h) new put.only;
  founded = All-weaker (λ b. Contains old b ⊎ ((b ≡ c) × IsUseful c.row)) (IsFounded system log)
      (λ b h. ⊎_elim (λ was. All-contains (IsFounded system log) old b taken.founded was) (λ is. subst (IsFounded system log) (sym is.0) founded) h) new put.only;
  covered = All-push (IsCovered new) done raw (All-weaker (IsCovered old) (IsCovered new) (λ r h. (h.0, h.1, put.keeps h.0 h.2)) done taken.covered) (c.row, reduced, put.has);
}

-- one given row more
pub AreGiven-more : (system : Inequalities) (i : ℕ) (raw : Row) (old new : List Candidate) (c : Candidate) → i < length system.rows → raw ≡ get_or system.rows i raw → AreGiven system (take i system.rows) old → IsReduced raw c.row → IsFounded system [] c → IsPut old c new → AreGiven system (take (i + 1) system.rows) new
AreGiven-more system i raw old new c within at given reduced founded put =
    let there : Contains system.rows raw = subst (Contains system.rows) (sym at) (Contains-get_or system.rows i raw within) in
    let more : take (i + 1) system.rows ≡ take i system.rows ++ raw ∷ [] = take_more system.rows i raw within ∙ ap (λ r. take i system.rows ++ r ∷ []) (sym at) in
    subst (λ rows. AreGiven system rows new) (sym more) (AreTaken-more system [] (Contains system.rows) (take i system.rows) raw old new c there given reduced founded put)

-- all rows
module _ (system : Inequalities) (candidates : List Candidate) (given : AreGiven system system.rows candidates) where
  pub first_formed : AllPairs (λ r s. r.coefs ≡ s.coefs → ⊥) (rows_among candidates) → IsFormed (λ r. Contains system.rows r) (rows_among candidates)
  first_formed distinct = formed_from (Contains system.rows) candidates given.sound (λ raw there. All-contains (IsCovered candidates) system.rows raw given.covered there) distinct

  pub first_lowest : All (λ c. IsReduced c.row c.row) candidates
  first_lowest = lowest_from (Contains system.rows) candidates given.sound
