-- A log that goes on: what was held or founded stays so, and the next row gets the next number.
use Rattle.std.proofs.Common.{◌≡◌, ℕ, ◌+◌, ◌-◌, List, [], ◌∷◌, ◌++◌, map, length, refl, ap, sym, ◌∙◌, subst, length-append, arith}
use Rattle.std.proofs.lemmas.List.{map-append, append-nil, length-map, get_or_push}
use Rattle.farkas_cert.specs.declared.system.Row.{Row}
use Rattle.farkas_cert.specs.declared.certificate.Step.{Step}
use Rattle.farkas_cert.specs.Inequalities.{Inequalities}
use Rattle.farkas_cert.specs.Combination.{no_row, made_row}
use Rattle.farkas_cert.specs.Good.{IsGoodStep, AreGoodSteps, rows_after}
use Rattle.elim_rows.specs.declared.derivation.Derivation.{Derivation}
use Rattle.elim_level.specs.declared.level.Held.{Held}
use Rattle.elim_rows.specs.declared.candidate.Candidate.{Candidate}
use Rattle.elim_rows.specs.declared.candidate.Origin.{Origin}
use Rattle.elim_rows.specs.declared.candidate.Origin.TheVariants.{Numbered, Made}
use Rattle.elim_level.specs.Logs.{step_of, all_rows, IsLog, IsContinued, IsNumber, IsOrigin, IsFounded, IsHeld}
use Rattle.elim_level.proofs.Steps.{rows_after-begins, AreGoodSteps-push, rows_after-push, length-rows_after, IsNumber-append, IsGoodStep-append, made_row-append}

pub rows_after-append : (vars : ℕ) (rows : List Row) (xs ys : List Step) → rows_after vars rows (xs ++ ys) ≡ rows_after vars (rows_after vars rows xs) ys
rows_after-append vars rows [] ys = refl
rows_after-append vars rows (x ∷ xs) ys = rows_after-append vars (rows ++ made_row vars rows x ∷ []) xs ys

pub IsContinued-refl : (log : List Derivation) → IsContinued log log
IsContinued-refl log = ([], sym (append-nil log))

pub IsContinued-push : (log : List Derivation) (d : Derivation) → IsContinued log (log ++ d ∷ [])
IsContinued-push log d = (d ∷ [], refl)

pub all_rows-continued : (system : Inequalities) (old new : List Derivation) → IsContinued old new → (more : List Row) × (all_rows system new ≡ all_rows system old ++ more)
all_rows-continued system old new h =
    let rest = rows_after-begins system.vars (all_rows system old) (map step_of h.0) in
    (rest.0, ap (all_rows system) h.1 ∙ ap (rows_after system.vars system.rows) (map-append step_of old h.0) ∙ rows_after-append system.vars system.rows (map step_of old) (map step_of h.0) ∙ rest.1)

pub IsNumber-continued : (system : Inequalities) (old new : List Derivation) (number : ℕ) (row : Row) → IsContinued old new → IsNumber (all_rows system old) number row → IsNumber (all_rows system new) number row
IsNumber-continued system old new number row h n =
    let more = all_rows-continued system old new h in
    subst (λ rows. IsNumber rows number row) (sym more.1) (IsNumber-append (all_rows system old) more.0 number row n)

pub IsOrigin-continued : (system : Inequalities) (old new : List Derivation) (row : Row) (o : Origin) → IsContinued old new → IsOrigin system old row o → IsOrigin system new row o
IsOrigin-continued system old new row (Numbered number) h n = IsNumber-continued system old new number row h n
IsOrigin-continued system old new row (Made d) h made =
    let more = all_rows-continued system old new h in
    subst (λ rows. IsGoodStep system.vars rows (step_of d) × (made_row system.vars rows (step_of d) ≡ row)) (sym more.1)
    (IsGoodStep-append system.vars (all_rows system old) more.0 (step_of d) made.0, made_row-append system.vars (all_rows system old) more.0 (step_of d) made.0 ∙ made.1)

pub IsFounded-continued : (system : Inequalities) (old new : List Derivation) → IsContinued old new → (c : Candidate) → IsFounded system old c → IsFounded system new c
IsFounded-continued system old new h c f = record { suited = f.suited; origin = IsOrigin-continued system old new c.row c.origin h f.origin }

pub IsHeld-continued : (system : Inequalities) (old new : List Derivation) → IsContinued old new → (held : Held) → IsHeld system old held → IsHeld system new held
IsHeld-continued system old new h held f = record { suited = f.suited; number = IsNumber-continued system old new held.number held.row h f.number; lowest = f.lowest }

-- one row more has the next number
IsNumber-last : (rows : List Row) (row : Row) (number : ℕ) → number ≡ length rows + 1 → IsNumber (rows ++ row ∷ []) number row
IsNumber-last rows row number e = (omega arith, omega (arith, length-append rows (row ∷ [])), get_or_push rows row no_row (number - 1) (omega arith))

-- one derivation more
module _ (system : Inequalities) (log : List Derivation) (d : Derivation) (row : Row) (made : IsOrigin system log row (Made d)) where
  pub derived_log : IsLog system log → IsLog system (log ++ d ∷ [])
  derived_log good = subst (AreGoodSteps system.vars system.rows) (sym (map-append step_of log (d ∷ []))) (AreGoodSteps-push system.vars system.rows (map step_of log) (step_of d) good made.0)

  pub derived_number : (number : ℕ) → number ≡ length system.rows + length log + 1 → IsNumber (all_rows system (log ++ d ∷ [])) number row
  derived_number number e =
      let rows : all_rows system (log ++ d ∷ []) ≡ all_rows system log ++ row ∷ [] =
      ap (rows_after system.vars system.rows) (map-append step_of log (d ∷ [])) ∙ rows_after-push system.vars system.rows (map step_of log) (step_of d) ∙ ap (λ r. all_rows system log ++ r ∷ []) made.1 in
      subst (λ rs. IsNumber rs number row) (sym rows) (IsNumber-last (all_rows system log) row number (omega (arith, length-rows_after system.vars system.rows (map step_of log), length-map log step_of)))
