-- Rows that are each other's opposites but for the bounds make a contradiction.
use Rattle.std.proofs.Common.{◌≡◌, ℕ, ◌+◌, ◌-◌, ℤ, pos, neg_ℤ, ◌+ℤ◌, ◌*ℤ◌, IsTrue, ◌&&◌, Some, List, [], ◌∷◌, ◌++◌, map, length, get_or, refl, ap, sym, ◌∙◌, subst, arith}
use Rattle.std.specs.List.{All, Contains}
use Rattle.std.proofs.Math.Nat.{one-dvd}
use Rattle.std.proofs.lemmas.Int.{ints}
use Rattle.std.proofs.lemmas.List.{get_or-map, get_or_push, length_push, map_push}
use Rattle.std.proofs.lemmas.List.Elements.{All-cons, All-nil, All-contains}
use Rattle.farkas_cert.specs.declared.system.Row.{Row}
use Rattle.farkas_cert.specs.Inequalities.{Inequalities}
use Rattle.farkas_cert.specs.Combination.{no_row, row_at, entry_at, made_row, is_narrow, stays_narrow}
use Rattle.farkas_cert.specs.Good.{IsGoodStep, AreGoodSteps, rows_after, IsContradiction}
use Rattle.elim_rows.specs.declared.derivation.Derivation.{Derivation}
use Rattle.elim_level.specs.declared.level.Held.{Held}
use Rattle.elim_rows.specs.Reduction.{DividesEach}
use Rattle.elim_rows.specs.Pairs.{combined, combination, IsNarrow}
use Rattle.elim_level.specs.Logs.{step_of, all_rows, IsLog, IsNumber, IsSuited, IsHeld}
use Rattle.fm_elim.specs.Answers.{AreClashing}
use Rattle.elim_rows.proofs.Divisors.{divided-one}
use Rattle.farkas_cert.proofs.Sums.{entry_at-last}
use Rattle.elim_rows.proofs.Combined.{all_three, by_lt, both_narrow, entry_at-coef, once}
use Rattle.elim_level.proofs.Steps.{AreGoodSteps-push, rows_after-push, narrow-entry, good_combination, combination_makes}
use Rattle.elim_level.proofs.Lowest.{IsSuited-combination}
use Rattle.fm_elim.proofs.Endings.{length-all_rows}

-- opposites add to 0
combined-opposite : (us : List ℤ) → All (λ a. a ≡ pos 0) (combined (pos 1) us (pos 1) (map neg_ℤ us))
combined-opposite [] = All-nil (λ a. a ≡ pos 0)
combined-opposite (u ∷ us) = All-cons (λ a. a ≡ pos 0) (pos 1 *ℤ u +ℤ pos 1 *ℤ neg_ℤ u) (combined (pos 1) us (pos 1) (map neg_ℤ us)) (omega (arith, ints, once u, once (neg_ℤ u))) (combined-opposite us)

-- two narrow numbers with a narrow sum, each taken once
once_narrow : (u l : ℤ) → IsTrue (is_narrow u) → IsTrue (is_narrow l) → IsTrue (is_narrow (u +ℤ l)) → IsTrue (stays_narrow (pos 0) ((pos 1 *ℤ u) ∷ (pos 1 *ℤ l) ∷ []))
once_narrow u l hu hl hs =
    let all : IsTrue (is_narrow u && is_narrow l && is_narrow (u +ℤ l)) = all_three (is_narrow u) (is_narrow l) (is_narrow (u +ℤ l)) hu hl hs in
    let with_u : IsTrue (is_narrow (pos 1 *ℤ u) && is_narrow l && is_narrow (pos 1 *ℤ u +ℤ l)) = subst (λ p. IsTrue (is_narrow p && is_narrow l && is_narrow (p +ℤ l))) (sym (once u)) all in
    let with_l : IsTrue (is_narrow (pos 1 *ℤ u) && is_narrow (pos 1 *ℤ l) && is_narrow (pos 1 *ℤ u +ℤ pos 1 *ℤ l)) = subst (λ q. IsTrue (is_narrow (pos 1 *ℤ u) && is_narrow q && is_narrow (pos 1 *ℤ u +ℤ q))) (sym (once l)) with_u in
    subst (λ b. IsTrue b) (sym (both_narrow (pos 1 *ℤ u) (pos 1 *ℤ l))) with_l

module _ (vars : ℕ) (upper lower : Row) (su : IsSuited vars upper) (sl : IsSuited vars lower) (clash : AreClashing upper lower) where
  clash_narrow : IsNarrow vars (pos 1) upper (pos 1) lower
  clash_narrow k h =
      let u = entry_at vars upper k in
      let l = entry_at vars lower k in
      once_narrow u l (narrow-entry vars upper k su h) (narrow-entry vars lower k sl h) (by_lt {P = IsTrue (is_narrow (u +ℤ l))} k vars
      (λ lt.
      let at : l ≡ neg_ℤ u = entry_at-coef vars lower k lt ∙ ap (λ xs. get_or xs k (pos 0)) clash.opposite ∙ get_or-map neg_ℤ upper.coefs k (pos 0) (pos 0) (omega (arith, su.full)) ∙ ap neg_ℤ (sym (entry_at-coef vars upper k lt)) in
      let zero : u +ℤ l ≡ pos 0 = omega (arith, ints, at) in
      subst (λ z. IsTrue (is_narrow z)) (sym zero) refl)
      (λ ge.
      let e : vars ≡ k = omega arith in
      subst (λ i. IsTrue (is_narrow (entry_at vars upper i +ℤ entry_at vars lower i))) e
      (subst (λ z. IsTrue (is_narrow (z +ℤ entry_at vars lower vars))) (sym (entry_at-last vars upper)) (subst (λ z. IsTrue (is_narrow (upper.bound +ℤ z))) (sym (entry_at-last vars lower)) clash.narrow))))

  clash_sum : Row
  clash_sum = combination (pos 1) upper (pos 1) lower

  pub clash_suited : IsSuited vars (combination (pos 1) upper (pos 1) lower)
  clash_suited = IsSuited-combination vars (pos 1) (pos 1) upper lower su.full sl.full clash_narrow

  pub clash_ends : IsContradiction (combination (pos 1) upper (pos 1) lower)
  clash_ends = (subst (λ ls. All (λ a. a ≡ pos 0) (combined (pos 1) upper.coefs (pos 1) ls)) (sym clash.opposite) (combined-opposite upper.coefs), omega (arith, ints, clash.below, once upper.bound, once lower.bound))

  module _ (rows : List Row) (a b : ℕ) (na : IsNumber rows a upper) (nb : IsNumber rows b lower) where
    each : DividesEach 1 (combination (pos 1) upper (pos 1) lower).coefs
    each k d h = one-dvd _

    pub clash_good : IsGoodStep vars rows (record { divisor = pos 1; terms = (a, pos 1) ∷ (b, pos 1) ∷ [] })
    clash_good = good_combination vars rows a b 1 (pos 1) (pos 1) upper lower su.full sl.full na nb (omega (arith, ints)) (omega (arith, ints)) clash_narrow (omega arith) each

    pub clash_makes : made_row vars rows (record { divisor = pos 1; terms = (a, pos 1) ∷ (b, pos 1) ∷ [] }) ≡ combination (pos 1) upper (pos 1) lower
    clash_makes = combination_makes vars rows a b 1 (pos 1) (pos 1) upper lower su.full sl.full na nb (omega (arith, ints)) (omega (arith, ints)) clash_narrow (omega arith) each ∙ divided-one (combination (pos 1) upper (pos 1) lower)

-- a derivation more: the log stays one, and the new row has the last number
module _ (system : Inequalities) (log : List Derivation) (d : Derivation) (good : IsLog system log) (step : IsGoodStep system.vars (all_rows system log) (step_of d)) where
  pub IsLog-push : IsLog system (log ++ d ∷ [])
  IsLog-push = subst (AreGoodSteps system.vars system.rows) (sym (map_push step_of log d)) (AreGoodSteps-push system.vars system.rows (map step_of log) (step_of d) good step)

  pub IsNumber-push : (row : Row) → made_row system.vars (all_rows system log) (step_of d) ≡ row → IsNumber (all_rows system (log ++ d ∷ [])) (length system.rows + length (log ++ d ∷ [])) row
  IsNumber-push row makes =
      let made = made_row system.vars (all_rows system log) (step_of d) in
      let whole : all_rows system (log ++ d ∷ []) ≡ all_rows system log ++ made ∷ [] = ap (rows_after system.vars system.rows) (map_push step_of log d) ∙ rows_after-push system.vars system.rows (map step_of log) (step_of d) in
      let size : length (log ++ d ∷ []) ≡ length log + 1 = length_push log d in
      let place : length (all_rows system log) ≡ length system.rows + length (log ++ d ∷ []) - 1 = length-all_rows system log ∙ omega arith in (
        omega arith,
        omega (arith, length-all_rows system (log ++ d ∷ [])),
        ap (λ rows. row_at rows (length system.rows + length (log ++ d ∷ []))) whole ∙ get_or_push (all_rows system log) made no_row (length system.rows + length (log ++ d ∷ []) - 1) place ∙ makes,
      )

-- two clashing rows of a level, by their numbers, and the derivation of their sum
module _ (system : Inequalities) (log : List Derivation) (good : IsLog system log) (level : List Held) (held : All (IsHeld system log) level) (a b : ℕ) (clash : (upper : Held) × (lower : Held) × Contains level upper × Contains level lower × (upper.number ≡ a) × (lower.number ≡ b) × AreClashing upper.row lower.row) where
  -- it is a good step
  sum_good : IsGoodStep system.vars (all_rows system log) (step_of (record { divisor = pos 1; first = (a, pos 1); second = Some (b, pos 1) }))
  sum_good =
      let hu = All-contains (IsHeld system log) level clash.0 held clash.2 in
      let hl = All-contains (IsHeld system log) level clash.1 held clash.3 in
      clash_good system.vars clash.0.row clash.1.row hu.suited hl.suited clash.6 (all_rows system log) a b (subst (λ n. IsNumber (all_rows system log) n clash.0.row) clash.4 hu.number) (subst (λ n. IsNumber (all_rows system log) n clash.1.row) clash.5 hl.number)

  pub sum_logged : (more : List Derivation) → more ≡ log ++ record { divisor = pos 1; first = (a, pos 1); second = Some (b, pos 1) } ∷ [] → IsLog system more
  sum_logged more is = subst (IsLog system) (sym is) (IsLog-push system log (record { divisor = pos 1; first = (a, pos 1); second = Some (b, pos 1) }) good sum_good)

  -- and its row is a contradiction
  pub sum_ends : (more : List Derivation) (number : ℕ) → more ≡ log ++ record { divisor = pos 1; first = (a, pos 1); second = Some (b, pos 1) } ∷ [] → number ≡ length system.rows + length more → (row : Row) × IsNumber (all_rows system more) number row × IsSuited system.vars row × IsContradiction row
  sum_ends more number is last =
      let hu = All-contains (IsHeld system log) level clash.0 held clash.2 in
      let hl = All-contains (IsHeld system log) level clash.1 held clash.3 in
      let d : Derivation = record { divisor = pos 1; first = (a, pos 1); second = Some (b, pos 1) } in
      let row = combination (pos 1) clash.0.row (pos 1) clash.1.row in
      let makes = clash_makes system.vars clash.0.row clash.1.row hu.suited hl.suited clash.6 (all_rows system log) a b (subst (λ n. IsNumber (all_rows system log) n clash.0.row) clash.4 hu.number) (subst (λ n. IsNumber (all_rows system log) n clash.1.row) clash.5 hl.number) in
      let numbered = IsNumber-push system log d good sum_good row makes in
      let here : IsNumber (all_rows system more) (length system.rows + length more) row = subst (λ l. IsNumber (all_rows system l) (length system.rows + length l) row) (sym is) numbered in
      (row, subst (λ n. IsNumber (all_rows system more) n row) (sym last) here, clash_suited system.vars clash.0.row clash.1.row hu.suited hl.suited clash.6, clash_ends system.vars clash.0.row clash.1.row hu.suited hl.suited clash.6)
