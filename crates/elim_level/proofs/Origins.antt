-- Candidates are founded: their rows have numbers, or are what their derivations make.
use Rattle.std.proofs.Common.{◌≡◌, ℕ, max, ℤ, pos, ◌≤ℤ◌, List, ⊎_elim, if◌then◌else◌, Some, None, length, refl, ap, sym, ◌∙◌, subst, arith}
use Rattle.std.specs.Ordering.{int_eq}
use Rattle.std.proofs.lemmas.Bool.{cases_Bool}
use Rattle.std.proofs.lemmas.Bool.Decides.{Decides-int_eq}
use Rattle.elim_rows.specs.Table.{origin_of}
use Rattle.std.proofs.lemmas.Int.{ints}
use Rattle.farkas_cert.specs.declared.system.Row.{Row}
use Rattle.farkas_cert.specs.Inequalities.{Inequalities}
use Rattle.elim_rows.specs.declared.derivation.Derivation.{Derivation}
use Rattle.elim_level.specs.declared.level.Held.{Held}
use Rattle.elim_rows.specs.declared.candidate.Origin.TheVariants.{Numbered, Made}
use Rattle.elim_rows.specs.Reduction.{IsReducedBy, divided}
use Rattle.elim_rows.specs.Pairs.{combination, IsNarrow, IsPair}
use Rattle.elim_level.specs.Gathering.{IsMade}
use Rattle.elim_level.specs.Logs.{all_rows, IsNumber, IsSuited, IsFounded}
use Rattle.elim_rows.proofs.Divisors.{divided-one}
use Rattle.elim_level.proofs.Steps.{good_reduction, reduction_makes, good_combination, combination_makes}
use Rattle.elim_level.proofs.Lowest.{IsSuited-divided, IsSuited-combination}
use Rattle.elim_level.proofs.Existence.{divides_max}

-- a given row, reduced by 1 or by more
module _ (system : Inequalities) (log : List Derivation) (raw row : Row) (number g : ℕ) (reduced : IsReducedBy g raw row) (suited : IsSuited system.vars raw) (numbered : IsNumber (all_rows system log) number raw) where
  suited_here : IsSuited system.vars row
  suited_here = subst (IsSuited system.vars) (sym reduced.1) (IsSuited-divided system.vars (max g 1) raw suited)

  pub founded_by_one : pos (max g 1) ≡ pos 1 → IsFounded system log (record { row = row; origin = Numbered number })
  founded_by_one one =
      let same : raw ≡ row = sym (reduced.1 ∙ ap (λ n. divided n raw) (omega (arith, ints, one)) ∙ divided-one raw) in
      record { suited = suited_here; origin = subst (IsNumber (all_rows system log) number) same numbered }

  pub founded_by_more : (d : ℤ) → d ≡ pos (max g 1) → IsFounded system log (record { row = row; origin = Made (record { divisor = d; first = (number, pos 1); second = None }) })
  founded_by_more d e =
      let each = divides_max g raw.coefs reduced.0.0 in
      let good = good_reduction system.vars (all_rows system log) number (max g 1) raw suited numbered (omega arith) each in
      let makes = reduction_makes system.vars (all_rows system log) number (max g 1) raw suited numbered (omega arith) each in
      subst (λ z. IsFounded system log (record { row = row; origin = Made (record { divisor = z; first = (number, pos 1); second = None }) })) (sym e)
      (record { suited = suited_here; origin = (good, makes ∙ sym reduced.1) })

-- the combination of a pair, reduced
pub combination_founded : (system : Inequalities) (log : List Derivation) (upper lower row : Row) (m n d : ℤ) (a b g : ℕ) → IsSuited system.vars upper → IsSuited system.vars lower → IsNumber (all_rows system log) a upper → IsNumber (all_rows system log) b lower → pos 0 ≤ℤ m → pos 0 ≤ℤ n → IsNarrow system.vars m upper n lower → IsReducedBy g (combination m upper n lower) row → d ≡ pos (max g 1) → IsFounded system log (record { row = row; origin = Made (record { divisor = d; first = (a, m); second = Some (b, n) }) })
combination_founded system log upper lower row m n d a b g su sl na nb hm hn narrow reduced e =
    let raw = combination m upper n lower in
    let each = divides_max g raw.coefs reduced.0.0 in
    let good = good_combination system.vars (all_rows system log) a b (max g 1) m n upper lower su.full sl.full na nb hm hn narrow (omega arith) each in
    let makes = combination_makes system.vars (all_rows system log) a b (max g 1) m n upper lower su.full sl.full na nb hm hn narrow (omega arith) each in
    let suited : IsSuited system.vars row = subst (IsSuited system.vars) (sym reduced.1) (IsSuited-divided system.vars (max g 1) raw (IsSuited-combination system.vars m n upper lower su.full sl.full narrow)) in
    subst (λ z. IsFounded system log (record { row = row; origin = Made (record { divisor = z; first = (a, m); second = Some (b, n) }) })) (sym e)
    (record { suited = suited; origin = (good, makes ∙ sym reduced.1) })

-- the candidate of a pair that is nowhere wide
pub made_from : (v : ℕ) (upper lower : Held) (row : Row) (m n d : ℤ) (g : ℕ) → IsPair v upper.row lower.row m n → IsNarrow (length upper.row.coefs) m upper.row n lower.row → IsReducedBy g (combination m upper.row n lower.row) row → d ≡ pos (max g 1) → IsMade v upper lower (record { row = row; origin = Made (record { divisor = d; first = (upper.number, m); second = Some (lower.number, n) }) })
made_from v upper lower row m n d g pair narrow reduced e = record {
  raw = combination m upper.row n lower.row;
  paired = record { m = m; n = n; pair = pair; made = refl };
  reduced = (g, reduced);
  founded = λ system log hu hl.
      combination_founded system log upper.row lower.row row m n d upper.number lower.number g hu.suited hl.suited hu.number hl.number
      (subst (λ z. pos 0 ≤ℤ z) (sym pair.upper_times) (omega (arith, ints))) (subst (λ z. pos 0 ≤ℤ z) (sym pair.lower_times) (omega (arith, ints)))
      (subst (λ k. IsNarrow k m upper.row n lower.row) hu.suited.full narrow) reduced e;
}

-- a given row, reduced
pub given_founded : (system : Inequalities) (log : List Derivation) (raw row : Row) (number g : ℕ) (divisor : ℤ) → IsReducedBy g raw row → IsSuited system.vars raw → IsNumber (all_rows system log) number raw → divisor ≡ pos (max g 1) → IsFounded system log (record { row = row; origin = origin_of number divisor })
given_founded system log raw row number g divisor reduced suited numbered by =
    ⊎_elim (λ yes. subst (λ b. IsFounded system log (record { row = row; origin = if b then Numbered number else Made (record { divisor = divisor; first = (number, pos 1); second = None }) })) (sym yes)
    (founded_by_one system log raw row number g reduced suited numbered (sym by ∙ (Decides-int_eq divisor (pos 1)).0 yes)))
    (λ no. subst (λ b. IsFounded system log (record { row = row; origin = if b then Numbered number else Made (record { divisor = divisor; first = (number, pos 1); second = None }) })) (sym no)
    (founded_by_more system log raw row number g reduced suited numbered divisor by)) (cases_Bool (int_eq divisor (pos 1)))
