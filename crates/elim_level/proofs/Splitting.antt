-- The rows of a level by the sign of a variable's coefficient.
use Rattle.std.proofs.Common.{◌≡◌, ℕ, ◌-◌, ◌≤◌, ◌<◌, ℤ, pos, ◌<ℤ◌, Bool, true, false, cond, List, [], ◌∷◌, ◌++◌, map, length, get_or, refl, sym, ◌∙◌, subst, arith}
use Rattle.std.specs.Prelude.{int_lt}
use Rattle.std.specs.Ordering.{int_eq}
use Rattle.std.specs.List.{All, Contains}
use lib.Dec.{T}
use Rattle.std.proofs.lemmas.Bool.Decides.{Decides-int_eq}
use Rattle.std.proofs.lemmas.List.Elements.{All-contains, Contains-get_or, All-push}
use Rattle.std.proofs.lemmas.List.{map-append, append-nil}
use Rattle.list_lemmas.proofs.Elements.{Contains-filter, filter_has}
use Rattle.farkas_cert.specs.declared.system.Row.{Row}
use Rattle.farkas_cert.specs.Inequalities.{Inequalities}
use Rattle.elim_rows.specs.declared.candidate.Candidate.{Candidate}
use Rattle.elim_rows.specs.declared.derivation.Derivation.{Derivation}
use Rattle.elim_level.specs.declared.level.Held.{Held}
use Rattle.elim_rows.specs.Pairs.{coef_of}
use Rattle.elim_level.specs.Logs.{IsHeld}
use Rattle.elim_rows.specs.Candidates.{rows_among}
use Rattle.elim_level.specs.Gathering.{IsOpposed, candidate_of, apart_of, IsSplit}

-- what holds of the rows so far and of one more holds where that one was kept, or left out
pub All-kept : (P : Row → Type 0) (old : List Candidate) (held : Held) (test : Bool) → All P (rows_among old) → P held.row → All P (rows_among (old ++ map candidate_of (cond test (held ∷ []) [])))
All-kept P old held true all here = subst (All P) (sym (map-append (λ (c : Candidate). c.row) old (candidate_of held ∷ []))) (All-push P (rows_among old) held.row all here)
All-kept P old held false all here = subst (λ cs. All P (rows_among cs)) (sym (append-nil old)) all

true_from_T : (b : Bool) → T b → b ≡ true
true_from_T true t = refl
true_from_T false t = absurd t

pub int_lt-true : (a b : ℤ) → int_lt a b ≡ true → a <ℤ b
int_lt-true a b h = record { lt = subst T (sym h) tt }

pub true-int_lt : (a b : ℤ) → a <ℤ b → int_lt a b ≡ true
true-int_lt a b h = true_from_T (int_lt a b) h.lt

module _ (v : ℕ) (level uppers lowers : List Held) (split : IsSplit v level uppers lowers) where
  pub apart_has : (h : Held) → Contains (apart_of v level) h → Contains level h × (coef_of v h.row ≡ pos 0)
  apart_has h there =
      let found = filter_has (λ (h : Held). int_eq (coef_of v h.row) (pos 0)) level h there in
      (found.0, (Decides-int_eq (coef_of v h.row) (pos 0)).0 found.1)

  pub has_apart : (h : Held) → Contains level h → coef_of v h.row ≡ pos 0 → Contains (apart_of v level) h
  has_apart h there e = Contains-filter (λ (h : Held). int_eq (coef_of v h.row) (pos 0)) level h there ((Decides-int_eq (coef_of v h.row) (pos 0)).1 e)

  pub uppers_have : (h : Held) → Contains uppers h → Contains level h × (pos 0 <ℤ coef_of v h.row)
  uppers_have h there =
      let found = filter_has (λ (h : Held). int_lt (pos 0) (coef_of v h.row)) level h (subst (λ hs. Contains hs h) split.uppers_from there) in
      (found.0, int_lt-true (pos 0) (coef_of v h.row) found.1)

  pub has_upper : (h : Held) → Contains level h → pos 0 <ℤ coef_of v h.row → Contains uppers h
  has_upper h there above = subst (λ hs. Contains hs h) (sym split.uppers_from) (Contains-filter (λ (h : Held). int_lt (pos 0) (coef_of v h.row)) level h there (true-int_lt (pos 0) (coef_of v h.row) above))

  pub lowers_have : (h : Held) → Contains lowers h → Contains level h × (coef_of v h.row <ℤ pos 0)
  lowers_have h there =
      let found = filter_has (λ (h : Held). int_lt (coef_of v h.row) (pos 0)) level h (subst (λ hs. Contains hs h) split.lowers_from there) in
      (found.0, int_lt-true (coef_of v h.row) (pos 0) found.1)

  pub has_lower : (h : Held) → Contains level h → coef_of v h.row <ℤ pos 0 → Contains lowers h
  has_lower h there below = subst (λ hs. Contains hs h) (sym split.lowers_from) (Contains-filter (λ (h : Held). int_lt (coef_of v h.row) (pos 0)) level h there (true-int_lt (coef_of v h.row) (pos 0) below))

  -- where the level is held, its pairs can be tried
  module _ (system : Inequalities) (log : List Derivation) (low : 1 ≤ v) (high : v ≤ system.vars) (held : All (IsHeld system log) level) where
    pub known : (hs : List Held) → ((h : Held) → Contains hs h → Contains level h) → All (λ h. v ≤ length h.row.coefs) hs
    known hs from k d h =
        let here = All-contains (IsHeld system log) level (get_or hs k d) held (from (get_or hs k d) (Contains-get_or hs k d h)) in
        omega (arith, here.suited.full, high)

    pub uppers_known : All (λ h. v ≤ length h.row.coefs) uppers
    uppers_known = known uppers (λ h there. (uppers_have h there).0)

    pub lowers_known : All (λ h. v ≤ length h.row.coefs) lowers
    lowers_known = known lowers (λ h there. (lowers_have h there).0)

    pub opposed : All (λ u. All (λ l. IsOpposed v u.row l.row) lowers) uppers
    opposed k d h k' d' h' =
        let u = get_or uppers k d in
        let l = get_or lowers k' d' in
        let upper = uppers_have u (Contains-get_or uppers k d h) in
        let lower = lowers_have l (Contains-get_or lowers k' d' h') in
        let held_u = All-contains (IsHeld system log) level u held upper.0 in
        let held_l = All-contains (IsHeld system log) level l held lower.0 in
        record {
          from_one = low;
          known = omega (arith, held_u.suited.full, high);
          same = held_l.suited.full ∙ sym held_u.suited.full;
          above = upper.1;
          below = lower.1;
          upper_narrow = held_u.suited.coefs (v - 1) (pos 0) (omega (arith, held_u.suited.full, high, low));
          lower_narrow = held_l.suited.coefs (v - 1) (pos 0) (omega (arith, held_l.suited.full, high, low));
        }
