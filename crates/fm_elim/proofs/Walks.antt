-- The needed derivations are copied in order, with new numbers of their rows.
use Rattle.std.proofs.Common.{◌≡◌, ℕ, zero, suc, ◌+◌, ◌-◌, ◌≤◌, ◌<◌, ℤ, pos, None, IsSomeAnd, Bool, List, [], ◌∷◌, ◌++◌, map, length, get_or, slice_index, slice_get, refl, ap, sym, ◌∙◌, subst, length-append, arith}
use Rattle.std.specs.List.{All}
use Rattle.std.proofs.lemmas.List.{append-nil, get_or_append_left, get_or_default, get_or_push, get_or-map, length-map, length_push}
use Rattle.std.proofs.lemmas.List.Elements.{All-head, All-tail}
use Rattle.farkas_cert.specs.declared.system.Row.{Row}
use Rattle.farkas_cert.specs.declared.certificate.Step.{Step}
use Rattle.farkas_cert.specs.declared.certificate.Certificate.{Certificate}
use Rattle.farkas_cert.specs.Inequalities.{Inequalities}
use Rattle.farkas_cert.specs.Combination.{no_row, row_at, made_row}
use Rattle.farkas_cert.specs.Good.{IsGoodStep, AreGoodSteps, rows_after}
use Rattle.elim_rows.specs.declared.derivation.Derivation.{Derivation}
use Rattle.elim_level.specs.Logs.{step_of, all_rows, IsLog}
use Rattle.fm_elim.specs.Lean.{Names, IsMarked, AreNeeded, IsLean, renumbered}
use Rattle.elim_rows.proofs.Combined.{by_lt}
use Rattle.elim_level.proofs.Steps.{AreGoodSteps-push, rows_after-push, length-rows_after, rows_after-begins}
use Rattle.fm_elim.proofs.Marks.{within_named}
use Rattle.fm_elim.proofs.Copies.{IsStepAt, step_at, AreSame, IsGoodStep-renamed, made_row-renamed, Names-renumbered}

-- the step of this number of steps is that of a derivation, by new numbers
pub record IsCopy (system : Inequalities) (log : List Derivation) (numbers : List ℕ) (steps : List Step) (place k : ℕ) : Type 0 where
  pub within : k < length steps
  pub number : slice_index numbers (length system.rows + place) ≡ length system.rows + k + 1
  pub step : (d : Derivation) (e : Step) → get_or steps k e ≡ renumbered numbers (step_of (get_or log place d))

-- so many derivations are done: the new numbers of their rows, and the steps of those that are needed
pub record AreCopied (system : Inequalities) (log : List Derivation) (needed : List Bool) (place : ℕ) (numbers : List ℕ) (steps : List Step) : Type 0 where
  pub count : length numbers ≡ length system.rows + place
  pub few : length steps ≤ place
  pub good : AreGoodSteps system.vars system.rows steps
  pub rows : (number : ℕ) → 1 ≤ number → number ≤ length system.rows + place → IsMarked needed number → AreSame (all_rows system log) (rows_after system.vars system.rows steps) numbers number
  pub back : (k : ℕ) → k < length steps → (q : ℕ) × (q < place) × IsMarked needed (length system.rows + q + 1) × IsCopy system log numbers steps q k
  pub forth : (q : ℕ) → q < place → IsMarked needed (length system.rows + q + 1) → (k : ℕ) × IsCopy system log numbers steps q k
  pub latest : 0 < place → slice_index numbers (length system.rows + place - 1) ≡ length system.rows + length steps

-- none yet: the given rows keep their numbers
pub AreCopied-start : (system : Inequalities) (log : List Derivation) (needed : List Bool) (numbers : List ℕ) → length numbers ≡ length system.rows → ((k : ℕ) → k < length system.rows → slice_index numbers k ≡ k + 1) → AreCopied system log needed 0 numbers []
AreCopied-start system log needed numbers count own = record {
  count = omega arith;
  few = omega arith;
  good = tt;
  rows = λ number low high marked.
      let begins = rows_after-begins system.vars system.rows (map step_of log) in
      let same : slice_index numbers (number - 1) ≡ number = own (number - 1) (omega arith) ∙ omega arith in
      record {
        low = omega (arith, same);
        high = omega (arith, same);
        row = ap (λ n. row_at system.rows n) same ∙ sym (get_or_append_left system.rows begins.0 no_row (number - 1) (omega arith)) ∙ ap (λ rows. row_at rows number) (sym begins.1);
      };
  back = λ k h. absurd (omega arith);
  forth = λ q h m. absurd (omega arith);
  latest = λ h. absurd (omega arith);
}

-- one number more changes none before it
number-push : (numbers : List ℕ) (n i : ℕ) → i < length numbers → slice_index (numbers ++ n ∷ []) i ≡ slice_index numbers i
number-push numbers n i h = get_or_append_left numbers (n ∷ []) 0 i h

terms-push : (numbers : List ℕ) (n : ℕ) (terms : List (ℕ × ℤ)) → All (λ t. (1 ≤ t.0) × (t.0 ≤ length numbers)) terms → map {B = ℕ × ℤ} (λ t. (slice_index (numbers ++ n ∷ []) (t.0 - 1), t.1)) terms ≡ map {B = ℕ × ℤ} (λ t. (slice_index numbers (t.0 - 1), t.1)) terms
terms-push numbers n [] named = refl
terms-push numbers n (t ∷ terms) named =
    let first = All-head (λ u. (1 ≤ u.0) × (u.0 ≤ length numbers)) t terms named in
    let rest = terms-push numbers n terms (All-tail (λ u. (1 ≤ u.0) × (u.0 ≤ length numbers)) t terms named) in
    ap (λ i. (i, t.1) ∷ map {B = ℕ × ℤ} (λ u. (slice_index (numbers ++ n ∷ []) (u.0 - 1), u.1)) terms) (number-push numbers n (t.0 - 1) (omega (arith, first.0, first.1))) ∙ ap (λ ts. (slice_index numbers (t.0 - 1), t.1) ∷ ts) rest

renumbered-push : (numbers : List ℕ) (n : ℕ) (step : Step) → All (λ t. (1 ≤ t.0) × (t.0 ≤ length numbers)) step.terms → renumbered (numbers ++ n ∷ []) step ≡ renumbered numbers step
renumbered-push numbers n step named = ap (λ ts. record { divisor = step.divisor; terms = ts }) (terms-push numbers n step.terms named)

-- a derivation's step, in the whole log
pub derivation_at : (system : Inequalities) (log : List Derivation) (place : ℕ) (d : Derivation) → IsLog system log → place < length log → IsStepAt system.vars system.rows (map step_of log) place (step_of (get_or log place d))
derivation_at system log place d good h =
    subst (λ s. IsStepAt system.vars system.rows (map step_of log) place s) (get_or-map step_of log place d (step_of d) h)
    (step_at system.vars system.rows (map step_of log) place (step_of d) good (omega (arith, length-map log step_of)))

-- a copy stays one where more follows
module _ (system : Inequalities) (log : List Derivation) (good : IsLog system log) (numbers : List ℕ) (n : ℕ) (steps more : List Step) where
  IsCopy-push : (q k : ℕ) → q < length log → length system.rows + q < length numbers → IsCopy system log numbers steps q k → IsCopy system log (numbers ++ n ∷ []) (steps ++ more) q k
  IsCopy-push q k within early copy = record {
    within = omega (arith, copy.within, length-append steps more);
    number = number-push numbers n (length system.rows + q) early ∙ copy.number;
    step = λ d e.
        let named = (derivation_at system log q d good within).named in
        get_or_append_left steps more e k copy.within ∙ copy.step d e ∙ sym (renumbered-push numbers n (step_of (get_or log q d)) (λ i f h. let at = named i f h in (at.0, omega (arith, at.1, early))));
  }

-- the rows stay the same where more follow
AreSame-push : (old new more : List Row) (numbers : List ℕ) (n number : ℕ) → 1 ≤ number → number ≤ length numbers → AreSame old new numbers number → AreSame old (new ++ more) (numbers ++ n ∷ []) number
AreSame-push old new more numbers n number low high same =
    let e = number-push numbers n (number - 1) (omega arith) in
    record {
      low = omega (arith, e, same.low);
      high = omega (arith, e, same.high, length-append new more);
      row = ap (λ i. row_at (new ++ more) i) e ∙ get_or_append_left new more no_row (slice_index numbers (number - 1) - 1) (omega (arith, same.low, same.high)) ∙ same.row;
    }

module _ (system : Inequalities) (log : List Derivation) (needed : List Bool) (place : ℕ) (numbers : List ℕ) (steps : List Step) (good : IsLog system log) (marks : AreNeeded (length system.rows) log 0 needed) (copied : AreCopied system log needed place numbers steps) (within : place < length log) where
  given : ℕ
  given = length system.rows

  -- the derivation at this place names rows that have new numbers
  pub terms_same : (d : Derivation) → IsMarked needed (length system.rows + place + 1) → All (λ t. AreSame (all_rows system log) (rows_after system.vars system.rows steps) numbers t.0) (step_of (get_or log place d)).terms
  terms_same d marked k e h =
      let at = (derivation_at system log place d good within).named k e h in
      copied.rows (get_or (step_of (get_or log place d)).terms k e).0 at.0 at.1 (marks.named place d (omega arith) within marked k e h)

  pub terms_within : (d : Derivation) → All (λ t. (1 ≤ t.0) × (t.0 ≤ length numbers)) (step_of (get_or log place d)).terms
  terms_within d k e h = let at = (derivation_at system log place d good within).named k e h in (at.0, omega (arith, at.1, copied.count))

  -- a place that isn't needed
  pub AreCopied-skip : (n : ℕ) → n ≡ length system.rows + length steps → (IsMarked needed (length system.rows + place + 1) → ⊥) → AreCopied system log needed (place + 1) (numbers ++ n ∷ []) steps
  AreCopied-skip n is not = record {
    count = omega (arith, copied.count, length_push numbers n);
    few = omega (arith, copied.few);
    good = copied.good;
    rows = λ number low high marked. by_lt (length system.rows + place) number
        (λ last. let e : number ≡ length system.rows + place + 1 = omega arith in absurd (not (subst (IsMarked needed) e marked)))
        (λ early.
        let same = AreSame-push (all_rows system log) (rows_after system.vars system.rows steps) [] numbers n number low (omega (arith, copied.count)) (copied.rows number low early marked) in
        subst (λ rows. AreSame (all_rows system log) rows (numbers ++ n ∷ []) number) (append-nil (rows_after system.vars system.rows steps)) same);
    back = λ k h. let found = copied.back k h in (found.0, omega (arith, found.1), found.2, stays found.0 k found.1 found.3);
    forth = λ q h marked. by_lt q place
        (λ early. let found = copied.forth q early marked in (found.0, stays q found.0 early found.1))
        (λ here. let e : q ≡ place = omega arith in absurd (not (subst (λ i. IsMarked needed (length system.rows + i + 1)) e marked)));
    latest = λ h. get_or_push numbers n 0 (length system.rows + (place + 1) - 1) (omega (arith, copied.count)) ∙ is;
  }
    where
      stays : (q k : ℕ) → q < place → IsCopy system log numbers steps q k → IsCopy system log (numbers ++ n ∷ []) steps q k
      stays q k h copy =
          let wide = IsCopy-push system log good numbers n steps [] q k (omega arith) (omega (arith, copied.count)) copy in
          subst (λ ss. IsCopy system log (numbers ++ n ∷ []) ss q k) (append-nil steps) wide

  -- a needed place: its step by new numbers comes next
  pub AreCopied-keep : (d : Derivation) (n : ℕ) (step : Step) → step ≡ renumbered numbers (step_of (get_or log place d)) → n ≡ length system.rows + length (steps ++ step ∷ []) → IsMarked needed (length system.rows + place + 1) → AreCopied system log needed (place + 1) (numbers ++ n ∷ []) (steps ++ step ∷ [])
  AreCopied-keep d n step is number marked =
      let old = all_rows system log in
      let new = rows_after system.vars system.rows steps in
      let at = derivation_at system log place d good within in
      let same = terms_same d marked in
      let good_step : IsGoodStep system.vars new step = subst (IsGoodStep system.vars new) (sym is) (IsGoodStep-renamed system.vars old new (λ n. slice_index numbers (n - 1)) (step_of (get_or log place d)) same at.good) in
      let made : made_row system.vars new step ≡ row_at old (length system.rows + place + 1) = ap (made_row system.vars new) is ∙ made_row-renamed system.vars old new (λ n. slice_index numbers (n - 1)) (step_of (get_or log place d)) same at.good ∙ sym at.makes in
      let new' : rows_after system.vars system.rows (steps ++ step ∷ []) ≡ new ++ made_row system.vars new step ∷ [] = rows_after-push system.vars system.rows steps step in
      let size : length new ≡ length system.rows + length steps = length-rows_after system.vars system.rows steps in
      let more : length (steps ++ step ∷ []) ≡ length steps + 1 = length_push steps step in
      let count : length numbers ≡ length system.rows + place = copied.count in
      let at_last : slice_index (numbers ++ n ∷ []) (length system.rows + place) ≡ length system.rows + length steps + 1 = get_or_push numbers n 0 (length system.rows + place) count ∙ number ∙ omega arith in
      let here : IsCopy system log (numbers ++ n ∷ []) (steps ++ step ∷ []) place (length steps) = record {
        within = omega arith;
        number = at_last;
        step = λ f e. get_or_push steps step e (length steps) refl ∙ is ∙ ap (λ x. renumbered numbers (step_of x)) (get_or_default log place d f within) ∙ sym (renumbered-push numbers n (step_of (get_or log place f)) (terms_within f));
      } in
      record {
        count = omega (arith, length_push numbers n);
        few = omega (arith, copied.few);
        good = AreGoodSteps-push system.vars system.rows steps step copied.good good_step;
        rows = λ i low high m. subst (λ rows. AreSame old rows (numbers ++ n ∷ []) i) (sym new') (by_lt (length system.rows + place) i
            (λ last.
            let e : i ≡ length system.rows + place + 1 = omega arith in
            let at : slice_index (numbers ++ n ∷ []) (i - 1) ≡ length system.rows + length steps + 1 = ap (slice_index (numbers ++ n ∷ [])) (omega arith) ∙ at_last in
            record {
              low = omega (arith, at);
              high = omega (arith, at, length_push new (made_row system.vars new step));
              row = ap (λ j. row_at (new ++ made_row system.vars new step ∷ []) j) at ∙ get_or_push new (made_row system.vars new step) no_row (length system.rows + length steps + 1 - 1) (omega arith) ∙ made ∙ ap (row_at old) (sym e);
            })
            (λ early. AreSame-push old new (made_row system.vars new step ∷ []) numbers n i low (omega arith) (copied.rows i low early m)));
        back = λ k h. by_lt k (length steps)
            (λ early. let found = copied.back k early in (found.0, omega (arith, found.1), found.2, stays found.0 k found.1 found.3))
            (λ last. let e : k ≡ length steps = omega arith in (place, omega arith, marked, subst (IsCopy system log (numbers ++ n ∷ []) (steps ++ step ∷ []) place) (sym e) here));
        forth = λ q h m. by_lt q place
            (λ early. let found = copied.forth q early m in (found.0, stays q found.0 early found.1))
            (λ last. let e : q ≡ place = omega arith in (length steps, subst (λ i. IsCopy system log (numbers ++ n ∷ []) (steps ++ step ∷ []) i (length steps)) (sym e) here));
        latest = λ h. ap (slice_index (numbers ++ n ∷ [])) (omega arith) ∙ at_last ∙ omega arith;
      }
    where
      stays : (q k : ℕ) → q < place → IsCopy system log numbers steps q k → IsCopy system log (numbers ++ n ∷ []) (steps ++ step ∷ []) q k
      stays q k h copy = IsCopy-push system log good numbers n steps (step ∷ []) q k (omega arith) (omega (arith, copied.count)) copy

-- all derivations are done
module _ (system : Inequalities) (log : List Derivation) (needed : List Bool) (numbers : List ℕ) (steps : List Step) (good : IsLog system log) (marks : AreNeeded (length system.rows) log 0 needed) (some : 0 < length log) (copied : AreCopied system log needed (length log) numbers steps) where
  -- the last row is that of the last derivation
  pub copied_last : (0 < length (rows_after system.vars system.rows steps)) × (row_at (rows_after system.vars system.rows steps) (length (rows_after system.vars system.rows steps)) ≡ row_at (all_rows system log) (length system.rows + length log))
  copied_last =
      let new = rows_after system.vars system.rows steps in
      let size : length new ≡ length system.rows + length steps = length-rows_after system.vars system.rows steps in
      let last = copied.rows (length system.rows + length log) (omega arith) (omega arith) marks.last in
      let latest = copied.latest some in
      (omega (arith, last.low, latest), ap (row_at new) (size ∙ sym latest) ∙ last.row)

  -- each step but the last is named by a later one
  pub copied_lean : (c : Certificate) → c.steps ≡ steps → IsLean system c
  copied_lean c is k h =
      let count : length c.steps ≡ length steps = ap length is in
      let found = copied.back k (omega arith) in
      let q = found.0 in
      let copy = found.3 in
      let early : q + 1 < length log = by_lt (q + 1) (length log) (λ lt. lt) (λ ge.
      let e : length system.rows + length log - 1 ≡ length system.rows + q = omega (arith, found.1) in
      let at : length system.rows + length steps ≡ length system.rows + k + 1 = sym (copied.latest some) ∙ ap (slice_index numbers) e ∙ copy.number in
      absurd (omega arith)) in
      let d : Derivation = no_derivation in
      let later = marks.only q d early found.2 in
      let copy' = copied.forth later.0 later.3 later.4 in
      let names : Names (get_or steps copy'.0 no_step) (length system.rows + k + 1) =
      subst (λ s. Names s (length system.rows + k + 1)) (sym (copy'.1.step d no_step))
      (subst (Names (renumbered numbers (step_of (get_or log later.0 d)))) (ap (slice_index numbers) (omega arith) ∙ copy.number)
      (Names-renumbered numbers (step_of (get_or log later.0 d)) (length system.rows + q + 1) later.5)) in
      let named = (step_at system.vars system.rows steps copy'.0 no_step copied.good copy'.1.within).named in
      let below : length system.rows + k + 1 ≤ length system.rows + copy'.0 = within_named (length system.rows + copy'.0) (length system.rows + k + 1) (get_or steps copy'.0 no_step).terms named names in
      (copy'.0, omega arith, at_place c.steps copy'.0 (subst (λ ss. Names (get_or ss copy'.0 no_step) (length system.rows + k + 1)) (sym is) names) (omega (arith, copy'.1.within)))
    where
      no_step : Step
      no_step = record { divisor = pos 0; terms = [] }

      no_derivation : Derivation
      no_derivation = record { divisor = pos 0; first = (0, pos 0); second = None }

      at_place : (ss : List Step) (i : ℕ) → Names (get_or ss i no_step) (length system.rows + k + 1) → i < length ss → IsSomeAnd (slice_get ss i) (λ s. Names s (length system.rows + k + 1))
      at_place [] i names h = absurd (omega arith)
      at_place (s ∷ ss) zero names h = names
      at_place (s ∷ ss) (suc i) names h = at_place ss i names (omega arith)
