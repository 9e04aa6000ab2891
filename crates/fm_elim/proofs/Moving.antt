-- Further rows behind the given ones: the derivations by their moved numbers are good steps, and make the same rows.
use Rattle.std.proofs.Common.{◌≡◌, ℕ, ◌+◌, ◌-◌, ◌≤◌, ◌<◌, true, false, if◌then◌else◌, length-append, List, [], ◌∷◌, ◌++◌, map, length, ap, sym, ◌∙◌, subst, arith}
use Rattle.std.specs.Prelude.{nat_le}
use Rattle.std.specs.List.{All}
use Rattle.std.proofs.lemmas.Bool.Decides.{nat_tests}
use Rattle.std.proofs.lemmas.List.{get_or_append_left, get_or_push, length_push}
use Rattle.std.proofs.lemmas.List.Elements.{All-weaker}
use Rattle.farkas_cert.specs.declared.system.Row.{Row}
use Rattle.farkas_cert.specs.declared.certificate.Step.{Step}
use Rattle.farkas_cert.specs.Inequalities.{Inequalities}
use Rattle.farkas_cert.specs.Combination.{no_row, row_at, made_row}
use Rattle.farkas_cert.specs.Good.{AreGoodSteps, rows_after}
use Rattle.elim_rows.specs.declared.derivation.Derivation.{Derivation}
use Rattle.fm_elim.specs.Lean.{renamed}
use Rattle.elim_level.specs.Logs.{step_of, all_rows, IsLog, IsNumber}
use Rattle.fm_elim.specs.Moved.{moved_by}
use Rattle.elim_rows.proofs.Combined.{by_lt}
use Rattle.fm_elim.proofs.Copies.{AreSameBy, IsGoodStep-renamed, made_row-renamed}

moved_early : (given more n : ℕ) → n ≤ given → moved_by given more n ≡ n
moved_early given more n h = let yes : nat_le n given ≡ true = grind (arith, nat_tests) in ap (λ b. if b then n else n + more) yes

moved_late : (given more n : ℕ) → given < n → moved_by given more n ≡ n + more
moved_late given more n h = let no : nat_le n given ≡ false = grind (arith, nat_tests) in ap (λ b. if b then n else n + more) no

-- no number moves by more
pub moved_within : (given more n : ℕ) → (n ≤ moved_by given more n) × (moved_by given more n ≤ n + more)
moved_within given more n =
    by_lt {P = (n ≤ moved_by given more n) × (moved_by given more n ≤ n + more)} given n
    (λ late. (omega (arith, moved_late given more n late), omega (arith, moved_late given more n late)))
    (λ early. (omega (arith, moved_early given more n early), omega (arith, moved_early given more n early)))

-- the rows are there by their moved numbers
record AreMoved (given more : ℕ) (old new : List Row) : Type 0 where
  low : given ≤ length old
  count : length new ≡ length old + more
  same : (n : ℕ) → 1 ≤ n → n ≤ length old → row_at new (moved_by given more n) ≡ row_at old n

moved_start : (rows further : List Row) → AreMoved (length rows) (length further) rows (rows ++ further)
moved_start rows further = record {
  low = omega arith;
  count = length-append rows further;
  same = λ n low high. ap (row_at (rows ++ further)) (moved_early (length rows) (length further) n high) ∙ get_or_append_left rows further no_row (n - 1) (omega arith);
}

moved_push : (given more : ℕ) (old new : List Row) (row : Row) → AreMoved given more old new → AreMoved given more (old ++ row ∷ []) (new ++ row ∷ [])
moved_push given more old new row h = record {
  low = omega (arith, h.low, length_push old row);
  count = omega (arith, h.count, length_push old row, length_push new row);
  same = λ n low high. by_lt {P = row_at (new ++ row ∷ []) (moved_by given more n) ≡ row_at (old ++ row ∷ []) n} (length old) n
      (λ last.
      let late : moved_by given more n ≡ n + more = moved_late given more n (omega (arith, h.low)) in
      get_or_push new row no_row (moved_by given more n - 1) (omega (arith, late, h.count, last, high, length_push old row)) ∙ sym (get_or_push old row no_row (n - 1) (omega (arith, last, high, length_push old row))))
      (λ early.
      let within = moved_within given more n in
      get_or_append_left new (row ∷ []) no_row (moved_by given more n - 1) (omega (arith, within.0, within.1, h.count, low, early)) ∙ h.same n low early ∙ sym (get_or_append_left old (row ∷ []) no_row (n - 1) (omega arith)));
}

-- the steps by the moved numbers
moved_steps : (vars given more : ℕ) (old new : List Row) (steps : List Step) → AreMoved given more old new → AreGoodSteps vars old steps → AreGoodSteps vars new (map (renamed (moved_by given more)) steps) × AreMoved given more (rows_after vars old steps) (rows_after vars new (map (renamed (moved_by given more)) steps))
moved_steps vars given more old new [] moved good = (tt, moved)
moved_steps vars given more old new (s ∷ steps) moved good =
    let f = moved_by given more in
    let same : All (λ t. AreSameBy old new f t.0) s.terms = All-weaker (λ t. (1 ≤ t.0) × (t.0 ≤ length old)) (λ t. AreSameBy old new f t.0)
    (λ t h. let within = moved_within given more t.0 in record { low = omega (arith, h.0, within.0); high = omega (arith, h.1, within.1, moved.count); row = moved.same t.0 h.0 h.1 }) s.terms good.0.named in
    let step = IsGoodStep-renamed vars old new f s same good.0 in
    let made : made_row vars new (renamed f s) ≡ made_row vars old s = made_row-renamed vars old new f s same good.0 in
    let next : AreMoved given more (old ++ made_row vars old s ∷ []) (new ++ made_row vars new (renamed f s) ∷ []) =
    subst (λ r. AreMoved given more (old ++ made_row vars old s ∷ []) (new ++ r ∷ [])) (sym made) (moved_push given more old new (made_row vars old s) moved) in
    let rest = moved_steps vars given more (old ++ made_row vars old s ∷ []) (new ++ made_row vars new (renamed f s) ∷ []) steps next good.1 in
    ((step, rest.0), rest.1)

-- a log with the moved numbers
module _ (small whole : Inequalities) (further : List Row) (is : whole.rows ≡ small.rows ++ further) (vars : whole.vars ≡ small.vars) (old new : List Derivation) (moved : map step_of new ≡ map (renamed (moved_by (length small.rows) (length further))) (map step_of old)) (good : IsLog small old) where
  all_moved : AreGoodSteps whole.vars whole.rows (map step_of new) × AreMoved (length small.rows) (length further) (all_rows small old) (rows_after whole.vars whole.rows (map step_of new))
  all_moved =
      let f = moved_by (length small.rows) (length further) in
      let first = moved_steps small.vars (length small.rows) (length further) small.rows (small.rows ++ further) (map step_of old) (moved_start small.rows further) good in
      subst (λ n. AreGoodSteps n whole.rows (map step_of new) × AreMoved (length small.rows) (length further) (all_rows small old) (rows_after n whole.rows (map step_of new))) (sym vars)
      (subst (λ rows. AreGoodSteps small.vars rows (map step_of new) × AreMoved (length small.rows) (length further) (all_rows small old) (rows_after small.vars rows (map step_of new))) (sym is)
      (subst (λ steps. AreGoodSteps small.vars (small.rows ++ further) steps × AreMoved (length small.rows) (length further) (all_rows small old) (rows_after small.vars (small.rows ++ further) steps)) (sym moved) first))

  pub moved_log : IsLog whole new
  moved_log = all_moved.0

  pub moved_number : (n : ℕ) (row : Row) → IsNumber (all_rows small old) n row → IsNumber (all_rows whole new) (moved_by (length small.rows) (length further) n) row
  moved_number n row h =
      let within = moved_within (length small.rows) (length further) n in
      let m = all_moved.1 in
      (omega (arith, h.0, within.0), omega (arith, h.1, within.1, m.count), m.same n h.0 h.1 ∙ h.2)
