-- A level with further rows: what is known of it, and what it asks for.
use Rattle.std.proofs.Common.{◌≡◌, ℕ, ◌+◌, ◌≤◌, ◌<◌, pos, ◌⊎◌, slice_index, List, ◌++◌, map, length, get_or, sym, subst, arith}
use Rattle.std.specs.List.{All, Contains}
use Rattle.std.proofs.lemmas.List.{length-map, get_or-map}
use Rattle.std.proofs.lemmas.List.Elements.{All-weaker}
use Rattle.farkas_cert.specs.declared.system.Row.{Row}
use Rattle.farkas_cert.specs.Inequalities.{Inequalities, AreFull}
use Rattle.elim_rows.specs.declared.derivation.Derivation.{Derivation}
use Rattle.elim_level.specs.declared.level.Held.{Held}
use Rattle.elim_level.specs.declared.level.HeldRows.{HeldRows}
use Rattle.elim_rows.specs.Pairs.{coef_of, IsPair}
use Rattle.elim_level.specs.Levels.{IsDerived}
use Rattle.elim_level.specs.Forming.{IsFormed}
use Rattle.fm_elim.specs.Lean.{renamed}
use Rattle.fm_elim.specs.Moved.{moved_by, moved_held}
use Rattle.elim_rows.specs.Table.{IsTable}
use Rattle.elim_level.specs.Logs.{step_of, IsLog, IsSuited, IsHeld, rows_of}
use Rattle.fm_elim.specs.Reached.{IsExact, IsReached}
use Rattle.fm_elim.proofs.Copies.{step_at}
use Rattle.fm_elim.proofs.Moving.{moved_within, moved_log, moved_number}
use Rattle.fm_elim.proofs.Further.{exact_extended, few_extended, narrow_extended, derived_agree}

module _ (small whole : Inequalities) (order other : List ℕ) (k most : ℕ) (log : List Derivation) (level : HeldRows) (reached : IsReached small order k most log level) (further : List Row) (is : whole.rows ≡ small.rows ++ further) (vars : whole.vars ≡ small.vars) where
  -- the level of the system with the further rows
  pub reached_extended : (new : HeldRows) (more : List Derivation) → ((j : ℕ) → j < k → slice_index order j ≡ slice_index other j) → ((j : ℕ) → j < k → All (λ r. coef_of (slice_index other j) r ≡ pos 0) further) → most + length further ≤ 20000 → AreFull whole.vars whole.rows → IsFormed (λ r. Contains (rows_of level.rows.items) r ⊎ Contains further r) (rows_of new.rows.items) → IsTable (rows_of new.rows.items) new.chains.links.items new.chains.latest.items → IsLog whole more → All (IsHeld whole more) new.rows.items → IsReached whole other k (most + length further) more new
  reached_extended new more begins without few full formed table good held =
      let forth = λ (j : ℕ) (h : j ≤ k). derived_agree small order other j (λ i lt. begins i (omega arith)) in
      let back = λ (j : ℕ) (h : j ≤ k). derived_agree small other order j (λ i lt. sym (begins i (omega arith))) in
      let exact : IsExact (IsDerived small other k) (rows_of level.rows.items) = record { has = λ r d. reached.exact.has r (back k (omega arith) r d); only = λ r there. forth k (omega arith) r (reached.exact.only r there) } in
      record {
        full = full;
        steps = good;
        held = held;
        exact = exact_extended small whole other further is k (rows_of level.rows.items) (rows_of new.rows.items) without exact formed;
        table = table;
        limit = few;
        few = λ j low high. few_extended small whole other further is j most (λ i lt. without i (omega arith))
            (λ h. reached.few j low high (h.0, h.1, h.2, All-weaker (IsDerived small other j) (IsDerived small order j) (back j high) h.0 h.3));
        narrow = λ j lt. narrow_extended small whole other further is j k lt without vars
            (λ upper lower w. reached.narrow j lt upper lower (record {
              m = w.m;
              n = w.n;
              has_upper = back j (omega arith) upper w.has_upper;
              has_lower = back j (omega arith) lower w.has_lower;
              pair = subst (λ i. IsPair i upper lower w.m w.n) (sym (begins j lt)) w.pair;
              wide = w.wide;
            }));
      }

  -- its derivations by their moved numbers
  by_lengths : (given more : ℕ) (new : List Derivation) → given ≡ length small.rows → more ≡ length further → map step_of new ≡ map (renamed (moved_by given more)) (map step_of log) → map step_of new ≡ map (renamed (moved_by (length small.rows) (length further))) (map step_of log)
  by_lengths given more new g m moved =
      subst (λ n. map step_of new ≡ map (renamed (moved_by n (length further))) (map step_of log)) g (subst (λ n. map step_of new ≡ map (renamed (moved_by given n)) (map step_of log)) m moved)

  pub log_moved : (given more : ℕ) (new : List Derivation) → given ≡ length small.rows → more ≡ length further → map step_of new ≡ map (renamed (moved_by given more)) (map step_of log) → IsLog whole new
  log_moved given more new g m moved = moved_log small whole further is vars log new (by_lengths given more new g m moved) reached.steps

  -- its rows by their moved numbers
  pub held_moved : (given more : ℕ) (new : List Derivation) → given ≡ length small.rows → more ≡ length further → map step_of new ≡ map (renamed (moved_by given more)) (map step_of log) → All (λ h. IsHeld whole new (moved_held given more h)) level.rows.items
  held_moved given more new g m moved =
      let one = λ (h : Held) (held : IsHeld small log h).
      let number = moved_number small whole further is vars log new (by_lengths given more new g m moved) reached.steps h.number h.row held.number in
      let whole_held : IsHeld whole new (moved_held (length small.rows) (length further) h) = record { suited = subst (λ n. IsSuited n h.row) (sym vars) held.suited; number = number; lowest = held.lowest } in
      subst (λ n. IsHeld whole new (moved_held n more h)) (sym g) (subst (λ n. IsHeld whole new (moved_held (length small.rows) n h)) (sym m) whole_held) in
      All-weaker (IsHeld small log) (λ h. IsHeld whole new (moved_held given more h)) one level.rows.items reached.held

  -- the moved numbers of its derivations are at most as many as there are rows then
  pub moved_terms : (given more : ℕ) → given ≡ length small.rows → (i : ℕ) (d : Derivation) → i < length log → All (λ t. moved_by given more t.0 ≤ given + length log + more) (step_of (get_or log i d)).terms
  moved_terms given more g i d h =
      let at = step_at small.vars small.rows (map step_of log) i (step_of d) reached.steps (omega (arith, length-map log step_of)) in
      let named : All (λ t. (1 ≤ t.0) × (t.0 ≤ length small.rows + i)) (step_of (get_or log i d)).terms = subst (λ s. All (λ t. (1 ≤ t.0) × (t.0 ≤ length small.rows + i)) s.terms) (get_or-map step_of log i d (step_of d) h) at.named in
      All-weaker (λ t. (1 ≤ t.0) × (t.0 ≤ length small.rows + i)) (λ t. moved_by given more t.0 ≤ given + length log + more) (λ t n. omega (arith, n.1, (moved_within given more t.0).1)) (step_of (get_or log i d)).terms named
