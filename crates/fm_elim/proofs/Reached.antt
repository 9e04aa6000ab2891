-- What a level that elimination has reached is known to be, and what its answers rest on.
use Rattle.std.proofs.Common.{◌≡◌, ℕ, suc, ◌+◌, ◌-◌, ◌≤◌, ◌<◌, max, ℤ, pos, ◌<ℤ◌, List, length, get_or, slice_index, sym, ◌∙◌, subst, arith}
use Rattle.std.specs.List.{All, Contains, range_with_len}
use Rattle.std.proofs.lemmas.List.{get_or_default, length-map}
use Rattle.std.proofs.lemmas.List.FromFn.{length-range_with_len, get_or-range_with_len}
use Rattle.std.proofs.lemmas.List.Elements.{All-contains, All-map, All-weaker, Contains-get_or}
use Rattle.std.proofs.lemmas.List.Sorted.{Contains-permutation, length_permutation, IsPermutation-sym}
use Rattle.list_lemmas.proofs.Elements.{Contains-map}
use Rattle.farkas_cert.specs.declared.system.Row.{Row}
use Rattle.farkas_cert.specs.Inequalities.{Inequalities, AreFull}
use Rattle.elim_rows.specs.declared.derivation.Derivation.{Derivation}
use Rattle.elim_level.specs.declared.level.Held.{Held}
use Rattle.elim_level.specs.declared.level.HeldRows.{HeldRows}
use Rattle.elim_rows.specs.Pairs.{IsPair, IsWide}
use Rattle.elim_rows.specs.Candidates.{IsEmpty}
use Rattle.elim_level.specs.Levels.{IsLevelRow, IsRaw, IsDerived, IsClearTo, HasMoreThan, IsWork}
use Rattle.elim_level.specs.Forming.{IsFormed}
use Rattle.elim_rows.specs.Table.{IsTable}
use Rattle.elim_level.specs.Logs.{IsLog, IsHeld, rows_of}
use Rattle.fm_elim.specs.Answers.{NamesEachOnce, HasRationalSolution, IsWidePair, HasNoWidePair, IsPassedTo, IsOpen, IsWideAt, IsManyAt, IsWorkAt, IsSoon, IsFreeOfClashes}
use Rattle.elim_level.specs.Next.{AreNowhereWide, IsNextLevel}
use Rattle.fm_elim.specs.Reached.{IsExact, IsReached}
use Rattle.fm_elim.proofs.AtMost.{at_most}
use Rattle.elim_rows.proofs.Combined.{by_lt}
use Rattle.fm_elim.proofs.Exactness.{IsExact-first, IsExact-next, raw_of_other, kept_of_other}
use Rattle.fm_elim.proofs.Columns.{empty_from_rid, solvable_nothing}
use Rattle.fm_elim.proofs.Derived.{derived_useful, derived_full, derived_rid, contradiction_stays, solvable_from}

-- level 0
pub reached_first : (system : Inequalities) (order : List ℕ) (log : List Derivation) (level : HeldRows) → AreFull system.vars system.rows → IsFormed (λ r. Contains system.rows r) (rows_of level.rows.items) → IsTable (rows_of level.rows.items) level.chains.links.items level.chains.latest.items → IsLog system log → All (IsHeld system log) level.rows.items → IsReached system order 0 0 log level
reached_first system order log level full formed table good held = record {
  full = full;
  steps = good;
  held = held;
  exact = IsExact-first system order (rows_of level.rows.items) formed;
  table = table;
  limit = omega arith;
  few = λ j low high. absurd (omega arith);
  narrow = λ j lt. absurd (omega arith);
}

-- fewer rows are no more
more_than_less : (m n : ℕ) (set : Row → Type 0) → m ≤ n → HasMoreThan n set → HasMoreThan m set
more_than_less m n set h more = (more.0, omega (arith, h, more.1), more.2, more.3)

-- how many variables the order has, and which
pub order_length : (vars : ℕ) (order : List ℕ) → NamesEachOnce vars order → length order ≡ vars
order_length vars order names = length_permutation (range_with_len 1 vars) order names ∙ length-range_with_len 1 vars

pub order_within : (vars : ℕ) (order : List ℕ) (k : ℕ) → NamesEachOnce vars order → k < length order → (1 ≤ slice_index order k) × (slice_index order k ≤ vars)
order_within vars order k names h =
    let listed = Contains-permutation order (range_with_len 1 vars) (slice_index order k) (IsPermutation-sym (range_with_len 1 vars) order names) (Contains-get_or order k 0 h) in
    let within : listed.0 < vars = omega (arith, listed.1, length-range_with_len 1 vars) in
    let at : 1 + listed.0 ≡ slice_index order k = sym (get_or-range_with_len 1 vars listed.0 (slice_index order k) within) ∙ listed.2 in
    (omega arith, omega arith)

-- the last variable is one of the order's numbers
pub order_names_last : (vars : ℕ) (order : List ℕ) → NamesEachOnce vars order → 0 < vars → (i : ℕ) × (get_or order i 0 ≡ vars)
order_names_last vars order names some =
    let count : length (range_with_len 1 vars) ≡ vars = length-range_with_len 1 vars in
    let listed : Contains (range_with_len 1 vars) vars = (vars - 1, omega arith, get_or-range_with_len 1 vars (vars - 1) vars (omega arith) ∙ omega arith) in
    let there = Contains-permutation (range_with_len 1 vars) order vars names listed in
    (there.0, get_or_default order there.0 0 vars there.1 ∙ there.2)

module _ (system : Inequalities) (order : List ℕ) (k most : ℕ) (log : List Derivation) (level : HeldRows) (reached : IsReached system order k most log level) where
  -- a row without coefficients says something
  pub useful_here : All (λ h. IsEmpty h.row → h.row.bound <ℤ pos 0) level.rows.items
  useful_here i d h = let there = Contains-get_or level.rows.items i d h in
      derived_useful system order k (get_or level.rows.items i d).row (reached.exact.only (get_or level.rows.items i d).row (Contains-map (λ (h : Held). h.row) level.rows.items (get_or level.rows.items i d) there))

module _ (system : Inequalities) (order : List ℕ) (k most : ℕ) (log : List Derivation) (level : HeldRows) (reached : IsReached system order k most log level) (none : All (λ h. IsEmpty h.row → ⊥) level.rows.items) (soon : IsSoon system order k) where
  -- no row of this level is without coefficients
  none_derived : (row : Row) → IsDerived system order k row → IsEmpty row → ⊥
  none_derived row derived = All-contains (λ r. IsEmpty r → ⊥) (rows_of level.rows.items) row (All-map (λ r. IsEmpty r → ⊥) (λ (h : Held). h.row) level.rows.items none) (reached.exact.has row derived)

  pub clear_here : IsClearTo system order k
  clear_here j row lt derived empty = let here = contradiction_stays system order j k row (omega arith) derived empty in none_derived here.0 here.1 here.2

  -- so the levels up to this one are whole
  pub passed_here : IsPassedTo system order k
  passed_here = record { clear = clear_here; few = λ j low high more. reached.few j low high (more_than_less most 20000 (IsDerived system order j) reached.limit more); soon = soon; narrow = reached.narrow }

  -- no pair of this level is wide, where none of the list is
  no_wide_pair : (v : ℕ) → v ≡ slice_index order k → AreNowhereWide system.vars v (rows_of level.rows.items) → HasNoWidePair system order k
  no_wide_pair v is narrow upper lower p = narrow upper lower p.m p.n (reached.exact.has upper p.has_upper) (reached.exact.has lower p.has_lower) (subst (λ i. IsPair i upper lower p.m p.n) (sym is) p.pair) p.wide

  -- nor do two clash, where none of the list do
  pub free_here : (number : ℕ) → number ≡ k + 1 → IsFreeOfClashes (λ r. Contains (rows_of level.rows.items) r) → IsFreeOfClashes (IsDerived system order (number - 1))
  free_here number e free upper lower hu hl =
      let place : number - 1 ≡ k = omega arith in
      free upper lower (reached.exact.has upper (subst (λ i. IsDerived system order i upper) place hu)) (reached.exact.has lower (subst (λ i. IsDerived system order i lower) place hl))

  -- the next level
  pub reached_next : (v count top : ℕ) (more : List Derivation) (next : HeldRows) → v ≡ slice_index order k → count ≡ length next.rows.items → top ≡ max most count → IsNextLevel system v (rows_of level.rows.items) more next.rows.items → IsTable (rows_of next.rows.items) next.chains.links.items next.chains.latest.items → IsLog system more → IsReached system order (k + 1) top more next
  reached_next v count top more next is counted highest made table good =
      let formed' = subst (λ i. IsFormed (IsRaw i (Contains (rows_of level.rows.items))) (rows_of next.rows.items)) is made.formed in
      let e : suc k ≡ k + 1 = omega arith in
      let exact' : IsExact (IsDerived system order (k + 1)) (rows_of next.rows.items) = subst (λ i. IsExact (IsDerived system order i) (rows_of next.rows.items)) e (IsExact-next system order k (rows_of level.rows.items) (rows_of next.rows.items) reached.exact formed') in
      record {
        full = reached.full;
        steps = good;
        held = made.held;
        exact = exact';
        table = table;
        limit = omega (arith, reached.limit, made.few, counted, highest);
        few = λ j low high more. by_lt {P = ⊥} j (k + 1)
            (λ early. reached.few j low (omega arith) (more_than_less most top (IsDerived system order j) (omega (arith, highest)) more))
            (λ here. let at : j ≡ k + 1 = omega arith in
            let all = All-weaker (IsDerived system order j) (Contains (rows_of next.rows.items)) (λ r d. exact'.has r (subst (λ i. IsDerived system order i r) at d)) more.0 more.3 in
            omega (arith, more.1, at_most more.0 (rows_of next.rows.items) more.2 all, length-map next.rows.items (λ (h : Held). h.row), counted, highest));
        narrow = λ j lt. by_lt {P = HasNoWidePair system order j} j k (reached.narrow j)
            (λ here. let at : k ≡ j = omega arith in subst (HasNoWidePair system order) at (no_wide_pair v is made.narrow));
      }

  -- two rows with a wide combination
  pub wide_here : (v number : ℕ) (upper lower : Row) → v ≡ slice_index order k → number ≡ k + 1 → k < system.vars → IsSoon system order (k + 1) → Contains (rows_of level.rows.items) upper → Contains (rows_of level.rows.items) lower → ((m : ℤ) × (n : ℤ) × IsPair v upper lower m n × IsWide system.vars m upper n lower) → IsWideAt system order number upper lower
  wide_here v number upper lower is e within more has_upper has_lower pair =
      let place : k ≡ number - 1 = omega arith in
      record {
        low = omega arith;
        high = omega arith;
        passed = subst (IsPassedTo system order) place passed_here;
        soon = subst (IsSoon system order) (sym e) more;
        pair = subst (λ i. IsWidePair system order i upper lower) place (record {
          m = pair.0;
          n = pair.1;
          has_upper = reached.exact.only upper has_upper;
          has_lower = reached.exact.only lower has_lower;
          pair = subst (λ i. IsPair i upper lower pair.0 pair.1) is pair.2;
          wide = pair.3;
        });
      }

  -- too many rows
  pub many_here : (v number count : ℕ) → v ≡ slice_index order k → number ≡ k + 1 → k < system.vars → IsSoon system order (k + 1) → count ≡ 20001 → HasMoreThan 20000 (IsLevelRow (IsRaw v (Contains (rows_of level.rows.items)))) → AreNowhereWide system.vars v (rows_of level.rows.items) → IsManyAt system order number count
  many_here v number count is e within further counted more narrow =
      let place : k ≡ number - 1 = omega arith in
      let next : suc k ≡ number = omega arith in
      let w = slice_index order k in
      let here : Row → Type 0 = IsRaw w (Contains (rows_of level.rows.items)) in
      let there : Row → Type 0 = IsRaw w (λ r. IsDerived system order k r) in
      let forth : (r : Row) → here r → there r = raw_of_other w (Contains (rows_of level.rows.items)) (λ r. IsDerived system order k r) reached.exact.only in
      let back : (r : Row) → there r → here r = raw_of_other w (λ r. IsDerived system order k r) (Contains (rows_of level.rows.items)) reached.exact.has in
      let more' : HasMoreThan 20000 (IsLevelRow here) = subst (λ i. HasMoreThan 20000 (IsLevelRow (IsRaw i (Contains (rows_of level.rows.items))))) is more in
      record {
        low = omega arith;
        high = omega arith;
        passed = subst (IsPassedTo system order) place passed_here;
        soon = subst (IsSoon system order) (sym e) further;
        narrow = subst (HasNoWidePair system order) place (no_wide_pair v is narrow);
        count_is = counted;
        more = subst (λ i. HasMoreThan 20000 (IsDerived system order i)) next (more'.0, more'.1, more'.2, All-weaker (IsLevelRow here) (IsLevelRow there) (kept_of_other here there forth back) more'.0 more'.3);
      }

  -- too many pairs
  pub work_here : (number pairs : ℕ) → number ≡ k + 1 → k < system.vars → IsWork system order (k + 1) pairs → 65536 < pairs → IsWorkAt system order number pairs
  work_here number pairs e within work more =
      let place : k ≡ number - 1 = omega arith in
      record {
        low = omega arith;
        high = omega arith;
        passed = subst (IsPassedTo system order) place passed_here;
        work = subst (λ j. IsWork system order j pairs) (sym e) work;
        more = more;
      }

  -- after the last level nothing is left, and the system has a solution
  solved_here : NamesEachOnce system.vars order → k ≡ length order → HasRationalSolution system
  solved_here names last =
      let rows = rows_of level.rows.items in
      let nothing : (r : Row) → Contains rows r → ⊥ = λ r there.
      let derived = reached.exact.only r there in
      none_derived r derived (empty_from_rid order system.vars r names (derived_full system order reached.full k r derived) (λ j lt. derived_rid system order reached.full k r derived j (omega arith))) in
      let s = solvable_from system order reached.full k rows (λ j lt. order_within system.vars order j names (omega arith)) reached.exact (solvable_nothing system.vars rows nothing) in
      (s.x, s.d, record { values = s.values; divisor = s.divisor; rows = s.holds })

  pub open_here : NamesEachOnce system.vars order → k ≡ length order → IsOpen system order
  open_here names last =
      let all : k ≡ system.vars = last ∙ order_length system.vars order names in
      record { passed = subst (IsPassedTo system order) all passed_here; solved = solved_here names last }
