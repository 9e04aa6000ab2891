-- A cut in which loops are dealt out by tries that are made of them has good marks, sum scalars and private scalars, and no PRINT stands in a loop that it deals out.
use Rattle.std.proofs.Common.{◌≡◌, ℕ, zero, suc, ◌+◌, ◌-◌, ◌<◌, ◌≤◌, Bool, true, false, ◌&&◌, ◌||◌, ◌==◌, not, nat_le, nat_lt, List, [], ◌∷◌, ◌++◌, length, get_or, Some, None, if◌then◌else◌, refl, ap, ap₂, ◌∙◌, subst, arith}
use Rattle.std.specs.Prelude.{Option, is_some, slice_get}
use Rattle.std.specs.List.{list_all, list_any}
use Rattle.std.specs.Option.{option_or}
use Rattle.std.proofs.lemmas.Bool.{and_from, and_left, and_parts, and_right, eq-eqb, eqb-true, lt-ltb, ne_eqb, not_from_false, or_left, or_parts, or_right}
use Rattle.std.proofs.lemmas.List.Folds.{list_all-append}
use Rattle.std.proofs.lemmas.Option.{get_or_from_slice_get}
use Rattle.list_lemmas.proofs.Options.{or_none}
use Rattle.nest_tree.specs.Prints.{has_print, have_print}
use Rattle.nest_tree.specs.Tree.{Head, Statement, Statements, do_loop, work, continue, done, next, Tree}
use Rattle.nest_tree.specs.WellFormed.{IsWellFormed, Scope, are_good_statements, is_good_statement, loops_in, loops_of, scope_of}
use Rattle.nest_tree.proofs.Cells.{well_formed_parts}
use Rattle.nest_tree.proofs.Good.{good_loop}
use Rattle.nest_walk.specs.Texts.{Placed, placed_in, placed_of}
use Rattle.own_scalars.specs.OwnScalars.{sum_scalars}
use Rattle.owner_partition.specs.declared.cut.Mark.{Mark}
use Rattle.owner_partition.specs.declared.cut.Mark.TheVariants.{Outer, Single, Inner}
use Rattle.owner_partition.specs.Cuts.{Cutting, privates_of as own_privates}
use Rattle.owner_partition.specs.Marks.{enters_outer, is_closed, is_dealt, is_doall, is_sum_mark, mark_of, marked}
use Rattle.sync_plan.specs.Barriers.{least_version}
use Rattle.sync_plan.specs.declared.plan.Version.{Version}
use Rattle.sync_plan.specs.declared.plan.Version.TheVariants.{Two, Four, Five}
use Rattle.sync_plan.specs.Shape.{are_good_privates, are_marked_well, fits_mark, has_good_privates, has_good_sums, has_privates, has_sums, have_good_privates, have_good_sums, is_good_sum, is_marked_well, static_phases}
use Rattle.maker_marks.specs.declared.tries.Tried.{Tried}
use Rattle.maker_marks.specs.declared.tries.Tried.TheVariants as tries
use Rattle.plan_maker.specs.Cut.{IsTriedCut}
use Rattle.maker_marks.specs.Marks.{has_free, have_free, inner_in, inner_of, marks_by, marks_of}
use Rattle.maker_marks.specs.Privates.{none_in, none_of, privates_by, privates_in, privates_of}
use Rattle.maker_marks.specs.Tries.{IsMadeOf, body_among, body_in, has_few_sums, has_no_privates, is_admitted, tried_mark}
use Rattle.plan_maker.proofs.DealtPhases.{HasIn, HasOf, has-all, has-first, has-rest, tried-closed, tried_dealt}
use Rattle.plan_maker.proofs.Marked.{inner-count_in, marks_count}
use Rattle.plan_maker.proofs.OwnRising.{privates_good}
use Rattle.plan_maker.proofs.Standing.{StandsAt, enters_at, front_stands, mark_at, more_stand, none-count_in, one_stands, privates_count, rest_stands}

-- ---- loops that are found by their numbers

-- a loop that is found has one of the numbers of the text
mutual
  within_in : (scope : Scope) (around : List ℕ) (first n : ℕ) (s : Statement) (body : Statements) → is_good_statement scope around first s ≡ true → body_in n s ≡ Some body → (first ≤ n) × (n < first + loops_in s)
  within_in scope around first n (do_loop head inner) body good found =
      let g = good_loop scope around first head inner good in
      elim (head.number == n) as (λ b. (head.number == n) ≡ b → (if b then Some inner else body_among n inner) ≡ Some body → (first ≤ n) × (n < first + (1 + loops_of inner))) [
        | true ↦ λ same at. let e = eqb-true head.number n same in (omega (arith, e, g.number), omega (arith, e, g.number))
        | false ↦ λ other at. let r = found_within scope (head.number ∷ around) (first + 1) n inner body g.inside at in (omega (arith, r.0), omega (arith, r.1))
      ] refl found
  within_in scope around first n (work w) body good found = absurd (cc)
  within_in scope around first n (continue line) body good found = absurd (cc)

  pub found_within : (scope : Scope) (around : List ℕ) (first n : ℕ) (ss : Statements) (body : Statements) → are_good_statements scope around first ss ≡ true → body_among n ss ≡ Some body → (first ≤ n) × (n < first + loops_of ss)
  found_within scope around first n done body good found = absurd (cc)
  found_within scope around first n (next s rest) body good found =
      let parts = and_parts (is_good_statement scope around first s) (are_good_statements scope around (first + loops_in s) rest) good in
      elim (body_in n s) as (λ o. body_in n s ≡ o → option_or o (body_among n rest) ≡ Some body → (first ≤ n) × (n < first + (loops_in s + loops_of rest))) [
        | None ↦ λ e at. let r = found_within scope around (first + loops_in s) n rest body parts.1 at in (omega (arith, r.0), omega (arith, r.1))
        | Some b ↦ λ e at. let r = within_in scope around first n s b parts.0 e in (r.0, omega (arith, r.1))
      ] refl found

-- and its statements are good
pub record AreGood (scope : Scope) (ss : Statements) : Type 0 where
  pub around : List ℕ
  pub first : ℕ
  pub good : are_good_statements scope around first ss ≡ true

mutual
  good_in : (scope : Scope) (around : List ℕ) (first n : ℕ) (s : Statement) (body : Statements) → is_good_statement scope around first s ≡ true → body_in n s ≡ Some body → AreGood scope body
  good_in scope around first n (do_loop head inner) body good found =
      let g = good_loop scope around first head inner good in
      elim (head.number == n) as (λ b. (if b then Some inner else body_among n inner) ≡ Some body → AreGood scope body) [
        | true ↦ λ at. let same : inner ≡ body = cc in record { around = head.number ∷ around; first = first + 1; good = subst (λ ss. are_good_statements scope (head.number ∷ around) (first + 1) ss ≡ true) same g.inside }
        | false ↦ λ at. found_good scope (head.number ∷ around) (first + 1) n inner body g.inside at
      ] found
  good_in scope around first n (work w) body good found = absurd (cc)
  good_in scope around first n (continue line) body good found = absurd (cc)

  pub found_good : (scope : Scope) (around : List ℕ) (first n : ℕ) (ss : Statements) (body : Statements) → are_good_statements scope around first ss ≡ true → body_among n ss ≡ Some body → AreGood scope body
  found_good scope around first n done body good found = absurd (cc)
  found_good scope around first n (next s rest) body good found =
      let parts = and_parts (is_good_statement scope around first s) (are_good_statements scope around (first + loops_in s) rest) good in
      elim (body_in n s) as (λ o. body_in n s ≡ o → option_or o (body_among n rest) ≡ Some body → AreGood scope body) [
        | None ↦ λ e at. found_good scope around (first + loops_in s) n rest body parts.1 at
        | Some b ↦ λ e at. good_in scope around first n s body parts.0 (e ∙ at)
      ] refl found

-- each loop that is dealt out among these is so by a try that is made of it
abbrev pub IsTriedIn : (ℕ → Option Tried) → (ℕ → List ℕ) → Statement → Type 0
IsTriedIn dealt owned s = (n : ℕ) (t : Tried) (body : Statements) → dealt n ≡ Some t → body_in n s ≡ Some body → IsMadeOf t (owned n) body

abbrev pub AreTried : (ℕ → Option Tried) → (ℕ → List ℕ) → Statements → Type 0
AreTried dealt owned ss = (n : ℕ) (t : Tried) (body : Statements) → dealt n ≡ Some t → body_among n ss ≡ Some body → IsMadeOf t (owned n) body

not-within : (scope : Scope) (around : List ℕ) (first n : ℕ) (s : Statement) → is_good_statement scope around first s ≡ true → first + loops_in s ≤ n → body_in n s ≡ None
not-within scope around first n s good far = by (body_in n s) refl
  where
    by : (o : Option Statements) → body_in n s ≡ o → body_in n s ≡ None
    by None e = e
    by (Some body) e = let r = within_in scope around first n s body good e in absurd (omega (arith, r.1, far))

module _ (dealt : ℕ → Option Tried) (owned : ℕ → List ℕ) (scope : Scope) (around : List ℕ) (first : ℕ) where
  tried-first : (s : Statement) (rest : Statements) → AreTried dealt owned (next s rest) → IsTriedIn dealt owned s
  tried-first s rest h = λ n t body is found. h n t body is (ap (λ o. option_or o (body_among n rest)) found)

  tried-rest : (s : Statement) (rest : Statements) → are_good_statements scope around first (next s rest) ≡ true → AreTried dealt owned (next s rest) → AreTried dealt owned rest
  tried-rest s rest good h =
      let parts = and_parts (is_good_statement scope around first s) (are_good_statements scope around (first + loops_in s) rest) good in
      λ n t body is found.
      let r = found_within scope around (first + loops_in s) n rest body parts.1 found in
      h n t body is (or_none (body_in n s) (body_among n rest) (not-within scope around first n s parts.0 r.0) ∙ found)

  tried-here : (head : Head) (body : Statements) (t : Tried) → IsTriedIn dealt owned (do_loop head body) → dealt head.number ≡ Some t → IsMadeOf t (owned head.number) body
  tried-here head body t h is = h head.number t body is (ap (λ b. if b then Some body else body_among head.number body) (eq-eqb head.number head.number refl))

  tried-inside : (head : Head) (body : Statements) → is_good_statement scope around first (do_loop head body) ≡ true → IsTriedIn dealt owned (do_loop head body) → AreTried dealt owned body
  tried-inside head body good h =
      let g = good_loop scope around first head body good in
      λ n t inner is found.
      let r = found_within scope (head.number ∷ around) (first + 1) n body inner g.inside found in
      let other = ne_eqb head.number n (λ e. omega (arith, e, r.0, g.number)) in
      h n t inner is (ap (λ b. if b then Some body else body_among n body) other ∙ found)

-- ---- where no loop is dealt out none has private scalars

neither-free : (o : Option Tried) (b : Bool) → (is_some o || b) ≡ false → (o ≡ None) × (b ≡ false)
neither-free None b e = (refl, e)
neither-free (Some t) b e = absurd (let no : true ≡ false = e in cc)

module _ (dealt : ℕ → Option Tried) (owned : ℕ → List ℕ) where
  mutual
    none-free_in : (s : Statement) → has_free dealt s ≡ false → privates_in dealt owned s ≡ none_in s
    none-free_in (do_loop head body) h =
        let parts = neither-free (dealt head.number) (have_free dealt body) h in
        ap (λ o. privates_by o (owned head.number) body (privates_of dealt owned body)) parts.0 ∙ ap (λ xs. [] ∷ xs) (none-free body parts.1)
    none-free_in (work w) h = refl
    none-free_in (continue line) h = refl

    none-free : (ss : Statements) → have_free dealt ss ≡ false → privates_of dealt owned ss ≡ none_of ss
    none-free done h = refl
    none-free (next s rest) h =
        let parts = or_parts (has_free dealt s) (have_free dealt rest) h in
        ap₂ (λ xs ys. xs ++ ys) (none-free_in s parts.0) (none-free rest parts.1)

-- ---- the parts of a fitting shape

module _ (cut : Cutting) (version : Version) where
  pub record IsFineIn (inside : Bool) (s : Statement) : Type 0 where
    pub marked : is_marked_well cut.marks inside s ≡ true
    pub sums : has_good_sums version cut.marks s ≡ true
    pub privates : has_good_privates version cut s ≡ true

  pub record AreFine (inside : Bool) (ss : Statements) : Type 0 where
    pub marked : are_marked_well cut.marks inside ss ≡ true
    pub sums : have_good_sums version cut.marks ss ≡ true
    pub privates : have_good_privates version cut ss ≡ true

  fine-next : (inside : Bool) (s : Statement) (rest : Statements) → IsFineIn inside s → AreFine inside rest → AreFine inside (next s rest)
  fine-next inside s rest h k = record {
    marked = and_from (is_marked_well cut.marks inside s) (are_marked_well cut.marks inside rest) h.marked k.marked;
    sums = and_from (has_good_sums version cut.marks s) (have_good_sums version cut.marks rest) h.sums k.sums;
    privates = and_from (has_good_privates version cut s) (have_good_privates version cut rest) h.privates k.privates;
  }

  -- of a loop by its mark and its private scalars
  fine-loop : (inside deeper : Bool) (head : Head) (body : Statements) (m : Mark) (vs : List ℕ) → mark_of cut.marks head.number ≡ m → own_privates cut.privates head.number ≡ vs → (inside || is_closed m) ≡ deeper →
      fits_mark inside m ≡ true → is_good_sum version m body ≡ true → are_good_privates version m body vs ≡ true → AreFine deeper body → IsFineIn inside (do_loop head body)
  fine-loop inside deeper head body m vs is own deep fits sums privates h = record {
    marked = ap (λ k. fits_mark inside k && are_marked_well cut.marks (inside || is_closed k) body) is ∙ ap (λ d. fits_mark inside m && are_marked_well cut.marks d body) deep ∙ and_from (fits_mark inside m) (are_marked_well cut.marks deeper body) fits h.marked;
    sums = ap (λ k. is_good_sum version k body && have_good_sums version cut.marks body) is ∙ and_from (is_good_sum version m body) (have_good_sums version cut.marks body) sums h.sums;
    privates = ap₂ (λ k us. are_good_privates version k body us && have_good_privates version cut body) is own ∙ and_from (are_good_privates version m body vs) (have_good_privates version cut body) privates h.privates;
  }

  -- the loops inside a phase
  pub record HasInnerIn (first : ℕ) (s : Statement) : Type 0 where
    pub marks : StandsAt cut.marks first (inner_in s)
    pub privates : StandsAt cut.privates first (none_in s)

  pub record HasInner (first : ℕ) (ss : Statements) : Type 0 where
    pub marks : StandsAt cut.marks first (inner_of ss)
    pub privates : StandsAt cut.privates first (none_of ss)

  mutual
    inner-fine_in : (scope : Scope) (around : List ℕ) (first : ℕ) (s : Statement) → is_good_statement scope around first s ≡ true → HasInnerIn first s → IsFineIn true s
    inner-fine_in scope around first (do_loop head body) good has =
        let g = good_loop scope around first head body good in
        let here = ap (λ n. slice_get cut.marks (n - 1)) g.number ∙ one_stands cut.marks first Inner (inner_of body) has.marks in
        let own = ap (λ n. slice_get cut.privates (n - 1)) g.number ∙ one_stands cut.privates first [] (none_of body) has.privates in
        fine-loop true true head body Inner [] (mark_at cut.marks head.number Inner here) (get_or_from_slice_get cut.privates (head.number - 1) [] [] own) refl refl refl refl
        (inner-fine scope (head.number ∷ around) (first + 1) body g.inside (record { marks = more_stand cut.marks first Inner (inner_of body) has.marks; privates = more_stand cut.privates first [] (none_of body) has.privates }))
    inner-fine_in scope around first (work w) good has = record { marked = refl; sums = refl; privates = refl }
    inner-fine_in scope around first (continue line) good has = record { marked = refl; sums = refl; privates = refl }

    inner-fine : (scope : Scope) (around : List ℕ) (first : ℕ) (ss : Statements) → are_good_statements scope around first ss ≡ true → HasInner first ss → AreFine true ss
    inner-fine scope around first done good has = record { marked = refl; sums = refl; privates = refl }
    inner-fine scope around first (next s rest) good has =
        let parts = and_parts (is_good_statement scope around first s) (are_good_statements scope around (first + loops_in s) rest) good in
        fine-next true s rest
        (inner-fine_in scope around first s parts.0 (record { marks = front_stands cut.marks first (inner_in s) (inner_of rest) has.marks; privates = front_stands cut.privates first (none_in s) (none_of rest) has.privates }))
        (inner-fine scope around (first + loops_in s) rest parts.1 (record { marks = rest_stands cut.marks first (loops_in s) (inner_in s) (inner_of rest) (inner-count_in s) has.marks; privates = rest_stands cut.privates first (loops_in s) (none_in s) (none_of rest) (none-count_in s) has.privates }))

-- no phase with a PRINT is dealt out
abbrev pub is_silent : List Mark → Placed → Bool
is_silent marks p = not (has_print p.what && is_dealt marks p.what)

-- of a loop that is dealt out by a try
tried-sums : (t : Tried) (version : Version) (body : Statements) → is_admitted t body ≡ true → (is_sum_mark (tried_mark t) ≡ true → has_sums version ≡ true) → is_good_sum version (tried_mark t) body ≡ true
tried-sums tries.Doall version body h has = refl
tried-sums tries.Private version body h has = refl
tried-sums tries.Sum version body h has =
    let few = (and_parts (has_sums Four) (has_few_sums body) (and_parts (has_sums Four && has_few_sums body) (has_no_privates body || has_privates Five) h).0).1 in
    let both = and_parts (nat_le 1 (length (sum_scalars body))) (nat_le (length (sum_scalars body)) 16) few in
    and_from (has_sums version && nat_le 1 (length (sum_scalars body))) (nat_le (length (sum_scalars body)) 16) (and_from (has_sums version) (nat_le 1 (length (sum_scalars body))) (has refl) both.0) both.1

fits-outside : (t : Tried) → fits_mark false (tried_mark t) ≡ true
fits-outside tries.Doall = refl
fits-outside tries.Private = refl
fits-outside tries.Sum = refl

module _ (cut : Cutting) (version : Version) (dealt : ℕ → Option Tried) (owned : ℕ → List ℕ) (sums : (n : ℕ) → is_sum_mark (mark_of cut.marks n) ≡ true → has_sums version ≡ true) (owns : (n : ℕ) → (length (own_privates cut.privates n) == 0) ≡ false → has_privates version ≡ true) where
  record IsFittingIn (around : List ℕ) (s : Statement) : Type 0 where
    fine : IsFineIn cut version false s
    prints : list_all (is_silent cut.marks) (placed_in (enters_outer cut.marks) around s) ≡ true

  pub record AreFitting (around : List ℕ) (ss : Statements) : Type 0 where
    pub fine : AreFine cut version false ss
    pub prints : list_all (is_silent cut.marks) (placed_of (enters_outer cut.marks) around ss) ≡ true

  -- a loop that is a phase
  closed-fits : (around : List ℕ) (head : Head) (body : Statements) (m : Mark) → slice_get cut.marks (head.number - 1) ≡ Some m → is_closed m ≡ true → IsFineIn cut version false (do_loop head body) → not (have_print body && is_doall m) ≡ true → IsFittingIn around (do_loop head body)
  closed-fits around head body m here closed fine silent =
      let stops : enters_outer cut.marks head.number ≡ false = enters_at cut.marks head.number m here ∙ ap not closed in
      let phase : Placed = record { what = do_loop head body; around = around } in
      record {
        fine = fine;
        prints = ap (λ b. list_all (is_silent cut.marks) (if b then placed_of (enters_outer cut.marks) (head.number ∷ around) body else phase ∷ [])) stops
            ∙ and_from (is_silent cut.marks phase) true (ap (λ k. not (have_print body && is_doall k)) (mark_at cut.marks head.number m here) ∙ silent) refl;
      }

  mutual
    fitting_in : (scope : Scope) (around : List ℕ) (first : ℕ) (s : Statement) → is_good_statement scope around first s ≡ true → HasIn cut dealt owned first s → IsTriedIn dealt owned s → IsFittingIn around s
    fitting_in scope around first (do_loop head body) good has made =
        let g = good_loop scope around first head body good in
        by g.number (dealt head.number) (have_free dealt body) refl refl g.inside (λ t is. tried-here dealt owned scope around first head body t made is) (λ has'. fitting_of scope (head.number ∷ around) (first + 1) body g.inside has' (tried-inside dealt owned scope around first head body good made))
      where
        by : head.number ≡ first → (o : Option Tried) (b : Bool) → dealt head.number ≡ o → have_free dealt body ≡ b → are_good_statements scope (head.number ∷ around) (first + 1) body ≡ true → ((t : Tried) → dealt head.number ≡ Some t → IsMadeOf t (owned head.number) body) →
            (HasOf cut dealt owned (first + 1) body → AreFitting (head.number ∷ around) body) → IsFittingIn around (do_loop head body)
        by number (Some t) b is free inside made_of later =
            let made_is = made_of t is in
            let marks = subst (λ o. StandsAt cut.marks first (marks_by o (have_free dealt body) body (marks_of dealt body))) is has.marks in
            let privates = subst (λ o. StandsAt cut.privates first (privates_by o (owned head.number) body (privates_of dealt owned body))) is has.privates in
            let here = ap (λ n. slice_get cut.marks (n - 1)) number ∙ one_stands cut.marks first (tried_mark t) (inner_of body) marks in
            let at = mark_at cut.marks head.number (tried_mark t) here in
            let own = get_or_from_slice_get cut.privates (head.number - 1) (owned head.number) [] (ap (λ n. slice_get cut.privates (n - 1)) number ∙ one_stands cut.privates first (owned head.number) (none_of body) privates) in
            let inner = inner-fine cut version scope (head.number ∷ around) (first + 1) body inside (record { marks = more_stand cut.marks first (tried_mark t) (inner_of body) marks; privates = more_stand cut.privates first (owned head.number) (none_of body) privates }) in
            let good_sums = tried-sums t version body made_is.admitted (λ e. sums head.number (ap is_sum_mark at ∙ e)) in
            let good_owns = privates_good body version (tried_mark t) (owned head.number) (tried_dealt t) made_is.few made_is.rising made_is.private (λ e. owns head.number (ap (λ vs. length vs == 0) own ∙ e)) in
            closed-fits around head body (tried_mark t) here (tried-closed t) (fine-loop cut version false true head body (tried_mark t) (owned head.number) at own (tried-closed t) (fits-outside t) good_sums good_owns inner) (not_from_false (have_print body && is_doall (tried_mark t)) (and_left (have_print body) (is_doall (tried_mark t)) made_is.silent))
        by number None true is free inside made_of later =
            let marks = subst (λ b. StandsAt cut.marks first (marks_by None b body (marks_of dealt body))) free (subst (λ o. StandsAt cut.marks first (marks_by o (have_free dealt body) body (marks_of dealt body))) is has.marks) in
            let privates = subst (λ o. StandsAt cut.privates first (privates_by o (owned head.number) body (privates_of dealt owned body))) is has.privates in
            let here = ap (λ n. slice_get cut.marks (n - 1)) number ∙ one_stands cut.marks first Outer (marks_of dealt body) marks in
            let own = get_or_from_slice_get cut.privates (head.number - 1) [] [] (ap (λ n. slice_get cut.privates (n - 1)) number ∙ one_stands cut.privates first [] (privates_of dealt owned body) privates) in
            let deeper = later (record { marks = more_stand cut.marks first Outer (marks_of dealt body) marks; privates = more_stand cut.privates first [] (privates_of dealt owned body) privates }) in
            record {
              fine = fine-loop cut version false false head body Outer [] (mark_at cut.marks head.number Outer here) own refl refl refl refl deeper.fine;
              prints = ap (λ b. list_all (is_silent cut.marks) (if b then placed_of (enters_outer cut.marks) (head.number ∷ around) body else record { what = do_loop head body; around = around } ∷ [])) (enters_at cut.marks head.number Outer here) ∙ deeper.prints;
            }
        by number None false is free inside made_of later =
            let marks = subst (λ b. StandsAt cut.marks first (marks_by None b body (marks_of dealt body))) free (subst (λ o. StandsAt cut.marks first (marks_by o (have_free dealt body) body (marks_of dealt body))) is has.marks) in
            let whole = subst (λ o. StandsAt cut.privates first (privates_by o (owned head.number) body (privates_of dealt owned body))) is has.privates in
            let privates = subst (λ ys. StandsAt cut.privates first ([] ∷ ys)) (none-free dealt owned body free) whole in
            let here = ap (λ n. slice_get cut.marks (n - 1)) number ∙ one_stands cut.marks first Single (inner_of body) marks in
            let own = get_or_from_slice_get cut.privates (head.number - 1) [] [] (ap (λ n. slice_get cut.privates (n - 1)) number ∙ one_stands cut.privates first [] (none_of body) privates) in
            let inner = inner-fine cut version scope (head.number ∷ around) (first + 1) body inside (record { marks = more_stand cut.marks first Single (inner_of body) marks; privates = more_stand cut.privates first [] (none_of body) privates }) in
            closed-fits around head body Single here refl (fine-loop cut version false true head body Single [] (mark_at cut.marks head.number Single here) own refl refl refl refl inner) (not_from_false (have_print body && false) (and_right (have_print body) false refl))
    fitting_in scope around first (work w) good has made = record {
      fine = record { marked = refl; sums = refl; privates = refl };
      prints = and_from (not (has_print (work w) && false)) true (not_from_false (has_print (work w) && false) (and_right (has_print (work w)) false refl)) refl;
    }
    fitting_in scope around first (continue line) good has made = record { fine = record { marked = refl; sums = refl; privates = refl }; prints = refl }

    pub fitting_of : (scope : Scope) (around : List ℕ) (first : ℕ) (ss : Statements) → are_good_statements scope around first ss ≡ true → HasOf cut dealt owned first ss → AreTried dealt owned ss → AreFitting around ss
    fitting_of scope around first done good has made = record { fine = record { marked = refl; sums = refl; privates = refl }; prints = refl }
    fitting_of scope around first (next s rest) good has made =
        let parts = and_parts (is_good_statement scope around first s) (are_good_statements scope around (first + loops_in s) rest) good in
        let front = fitting_in scope around first s parts.0 (has-first cut dealt owned first s rest has) (tried-first dealt owned scope around first s rest made) in
        let behind = fitting_of scope around (first + loops_in s) rest parts.1 (has-rest cut dealt owned first s rest has) (tried-rest dealt owned scope around first s rest good made) in
        let silent = is_silent cut.marks in
        let text = placed_in (enters_outer cut.marks) around s in
        let later = placed_of (enters_outer cut.marks) around rest in
        record {
          fine = fine-next cut version false s rest front.fine behind.fine;
          prints = list_all-append silent text later ∙ and_from (list_all silent text) (list_all silent later) front.prints behind.prints;
        }

-- ---- the least version holds a cut

any-sum : (marks : List Mark) (k : ℕ) → is_sum_mark (marked (slice_get marks k)) ≡ true → list_any is_sum_mark marks ≡ true
any-sum [] k e = absurd (let no : false ≡ true = e in cc)
any-sum (m ∷ marks) zero e = or_left (is_sum_mark m) (list_any is_sum_mark marks) e
any-sum (m ∷ marks) (suc k) e = or_right (is_sum_mark m) (list_any is_sum_mark marks) (any-sum marks k e)

some-own : (vs : List ℕ) → (length vs == 0) ≡ false → nat_lt 0 (length vs) ≡ true
some-own [] e = absurd (let no : true ≡ false = e in cc)
some-own (v ∷ vs) e = lt-ltb 0 (length (v ∷ vs)) (omega arith)

any-own : (lists : List (List ℕ)) (k : ℕ) → (length (get_or lists k []) == 0) ≡ false → list_any (λ vs. nat_lt 0 (length vs)) lists ≡ true
any-own [] k e = absurd (let no : true ≡ false = e in cc)
any-own (vs ∷ lists) zero e = or_left (nat_lt 0 (length vs)) (list_any (λ us. nat_lt 0 (length us)) lists) (some-own vs e)
any-own (vs ∷ lists) (suc k) e = or_right (nat_lt 0 (length vs)) (list_any (λ us. nat_lt 0 (length us)) lists) (any-own lists k e)

least-sums : (cut : Cutting) (n : ℕ) → is_sum_mark (mark_of cut.marks n) ≡ true → has_sums (least_version cut) ≡ true
least-sums cut n e = by (list_any (λ vs. nat_lt 0 (length vs)) cut.privates)
  where
    by : (b : Bool) → has_sums (if b then Five else if list_any is_sum_mark cut.marks then Four else Two) ≡ true
    by true = refl
    by false = ap (λ b. has_sums (if b then Four else Two)) (any-sum cut.marks (n - 1) e)

least-owns : (cut : Cutting) (n : ℕ) → (length (own_privates cut.privates n) == 0) ≡ false → has_privates (least_version cut) ≡ true
least-owns cut n e = ap (λ b. has_privates (if b then Five else if list_any is_sum_mark cut.marks then Four else Two)) (any-own cut.privates (n - 1) e)

-- ---- of a whole program

pub record IsFittingCut (tree : Tree) (cut : Cutting) : Type 0 where
  pub marks : length cut.marks ≡ loops_of tree.items
  pub privates : length cut.privates ≡ loops_of tree.items
  pub fine : AreFine cut (least_version cut) false tree.items
  pub prints : list_all (is_silent cut.marks) (static_phases tree cut.marks) ≡ true

pub cut_fits : (tree : Tree) (cut : Cutting) → IsWellFormed tree → IsTriedCut tree cut → IsFittingCut tree cut
cut_fits tree cut formed h =
    let all = fitting_of cut (least_version cut) h.dealt h.own (least-sums cut) (least-owns cut) (scope_of tree) [] 1 tree.items (well_formed_parts tree formed).statements (has-all cut h.dealt h.own tree.items h.cut_is) h.made in
    record {
      marks = ap (λ (c : Cutting). length c.marks) h.cut_is ∙ marks_count h.dealt tree.items;
      privates = ap (λ (c : Cutting). length c.privates) h.cut_is ∙ privates_count h.dealt h.own tree.items;
      fine = all.fine;
      prints = all.prints;
    }
