-- The first 16 sure scalars of those that may be private in a loop, scalar by scalar.
use Rattle.std.proofs.Common.{◌≡◌, ℕ, zero, suc, ◌+◌, ◌-◌, ◌<◌, ◌≤◌, ◌⊎◌, Bool, true, false, true≢false, ◌&&◌, ◌==◌, not, nat_le, nat_lt, List, [], ◌∷◌, ◌++◌, length, take, Some, refl, ap, sym, ◌∙◌, subst, inl, inr, arith}
use Rattle.std.specs.Prelude.{min, if◌then◌else◌}
use Rattle.std.specs.List.{All, Contains, filter, list_all, range_with_len}
use Rattle.std.proofs.lemmas.Bool.{and_from, and_parts, cases_Bool, cases_eq, eq-eqb, lt-ltb, ne_eqb, leb-true}
use Rattle.std.proofs.lemmas.List.{append-nil, length-append, length-map, length-take, take-append-le, take_all}
use Rattle.std.proofs.lemmas.List.Elements.{All-cons, All-contains, All-filter, All-nil, All-weaker, Contains-push_cases, filter-append}
use Rattle.nest_tree.specs.Layout.{cells_in}
use Rattle.nest_tree.specs.Limits.{IsWithinLimits}
use Rattle.nest_tree.specs.Prints.{have_print}
use Rattle.nest_tree.specs.Tree.{Declaration, Statement, Statements, assign, print, do_loop, work, continue, done, next, Tree}
use Rattle.nest_tree.specs.WellFormed.{IsWellFormed, Scope, are_good_statements, is_good_access, is_good_declaration, is_good_dimension, is_good_expression, is_good_guard, is_good_placing, is_good_statement, is_number_of, loops_in, names_only, rank, rank_of, scope_of}
use Rattle.nest_tree.proofs.Cells.{well_formed_parts}
use Rattle.nest_tree.proofs.FirstLimits.{kept as within_limits}
use Rattle.nest_tree.proofs.Good.{good_loop}
use Rattle.nest_tree.proofs.Places.{element_count-some}
use Rattle.own_scalars.specs.OwnScalars.{is_private, last_stored, last_stored_in, private_scalars}
use Rattle.own_scalars.proofs.OwnLaws.{privates_there}
use Rattle.own_scalars.proofs.Ranges.{kept_front, kept_left, kept_passed}
use Rattle.farkas_cert.specs.declared.certificate.Certificate.{Certificate}
use Rattle.sync_plan.specs.Shape.{has_privates}
use Rattle.sync_plan.specs.declared.plan.Version.TheVariants.{Five}
use Rattle.maker_marks.specs.declared.tries.Tried.TheVariants.{Private}
use Rattle.maker_marks.specs.Tries.{IsMadeOf, body_among, body_of, first_privates, has_no_privates}
use Rattle.plan_maker.specs.declared.cause.Cause.{Cause}
use Rattle.plan_maker.specs.Asked.{AreRefuted, IsCause}
use Rattle.plan_maker.specs.Bars.{AreSure}
use Rattle.plan_maker.specs.Cut.{path_asked}
use Rattle.plan_maker.proofs.Attempts.{body_there}
use Rattle.plan_maker.proofs.CutFits.{AreGood}
use Rattle.plan_maker.proofs.OwnRising.{none-private}
use Rattle.plan_maker.proofs.TriedCuts.{body_good}

-- ---- the numbers of a program's variables

cells-some : (vs : List Declaration) → list_all is_good_declaration vs ≡ true → length vs ≤ cells_in vs
cells-some [] good = omega arith
cells-some (v ∷ vs) good =
    let parts = and_parts (is_good_declaration v) (list_all is_good_declaration vs) good in
    let one = element_count-some v.bounds (and_parts (list_all is_good_dimension v.bounds) (is_good_placing v.bounds v.axis v.spread) parts.0).0 in
    omega (arith, one, cells-some vs parts.1)

-- there are few
pub variables_few : (tree : Tree) → IsWellFormed tree → IsWithinLimits tree → length tree.variables ≤ 1048576
variables_few tree formed within =
    omega (arith, cells-some tree.variables (well_formed_parts tree formed).variables, (within_limits tree within).most_counted)

-- what is stored in a good text is among them
mutual
  last-in : (scope : Scope) (around : List ℕ) (first : ℕ) (s : Statement) → is_good_statement scope around first s ≡ true → last_stored_in s ≤ length scope.ranks
  last-in scope around first (do_loop head body) good = last-among scope (head.number ∷ around) (first + 1) body (good_loop scope around first head body good).inside
  last-in scope around first (work (assign a)) good =
      let target = (and_parts (is_good_access scope around a.target) (is_good_expression scope around a.value) (and_parts (is_good_access scope around a.target && is_good_expression scope around a.value) (is_good_guard scope around a.guard) good).0).0 in
      let numbered = is_number_of (length scope.ranks) a.target.variable in
      let ranked = length a.target.subscripts == rank_of scope a.target.variable in
      let number = (and_parts numbered ranked (and_parts (numbered && ranked) (list_all (names_only scope.constants around) a.target.subscripts) target).0).0 in
      let most = leb-true a.target.variable (length scope.ranks) (and_parts (nat_le 1 a.target.variable) (nat_le a.target.variable (length scope.ranks)) number).1 in
      elim (length a.target.subscripts == 0) as (λ b. (if b then a.target.variable else 0) ≤ length scope.ranks) [ true ↦ most | false ↦ omega arith ]
  last-in scope around first (work (print p)) good = omega arith
  last-in scope around first (continue line) good = omega arith

  last-among : (scope : Scope) (around : List ℕ) (first : ℕ) (ss : Statements) → are_good_statements scope around first ss ≡ true → last_stored ss ≤ length scope.ranks
  last-among scope around first done good = omega arith
  last-among scope around first (next s rest) good =
      let parts = and_parts (is_good_statement scope around first s) (are_good_statements scope around (first + loops_in s) rest) good in
      let here = last-in scope around first s parts.0 in
      let later = last-among scope around (first + loops_in s) rest parts.1 in
      omega (arith, here, later)

-- ---- what passes a test among the numbers in front of one

all-below : (a k : ℕ) → All (λ (v : ℕ). v < a + k) (range_with_len a k)
all-below a zero = All-nil (λ (v : ℕ). v < a + zero)
all-below a (suc k) =
    All-cons (λ (v : ℕ). v < a + suc k) a (range_with_len (a + 1) k) (omega arith)
    (All-weaker (λ (v : ℕ). v < a + 1 + k) (λ (v : ℕ). v < a + suc k) (λ v lt. omega (arith, lt)) (range_with_len (a + 1) k) (all-below (a + 1) k))

-- none behind the last that is stored may be private
private-stored : (body : Statements) (v : ℕ) → is_private v body ≡ true → v ≤ last_stored body
private-stored body v is =
    let all = All-filter (λ u. is_private u body) (λ (u : ℕ). u < 0 + suc (last_stored body)) (range_with_len 0 (suc (last_stored body))) (all-below 0 (suc (last_stored body))) in
    let low = All-contains (λ (u : ℕ). u < 0 + suc (last_stored body)) (private_scalars body) v all (privates_there body v is) in
    omega (arith, low)

none-passes : (p : ℕ → Bool) (a k : ℕ) → ((v : ℕ) → a ≤ v → p v ≡ false) → filter p (range_with_len a k) ≡ []
none-passes p a zero none = refl
none-passes p a (suc k) none =
    ap (λ b. if b then a ∷ filter p (range_with_len (a + 1) k) else filter p (range_with_len (a + 1) k)) (none a (omega arith))
    ∙ none-passes p (a + 1) k (λ v le. none v (omega (arith, le)))

-- all that may be private are below each number behind the last that is stored
all-private : (body : Statements) (n : ℕ) → last_stored body ≤ n → filter (λ v. is_private v body) (range_with_len 0 (n + 1)) ≡ private_scalars body
all-private body n le =
    let p : ℕ → Bool = λ v. is_private v body in
    let last = suc (last_stored body) in
    let split : n + 1 ≡ last + (n + 1 - last) = omega (arith, le) in
    ap (λ m. filter p (range_with_len 0 m)) split ∙ kept_front p last (n + 1 - last)
    ∙ ap (λ xs. private_scalars body ++ xs) (none-passes p last (n + 1 - last) (λ v from. unstored v from (cases_Bool (is_private v body))))
    ∙ append-nil (private_scalars body)
  where
    unstored : (v : ℕ) → suc (last_stored body) ≤ v → ((is_private v body ≡ true) ⊎ (is_private v body ≡ false)) → is_private v body ≡ false
    unstored v from (inl is) = absurd (let low = private-stored body v is in omega (arith, low, from))
    unstored v from (inr isnt) = isnt

-- two tests that agree on the numbers in front of one keep the same of them
same-below : (p f g : ℕ → Bool) (a k : ℕ) → ((v : ℕ) → v < a + k → f v ≡ g v) → filter f (filter p (range_with_len a k)) ≡ filter g (filter p (range_with_len a k))
same-below p f g a zero agree = refl
same-below p f g a (suc k) agree =
    let xs = filter p (range_with_len (a + 1) k) in
    let later = same-below p f g (a + 1) k (λ v lt. agree v (omega (arith, lt))) in
    elim (p a) as (λ b. filter f (if b then a ∷ xs else xs) ≡ filter g (if b then a ∷ xs else xs)) [
      | true ↦ ap (λ b. if b then a ∷ filter f xs else filter f xs) (agree a (omega arith)) ∙ ap (λ ys. if g a then a ∷ ys else ys) later
      | false ↦ later
    ]

-- ---- scalar by scalar

-- of the scalars in front of one that may be private the first 16 that are sure; from there on none was asked about
pub record AreSureBelow (tree : Tree) (n : ℕ) (body : Statements) (m : ℕ) (vs : List ℕ) : Type 0 where
  pub sure : ℕ → Bool
  pub are : vs ≡ take 16 (filter sure (filter (λ v. is_private v body) (range_with_len 0 m)))
  pub refuted : (v : ℕ) → Contains vs v → (certificates : List Certificate) × AreRefuted (path_asked tree n v) certificates
  pub kept : (v : ℕ) → sure v ≡ false → (cause : Cause) × IsCause (path_asked tree n v) cause
  pub unasked : (v : ℕ) → m ≤ v → sure v ≡ true

module _ (tree : Tree) (n : ℕ) (body : Statements) (m : ℕ) (vs : List ℕ) (h : AreSureBelow tree n body m vs) where
  abbrev p : ℕ → Bool
  p v = is_private v body

  abbrev before : List ℕ
  before = filter p (range_with_len 0 m)

  counted : length vs ≡ min 16 (length (filter h.sure before))
  counted = ap length h.are ∙ length-take 16 (filter h.sure before)

  -- one that may not be private is passed by
  pub sure_other : is_private m body ≡ false → AreSureBelow tree n body (m + 1) vs
  sure_other isnt = record {
    sure = h.sure;
    are = h.are ∙ sym (ap (λ xs. take 16 (filter h.sure xs)) (kept_left p m isnt));
    refuted = h.refuted;
    kept = h.kept;
    unasked = λ v le. h.unasked v (omega (arith, le));
  }

  -- and so is each behind 16 that are taken
  pub sure_full : 16 ≤ length vs → AreSureBelow tree n body (m + 1) vs
  sure_full full =
      let one = filter p (range_with_len m 1) in
      let long : 16 ≤ length (filter h.sure before) = omega (arith, full, counted) in record {
        sure = h.sure;
        are = h.are ∙ sym (ap (λ xs. take 16 (filter h.sure xs)) (kept_front p m 1) ∙ ap (take 16) (filter-append h.sure before one) ∙ take-append-le 16 (filter h.sure before) (filter h.sure one) long);
        refuted = h.refuted;
        kept = h.kept;
        unasked = λ v le. h.unasked v (omega (arith, le));
      }

  -- a sure one is taken
  pub sure_taken : is_private m body ≡ true → length vs < 16 → (certificates : List Certificate) × AreRefuted (path_asked tree n m) certificates → AreSureBelow tree n body (m + 1) (vs ++ m ∷ [])
  sure_taken is room refuted =
      let xs = filter h.sure before in
      let few : length xs < 16 = omega (arith, room, counted) in
      let more : filter h.sure (filter p (range_with_len 0 (m + 1))) ≡ xs ++ m ∷ [] =
      ap (filter h.sure) (kept_passed p m is) ∙ filter-append h.sure before (m ∷ []) ∙ ap (λ b. xs ++ (if b then m ∷ [] else [])) (h.unasked m (omega arith)) in
      record {
        sure = h.sure;
        are = ap (λ ys. ys ++ m ∷ []) (h.are ∙ take_all 16 xs (omega (arith, few))) ∙ sym (take_all 16 (xs ++ m ∷ []) (omega (arith, few, length-append xs (m ∷ [])))) ∙ ap (take 16) (sym more);
        refuted = λ v among. elim (Contains-push_cases vs m v among) [
          | inl old ↦ h.refuted v old
          | inr same ↦ subst (λ u. (certificates : List Certificate) × AreRefuted (path_asked tree n u) certificates) same refuted
        ];
        kept = h.kept;
        unasked = λ v le. h.unasked v (omega (arith, le));
      }

  -- another isn't
  pub sure_left : is_private m body ≡ true → (cause : Cause) × IsCause (path_asked tree n m) cause → AreSureBelow tree n body (m + 1) vs
  sure_left is cause =
      let sure : ℕ → Bool = λ v. not (v == m) && h.sure v in
      let others : (v : ℕ) → (v ≡ m → ⊥) → sure v ≡ h.sure v = λ v no. ap (λ b. not b && h.sure v) (ne_eqb v m no) in
      let none : filter sure (m ∷ []) ≡ [] = ap (λ b. if not b && h.sure m then m ∷ [] else []) (eq-eqb m m refl) in
      let same : filter sure (filter p (range_with_len 0 (m + 1))) ≡ filter h.sure before =
      ap (filter sure) (kept_passed p m is) ∙ filter-append sure before (m ∷ []) ∙ ap (λ xs. filter sure before ++ xs) none ∙ append-nil (filter sure before)
      ∙ same-below p sure h.sure 0 m (λ v lt. others v (λ e. omega (arith, lt, e))) in
      record {
        sure = sure;
        are = h.are ∙ ap (take 16) (sym same);
        refuted = h.refuted;
        kept = λ v no. elim (cases_eq v m) [
          | inl at ↦ subst (λ u. (c : Cause) × IsCause (path_asked tree n u) c) (sym at) cause
          | inr other ↦ h.kept v (sym (others v other) ∙ no)
        ];
        unasked = λ v le. others v (λ e. omega (arith, le, e)) ∙ h.unasked v (omega (arith, le));
      }

-- in front of 1 there is none
pub sure_none : (tree : Tree) (n : ℕ) (body : Statements) → AreGood (scope_of tree) body → AreSureBelow tree n body 1 []
sure_none tree n body g =
    let p : ℕ → Bool = λ v. is_private v body in record {
      sure = λ v. true;
      are = sym (ap (λ xs. take 16 (filter (λ v. true) xs)) (kept_left p 0 (none-private (scope_of tree) g.around g.first body g.good)));
      refuted = λ v among. absurd (nothing_in v among);
      kept = λ v no. absurd (true≢false no);
      unasked = λ v le. refl;
    }
  where
    nothing_in : (v : ℕ) → Contains [] v → ⊥
    nothing_in v among = omega (arith, among.1)

-- and behind a program's variables neither
pub sure_all : (tree : Tree) (n : ℕ) (body : Statements) (vs : List ℕ) → IsWellFormed tree → body_among n tree.items ≡ Some body → AreSureBelow tree n body (length tree.variables + 1) vs → AreSure tree n vs
sure_all tree n body vs formed found h =
    let g = body_good tree n body formed found in
    let most = last-among (scope_of tree) g.around g.first body g.good in
    let last : last_stored body ≤ length tree.variables = omega (arith, most, length-map tree.variables rank) in
    let here = body_there tree n body found in record {
      sure = h.sure;
      are = h.are ∙ ap (λ xs. take 16 (filter h.sure xs)) (all-private body (length tree.variables) last ∙ ap (λ ss. private_scalars ss) (sym here));
      refuted = h.refuted;
      kept = λ v among no. h.kept v no;
    }

-- ---- a loop is dealt out with one that may be private alone

pub alone_made : (tree : Tree) (n v : ℕ) (body : Statements) → body_of tree n ≡ body → have_print body ≡ false → 1 ≤ v → is_private v body ≡ true → IsMadeOf Private (v ∷ []) (body_of tree n)
alone_made tree n v body here silent low is =
    let among = privates_there body v is in
    let some : 1 ≤ length (first_privates body) = omega (arith, among.1, length-take 16 (private_scalars body)) in
    let has : has_no_privates body ≡ false = ne_eqb (length (first_privates body)) 0 (λ e. omega (arith, e, some)) in
    let made : IsMadeOf Private (v ∷ []) body = record {
      admitted = and_from (has_privates Five) (not (has_no_privates body)) refl (ap not has);
      few = omega arith;
      rising = and_from (nat_lt 0 v) true (lt-ltb 0 v (omega (arith, low))) refl;
      private = and_from (is_private v body) true is refl;
      none = λ e. absurd (cc);
      silent = silent;
    } in
    subst (IsMadeOf Private (v ∷ [])) (sym here) made
