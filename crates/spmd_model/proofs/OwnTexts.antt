-- The own scalars of a phase under a plan that fits: few enough, scalars of the program, and none both private and summed up.
use Rattle.std.proofs.Common.{◌≡◌, ℕ, zero, suc, ◌+◌, ◌-◌, ◌<◌, ◌≤◌, ◌⊎◌, Bool, true, false, true≢false, ◌&&◌, ◌||◌, ◌==◌, not, nat_le, nat_lt, cond, List, [], ◌∷◌, length, get_or, Option, Some, None, refl, ap, sym, subst, ◌∙◌, inl, inr, arith}
use Rattle.std.specs.Prelude.{Contains, if◌then◌else◌, position, slice_get}
use Rattle.std.specs.List.{filter, list_all, list_any, position_or_len, range_with_len}
use Rattle.std.specs.Option.{option_map, option_or}
use Rattle.std.proofs.lemmas.Bool.{and_parts, cases_Bool, eq-eqb, eqb-true, leb-true, lt-ltb, ltb-true, or_cases}
use Rattle.std.proofs.lemmas.List.Quantifiers.{position-Some}
use Rattle.std.proofs.lemmas.List.{nil_from_length}
use Rattle.list_lemmas.proofs.Each.{passes_at}
use Rattle.nest_tree.specs.declared.tree.Access.{Access}
use Rattle.nest_tree.specs.Layout.{bounds_of, element_count, first_cell}
use Rattle.nest_tree.specs.Tree.{assign, print, Statement, Statements, do_loop, work, continue, done, next, Tree}
use Rattle.nest_tree.specs.WellFormed.{IsWellFormed, are_good_statements, is_good_access, is_good_expression, is_good_guard, is_good_statement, loops_in, scope_of}
use Rattle.nest_tree.proofs.Good.{good_loop}
use Rattle.nest_tree.proofs.Places.{same_variable}
use Rattle.nest_model.specs.Visits.{Visit}
use Rattle.nest_walk.specs.Texts.{Placed, placed}
use Rattle.nest_walk.proofs.GoodAccesses.{good_access-there}
use Rattle.own_scalars.specs.OwnScalars.{is_of, is_private, is_sum, last_stored, some_in, some_of, stores, sum_scalars, is_other}
use Rattle.own_scalars.proofs.OwnLaws.{sum_private}
use Rattle.own_scalars.proofs.Stored.{unstored_private}
use Rattle.owner_partition.specs.declared.cut.Mark.{Mark}
use Rattle.owner_partition.specs.Cuts.{Cutting, privates_of}
use Rattle.owner_partition.specs.Marks.{enters_outer, is_doall, is_sum_mark, mark_of}
use Rattle.owner_partition.specs.Phases.{phases}
use Rattle.sync_plan.specs.declared.plan.Plan.{Plan}
use Rattle.sync_plan.specs.declared.plan.Version.{Version}
use Rattle.sync_plan.specs.Fit.{IsFit}
use Rattle.sync_plan.specs.Own.{OwnLoop, is_cell_of, own_loop, own_loop_at, own_loop_of, own_of, place_in}
use Rattle.sync_plan.specs.Shape.{are_good_privates, do_rise, has_good_privates, has_good_sums, has_privates, has_sums, have_good_privates, have_good_sums, is_good_sum}
use Rattle.sync_plan.proofs.Fits.{fit_parts}
use Rattle.sync_plan.proofs.OwnLoops.{no_scalars, nothing_in, own_among}
use Rattle.sync_plan.proofs.PhasePlaces.{visit_there}
use Rattle.spmd_model.proofs.PlannedOrder.{filtered}

pub passes_in : {X : Type 0} (test : X → Bool) (xs : List X) (x : X) → list_all test xs ≡ true → Contains xs x → test x ≡ true
passes_in test [] x all (k, lt, e) = absurd (omega (arith, lt))
passes_in test (y ∷ xs) x all (zero, lt, e) = ap test (sym e) ∙ (and_parts (test y) (list_all test xs) all).0
passes_in test (y ∷ xs) x all (suc k, lt, e) = passes_in test xs x (and_parts (test y) (list_all test xs) all).1 (k, omega (arith, lt), e)

-- ---- what a loop has then

-- numbers rise from this one on
abbrev pub Ascends : ℕ → List ℕ → Type 0
Ascends a [] = Unit {0}
Ascends a (v ∷ vs) = (a ≤ v) × Ascends (suc v) vs

above_more : (a b : ℕ) (vs : List ℕ) → a ≤ b → Ascends b vs → Ascends a vs
above_more a b [] le rises = tt
above_more a b (v ∷ vs) le rises = (omega (arith, le, rises.0), rises.1)

risen : (least : ℕ) (vs : List ℕ) → do_rise least vs ≡ true → Ascends (suc least) vs
risen least [] e = tt
risen least (v ∷ vs) e =
    let both = and_parts (nat_lt least v) (do_rise v vs) e in
    let low = ltb-true least v both.0 in
    (omega (arith, low), risen v vs both.1)

filter_rises : (test : ℕ → Bool) (a n : ℕ) → Ascends a (filter test (range_with_len a n))
filter_rises test a zero = tt
filter_rises test a (suc n) =
    let later = filter_rises test (a + 1) n in
    let next : a + 1 ≡ suc a = omega arith in
    elim (test a) as (λ b. Ascends a (cond b (a ∷ filter test (range_with_len (a + 1) n)) (filter test (range_with_len (a + 1) n))))
    [ true ↦ (omega arith, subst (λ m. Ascends m (filter test (range_with_len (a + 1) n))) next later) | false ↦ above_more a (a + 1) (filter test (range_with_len (a + 1) n)) (omega arith) later ]

-- own scalars of a statement under a cut
pub record AreOwn (cut : Cutting) (s : Statement) : Type 0 where
  pub few_privates : length (own_loop_of cut s).privates ≤ 16
  pub few_sums : length (own_loop_of cut s).sums ≤ 16
  pub privates_rise : Ascends 0 (own_loop_of cut s).privates
  pub sums_rise : Ascends 0 (own_loop_of cut s).sums
  pub privates : (u : ℕ) → Contains (own_loop_of cut s).privates u → is_private u (own_loop_of cut s).body ≡ true
  pub sums : (u : ℕ) → Contains (own_loop_of cut s).sums u → is_sum u (own_loop_of cut s).body ≡ true

good_list : (b has dealt few rise all : Bool) → (b || (has && dealt && few && rise && all)) ≡ true → (b ≡ true) ⊎ ((few ≡ true) × (rise ≡ true) × (all ≡ true))
good_list true has dealt few rise all e = inl refl
good_list false has dealt few rise all e =
    let a = and_parts (has && dealt && few && rise) all e in
    let b = and_parts (has && dealt && few) rise a.0 in
    let c = and_parts (has && dealt) few b.0 in
    inr (c.1, b.1, a.1)

good_privates_are : (version : Version) (mark : Mark) (body : Statements) (vs : List ℕ) → are_good_privates version mark body vs ≡ true → (length vs ≤ 16) × Ascends 0 vs × ((u : ℕ) → Contains vs u → is_private u body ≡ true)
good_privates_are version mark body vs good = elim (good_list (length vs == 0) (has_privates version) (is_doall mark) (nat_le (length vs) 16) (do_rise 0 vs) (list_all (λ v. is_private v body) vs) good) [
  | inl none ↦ let is = no_scalars vs none in (omega (arith, ap length is), subst (Ascends 0) (sym is) tt, λ u among. absurd (nothing_in u (subst (λ xs. Contains xs u) is among)))
  | inr some ↦ (leb-true (length vs) 16 some.0, above_more 0 1 vs (omega arith) (risen 0 vs some.1), λ u among. passes_in (λ v. is_private v body) vs u some.2 among)
]

good_sum : (m has one few : Bool) → (not m || (has && one && few)) ≡ true → m ≡ true → few ≡ true
good_sum true has one few e is = (and_parts (has && one) few e).1
good_sum false has one few e is = absurd (true≢false (sym is))

sums_are : (b : Bool) (body : Statements) → (b ≡ true → nat_le (length (sum_scalars body)) 16 ≡ true) → (length (if b then sum_scalars body else []) ≤ 16) × Ascends 0 (if b then sum_scalars body else []) × ((u : ℕ) → Contains (if b then sum_scalars body else []) u → is_sum u body ≡ true)
sums_are false body few = (omega arith, tt, λ u among. absurd (nothing_in u among))
sums_are true body few = (leb-true (length (sum_scalars body)) 16 (few refl), filter_rises (λ v. is_sum v body) 0 (suc (last_stored body)), λ u among. (filtered (λ v. is_sum v body) 0 (suc (last_stored body)) u among).0)

pub own_there : (version : Version) (cut : Cutting) (s : Statement) → has_good_sums version cut.marks s ≡ true → has_good_privates version cut s ≡ true → AreOwn cut s
own_there version cut (do_loop head body) sums privates =
    let mark = mark_of cut.marks head.number in
    let vs = privates_of cut.privates head.number in
    let s = and_parts (is_good_sum version mark body) (have_good_sums version cut.marks body) sums in
    let p = and_parts (are_good_privates version mark body vs) (have_good_privates version cut body) privates in
    let q = good_privates_are version mark body vs p.0 in
    let r = sums_are (is_sum_mark mark) body (λ is. good_sum (is_sum_mark mark) (has_sums version) (nat_le 1 (length (sum_scalars body))) (nat_le (length (sum_scalars body)) 16) s.0 is) in
    record { few_privates = q.0; few_sums = r.0; privates_rise = q.1; sums_rise = r.1; privates = q.2; sums = r.2 }
own_there version cut (work w) sums privates = record { few_privates = omega arith; few_sums = omega arith; privates_rise = tt; sums_rise = tt; privates = λ u among. absurd (nothing_in u among); sums = λ u among. absurd (nothing_in u among) }
own_there version cut (continue line) sums privates = record { few_privates = omega arith; few_sums = omega arith; privates_rise = tt; sums_rise = tt; privates = λ u among. absurd (nothing_in u among); sums = λ u among. absurd (nothing_in u among) }

-- ---- a scalar that is stored in a text is one of the program's

pub record IsScalar (tree : Tree) (u : ℕ) : Type 0 where
  pub low : 1 ≤ u
  pub high : u ≤ length tree.variables
  pub bare : bounds_of tree u ≡ []

scalar_of : (tree : Tree) (around : List ℕ) (u : ℕ) (a : Access) → is_good_access (scope_of tree) around a ≡ true → is_of u a ≡ true → IsScalar tree u
scalar_of tree around u a good is =
    let both = and_parts (a.variable == u) (length a.subscripts == 0) is in
    let same = eqb-true a.variable u both.0 in
    let none = eqb-true (length a.subscripts) 0 both.1 in
    let there = good_access-there tree around a good in
    record {
      low = omega (arith, there.low, same);
      high = omega (arith, there.high, same);
      bare = nil_from_length (bounds_of tree u) (omega (arith, there.as_many, none, ap (λ n. length (bounds_of tree n)) same));
    }

mutual
  stored_in : (tree : Tree) (around : List ℕ) (first u : ℕ) (s : Statement) → is_good_statement (scope_of tree) around first s ≡ true → some_in (stores u) s ≡ true → IsScalar tree u
  stored_in tree around first u (do_loop head body) good some = stored_among tree (head.number ∷ around) (first + 1) u body (good_loop (scope_of tree) around first head body good).inside some
  stored_in tree around first u (work (assign a)) good some =
      let last = and_parts (is_good_access (scope_of tree) around a.target && is_good_expression (scope_of tree) around a.value) (is_good_guard (scope_of tree) around a.guard) good in
      scalar_of tree around u a.target (and_parts (is_good_access (scope_of tree) around a.target) (is_good_expression (scope_of tree) around a.value) last.0).0 some
  stored_in tree around first u (work (print p)) good some = absurd (true≢false (sym some))
  stored_in tree around first u (continue line) good some = absurd (true≢false (sym some))

  stored_among : (tree : Tree) (around : List ℕ) (first u : ℕ) (ss : Statements) → are_good_statements (scope_of tree) around first ss ≡ true → some_of (stores u) ss ≡ true → IsScalar tree u
  stored_among tree around first u done good some = absurd (true≢false (sym some))
  stored_among tree around first u (next s rest) good some =
      let both = and_parts (is_good_statement (scope_of tree) around first s) (are_good_statements (scope_of tree) around (first + loops_in s) rest) good in
      elim (or_cases (some_in (stores u) s) (some_of (stores u) rest) some) [
        | inl here ↦ stored_in tree around first u s both.0 here
        | inr later ↦ stored_among tree around (first + loops_in s) u rest both.1 later
      ]

private_stored : (u : ℕ) (body : Statements) → is_private u body ≡ true → some_of (stores u) body ≡ true
private_stored u body is = elim (cases_Bool (some_of (stores u) body)) [
  | inl stored ↦ stored
  | inr unstored ↦ absurd (true≢false (sym is ∙ unstored_private u body unstored))
]

sum_stored : (u : ℕ) (body : Statements) → is_sum u body ≡ true → some_of (stores u) body ≡ true
sum_stored u body is = (and_parts (some_of (stores u) body) (not (some_of (is_other u) body)) is).0

-- the cell of an element of a variable is a scalar's only where it is that scalar
pub same_scalar : (tree : Tree) (v u p : ℕ) → 1 ≤ v → v ≤ length tree.variables → p < element_count (bounds_of tree v) → IsScalar tree u → first_cell tree v + p ≡ first_cell tree u → v ≡ u
same_scalar tree v u p low high small scalar same =
    let one : 0 < element_count (bounds_of tree u) = subst (λ b. 0 < element_count b) (sym scalar.bare) (omega arith) in
    let place = same_variable tree.variables (v - 1) (u - 1) p 0 (omega (arith, low, high)) (omega (arith, scalar.low, scalar.high)) small one (omega (arith, same)) in
    omega (arith, place, low, scalar.low)

pub one_scalar : (tree : Tree) (v u : ℕ) → IsScalar tree v → IsScalar tree u → first_cell tree v ≡ first_cell tree u → v ≡ u
one_scalar tree v u a b same =
    let one : 0 < element_count (bounds_of tree v) = subst (λ l. 0 < element_count l) (sym a.bare) (omega arith) in
    same_scalar tree v u 0 a.low a.high one b (omega (arith, same))

-- ---- lists of scalars by their cells

pub some_scalar : (tree : Tree) (us : List ℕ) (c : ℕ) → is_cell_of tree us c ≡ true → (u : ℕ) × Contains us u × (first_cell tree u ≡ c)
some_scalar tree [] c e = absurd (true≢false (sym e))
some_scalar tree (u ∷ us) c e = elim (or_cases (first_cell tree u == c) (is_cell_of tree us c) e) [
  | inl here ↦ (u, (0, omega arith, refl), eqb-true (first_cell tree u) c here)
  | inr later ↦ let r = some_scalar tree us c later in (r.0, (suc r.1.0, omega (arith, r.1.1), r.1.2), r.2)
]

pub cell_there : (tree : Tree) (us : List ℕ) (u : ℕ) → Contains us u → is_cell_of tree us (first_cell tree u) ≡ true
cell_there tree [] u (k, lt, e) = absurd (omega (arith, lt))
cell_there tree (x ∷ us) u (zero, lt, e) = ap (λ b. b || is_cell_of tree us (first_cell tree u)) (eq-eqb (first_cell tree x) (first_cell tree u) (ap (first_cell tree) e))
cell_there tree (x ∷ us) u (suc k, lt, e) = elim (cases_Bool (first_cell tree x == first_cell tree u)) [
  | inl same ↦ ap (λ b. b || is_cell_of tree us (first_cell tree u)) same
  | inr other ↦ ap (λ b. b || is_cell_of tree us (first_cell tree u)) other ∙ cell_there tree us u (k, omega (arith, lt), e)
]

first_place : {X : Type 0} (test : X → Bool) (xs : List X) → list_any test xs ≡ true → position_or_len test xs < length xs
first_place test [] e = absurd (true≢false (sym e))
first_place test (x ∷ xs) e = elim (cases_Bool (test x)) [
  | inl here ↦ let none : position_or_len test (x ∷ xs) ≡ 0 = ap (λ b. cond (not b) (1 + position_or_len test xs) 0) here in omega (arith, none)
  | inr not_here ↦
      let later = first_place test xs (sym (ap (λ b. b || list_any test xs) not_here) ∙ e) in
      let one : position_or_len test (x ∷ xs) ≡ 1 + position_or_len test xs = ap (λ b. cond (not b) (1 + position_or_len test xs) 0) not_here in
      omega (arith, later, one)
]

-- what passes has a place
pub place_there : {X : Type 0} (test : X → Bool) (xs : List X) → list_any test xs ≡ true → (k : ℕ) × (position test xs ≡ Some k)
place_there test xs e = (position_or_len test xs, ap (λ b. cond b (Some (position_or_len test xs)) None) (lt-ltb (position_or_len test xs) (length xs) (first_place test xs e)))

any_at : {X : Type 0} (test : X → Bool) (xs : List X) (k : ℕ) (d : X) → k < length xs → test (get_or xs k d) ≡ true → list_any test xs ≡ true
any_at test [] k d lt h = absurd (omega (arith, lt))
any_at test (x ∷ xs) zero d lt h = ap (λ b. b || list_any test xs) h
any_at test (x ∷ xs) (suc k) d lt h = elim (cases_Bool (test x)) [
  | inl here ↦ ap (λ b. b || list_any test xs) here
  | inr not_here ↦ ap (λ b. b || list_any test xs) not_here ∙ any_at test xs k d (omega (arith, lt)) h
]

-- ---- the own scalars of a phase

pub record AreOwnIn (tree : Tree) (plan : Plan) (v : Visit) : Type 0 where
  pub loop_is : own_loop tree plan v.place ≡ own_loop_of plan.cut v.what
  pub own : AreOwn plan.cut v.what
  pub around : List ℕ
  pub number : ℕ
  pub good : is_good_statement (scope_of tree) around number v.what ≡ true

pub own_in_phase : (tree : Tree) (plan : Plan) (k : ℕ) (v : Visit) → IsWellFormed tree → IsFit tree plan → slice_get (phases tree plan.cut.marks) k ≡ Some v → AreOwnIn tree plan v
own_in_phase tree plan k v formed fits at =
    let f = visit_there tree plan.cut.marks k v formed at in
    let parts = fit_parts tree plan fits in
    let index : v.place - 1 ≡ f.k = omega (arith, f.place_is) in
    let text = placed tree (enters_outer plan.cut.marks) in
    let all = own_among plan.version plan.cut (enters_outer plan.cut.marks) [] tree.items parts.good_sums parts.good_privates in
    let both = passes_at (λ (p : Placed). has_good_sums plan.version plan.cut.marks p.what && has_good_privates plan.version plan.cut p.what) text f.k (record { what = v.what; around = f.there.around }) all f.there.at in
    let each = and_parts (has_good_sums plan.version plan.cut.marks v.what) (has_good_privates plan.version plan.cut v.what) both in
    record {
      loop_is = ap (own_loop_at plan.cut) (ap (slice_get text) index ∙ f.there.at);
      own = own_there plan.version plan.cut v.what each.0 each.1;
      around = f.there.around;
      number = f.there.number;
      good = f.there.good;
    }

-- private scalars and sum scalars of a statement are the program's
body_scalars : (tree : Tree) (cut : Cutting) (around : List ℕ) (number u : ℕ) (s : Statement) → is_good_statement (scope_of tree) around number s ≡ true → some_of (stores u) (own_loop_of cut s).body ≡ true → IsScalar tree u
body_scalars tree cut around number u (do_loop head body) good stored = stored_in tree around number u (do_loop head body) good stored
body_scalars tree cut around number u (work w) good stored = absurd (true≢false (sym stored))
body_scalars tree cut around number u (continue line) good stored = absurd (true≢false (sym stored))

module _ (tree : Tree) (plan : Plan) (v : Visit) (o : AreOwnIn tree plan v) where
  pub private_is : (u : ℕ) → Contains (own_loop tree plan v.place).privates u → (is_private u (own_loop_of plan.cut v.what).body ≡ true) × IsScalar tree u
  private_is u among =
      let is = o.own.privates u (subst (λ (l : OwnLoop). Contains l.privates u) o.loop_is among) in
      (is, body_scalars tree plan.cut o.around o.number u v.what o.good (private_stored u (own_loop_of plan.cut v.what).body is))

  pub sum_is : (u : ℕ) → Contains (own_loop tree plan v.place).sums u → (is_sum u (own_loop_of plan.cut v.what).body ≡ true) × IsScalar tree u
  sum_is u among =
      let is = o.own.sums u (subst (λ (l : OwnLoop). Contains l.sums u) o.loop_is among) in
      (is, body_scalars tree plan.cut o.around o.number u v.what o.good (sum_stored u (own_loop_of plan.cut v.what).body is))

  -- no cell is that of a private scalar and of a sum scalar
  pub not_both : (c : ℕ) → is_cell_of tree (own_loop tree plan v.place).privates c ≡ true → is_cell_of tree (own_loop tree plan v.place).sums c ≡ true → ⊥
  not_both c private summed =
      let p = some_scalar tree (own_loop tree plan v.place).privates c private in
      let s = some_scalar tree (own_loop tree plan v.place).sums c summed in
      let is_p = private_is p.0 p.1 in
      let is_s = sum_is s.0 s.1 in
      let same = one_scalar tree p.0 s.0 is_p.1 is_s.1 (p.2 ∙ sym s.2) in
      true≢false (sym is_p.0 ∙ ap (λ u. is_private u (own_loop_of plan.cut v.what).body) same ∙ sum_private (own_loop_of plan.cut v.what).body s.0 is_s.0)

  -- ---- slots

  few : (length (own_loop tree plan v.place).privates ≤ 16) × (length (own_loop tree plan v.place).sums ≤ 16)
  few = (subst (λ (l : OwnLoop). length l.privates ≤ 16) (sym o.loop_is) o.own.few_privates, subst (λ (l : OwnLoop). length l.sums ≤ 16) (sym o.loop_is) o.own.few_sums)

  -- a shared cell without a place is that of no own scalar
  pub no_slot : (c : ℕ) → (own_of tree plan v.place).slot c ≡ None → (is_cell_of tree (own_loop tree plan v.place).privates c ≡ false) × (is_cell_of tree (own_loop tree plan v.place).sums c ≡ false)
  no_slot c none = (not_true (is_cell_of tree (own_loop tree plan v.place).privates c) no_private, not_true (is_cell_of tree (own_loop tree plan v.place).sums c) no_sum)
    where
      not_true : (b : Bool) → (b ≡ true → ⊥) → b ≡ false
      not_true true h = absurd (h refl)
      not_true false h = refl

      nothing : (k : ℕ) → Some k ≡ None → ⊥
      nothing k e = cc

      no_private : is_cell_of tree (own_loop tree plan v.place).privates c ≡ true → ⊥
      no_private is =
          let p = place_there (λ u. first_cell tree u == c) (own_loop tree plan v.place).privates is in
          nothing p.0 (sym (ap (λ x. option_or x (option_map (λ k. 16 + k) (place_in tree (own_loop tree plan v.place).sums c))) p.1) ∙ none)

      no_sum : is_cell_of tree (own_loop tree plan v.place).sums c ≡ true → ⊥
      no_sum is =
          let p = place_there (λ u. first_cell tree u == c) (own_loop tree plan v.place).sums is in
          either_none (place_in tree (own_loop tree plan v.place).privates c) p.0 (sym (ap (λ x. option_or (place_in tree (own_loop tree plan v.place).privates c) (option_map (λ k. 16 + k) x)) p.1) ∙ none)
        where
          either_none : (x : Option ℕ) (k : ℕ) → option_or x (Some (16 + k)) ≡ None → ⊥
          either_none None k e = cc
          either_none (Some y) k e = cc

  -- a place is that of a private scalar below 16, or that of a sum scalar from there on
  pub data Slots (c k : ℕ) : Type 0 where
    private_slot : k < 16 → is_cell_of tree (own_loop tree plan v.place).privates c ≡ true → place_in tree (own_loop tree plan v.place).privates c ≡ Some k → Slots c k
    sum_slot : (n : ℕ) → k ≡ 16 + n → n < 16 → is_cell_of tree (own_loop tree plan v.place).sums c ≡ true → place_in tree (own_loop tree plan v.place).sums c ≡ Some n → Slots c k

  placed_below : (us : List ℕ) (c k : ℕ) → length us ≤ 16 → place_in tree us c ≡ Some k → (k < 16) × (is_cell_of tree us c ≡ true)
  placed_below us c k short at =
      let p = position-Some (λ u. first_cell tree u == c) us k 0 at in
      (omega (arith, p.0, short), any_at (λ u. first_cell tree u == c) us k 0 p.0 p.1)

  pub slots : (c k : ℕ) → (own_of tree plan v.place).slot c ≡ Some k → Slots c k
  slots c k at = by (place_in tree (own_loop tree plan v.place).privates c) refl (place_in tree (own_loop tree plan v.place).sums c) refl at
    where
      by : (x : Option ℕ) → place_in tree (own_loop tree plan v.place).privates c ≡ x → (y : Option ℕ) → place_in tree (own_loop tree plan v.place).sums c ≡ y → option_or x (option_map (λ n. 16 + n) y) ≡ Some k → Slots c k
      by (Some n) hx y hy e =
          let same : Some n ≡ Some k = e in
          let is : n ≡ k = cc in
          let at_k = hx ∙ ap Some is in
          let p = placed_below (own_loop tree plan v.place).privates c k few.0 at_k in
          private_slot p.0 p.1 at_k
      by None hx (Some n) hy e =
          let same : Some (16 + n) ≡ Some k = e in
          let is : 16 + n ≡ k = cc in
          let p = placed_below (own_loop tree plan v.place).sums c n few.1 hy in
          sum_slot n (sym is) p.0 p.1 hy
      by None hx None hy e = let clash : None ≡ Some k = e in absurd (cc)
