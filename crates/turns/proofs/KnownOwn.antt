-- What a cursor knows of the own scalars of a static phase.
use Rattle.std.proofs.Common.{◌≡◌, ◌==◌, ◌&&◌, ◌||◌, not, nat_le, nat_lt, ℤ, ℕ, zero, suc, ◌+◌, ◌-◌, ◌<◌, ◌≤◌, Bool, true, false, true≢false, List, [], ◌∷◌, get_or, length, Option, Some, None, if◌then◌else◌, refl, ap, sym, subst, ◌∙◌, inl, inr, arith, length-append}
use Rattle.std.specs.Prelude.{Contains, position, slice_get, slice_index_or}
use Rattle.std.specs.List.{All, list_any, list_all}
use Rattle.std.specs.Option.{option_map}
use Rattle.std.proofs.lemmas.Bool.{and_from, and_parts, cases_lt, eqb-true, le-leb, ltb-true, or_parts}
use Rattle.std.proofs.lemmas.List.Elements.{All-nil}
use Rattle.std.proofs.lemmas.List.Quantifiers.{position-Some}
use Rattle.std.proofs.lemmas.Option.{slice_get-get_or, slice_get_past}
use Rattle.std.proofs.lemmas.List.{get_or_past}
use Rattle.list_lemmas.proofs.Elements.{contains_at}
use Rattle.list_lemmas.proofs.Each.{passes_at}
use Rattle.nest_tree.specs.Tree.{Statement, Statements, do_loop, work, continue, done, next, Work, assign, print, Tree, param_values}
use Rattle.nest_tree.specs.WellFormed.{IsWellFormed, Scope, are_good_statements, is_good_statement, is_number_of, loops_in, loops_of, scope_of, statement_count, statements_in}
use Rattle.nest_tree.proofs.Cells.{well_formed_parts}
use Rattle.nest_tree.proofs.Good.{good_loop}
use Rattle.nest_walk.specs.Texts.{Placed, placed_in, placed_of}
use Rattle.std.proofs.lemmas.List.Folds.{list_all-append}
use Rattle.nest_model.specs.Instances.{Instance}
use Rattle.nest_model.specs.Visits.{Visit}
use Rattle.own_scalars.specs.OwnScalars.{is_of, sum_scalars}
use Rattle.owner_partition.specs.Marks.{enters_outer, is_sum_mark, marked}
use Rattle.owner_partition.specs.declared.cut.Mark.{Mark}
use Rattle.owner_partition.specs.Phases.{phases}
use Rattle.nest_walk.proofs.Walks.{few_statements}
use Rattle.sync_plan.specs.Fit.{IsFit}
use Rattle.sync_plan.specs.Own.{OwnLoop, own_loop, own_loop_at, own_loop_of}
use Rattle.sync_plan.specs.Shape.{static_phases}
use Rattle.sync_plan.specs.declared.plan.Plan.{Plan}
use Rattle.own_cells.specs.FinalTrips.{is_final}
use Rattle.nest_tree.specs.View.{head_of}
use Rattle.nest_tree.specs.declared.tree.Nest.{Nest}
use Rattle.own_cells.specs.OwnCells.{AreFew, IsScalarNumber, place_assigned}
use Rattle.spmd_model.specs.Machines.{is_by_signals}
use Rattle.spmd_model.specs.MachineDeeds.{HasNoOwn}
use Rattle.spmd_model.specs.declared.style.Style.{Style}
use Rattle.spmd_model.specs.declared.style.Style.TheVariants.{Arrive, Dissemination}
use Rattle.spmd_model.proofs.OwnTexts.{own_in_phase, private_is, sum_is}
use Rattle.turns.specs.Turns.{Standing, behind, ends_loop, ends_phase, has_own, has_signals_at, is_watched, mark_first, mark_place, no_phase}
use Rattle.turns.specs.TurnsLeft.{IsOwnPlace, IsPlaced}
use Rattle.turns.proofs.ClosingMarks.{behind_length, behind_one, is_at, marks}
use Rattle.turns.proofs.OwnSlots.{few_privates, few_sums}

-- ---- they are few, and the program's

all_there : {X : Type 0} (P : X → Type 0) (xs : List X) → ((x : X) → Contains xs x → P x) → All P xs
all_there P xs h = λ k d lt. h (get_or xs k d) (contains_at xs k (get_or xs k d) (slice_get-get_or xs k d lt))

pub few_own : (tree : Tree) (plan : Plan) (k : ℕ) (v : Visit) → IsWellFormed tree → IsFit tree plan → slice_get (phases tree plan.cut.marks) k ≡ Some v → AreFew tree (own_loop tree plan v.place)
few_own tree plan k v formed fits at =
    let o = own_in_phase tree plan k v formed fits at in
    let own = own_loop tree plan v.place in
    record {
      privates = few_privates tree plan v o;
      sums = few_sums tree plan v o;
      private_scalars = all_there (IsScalarNumber tree) own.privates (λ u among. let is = (private_is tree plan v o u among).1 in record { low = is.low; high = is.high });
      sum_scalars = all_there (IsScalarNumber tree) own.sums (λ u among. let is = (sum_is tree plan v o u among).1 in record { low = is.low; high = is.high });
    }

-- ---- where there are none

pub few_none : (tree : Tree) (plan : Plan) (place : ℕ) → HasNoOwn tree plan place → AreFew tree (own_loop tree plan place)
few_none tree plan place none = record {
  privates = omega (arith, ap length none.privates);
  sums = omega (arith, ap length none.sums);
  private_scalars = subst (All (IsScalarNumber tree)) (sym none.privates) (All-nil (IsScalarNumber tree));
  sum_scalars = subst (All (IsScalarNumber tree)) (sym none.sums) (All-nil (IsScalarNumber tree));
}

pub none_past : (tree : Tree) (plan : Plan) (place : ℕ) → slice_get (static_phases tree plan.cut.marks) (place - 1) ≡ None → HasNoOwn tree plan place
none_past tree plan place past =
    let is = ap (own_loop_at plan.cut) past in
    record { privates = ap (λ (l : OwnLoop). l.privates) is; sums = ap (λ (l : OwnLoop). l.sums) is }

mutual
  few_in : (enters : ℕ → Bool) (around : List ℕ) (s : Statement) → length (placed_in enters around s) ≤ statements_in s
  few_in enters around (do_loop head body) =
      let all = few_of enters (head.number ∷ around) body in
      elim (enters head.number) as (λ b. length (if b then placed_of enters (head.number ∷ around) body else record { what = do_loop head body; around = around } ∷ []) ≤ 1 + statement_count body) [ true ↦ omega (arith, all) | false ↦ omega arith ]
  few_in enters around (work w) = omega arith
  few_in enters around (continue line) = omega arith

  few_of : (enters : ℕ → Bool) (around : List ℕ) (ss : Statements) → length (placed_of enters around ss) ≤ statement_count ss
  few_of enters around done = omega arith
  few_of enters around (next s rest) = omega (arith, length-append (placed_in enters around s) (placed_of enters around rest), few_in enters around s, few_of enters around rest)

pub past_phases : (tree : Tree) (plan : Plan) → IsWellFormed tree → slice_get (static_phases tree plan.cut.marks) (no_phase - 1) ≡ None
past_phases tree plan formed =
    slice_get_past (static_phases tree plan.cut.marks) (no_phase - 1) (omega (arith, few_of (enters_outer plan.cut.marks) [] tree.items, few_statements tree formed))

-- ---- where a plan has none

no_sum : (ms : List Mark) (k : ℕ) → list_any is_sum_mark ms ≡ false → is_sum_mark (marked (slice_get ms k)) ≡ false
no_sum [] k none = refl
no_sum (m ∷ ms) zero none = (or_parts (is_sum_mark m) (list_any is_sum_mark ms) none).0
no_sum (m ∷ ms) (suc k) none = no_sum ms k (or_parts (is_sum_mark m) (list_any is_sum_mark ms) none).1

empty : (l : List ℕ) → not (length l == 0) ≡ false → l ≡ []
empty [] h = refl
empty (x ∷ l) h = absurd (omega (arith, eqb-true (length (x ∷ l)) 0 (not_not (length (x ∷ l) == 0) h)))
  where
    not_not : (b : Bool) → not b ≡ false → b ≡ true
    not_not true h = refl
    not_not false h = absurd (true≢false h)

no_private : (ls : List (List ℕ)) (k : ℕ) → list_any (λ (l : List ℕ). not (length l == 0)) ls ≡ false → slice_index_or ls k [] ≡ []
no_private [] k none = refl
no_private (l ∷ ls) zero none = empty l (or_parts (not (length l == 0)) (list_any (λ (m : List ℕ). not (length m == 0)) ls) none).0
no_private (l ∷ ls) (suc k) none = no_private ls k (or_parts (not (length l == 0)) (list_any (λ (m : List ℕ). not (length m == 0)) ls) none).1

none_of : (plan : Plan) (s : Statement) → has_own plan ≡ false → ((own_loop_of plan.cut s).privates ≡ []) × ((own_loop_of plan.cut s).sums ≡ [])
none_of plan (do_loop head body) none =
    let parts = or_parts (list_any is_sum_mark plan.cut.marks) (list_any (λ (l : List ℕ). not (length l == 0)) plan.cut.privates) none in
    (no_private plan.cut.privates (head.number - 1) parts.1, ap (λ b. if b then sum_scalars body else []) (no_sum plan.cut.marks (head.number - 1) parts.0))
none_of plan (work w) none = (refl, refl)
none_of plan (continue line) none = (refl, refl)

pub none_at : (tree : Tree) (plan : Plan) (place : ℕ) → has_own plan ≡ false → HasNoOwn tree plan place
none_at tree plan place none = by (slice_get (static_phases tree plan.cut.marks) (place - 1)) refl
  where
    by : (o : Option Placed) → slice_get (static_phases tree plan.cut.marks) (place - 1) ≡ o → HasNoOwn tree plan place
    by None at = none_past tree plan place at
    by (Some s) at =
        let is = ap (own_loop_at plan.cut) at in
        let both = none_of plan s.what none in
        record { privates = ap (λ (l : OwnLoop). l.privates) is ∙ both.0; sums = ap (λ (l : OwnLoop). l.sums) is ∙ both.1 }

-- ---- what is marked behind an instance

marks_none : (w : Work) (sums : List ℕ) → sums ≡ [] → place_assigned sums w ≡ None
marks_none (assign a) sums none = ap (λ us. option_map (λ k. 16 + k) (position (λ v. is_of v a.target) us)) none
marks_none (print p) sums none = refl

pub nothing_marked : (tree : Tree) (plan : Plan) (s : Standing) (i : Instance) → HasNoOwn tree plan s.place → (behind tree plan s i).pending ≡ s.pending
nothing_marked tree plan s i none =
    let own = own_loop tree plan s.place in
    let ends = ends_phase (param_values tree) (slice_get (static_phases tree plan.cut.marks) (s.place - 1)) i.loops in
    ap (λ o. mark_first (mark_place s.pending o) (length own.privates) ends) (marks_none i.what own.sums none.sums)
    ∙ ap (λ l. mark_first s.pending (length l) ends) none.privates ∙ by ends
  where
    by : (b : Bool) → mark_first s.pending 0 b ≡ s.pending
    by true = refl
    by false = refl

module _ (tree : Tree) (plan : Plan) (p place : ℕ) (few : length (own_loop tree plan place).privates ≤ 32) where
  abbrev own : OwnLoop
  own = own_loop tree plan place

  at_sum : (w : Work) (k : ℕ) → is_at (place_assigned own.sums w) k ≡ true → IsOwnPlace own k
  at_sum (assign a) k is = by (position (λ v. is_of v a.target) own.sums) refl is
    where
      by : (o : Option ℕ) → position (λ v. is_of v a.target) own.sums ≡ o → is_at (option_map (λ n. 16 + n) o) k ≡ true → IsOwnPlace own k
      by None at h = absurd (true≢false (sym h))
      by (Some n) at h =
          let same = eqb-true (16 + n) k h in
          let within = (position-Some (λ v. is_of v a.target) own.sums n 0 at).0 in
          inr (omega (arith, same), omega (arith, same, within))
  at_sum (print x) k is = absurd (true≢false (sym is))

  among_below : (bs : List Bool) (barriers k : ℕ) (i : Instance) → length bs ≡ 32 → ((j : ℕ) → slice_index_or bs j false ≡ true → IsOwnPlace own j) → k < 32 →
      slice_index_or (behind tree plan (record { place = place; pending = bs; barriers = barriers }) i).pending k false ≡ true → IsOwnPlace own k
  among_below bs barriers k i long among lt is = by (get_or bs k false) refl (sym (behind_one tree plan p place few bs barriers k i long lt) ∙ is)
    where
      ends : Bool
      ends = ends_phase (param_values tree) (slice_get (static_phases tree plan.cut.marks) (place - 1)) i.loops

      by_sum : (a : Bool) → is_at (place_assigned own.sums i.what) k ≡ a → (a || (nat_lt k (length own.privates) && ends)) ≡ true → IsOwnPlace own k
      by_sum true at h = at_sum i.what k at
      by_sum false at h = inl (ltb-true k (length own.privates) (and_parts (nat_lt k (length own.privates)) ends h).0)

      by : (b : Bool) → get_or bs k false ≡ b → (b || marks tree plan p place few k i) ≡ true → IsOwnPlace own k
      by true here h = among k here
      by false here h = by_sum (is_at (place_assigned own.sums i.what) k) refl h

  -- what pends behind an instance is among the own scalars
  pub behind_among : (bs : List Bool) (barriers k : ℕ) (i : Instance) → length bs ≡ 32 → ((j : ℕ) → slice_index_or bs j false ≡ true → IsOwnPlace own j) →
      slice_index_or (behind tree plan (record { place = place; pending = bs; barriers = barriers }) i).pending k false ≡ true → IsOwnPlace own k
  behind_among bs barriers k i long among is = elim (cases_lt k 32) [
    | inl lt ↦ among_below bs barriers k i long among lt is
    | inr ge ↦
        let all = behind_length tree plan p place few bs barriers i long in
        absurd (true≢false (sym is ∙ get_or_past (behind tree plan (record { place = place; pending = bs; barriers = barriers }) i).pending k false (omega (arith, all, ge))))
  ]

-- ---- a static phase that is a loop has one of the program's numbers

abbrev pub is_numbered : ℕ → Statement → Bool
is_numbered count (do_loop head body) = is_number_of count head.number
is_numbered count (work w) = true
is_numbered count (continue line) = true

abbrev number_there : ℕ → Placed → Bool
number_there count s = is_numbered count s.what

mutual
  numbered_in : (count : ℕ) (scope : Scope) (around : List ℕ) (number : ℕ) (enters : ℕ → Bool) (s : Statement) → is_good_statement scope around number s ≡ true → 1 ≤ number → number + loops_in s ≤ suc count → list_all (number_there count) (placed_in enters around s) ≡ true
  numbered_in count scope around number enters (do_loop head body) good low high =
      let g = good_loop scope around number head body good in
      let inside = numbered_of count scope (head.number ∷ around) (number + 1) enters body g.inside (omega arith) (omega (arith, high)) in
      let here : is_number_of count head.number ≡ true = and_from (nat_le 1 head.number) (nat_le head.number count) (le-leb 1 head.number (omega (arith, g.number, low))) (le-leb head.number count (omega (arith, g.number, high))) in
      elim (enters head.number) as (λ b. list_all (number_there count) (if b then placed_of enters (head.number ∷ around) body else record { what = do_loop head body; around = around } ∷ []) ≡ true) [
        | true ↦ inside
        | false ↦ and_from (is_number_of count head.number) true here refl
      ]
  numbered_in count scope around number enters (work w) good low high = refl
  numbered_in count scope around number enters (continue line) good low high = refl

  numbered_of : (count : ℕ) (scope : Scope) (around : List ℕ) (number : ℕ) (enters : ℕ → Bool) (ss : Statements) → are_good_statements scope around number ss ≡ true → 1 ≤ number → number + loops_of ss ≤ suc count → list_all (number_there count) (placed_of enters around ss) ≡ true
  numbered_of count scope around number enters done good low high = refl
  numbered_of count scope around number enters (next s rest) good low high =
      let both = and_parts (is_good_statement scope around number s) (are_good_statements scope around (number + loops_in s) rest) good in
      list_all-append (number_there count) (placed_in enters around s) (placed_of enters around rest)
      ∙ and_from (list_all (number_there count) (placed_in enters around s)) (list_all (number_there count) (placed_of enters around rest)) (numbered_in count scope around number enters s both.0 low (omega (arith, high)))
      (numbered_of count scope around (number + loops_in s) enters rest both.1 (omega (arith, low)) (omega (arith, high)))

pub phase_numbered : (tree : Tree) (plan : Plan) (k : ℕ) (s : Placed) → IsWellFormed tree → slice_get (static_phases tree plan.cut.marks) k ≡ Some s → is_numbered (loops_of tree.items) s.what ≡ true
phase_numbered tree plan k s formed at =
    passes_at (number_there (loops_of tree.items)) (static_phases tree plan.cut.marks) k s
    (numbered_of (loops_of tree.items) (scope_of tree) [] 1 (enters_outer plan.cut.marks) tree.items (well_formed_parts tree formed).statements (omega arith) (omega arith)) at

-- ---- the loop of a static phase

pub placed_ends : (params : List ℤ) (o : Option Placed) (nest : Nest) (loops : List ℤ) → IsPlaced o nest → ends_phase params o loops ≡ is_final params (head_of nest) loops
placed_ends params None nest loops h = absurd h
placed_ends params (Some s) nest loops h = ap (λ w. ends_loop params w loops) h

pub placed_number : (tree : Tree) (plan : Plan) (k : ℕ) (nest : Nest) → IsWellFormed tree → IsPlaced (slice_get (static_phases tree plan.cut.marks) k) nest → is_number_of (loops_of tree.items) nest.number ≡ true
placed_number tree plan k nest formed placed = by (slice_get (static_phases tree plan.cut.marks) k) refl placed
  where
    by : (o : Option Placed) → slice_get (static_phases tree plan.cut.marks) k ≡ o → IsPlaced o nest → is_number_of (loops_of tree.items) nest.number ≡ true
    by None at h = absurd h
    by (Some s) at h = ap (is_numbered (loops_of tree.items)) (sym h) ∙ phase_numbered tree plan k s formed at

-- without private scalars it doesn't matter whether the trip is the last one
pub no_first : (pending : List Bool) (n : ℕ) (a b : Bool) → n ≡ 0 → mark_first pending n a ≡ mark_first pending n b
no_first pending n a b none = ap (λ m. mark_first pending m a) none ∙ same a ∙ sym (ap (λ m. mark_first pending m b) none ∙ same b)
  where
    same : (c : Bool) → mark_first pending 0 c ≡ pending
    same true = refl
    same false = refl

-- ---- signals in front of a phase

pub signals_at : (style : Style) (plan : Plan) (v : Visit) → is_by_signals style plan v ≡ has_signals_at style plan v.place
signals_at Arrive plan v = refl
signals_at Dissemination plan v = refl

pub unwatched_none : (style : Style) (plan : Plan) → is_watched style plan ≡ false → has_own plan ≡ false
unwatched_none Arrive plan none = none
unwatched_none Dissemination plan none = absurd (true≢false none)
