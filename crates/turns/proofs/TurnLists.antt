-- What stands first of the turns that are left.
use Rattle.std.proofs.Common.{◌≡◌, ◌&&◌, ℕ, suc, ◌+◌, ◌-◌, ◌<◌, nat_lt, Bool, true, false, true≢false, List, [], ◌∷◌, ◌++◌, map, Option, Some, None, if◌then◌else◌, refl, ap, sym, ◌∙◌, arith}
use Rattle.std.specs.Prelude.{slice_get}
use Rattle.std.specs.List.{range_with_len}
use Rattle.nest_tree.specs.Tree.{Tree}
use Rattle.nest_model.specs.Instances.{Instance}
use Rattle.nest_model.specs.Visits.{Visit}
use Rattle.owner_partition.specs.Phases.{phases}
use Rattle.sync_plan.specs.declared.plan.Kind.{Kind}
use Rattle.sync_plan.specs.declared.plan.Kind.TheVariants.{Nothing, Producer, Left, Right, Both, Barrier, Join}
use Rattle.sync_plan.specs.Boundaries.{gathers, is_barrier, kind_before}
use Rattle.sync_plan.specs.declared.plan.Plan.{Plan}
use Rattle.spmd_model.specs.Timelines.{counter}
use Rattle.spmd_model.specs.declared.style.Style.{Style}
use Rattle.spmd_model.specs.declared.style.Style.TheVariants.{Arrive, Dissemination}
use Rattle.turns.specs.CounterTurns.{CounterTurn, posts, awaits, begins, works, boundary_at, boundary_by, without_beginnings}
use Rattle.turns.specs.CountersLeft.{counters_left}
use Rattle.turns.specs.declared.counters.Boundary.TheVariants as Boundaries
use Rattle.turns.specs.Turns.{Turn, sets, waits, runs, closes, Standing, all_rounds, begun, behind, closed, gathered, has_signals, is_signalled, is_watched, no_phase, none_pending, place_of, places_pending, round_turn, rounds_before, turns_by}
use Rattle.turns.specs.TurnsLeft.{IsBehindInstances, rounds_left, standing, turns_left, turns_plan, turns_processor, turns_tree}
use Rattle.turns.specs.declared.turns.Turns.{Turns}

pub none_places : places_pending none_pending ≡ []
none_places = refl

-- ---- rounds

pub no_rounds : (workers p first step steps : ℕ) → step ≡ steps → rounds_left workers p first step steps ≡ []
no_rounds workers p first step steps is =
    let none : steps - step ≡ 0 = omega (arith, is) in
    ap (λ n. map (round_turn workers p first) (range_with_len step n)) none

pub next_round : (workers p first step steps : ℕ) → step < steps → rounds_left workers p first step steps ≡ round_turn workers p first step ∷ rounds_left workers p first (step + 1) steps
next_round workers p first step steps lt =
    let more : steps - step ≡ suc (steps - (step + 1)) = omega (arith, lt) in
    ap (λ n. map (round_turn workers p first) (range_with_len step n)) more

-- ---- what stands first where no round is left

module _ (c : Turns) (none : c.step ≡ c.steps) where
  abbrev later : Standing → List CounterTurn → List Turn
  later = turns_by c.style (turns_tree c) (turns_plan c) (turns_processor c)

  pub bare : turns_left c ≡ later (standing c) (counters_left c.counters)
  bare = ap (λ l. l ++ later (standing c) (counters_left c.counters)) (no_rounds (turns_plan c).workers (turns_processor c) c.first c.step c.steps none)

  pub work_first : (i : Instance) (rest : List CounterTurn) → counters_left c.counters ≡ works i ∷ rest → turns_left c ≡ runs c.place i ∷ later (behind (turns_tree c) (turns_plan c) (standing c) i) rest
  work_first i rest is = bare ∙ ap (later (standing c)) is

  pub post_first : (number : ℕ) (rest : List CounterTurn) → counters_left c.counters ≡ posts number ∷ rest → places_pending c.pending ≡ [] →
      turns_left c ≡ (if is_signalled c.style (turns_tree c) (turns_plan c) number then [] else sets counter number ∷ []) ++ later (closed (standing c)) rest
  post_first number rest is empty =
      bare ∙ ap (later (standing c)) is
      ∙ ap (λ ks. map (closes c.place) ks ++ ((if is_signalled c.style (turns_tree c) (turns_plan c) number then [] else sets counter number ∷ []) ++ later (closed (standing c)) rest)) empty

  pub await_first : (on wanted : ℕ) (rest : List CounterTurn) → counters_left c.counters ≡ awaits on wanted ∷ rest → places_pending c.pending ≡ [] →
      turns_left c ≡ (if is_signalled c.style (turns_tree c) (turns_plan c) wanted then [] else waits counter on wanted ∷ []) ++ later (closed (standing c)) rest
  await_first on wanted rest is empty =
      bare ∙ ap (later (standing c)) is
      ∙ ap (λ ks. map (closes c.place) ks ++ ((if is_signalled c.style (turns_tree c) (turns_plan c) wanted then [] else waits counter on wanted ∷ []) ++ later (closed (standing c)) rest)) empty

  pub begin_first : (e : ℕ) (rest : List CounterTurn) → counters_left c.counters ≡ begins e ∷ rest → places_pending c.pending ≡ [] →
      turns_left c ≡ rounds_before c.style (turns_tree c) (turns_plan c) (turns_processor c) (standing c) e ++ later (begun c.style (turns_tree c) (turns_plan c) (standing c) e) rest
  begin_first e rest is empty =
      bare ∙ ap (later (standing c)) is
      ∙ ap (λ ks. map (closes c.place) ks ++ (rounds_before c.style (turns_tree c) (turns_plan c) (turns_processor c) (standing c) e ++ later (begun c.style (turns_tree c) (turns_plan c) (standing c) e) rest)) empty

  pub nothing_left : counters_left c.counters ≡ [] → places_pending c.pending ≡ [] → turns_left c ≡ []
  nothing_left is empty = bare ∙ ap (later (standing c)) is ∙ ap (map (closes c.place)) empty

append_nothing : (xs : List Turn) → xs ++ [] ≡ xs
append_nothing [] = refl
append_nothing (x ∷ xs) = ap (λ l. x ∷ l) (append_nothing xs)

-- what stands behind the closings, whichever these are
pub record ClosingsFirst (style : Style) (tree : Tree) (plan : Plan) (p place barriers : ℕ) (ts : List CounterTurn) : Type 0 where
  pub rest : List Turn
  pub is : (pending : List Bool) → turns_by style tree plan p (record { place = place; pending = pending; barriers = barriers }) ts ≡ map (closes place) (places_pending pending) ++ rest

pub closings_first : (style : Style) (tree : Tree) (plan : Plan) (p place barriers : ℕ) (ts : List CounterTurn) → IsBehindInstances ts → ClosingsFirst style tree plan p place barriers ts
closings_first style tree plan p place barriers [] last = record { rest = []; is = λ pending. sym (append_nothing (map (closes place) (places_pending pending))) }
closings_first style tree plan p place barriers (posts number ∷ rest) last = record {
  rest = (if is_signalled style tree plan number then [] else sets counter number ∷ []) ++ turns_by style tree plan p (record { place = place; pending = none_pending; barriers = barriers }) rest;
  is = λ pending. refl;
}
closings_first style tree plan p place barriers (awaits on wanted ∷ rest) last = record {
  rest = (if is_signalled style tree plan wanted then [] else waits counter on wanted ∷ []) ++ turns_by style tree plan p (record { place = place; pending = none_pending; barriers = barriers }) rest;
  is = λ pending. refl;
}
closings_first style tree plan p place barriers (begins e ∷ rest) last =
    let s : Standing = record { place = place; pending = none_pending; barriers = barriers } in
    record { rest = rounds_before style tree plan p s e ++ turns_by style tree plan p (begun style tree plan s e) rest; is = λ pending. refl }
closings_first style tree plan p place barriers (works i ∷ rest) last = absurd last

-- ---- the boundary that is passed by signals

gathered_kind : (kind : Option Kind) (workers : ℕ) → gathered (boundary_by kind workers) ≡ (is_barrier kind && nat_lt 1 workers)
gathered_kind None workers = refl
gathered_kind (Some Nothing) workers = refl
gathered_kind (Some (Producer a)) workers = refl
gathered_kind (Some Left) workers = refl
gathered_kind (Some Right) workers = refl
gathered_kind (Some Both) workers = refl
gathered_kind (Some Barrier) workers = by (nat_lt 1 workers)
  where
    by : (b : Bool) → gathered (if b then Boundaries.Barrier else Boundaries.Counters) ≡ b
    by true = refl
    by false = refl
gathered_kind (Some Join) workers = refl

pub gathered_at : (tree : Tree) (plan : Plan) (number : ℕ) → gathered (boundary_at tree plan number) ≡ gathers tree plan number
gathered_at tree plan number = gathered_kind (kind_before plan (slice_get (phases tree plan.cut.marks) number)) plan.workers

-- ---- where no phase has own scalars, and barriers are passed by counters

pub arrives : (style : Style) (plan : Plan) → is_watched style plan ≡ false → style ≡ Arrive
arrives Arrive plan none = refl
arrives Dissemination plan none = absurd (true≢false none)

pub no_signals : (plan : Plan) (o : Option Visit) → has_signals Arrive plan o ≡ false
no_signals plan None = refl
no_signals plan (Some v) = refl

pub plainly_begun : (style : Style) (tree : Tree) (plan : Plan) (barriers e : ℕ) → is_watched style plan ≡ false →
    (begun style tree plan (record { place = no_phase; pending = none_pending; barriers = barriers }) e ≡ record { place = no_phase; pending = none_pending; barriers = barriers })
plainly_begun style tree plan barriers e none =
    let o = slice_get (phases tree plan.cut.marks) (e - 1) in
    let silent = ap (λ t. has_signals t plan o) (arrives style plan none) ∙ no_signals plan o in
    ap (λ b. record { place = if b then place_of o else no_phase; pending = none_pending; barriers = if has_signals style plan o then suc barriers else barriers }) none
    ∙ ap (λ b. record { place = no_phase; pending = none_pending; barriers = if b then suc barriers else barriers }) silent

pub unseen : (style : Style) (tree : Tree) (plan : Plan) (p barriers : ℕ) (ts : List CounterTurn) → is_watched style plan ≡ false →
    turns_by style tree plan p (record { place = no_phase; pending = none_pending; barriers = barriers }) (without_beginnings ts) ≡ turns_by style tree plan p (record { place = no_phase; pending = none_pending; barriers = barriers }) ts
unseen style tree plan p barriers [] none = refl
unseen style tree plan p barriers (posts number ∷ rest) none = refl
unseen style tree plan p barriers (awaits on wanted ∷ rest) none = refl
unseen style tree plan p barriers (begins e ∷ rest) none =
    let s : Standing = record { place = no_phase; pending = none_pending; barriers = barriers } in
    let o = slice_get (phases tree plan.cut.marks) (e - 1) in
    let silent = ap (λ t. has_signals t plan o) (arrives style plan none) ∙ no_signals plan o in
    unseen style tree plan p barriers rest none
    ∙ sym (ap (λ b. (if b then all_rounds plan.workers p barriers else []) ++ turns_by style tree plan p (begun style tree plan s e) rest) silent ∙ ap (λ z. turns_by style tree plan p z rest) (plainly_begun style tree plan barriers e none))
unseen style tree plan p barriers (works i ∷ rest) none = refl

-- no boundary is passed by signals there
pub by_counters : (style : Style) (tree : Tree) (plan : Plan) (number : ℕ) → is_watched style plan ≡ false → is_signalled style tree plan number ≡ false
by_counters Arrive tree plan number none = refl
by_counters Dissemination tree plan number none = absurd (true≢false none)
