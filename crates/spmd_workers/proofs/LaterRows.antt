-- Behind the awaits of a boundary no await of its counter comes first.
use Rattle.std.proofs.Common.{◌≡◌, ℕ, zero, suc, ◌+◌, ◌-◌, ◌*◌, ◌%◌, ◌/◌, ◌==◌, ◌≤◌, nat_lt, ℤ, Bool, true, false, List, [], ◌∷◌, ◌++◌, length, map, Option, Some, None, refl, sym, ◌∙◌, ap, subst, arith, if◌then◌else◌}
use Rattle.std.specs.Prelude.{slice_get}
use Rattle.std.specs.List.{flat_map, range_with_len}
use Rattle.std.specs.Option.{option_map}
use Rattle.nest_tree.specs.Layout.{first_cell}
use Rattle.nest_tree.specs.Tree.{Tree}
use Rattle.nest_model.specs.Accesses.{loads_of, store_of}
use Rattle.nest_model.specs.Memory.{assigned_value, line_of}
use Rattle.nest_model.specs.Visits.{Visit}
use Rattle.owner_partition.specs.Phases.{phases}
use Rattle.owner_partition.specs.PhasesLeft.{phases_left, phases_passed}
use Rattle.sync_plan.specs.Own.{own_cell, own_loop, own_of}
use Rattle.sync_plan.specs.ProcessorSets.{members}
use Rattle.sync_plan.specs.declared.plan.Plan.{Plan}
use Rattle.spmd_model.specs.Deeds.{Deed, awaiting, last_deed, loading, printing, storing}
use Rattle.spmd_model.specs.Rounds.{awaited_in_round, rounds_of}
use Rattle.spmd_model.specs.MachineDeeds.{keeping_deeds, totalling_deeds}
use Rattle.spmd_model.specs.Timelines.{counter, signal}
use Rattle.spmd_model.specs.declared.style.Style.{Style}
use Rattle.nest_walk.specs.InstancesLeft.{instances_left}
use Rattle.turns.specs.CounterTurns.{CounterTurn, awaits, begins, boundary_turns, posts, counter_turns, works}
use Rattle.turns.specs.CountersLeft.{begun_by, come_of, counters_left, counters_plan, counters_rounds, counters_tree}
use Rattle.turns.specs.declared.counters.CounterTurns.{CounterTurns}
use Rattle.turns.specs.Turns.{Standing, Turn, sets, waits, runs, closes, all_rounds, beginnings, begun, behind, closed, first_round, has_signals, is_signalled, places_pending, round_turn, rounds_before, scalar_at, turns_by, turn_deeds}
use Rattle.turns.specs.TurnsLeft.{BeginsNext, beginnings_left, standing, turns_left, turns_plan, turns_processor, turns_tree}
use Rattle.turns.specs.declared.turns.Turns.{Turns}
use Rattle.turns.proofs.Beginnings.{all_begin, strip_begun}
use Rattle.spmd_workers.proofs.Rows.{Later, behind_beginning, past, none_boundary, none_works, phases_later, later_works, later_append}

-- ---- the first deed of turns

no_load : {c on w : ℕ} {xs ys : List Deed} → loading c ∷ xs ≡ awaiting counter on w ∷ ys → ⊥
no_load is = absurd (cc)

no_store : {c on w : ℕ} {f : List ℤ → ℤ} {xs ys : List Deed} → storing c f ∷ xs ≡ awaiting counter on w ∷ ys → ⊥
no_store is = absurd (cc)

no_print : {on w : ℕ} {f : List ℤ → List ℕ} {xs ys : List Deed} → printing f ∷ xs ≡ awaiting counter on w ∷ ys → ⊥
no_print is = absurd (cc)

-- where it is an await of a counter, the first turn is
first_wait : (tree : Tree) (plan : Plan) (p : ℕ) (ts : List Turn) (on w : ℕ) (more : List Deed) → flat_map (turn_deeds tree plan p) ts ≡ awaiting counter on w ∷ more → (rest : List Turn) × (ts ≡ waits counter on w ∷ rest)
first_wait tree plan p [] on w more is = absurd (cc)
first_wait tree plan p (sets word n ∷ ts) on w more is = absurd (cc)
first_wait tree plan p (waits word q n ∷ ts) on w more is =
    let both : awaiting word q n ∷ flat_map (turn_deeds tree plan p) ts ≡ awaiting counter on w ∷ more = is in
    let of : word ≡ counter = cc in
    let who : q ≡ on = cc in
    let what : n ≡ w = cc in
    (ts, λ i. waits (of i) (who i) (what i) ∷ ts)
first_wait tree plan p (runs place i ∷ ts) on w more is = by (loads_of tree i) refl (store_of tree i) refl
  where
    by : (ls : List ℕ) → loads_of tree i ≡ ls → (o : Option ℕ) → store_of tree i ≡ o → (tail : List Turn) × (runs place i ∷ ts ≡ waits counter on w ∷ tail)
    by (c ∷ ls) loads o stored = absurd (no_load (sym (ap (λ l. (map loading (map (own_cell (own_of tree plan place) p) l) ++ last_deed (option_map (own_cell (own_of tree plan place) p) (store_of tree i)) false (assigned_value tree i) (line_of tree i) ∷ []) ++ flat_map (turn_deeds tree plan p) ts) loads) ∙ is))
    by [] loads None stored = absurd (no_print (sym (ap (λ l. (map loading (map (own_cell (own_of tree plan place) p) l) ++ last_deed (option_map (own_cell (own_of tree plan place) p) (store_of tree i)) false (assigned_value tree i) (line_of tree i) ∷ []) ++ flat_map (turn_deeds tree plan p) ts) loads ∙ ap (λ o. last_deed (option_map (own_cell (own_of tree plan place) p) o) false (assigned_value tree i) (line_of tree i) ∷ flat_map (turn_deeds tree plan p) ts) stored) ∙ is))
    by [] loads (Some c) stored = absurd (no_store (sym (ap (λ l. (map loading (map (own_cell (own_of tree plan place) p) l) ++ last_deed (option_map (own_cell (own_of tree plan place) p) (store_of tree i)) false (assigned_value tree i) (line_of tree i) ∷ []) ++ flat_map (turn_deeds tree plan p) ts) loads ∙ ap (λ o. last_deed (option_map (own_cell (own_of tree plan place) p) o) false (assigned_value tree i) (line_of tree i) ∷ flat_map (turn_deeds tree plan p) ts) stored) ∙ is))
first_wait tree plan p (closes place k ∷ ts) on w more is = by (nat_lt k 16) refl
  where
    by : (b : Bool) → nat_lt k 16 ≡ b → (tail : List Turn) × (closes place k ∷ ts ≡ waits counter on w ∷ tail)
    by true small = absurd (no_load (sym (ap (λ b. (if b then keeping_deeds ((own_of tree plan place).cell p k) (first_cell tree (scalar_at (own_loop tree plan place) k)) else totalling_deeds ((own_of tree plan place).cell p k) (first_cell tree (scalar_at (own_loop tree plan place) k))) ++ flat_map (turn_deeds tree plan p) ts) small) ∙ is))
    by false big = absurd (no_load (sym (ap (λ b. (if b then keeping_deeds ((own_of tree plan place).cell p k) (first_cell tree (scalar_at (own_loop tree plan place) k)) else totalling_deeds ((own_of tree plan place).cell p k) (first_cell tree (scalar_at (own_loop tree plan place) k))) ++ flat_map (turn_deeds tree plan p) ts) big) ∙ is))

-- ---- the first of turns

module _ (style : Style) (tree : Tree) (plan : Plan) (p on w : ℕ) where
  -- it is none of closings, nor of rounds
  past_closings : (place : ℕ) (ks : List ℕ) (ys rest : List Turn) → map (closes place) ks ++ ys ≡ waits counter on w ∷ rest → ys ≡ waits counter on w ∷ rest
  past_closings place [] ys rest is = is
  past_closings place (k ∷ ks) ys rest is = absurd (let clash : closes place k ∷ (map (closes place) ks ++ ys) ≡ waits counter on w ∷ rest = is in cc)

  no_round : (b : Bool) (n q k : ℕ) (xs rest : List Turn) → (if b then sets signal n else waits signal q k) ∷ xs ≡ waits counter on w ∷ rest → ⊥
  no_round true n q k xs rest is = absurd (let clash : sets signal n ∷ xs ≡ waits counter on w ∷ rest = is in cc)
  no_round false n q k xs rest is = absurd (let clash : waits signal q k ∷ xs ≡ waits counter on w ∷ rest = is in cc)

  past_rounds : (first : ℕ) (steps : List ℕ) (ys rest : List Turn) → map (round_turn plan.workers p first) steps ++ ys ≡ waits counter on w ∷ rest → ys ≡ waits counter on w ∷ rest
  past_rounds first [] ys rest is = is
  past_rounds first (s ∷ steps) ys rest is = absurd (no_round (s % 2 == 0) (first + s / 2) (awaited_in_round plan.workers (s / 2) p) (first + s / 2) (map (round_turn plan.workers p first) steps ++ ys) rest is)

  past_before : (b : Bool) (barriers : ℕ) (ys rest : List Turn) → (if b then all_rounds plan.workers p barriers else []) ++ ys ≡ waits counter on w ∷ rest → ys ≡ waits counter on w ∷ rest
  past_before true barriers ys rest is = past_rounds (first_round plan.workers barriers) (range_with_len 0 (rounds_of plan.workers * 2)) ys rest is
  past_before false barriers ys rest is = is

  past_set : (b : Bool) (n : ℕ) (ys rest : List Turn) → (if b then [] else sets counter n ∷ []) ++ ys ≡ waits counter on w ∷ rest → ys ≡ waits counter on w ∷ rest
  past_set true n ys rest is = is
  past_set false n ys rest is = absurd (let clash : sets counter n ∷ ys ≡ waits counter on w ∷ rest = is in cc)

  -- so it is among the counter turns
  plain_wait : (s : Standing) (ts : List CounterTurn) (rest : List Turn) → turns_by style tree plan p s ts ≡ waits counter on w ∷ rest → (k : ℕ) × (slice_get ts k ≡ Some (awaits on w))
  plain_wait s [] rest is = absurd (none (places_pending s.pending) is)
    where
      none : (ks : List ℕ) → map (closes s.place) ks ≡ waits counter on w ∷ rest → ⊥
      none [] e = absurd (let clash : [] ≡ waits counter on w ∷ rest = e in cc)
      none (k ∷ ks) e = absurd (let clash : closes s.place k ∷ map (closes s.place) ks ≡ waits counter on w ∷ rest = e in cc)
  plain_wait s (posts n ∷ ts) rest is =
      let one = past_closings s.place (places_pending s.pending) ((if is_signalled style tree plan n then [] else sets counter n ∷ []) ++ turns_by style tree plan p (closed s) ts) rest is in
      let two = past_set (is_signalled style tree plan n) n (turns_by style tree plan p (closed s) ts) rest one in
      let found = plain_wait (closed s) ts rest two in
      (suc found.0, found.1)
  plain_wait s (awaits q n ∷ ts) rest is = by (λ e. plain_wait (closed s) ts rest e) (is_signalled style tree plan n) refl
    where
      one : (if is_signalled style tree plan n then [] else waits counter q n ∷ []) ++ turns_by style tree plan p (closed s) ts ≡ waits counter on w ∷ rest
      one = past_closings s.place (places_pending s.pending) ((if is_signalled style tree plan n then [] else waits counter q n ∷ []) ++ turns_by style tree plan p (closed s) ts) rest is

      by : (turns_by style tree plan p (closed s) ts ≡ waits counter on w ∷ rest → (k : ℕ) × (slice_get ts k ≡ Some (awaits on w))) → (b : Bool) → is_signalled style tree plan n ≡ b → (k : ℕ) × (slice_get (awaits q n ∷ ts) k ≡ Some (awaits on w))
      by again true on_signals = let found = again (sym (ap (λ b. (if b then [] else waits counter q n ∷ []) ++ turns_by style tree plan p (closed s) ts) on_signals) ∙ one) in (suc found.0, found.1)
      by again false off =
          let both : waits counter q n ∷ turns_by style tree plan p (closed s) ts ≡ waits counter on w ∷ rest = sym (ap (λ b. (if b then [] else waits counter q n ∷ []) ++ turns_by style tree plan p (closed s) ts) off) ∙ one in
          let who : q ≡ on = cc in
          let what : n ≡ w = cc in
          (0, λ i. Some (awaits (who i) (what i)))
  plain_wait s (begins e ∷ ts) rest is =
      let next = turns_by style tree plan p (begun style tree plan s e) ts in
      let one = past_closings s.place (places_pending s.pending) (rounds_before style tree plan p s e ++ next) rest is in
      let two = past_before (has_signals style plan (slice_get (phases tree plan.cut.marks) (e - 1))) s.barriers next rest one in
      let found = plain_wait (begun style tree plan s e) ts rest two in
      (suc found.0, found.1)
  plain_wait s (works i ∷ ts) rest is = absurd (let clash : runs s.place i ∷ turns_by style tree plan p (behind tree plan s i) ts ≡ waits counter on w ∷ rest = is in cc)

-- ---- turns behind a beginning

-- numbers that follow each other
next_number : (s n : ℕ) (xs : List ℕ) (a b : ℕ) (ys : List ℕ) → range_with_len s n ≡ xs ++ (a ∷ (b ∷ ys)) → b ≡ suc a
next_number s zero [] a b ys is = absurd (let clash : [] ≡ a ∷ (b ∷ ys) = is in cc)
next_number s zero (x ∷ xs) a b ys is = absurd (let clash : [] ≡ x ∷ (xs ++ (a ∷ (b ∷ ys))) = is in cc)
next_number s (suc zero) [] a b ys is = absurd (let clash : s ∷ [] ≡ a ∷ (b ∷ ys) = is in cc)
next_number s (suc (suc n)) [] a b ys is =
    let both : s ∷ ((s + 1) ∷ range_with_len (s + 1 + 1) n) ≡ a ∷ (b ∷ ys) = is in
    let first : s ≡ a = cc in
    let second : s + 1 ≡ b = cc in
    omega (arith, first, second)
next_number s (suc n) (x ∷ xs) a b ys is =
    let both : s ∷ range_with_len (s + 1) n ≡ x ∷ (xs ++ (a ∷ (b ∷ ys))) = is in
    let tail : range_with_len (s + 1) n ≡ xs ++ (a ∷ (b ∷ ys)) = cc in
    next_number (s + 1) n xs a b ys tail

module _ (c : CounterTurns) (e : ℕ) (rest : List CounterTurn) (is : counters_left c ≡ begins e ∷ rest) (n : ℕ) (front : List ℕ) (begins_are : range_with_len 1 n ≡ front ++ beginnings (counters_left c)) where
  abbrev tree : Tree
  tree = counters_tree c

  abbrev plan : Plan
  plan = counters_plan c

  abbrev ahead : List CounterTurn
  ahead = counter_turns tree plan c.processor (suc (phases_passed c.phases)) (phases_left c.phases)

  abbrev own : List CounterTurn
  own = map works (instances_left c.own)

  abbrev come : List CounterTurn
  come = map works (come_of tree (counters_rounds c) c.come)

  -- where the beginning is one of the phases ahead
  later_ahead : (more : List CounterTurn) → ahead ≡ more ++ (begins e ∷ rest) → Later e rest
  later_ahead more at = behind_beginning tree plan c.processor (suc (phases_passed c.phases)) (phases_left c.phases) more rest e (omega arith) at

  later_works_ahead : (more : List CounterTurn) → come ++ (own ++ ahead) ≡ more ++ (begins e ∷ rest) → Later e rest
  later_works_ahead more at =
      let one = past come (own ++ ahead) more rest e (none_works (come_of tree (counters_rounds c) c.come)) at in
      let two = past own ahead one.0 rest e (none_works (instances_left c.own)) one.1 in
      later_ahead two.0 two.1

  -- where it is the phase's own, the next one is numbered by those that are passed
  later_here : come ++ (own ++ ahead) ≡ rest → Later e rest
  later_here at =
      let begun_later : beginnings ahead ≡ beginnings rest = strip_begun (instances_left c.own) (own ++ ahead) ahead refl ∙ strip_begun (come_of tree (counters_rounds c) c.come) rest (own ++ ahead) (sym at) in
      let numbers : range_with_len (suc (phases_passed c.phases)) (length (phases_left c.phases)) ≡ beginnings rest = sym (all_begin tree plan c.processor (suc (phases_passed c.phases)) (phases_left c.phases)) ∙ begun_later in
      let all : range_with_len 1 n ≡ front ++ (e ∷ beginnings rest) = begins_are ∙ ap (λ ts. front ++ beginnings ts) is in
      subst (Later e) at (later_append e come (own ++ ahead) (later_works e (come_of tree (counters_rounds c) c.come)) (later_append e own ahead (later_works e (instances_left c.own)) (by (phases_left c.phases) refl numbers all)))
    where
      by : (vs : List Visit) → phases_left c.phases ≡ vs → range_with_len (suc (phases_passed c.phases)) (length (phases_left c.phases)) ≡ beginnings rest → range_with_len 1 n ≡ front ++ (e ∷ beginnings rest) → Later e ahead
      by [] none numbers all = subst (Later e) (ap (counter_turns tree plan c.processor (suc (phases_passed c.phases))) (sym none)) (λ k on w at. absurd (let clash : None ≡ Some (awaits on w) = at in cc))
      by (v ∷ vs) some numbers all =
          let first : suc (phases_passed c.phases) ∷ range_with_len (suc (phases_passed c.phases) + 1) (length vs) ≡ beginnings rest = ap (λ (l : List Visit). range_with_len (suc (phases_passed c.phases)) (length l)) (sym some) ∙ numbers in
          let next : suc (phases_passed c.phases) ≡ suc e = next_number 1 n front e (suc (phases_passed c.phases)) (range_with_len (suc (phases_passed c.phases) + 1) (length vs)) (all ∙ ap (λ l. front ++ (e ∷ l)) (sym first)) in
          let here : suc (phases_passed c.phases) - 1 ≡ e = omega (arith, next) in
          subst (λ k. Later k ahead) here (phases_later tree plan c.processor (suc (phases_passed c.phases)) (phases_left c.phases) (omega arith))

  pub later_left : Later e rest
  later_left =
      let boundary = boundary_turns c.number c.posts (members c.awaits) in
      let one = past boundary (begun_by c.begins ++ (come ++ (own ++ ahead))) [] rest e (none_boundary c.number c.posts (members c.awaits)) is in
      by c.begins one.0 one.1
    where
      by : (o : Option ℕ) (more : List CounterTurn) → begun_by o ++ (come ++ (own ++ ahead)) ≡ more ++ (begins e ∷ rest) → Later e rest
      by None more at = later_works_ahead more at
      by (Some b) [] at = let both : begins b ∷ (come ++ (own ++ ahead)) ≡ begins e ∷ rest = at in let tail : come ++ (own ++ ahead) ≡ rest = cc in later_here tail
      by (Some b) (m ∷ more) at = let both : begins b ∷ (come ++ (own ++ ahead)) ≡ m ∷ (more ++ (begins e ∷ rest)) = at in let tail : come ++ (own ++ ahead) ≡ more ++ (begins e ∷ rest) = cc in later_works_ahead more tail

-- ---- of a cursor

pub first_later : (c : Turns) (e : ℕ) (next : BeginsNext c e) (n : ℕ) (front : List ℕ) → range_with_len 1 n ≡ front ++ beginnings_left c → (on w : ℕ) (more : List Deed) → flat_map (turn_deeds (turns_tree c) (turns_plan c) (turns_processor c)) (turns_left c) ≡ awaiting counter on w ∷ more → e ≤ w
first_later c e next n front numbers on w more is =
    let tree = turns_tree c in
    let plan = turns_plan c in
    let p = turns_processor c in
    let wait = first_wait tree plan p (turns_left c) on w more is in
    let one = past_rounds c.style tree plan p on w c.first (range_with_len c.step (c.steps - c.step)) (turns_by c.style tree plan p (standing c) (counters_left c.counters)) wait.0 wait.1 in
    let two : turns_by c.style tree plan p (standing c) (begins e ∷ next.rest) ≡ waits counter on w ∷ wait.0 = ap (turns_by c.style tree plan p (standing c)) (sym next.is) ∙ one in
    let three = past_closings c.style tree plan p on w c.place (places_pending c.pending) (rounds_before c.style tree plan p (standing c) e ++ turns_by c.style tree plan p (begun c.style tree plan (standing c) e) next.rest) wait.0 two in
    let four = past_before c.style tree plan p on w (has_signals c.style plan (slice_get (phases tree plan.cut.marks) (e - 1))) c.barriers (turns_by c.style tree plan p (begun c.style tree plan (standing c) e) next.rest) wait.0 three in
    let found = plain_wait c.style tree plan p on w (begun c.style tree plan (standing c) e) next.rest wait.0 four in
    later_left c.counters e next.rest next.is n front numbers found.0 on w found.1

-- so no await of the number before stands there
pub no_wait_first : (c : Turns) (number : ℕ) (next : BeginsNext c (suc number)) (n : ℕ) (front : List ℕ) → range_with_len 1 n ≡ front ++ beginnings_left c → (on : ℕ) (rest : List Turn) → turns_left c ≡ waits counter on number ∷ rest → ⊥
no_wait_first c number next n front numbers on rest is =
    let low = first_later c (suc number) next n front numbers on number (flat_map (turn_deeds (turns_tree c) (turns_plan c) (turns_processor c)) rest) (ap (flat_map (turn_deeds (turns_tree c) (turns_plan c) (turns_processor c))) is) in
    omega (arith, low)
