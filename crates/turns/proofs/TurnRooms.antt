-- What turns print and run is what the counter turns do.
use Rattle.std.proofs.Common.{◌≡◌, ℕ, ◌-◌, ◌*◌, ◌&&◌, Bool, true, false, List, [], ◌∷◌, ◌++◌, map, if◌then◌else◌, refl, sym, ◌∙◌, ap, arith, sum_by}
use Rattle.std.specs.Prelude.{slice_get}
use Rattle.std.specs.List.{list_all, range_with_len}
use Rattle.std.proofs.lemmas.Bool.{and_parts}
use Rattle.std.proofs.lemmas.List.Sums.{sum_by-append, sum_by-cons}
use Rattle.nest_tree.specs.Tree.{Tree}
use Rattle.nest_model.specs.Instances.{Instance}
use Rattle.owner_partition.specs.Phases.{phases}
use Rattle.sync_plan.specs.declared.plan.Plan.{Plan}
use Rattle.spmd_model.specs.Rounds.{rounds_of}
use Rattle.spmd_model.specs.Timelines.{counter, signal}
use Rattle.spmd_model.specs.declared.style.Style.{Style}
use Rattle.turns.specs.CounterTurns.{counter_room, CounterTurn, posts, awaits, begins, works}
use Rattle.turns.specs.Turns.{Standing, Turn, sets, waits, runs, closes, all_rounds, begun, behind, closed, first_round, has_signals, is_signalled, places_pending, round_turn, rounds_before, runs_only, turns_by, turn_room}

-- ---- what they print

module _ (style : Style) (tree : Tree) (plan : Plan) (p : ℕ) where
  map_room : (f : ℕ → Turn) → ((k : ℕ) → turn_room tree (f k) ≡ 0) → (ks : List ℕ) → sum_by (turn_room tree) (map f ks) ≡ 0
  map_room f none [] = refl
  map_room f none (k ∷ ks) = omega (arith, sum_by-cons (turn_room tree) (f k) (map f ks), none k, map_room f none ks)

  front_room : (xs ys : List Turn) → sum_by (turn_room tree) xs ≡ 0 → sum_by (turn_room tree) (xs ++ ys) ≡ sum_by (turn_room tree) ys
  front_room xs ys none = omega (arith, sum_by-append (turn_room tree) xs ys, none)

  one_room : (b : Bool) (t : Turn) → turn_room tree t ≡ 0 → sum_by (turn_room tree) (if b then [] else t ∷ []) ≡ 0
  one_room true t none = refl
  one_room false t none = let nothing : sum_by (turn_room tree) [] ≡ 0 = refl in omega (arith, sum_by-cons (turn_room tree) t [], none, nothing)

  word_room : (b : Bool) (n q k : ℕ) → turn_room tree (if b then sets signal n else waits signal q k) ≡ 0
  word_room true n q k = refl
  word_room false n q k = refl

  rounds_room : (b : Bool) (barriers : ℕ) → sum_by (turn_room tree) (if b then all_rounds plan.workers p barriers else []) ≡ 0
  rounds_room true barriers = map_room (round_turn plan.workers p (first_round plan.workers barriers)) (λ k. word_room _ _ _ _) (range_with_len 0 (rounds_of plan.workers * 2))
  rounds_room false barriers = refl

  pub turn_rooms : (s : Standing) (ts : List CounterTurn) → sum_by (turn_room tree) (turns_by style tree plan p s ts) ≡ sum_by (counter_room tree) ts
  turn_rooms s [] = map_room (closes s.place) (λ k. refl) (places_pending s.pending)
  turn_rooms s (posts number ∷ rest) =
      let front = if is_signalled style tree plan number then [] else sets counter number ∷ [] in
      let later = turns_by style tree plan p (closed s) rest in
      let none : counter_room tree (posts number) ≡ 0 = refl in
      omega (
        arith,
        front_room (map (closes s.place) (places_pending s.pending)) (front ++ later) (map_room (closes s.place) (λ k. refl) (places_pending s.pending)),
        front_room front later (one_room (is_signalled style tree plan number) (sets counter number) refl),
        turn_rooms (closed s) rest,
        sum_by-cons (counter_room tree) (posts number) rest,
        none,
      )
  turn_rooms s (awaits on wanted ∷ rest) =
      let front = if is_signalled style tree plan wanted then [] else waits counter on wanted ∷ [] in
      let later = turns_by style tree plan p (closed s) rest in
      let none : counter_room tree (awaits on wanted) ≡ 0 = refl in
      omega (
        arith,
        front_room (map (closes s.place) (places_pending s.pending)) (front ++ later) (map_room (closes s.place) (λ k. refl) (places_pending s.pending)),
        front_room front later (one_room (is_signalled style tree plan wanted) (waits counter on wanted) refl),
        turn_rooms (closed s) rest,
        sum_by-cons (counter_room tree) (awaits on wanted) rest,
        none,
      )
  turn_rooms s (begins e ∷ rest) =
      let front = rounds_before style tree plan p s e in
      let later = turns_by style tree plan p (begun style tree plan s e) rest in
      let none : counter_room tree (begins e) ≡ 0 = refl in
      omega (
        arith,
        front_room (map (closes s.place) (places_pending s.pending)) (front ++ later) (map_room (closes s.place) (λ k. refl) (places_pending s.pending)),
        front_room front later (rounds_room (has_signals style plan (slice_get (phases tree plan.cut.marks) (e - 1))) s.barriers),
        turn_rooms (begun style tree plan s e) rest,
        sum_by-cons (counter_room tree) (begins e) rest,
        none,
      )
  turn_rooms s (works i ∷ rest) =
      let later = turns_by style tree plan p (behind tree plan s i) rest in
      let same : turn_room tree (runs s.place i) ≡ counter_room tree (works i) = refl in
      omega (arith, sum_by-cons (turn_room tree) (runs s.place i) later, sum_by-cons (counter_room tree) (works i) rest, turn_rooms (behind tree plan s i) rest, same)

-- ---- and the instances that they run, each of which passes a test where a counter turn does

module _ (style : Style) (tree : Tree) (plan : Plan) (p : ℕ) (test : Instance → Bool) where
  map_runs : (f : ℕ → Turn) → ((k : ℕ) → runs_only test (f k) ≡ true) → (ks : List ℕ) → list_all (runs_only test) (map f ks) ≡ true
  map_runs f all [] = refl
  map_runs f all (k ∷ ks) = ap (λ b. b && list_all (runs_only test) (map f ks)) (all k) ∙ map_runs f all ks

  front_runs : (xs ys : List Turn) → list_all (runs_only test) xs ≡ true → list_all (runs_only test) (xs ++ ys) ≡ list_all (runs_only test) ys
  front_runs [] ys all = refl
  front_runs (x ∷ xs) ys all =
      let parts = and_parts (runs_only test x) (list_all (runs_only test) xs) all in
      ap (λ b. b && list_all (runs_only test) (xs ++ ys)) parts.0 ∙ front_runs xs ys parts.1

  one_runs : (b : Bool) (t : Turn) → runs_only test t ≡ true → list_all (runs_only test) (if b then [] else t ∷ []) ≡ true
  one_runs true t is = refl
  one_runs false t is = ap (λ b. b && true) is

  word_runs : (b : Bool) (n q k : ℕ) → runs_only test (if b then sets signal n else waits signal q k) ≡ true
  word_runs true n q k = refl
  word_runs false n q k = refl

  rounds_run : (b : Bool) (barriers : ℕ) → list_all (runs_only test) (if b then all_rounds plan.workers p barriers else []) ≡ true
  rounds_run true barriers = map_runs (round_turn plan.workers p (first_round plan.workers barriers)) (λ k. word_runs _ _ _ _) (range_with_len 0 (rounds_of plan.workers * 2))
  rounds_run false barriers = refl

  module _ (plain : CounterTurn → Bool) (posted : (number : ℕ) → plain (posts number) ≡ true) (awaited : (on wanted : ℕ) → plain (awaits on wanted) ≡ true) (begins_so : (e : ℕ) → plain (begins e) ≡ true) (works_so : (i : Instance) → plain (works i) ≡ test i) where
    pub turn_runs : (s : Standing) (ts : List CounterTurn) → list_all (runs_only test) (turns_by style tree plan p s ts) ≡ list_all plain ts
    turn_runs s [] = map_runs (closes s.place) (λ k. refl) (places_pending s.pending)
    turn_runs s (posts number ∷ rest) =
        let front = if is_signalled style tree plan number then [] else sets counter number ∷ [] in
        let later = turns_by style tree plan p (closed s) rest in
        front_runs (map (closes s.place) (places_pending s.pending)) (front ++ later) (map_runs (closes s.place) (λ k. refl) (places_pending s.pending))
        ∙ front_runs front later (one_runs (is_signalled style tree plan number) (sets counter number) refl) ∙ turn_runs (closed s) rest ∙ sym (ap (λ b. b && list_all plain rest) (posted number))
    turn_runs s (awaits on wanted ∷ rest) =
        let front = if is_signalled style tree plan wanted then [] else waits counter on wanted ∷ [] in
        let later = turns_by style tree plan p (closed s) rest in
        front_runs (map (closes s.place) (places_pending s.pending)) (front ++ later) (map_runs (closes s.place) (λ k. refl) (places_pending s.pending))
        ∙ front_runs front later (one_runs (is_signalled style tree plan wanted) (waits counter on wanted) refl) ∙ turn_runs (closed s) rest ∙ sym (ap (λ b. b && list_all plain rest) (awaited on wanted))
    turn_runs s (begins e ∷ rest) =
        let front = rounds_before style tree plan p s e in
        let later = turns_by style tree plan p (begun style tree plan s e) rest in
        front_runs (map (closes s.place) (places_pending s.pending)) (front ++ later) (map_runs (closes s.place) (λ k. refl) (places_pending s.pending))
        ∙ front_runs front later (rounds_run (has_signals style plan (slice_get (phases tree plan.cut.marks) (e - 1))) s.barriers) ∙ turn_runs (begun style tree plan s e) rest ∙ sym (ap (λ b. b && list_all plain rest) (begins_so e))
    turn_runs s (works i ∷ rest) = ap (λ b. test i && b) (turn_runs (behind tree plan s i) rest) ∙ sym (ap (λ b. b && list_all plain rest) (works_so i))
