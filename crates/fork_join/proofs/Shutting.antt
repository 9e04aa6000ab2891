-- A cursor with no closing in front.
use Rattle.std.proofs.Common.{◌≡◌, ℕ, suc, ◌+◌, ◌-◌, ◌<◌, false, List, [], ◌∷◌, ◌++◌, drop, length, length-drop, map, Option, Some, None, if◌then◌else◌, refl, sym, ◌∙◌, ap, subst, arith}
use Rattle.std.specs.Prelude.{slice_get}
use Rattle.std.specs.List.{flat_map}
use Rattle.nest_tree.specs.Tree.{Tree}
use Rattle.nest_model.specs.Instances.{Instance}
use Rattle.nest_model.specs.Visits.{Visit}
use Rattle.owner_partition.specs.Phases.{phases}
use Rattle.sync_plan.specs.declared.plan.Plan.{Plan}
use Rattle.spmd_model.specs.MachineDeeds.{deeds_by, part_deeds}
use Rattle.spmd_model.specs.Timelines.{counter}
use Rattle.spmd_model.specs.declared.style.Style.{Style}
use Rattle.spmd_model.specs.declared.style.Style.TheVariants.{Arrive}
use Rattle.turns.specs.CounterTurns.{CounterTurn, posts, awaits, begins, works}
use Rattle.turns.specs.CountersLeft.{begun_by, counters_left}
use Rattle.instance_runs.specs.declared.execute.Executor.{Executor}
use Rattle.turns.specs.Turns.{Standing, Turn, sets, waits, runs, closes, all_rounds, begun, behind, closed, is_watched, places_pending, rounds_before, turns_by, turn_deeds}
use Rattle.turns.specs.TurnsLeft.{IsBehindInstances, IsSameRun, standing, turns_left, turns_plan, turns_processor, turns_tree}
use Rattle.turns.specs.declared.turns.NextOrPhase.{NextOrPhase}
use Rattle.turns.specs.declared.turns.NextOrPhase.TheVariants as Coming
use Rattle.turns.specs.declared.turns.Next.{Next}
use Rattle.turns.specs.declared.turns.Next.TheVariants.{Post, Await, Signal, AwaitSignal, Work, Close, End}
use Rattle.turns.specs.declared.turns.Turns.{Turns}
use Rattle.turns.proofs.TurnLists.{bare, no_signals, none_places}
use Rattle.turns.proofs.TurnsAct.{turns_behind_act}
use Rattle.fork_join.specs.Cursors.{ComesNext, IsCursor, IsSameCursor, IsShut, IsUnseen, cursor_left, cursor_plan, cursor_processor, cursor_tree, cursor_turns}
use Rattle.fork_join.specs.Joins.{IsSafe, all_deeds, deeds_behind, in_front}
use Rattle.fork_join.specs.Workers.{IsBoundaryTurn, Runs, turns_behind}
use Rattle.fork_join.specs.declared.cursor.Cursor.{Cursor}
use Rattle.fork_join.proofs.Crossing.{in_front_is}

-- ---- no closing comes first

module _ (tree : Tree) (plan : Plan) (p : ℕ) where
  pub no_closing : (ts : List CounterTurn) (s : Standing) (place k : ℕ) (rest : List Turn) → places_pending s.pending ≡ [] → turns_by Arrive tree plan p s ts ≡ closes place k ∷ rest → ⊥
  no_closing [] s place k rest none is = let clash : [] ≡ closes place k ∷ rest = sym (ap (map (closes s.place)) none) ∙ is in cc
  no_closing (posts n ∷ ts) s place k rest none is =
      let later = turns_by Arrive tree plan p (closed s) ts in
      let clash : sets counter n ∷ later ≡ closes place k ∷ rest = sym (ap (λ ks. map (closes s.place) ks ++ (sets counter n ∷ later)) none) ∙ is in cc
  no_closing (awaits on n ∷ ts) s place k rest none is =
      let later = turns_by Arrive tree plan p (closed s) ts in
      let clash : waits counter on n ∷ later ≡ closes place k ∷ rest = sym (ap (λ ks. map (closes s.place) ks ++ (waits counter on n ∷ later)) none) ∙ is in cc
  no_closing (begins e ∷ ts) s place k rest none is =
      let next = begun Arrive tree plan s e in
      let later = turns_by Arrive tree plan p next ts in
      no_closing ts next place k rest none_places
      (sym (ap (λ ks. map (closes s.place) ks ++ (rounds_before Arrive tree plan p s e ++ later)) none ∙ ap (λ b. (if b then all_rounds plan.workers p s.barriers else []) ++ later) (no_signals plan (slice_get (phases tree plan.cut.marks) (e - 1)))) ∙ is)
  no_closing (works i ∷ ts) s place k rest none is = let clash : runs s.place i ∷ turns_by Arrive tree plan p (behind tree plan s i) ts ≡ closes place k ∷ rest = is in cc

  -- however many barriers are behind
  any_barriers : (e b : ℕ) (vs : List Visit) → deeds_by Arrive tree plan p e b vs ≡ deeds_by Arrive tree plan p e 0 vs
  any_barriers e b [] = refl
  any_barriers e b (v ∷ vs) = ap (λ l. part_deeds Arrive tree plan p e 0 v ++ l) (any_barriers (suc e) (b + 0) vs)

-- ---- where a cursor is shut

abbrev Key : Type 0
Key = Tree × (Plan × ℕ)

abbrev key_of : Cursor → Key
key_of c = (cursor_tree c, (cursor_plan c, cursor_processor c))

pub shut_is : (tree : Tree) (plan : Plan) (p : ℕ) (c : Cursor) → cursor_tree c ≡ tree → cursor_plan c ≡ plan → cursor_processor c ≡ p → (s : IsShut c) → cursor_turns c ≡ turns_by Arrive tree plan p s.standing (cursor_left c)
shut_is tree plan p c t q k s =
    let key : ◌≡◌ {A = Key} (key_of c) (tree, (plan, p)) = λ i. (t i, (q i, k i)) in
    s.is ∙ ap (λ (z : Key). turns_by Arrive z.0 z.1.0 z.1.1 s.standing (cursor_left c)) key

pub shut_same : (c d : Cursor) → IsShut c → cursor_left d ≡ cursor_left c → cursor_turns d ≡ cursor_turns c → IsSameCursor c d → IsShut d
shut_same c d s left turns run =
    let key : ◌≡◌ {A = Key} (key_of c) (key_of d) = λ i. (sym run.program i, (sym run.plan i, sym run.processor i)) in
    record {
      standing = s.standing;
      none = s.none;
      unseen = λ off. s.unseen (ap (is_watched Arrive) (sym run.plan) ∙ off);
      is = turns ∙ s.is ∙ ap (λ (z : Key). turns_by Arrive z.0 z.1.0 z.1.1 s.standing (cursor_left c)) key ∙ ap (turns_by Arrive (cursor_tree d) (cursor_plan d) (cursor_processor d) s.standing) (sym left);
    }

-- past a post or an await
pub shut_passed : (c d : Cursor) (t : CounterTurn) (u : Turn) → IsShut c → IsBoundaryTurn t → cursor_left c ≡ t ∷ cursor_left d → cursor_turns c ≡ u ∷ cursor_turns d → IsSameCursor c d → IsShut d
shut_passed c d t u s wait left turns run =
    let key : ◌≡◌ {A = Key} (key_of c) (key_of d) = λ i. (sym run.program i, (sym run.plan i, sym run.processor i)) in
    let all = λ (z : Key) (ts : List CounterTurn). turns_by Arrive z.0 z.1.0 z.1.1 s.standing ts in
    let is : u ∷ cursor_turns d ≡ turns_by Arrive (cursor_tree d) (cursor_plan d) (cursor_processor d) s.standing (t ∷ cursor_left d) = sym turns ∙ s.is ∙ ap (all (key_of c)) left ∙ ap (λ z. all z (t ∷ cursor_left d)) key in
    record {
      standing = closed s.standing;
      none = none_places;
      unseen = λ off. ((s.unseen (ap (is_watched Arrive) (sym run.plan) ∙ off)).0, refl);
      is = by t wait is;
    }
  where
    by : (t : CounterTurn) → IsBoundaryTurn t → u ∷ cursor_turns d ≡ turns_by Arrive (cursor_tree d) (cursor_plan d) (cursor_processor d) s.standing (t ∷ cursor_left d) → cursor_turns d ≡ turns_by Arrive (cursor_tree d) (cursor_plan d) (cursor_processor d) (closed s.standing) (cursor_left d)
    by (posts n) w is =
        let later = turns_by Arrive (cursor_tree d) (cursor_plan d) (cursor_processor d) (closed s.standing) (cursor_left d) in
        let both : u ∷ cursor_turns d ≡ sets counter n ∷ later = is ∙ ap (λ ks. map (closes s.standing.place) ks ++ (sets counter n ∷ later)) s.none in cc
    by (awaits on n) w is =
        let later = turns_by Arrive (cursor_tree d) (cursor_plan d) (cursor_processor d) (closed s.standing) (cursor_left d) in
        let both : u ∷ cursor_turns d ≡ waits counter on n ∷ later = is ∙ ap (λ ks. map (closes s.standing.place) ks ++ (waits counter on n ∷ later)) s.none in cc
    by (begins e) w is = absurd w
    by (works i) w is = absurd w

-- ---- what has come next

-- where no phase was seen to begin
pub plain_left : (c : Cursor) → c.begins ≡ None → cursor_left c ≡ counters_left c.turns.counters
plain_left c none = ap (λ b. begun_by b ++ counters_left c.turns.counters) none

pub plain_none : (c : Cursor) → c.begins ≡ None → counters_left c.turns.counters ≡ [] → cursor_left c ≡ []
plain_none c none over = plain_left c none ∙ over

module _ (c : Cursor) (is : IsCursor c) where
  pub rounds : c.turns.step ≡ c.turns.steps
  rounds = is.sound.arrives is.arrives

  pub left_is : c.begins ≡ None → turns_left c.turns ≡ turns_by Arrive (cursor_tree c) (cursor_plan c) (cursor_processor c) (standing c.turns) (cursor_left c)
  left_is none =
      bare c.turns rounds ∙ ap (λ (st : Style). turns_by st (cursor_tree c) (cursor_plan c) (cursor_processor c) (standing c.turns) (counters_left c.turns.counters)) is.arrives
      ∙ ap (λ b. turns_by Arrive (cursor_tree c) (cursor_plan c) (cursor_processor c) (standing c.turns) (begun_by b ++ counters_left c.turns.counters)) (sym none)

  pub unseen_here : is_watched Arrive (cursor_plan c) ≡ false → IsUnseen (standing c.turns)
  unseen_here off =
      let w = is.sound.unwatched (is.sound.watched ∙ ap (λ (st : Style). is_watched st (cursor_plan c)) is.arrives ∙ off) in
      (w.no_place, w.none)

  shut_here : c.begins ≡ None → places_pending c.turns.pending ≡ [] → IsShut c
  shut_here none empty = record { standing = standing c.turns; none = empty; unseen = unseen_here; is = left_is none }

  no_marks : (place : ℕ) (ks : List ℕ) → map (closes place) ks ≡ [] → ks ≡ []
  no_marks place [] e = refl
  no_marks place (k ∷ ks) e = absurd (let clash : closes place k ∷ map (closes place) ks ≡ [] = e in cc)

  -- no instance comes where something else does
  pub no_instance : (next : NextOrPhase) → ComesNext c next → ((stop : _) → next ≡ Coming.Turn (Work stop) → ⊥) → (i : Instance) (rest : List CounterTurn) → cursor_left c ≡ works i ∷ rest → ⊥
  no_instance (Coming.Phase e) comes other i rest at = let clash : begins e ∷ counters_left c.turns.counters ≡ works i ∷ rest = sym (ap (λ b. begun_by b ++ counters_left c.turns.counters) comes) ∙ at in cc
  no_instance (Coming.Turn (Post n)) comes other i rest at = let clash : posts n ∷ comes.1.1.shows.next.0 ≡ works i ∷ rest = sym comes.1.1.shows.next.1 ∙ sym (plain_left c comes.0) ∙ at in cc
  no_instance (Coming.Turn (Await on n)) comes other i rest at = let clash : awaits on n ∷ comes.1.1.shows.next.0 ≡ works i ∷ rest = sym comes.1.1.shows.next.1 ∙ sym (plain_left c comes.0) ∙ at in cc
  no_instance (Coming.Turn (Signal n)) comes other i rest at = let lt = comes.1.1 in absurd (omega (arith, lt, rounds))
  no_instance (Coming.Turn (AwaitSignal on n)) comes other i rest at = let lt = comes.1.1 in absurd (omega (arith, lt, rounds))
  no_instance (Coming.Turn (Work stop)) comes other i rest at = other stop refl
  no_instance (Coming.Turn (Close k)) comes other i rest at = subst IsBehindInstances (sym (plain_left c comes.0) ∙ at) comes.1.1.behind
  no_instance (Coming.Turn End) comes other i rest at = let clash : [] ≡ works i ∷ rest = sym (plain_none c comes.0 comes.2) ∙ at in cc

  -- neither an instance nor a closing
  pub shut_by : (next : NextOrPhase) → ComesNext c next → ((stop : _) → next ≡ Coming.Turn (Work stop) → ⊥) → ((k : ℕ) → next ≡ Coming.Turn (Close k) → ⊥) → IsShut c
  shut_by (Coming.Phase e) comes other none = is.shut e comes
  shut_by (Coming.Turn (Post n)) comes other none = shut_here comes.0 comes.1.1.none
  shut_by (Coming.Turn (Await on n)) comes other none = shut_here comes.0 comes.1.1.none
  shut_by (Coming.Turn (Signal n)) comes other none = absurd (let lt = comes.1.1 in omega (arith, lt, rounds))
  shut_by (Coming.Turn (AwaitSignal on n)) comes other none = absurd (let lt = comes.1.1 in omega (arith, lt, rounds))
  shut_by (Coming.Turn (Work stop)) comes other none = absurd (other stop refl)
  shut_by (Coming.Turn (Close k)) comes other none = absurd (none k refl)
  shut_by (Coming.Turn End) comes other none =
      let over : counters_left c.turns.counters ≡ [] = comes.2 in
      let left : cursor_left c ≡ [] = ap (λ b. begun_by b ++ counters_left c.turns.counters) comes.0 ∙ over in
      let all : [] ≡ map (closes c.turns.place) (places_pending c.turns.pending) = sym comes.1 ∙ left_is comes.0 ∙ ap (turns_by Arrive (cursor_tree c) (cursor_plan c) (cursor_processor c) (standing c.turns)) left in
      shut_here comes.0 (no_marks c.turns.place (places_pending c.turns.pending) (sym all))

-- a phase was seen to begin
pub shut_begun : (c : Cursor) (t : Turns) (e : ℕ) → IsCursor c → c.begins ≡ None → IsSameRun c.turns t → turns_left t ≡ turns_left c.turns → (places_pending c.turns.pending ≡ []) × (counters_left c.turns.counters ≡ begins e ∷ counters_left t.counters) → IsShut (record { turns = t; begins = Some e })
shut_begun c t e sound none run left plainly =
    let all = λ (z : Key). turns_by Arrive z.0 z.1.0 z.1.1 (standing c.turns) in
    let key : ◌≡◌ {A = Key} (key_of c) (turns_tree t, (turns_plan t, turns_processor t)) = λ i. (sym run.program i, (sym run.plan i, sym run.processor i)) in
    record {
      standing = standing c.turns;
      none = plainly.0;
      unseen = λ off. unseen_here c sound (ap (is_watched Arrive) (sym run.plan) ∙ off);
      is = left ∙ left_is c sound none ∙ ap (λ z. all z (cursor_left c)) key ∙ ap (all (turns_tree t, (turns_plan t, turns_processor t))) (plain_left c none ∙ plainly.1);
    }

-- it is only one turn that comes next
pub one_turn : (r : NextOrPhase) (x y : Next) → r ≡ Coming.Turn x → r ≡ Coming.Turn y → x ≡ y
one_turn r x y is other = let both : Coming.Turn x ≡ Coming.Turn y = sym is ∙ other in cc

pub none_is : (o : Option ℕ) → ((k : ℕ) → o ≡ Some k → ⊥) → o ≡ None
none_is None other = refl
none_is (Some k) other = absurd (other k refl)

-- ---- where it stands

module _ (tree : Tree) (plan : Plan) (safe : IsSafe tree plan) (n p : ℕ) (below : p < plan.workers) where
  pub shut_deeds : (c : Cursor) → cursor_tree c ≡ tree → cursor_plan c ≡ plan → cursor_processor c ≡ p → cursor_left c ≡ turns_behind tree plan n p → IsShut c → flat_map (turn_deeds tree plan p) (cursor_turns c) ≡ deeds_behind tree plan n p
  shut_deeds c t q k left s =
      let doing = flat_map (turn_deeds tree plan p) in
      let vs = drop n (phases tree plan.cut.marks) in
      ap doing (shut_is tree plan p c t q k s ∙ ap (turns_by Arrive tree plan p s.standing) left)
      ∙ turns_behind_act Arrive tree plan p safe.formed safe.limits safe.fits safe.ranges below n s.standing (λ off. s.unseen (ap (is_watched Arrive) q ∙ off))
      ∙ ap (λ ks. doing (map (closes s.standing.place) ks) ++ deeds_by Arrive tree plan p (suc n) s.standing.barriers vs) s.none
      ∙ any_barriers tree plan p (suc n) s.standing.barriers vs

  pub shut_place : (done : ℕ) (c : Cursor) (x : Executor) → Runs tree plan p (turns_behind tree plan n p) done c x → IsShut c → done ≡ in_front tree plan n p
  shut_place done c x r s =
      let left = r.deeds ∙ shut_deeds c r.program r.plan_is r.processor r.turns s in
      omega (arith, ap length left, length-drop done (all_deeds tree plan p), r.within, in_front_is tree plan p n below)
