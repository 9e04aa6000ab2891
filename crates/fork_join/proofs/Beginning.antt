-- A worker at the boundary in front of a phase.
use Rattle.std.proofs.Common.{◌≡◌, ℕ, ℤ, suc, ◌+◌, ◌-◌, ◌<◌, List, [], ◌∷◌, ◌++◌, append_assoc, drop, length, length-drop, None, refl, sym, ◌∙◌, ap, subst, ◌⊎◌, inl, inr, arith}
use Rattle.std.specs.List.{flat_map}
use Rattle.std.proofs.lemmas.List.{append_cancel_left, append_cancel_right}
use Rattle.nest_tree.specs.Tree.{Tree}
use Rattle.nest_tree.specs.View.{tree_of}
use Rattle.owner_partition.specs.Phases.{phases}
use Rattle.sync_plan.specs.Waits.{posts_at, waits_for}
use Rattle.sync_plan.specs.declared.plan.Plan.{Plan}
use Rattle.spmd_model.specs.Deeds.{Deed, awaiting, posting}
use Rattle.spmd_model.specs.Timelines.{counter}
use Rattle.spmd_model.specs.Acts.{await, post}
use Rattle.turns.specs.CounterTurns.{CounterTurn, awaits, begins, boundary_turns, posts, counter_deeds, works}
use Rattle.turns.specs.CountersLeft.{counters_left}
use Rattle.instance_runs.specs.declared.progress.Progress.{Progress}
use Rattle.turns.proofs.CounterDeeds.{bounded}
use Rattle.turns.specs.Turns.{Turn, turn_deeds}
use Rattle.turns.specs.TurnsLeft.{PassesPlainly}
use Rattle.turns.specs.declared.turns.NextOrPhase.TheVariants as Coming
use Rattle.turns.specs.declared.turns.Next.{Next}
use Rattle.turns.specs.declared.turns.Next.TheVariants.{Post, Await, Signal, AwaitSignal, Work, Close, End}
use Rattle.fork_join.specs.Cursors.{ComesNext, IsCursor, IsSameCursor, cursor_left, cursor_turns}
use Rattle.fork_join.specs.Joins.{HoldsOwn, IsSafe, all_deeds, begun, deeds_begun}
use Rattle.fork_join.specs.Workers.{AreBoundaryTurns, HasBegun, IsAt, IsBeginning, IsBoundaryTurn, Runs, Stands, turns_begun}
use Rattle.fork_join.specs.declared.cursor.Cursor.{Cursor}
use Rattle.fork_join.specs.declared.worker.Worker.{Worker}
use Rattle.fork_join.proofs.Acts.{await_there, post_there}
use Rattle.fork_join.proofs.Crossing.{begun_is, behind_is}
use Rattle.fork_join.proofs.Holding.{holds_still}
use Rattle.fork_join.proofs.Seeing.{next_get}
use Rattle.fork_join.proofs.Shutting.{no_closing, plain_left, plain_none, rounds, shut_deeds, shut_is, shut_passed, shut_same}
use Rattle.fork_join.proofs.Turning.{WaitsNext, begins_of, begun_runs, first_of, looked, no_work, phase_begins, phase_there, waited_runs, waiting_boundary, no_end}

-- what stands first among posts and awaits in front of a beginning
pub none_ahead : (bs rest : List CounterTurn) (e f : ℕ) (ts : List CounterTurn) → bs ++ begins e ∷ rest ≡ begins f ∷ ts → AreBoundaryTurns bs → bs ≡ []
none_ahead [] rest e f ts is all = refl
none_ahead (b ∷ bs) rest e f ts is all = absurd (subst IsBoundaryTurn (let k : b ≡ begins f = cc in k) all.0)

same_first : (t s : CounterTurn) (ts ss : List CounterTurn) → t ∷ ts ≡ s ∷ ss → t ≡ s
same_first t s ts ss is = cc

first_turn : (t s : Turn) (ts ss : List Turn) → t ∷ ts ≡ s ∷ ss → t ≡ s
first_turn t s ts ss is = cc

-- a post or an await that comes next stands first in front of the beginning
ahead_first : (bs rest : List CounterTurn) (e : ℕ) (t : CounterTurn) (ts more : List CounterTurn) → bs ++ begins e ∷ rest ≡ t ∷ ts → ts ≡ more ++ begins e ∷ rest → IsBoundaryTurn t → AreBoundaryTurns bs → bs ≡ t ∷ more
ahead_first [] rest e t ts more is split waits all = absurd (subst IsBoundaryTurn (let k : t ≡ begins e = cc in k) waits)
ahead_first (b ∷ bs) rest e t ts more is split waits all =
    let first : b ≡ t = cc in
    let rests : bs ++ begins e ∷ rest ≡ ts = cc in
    ap (λ x. x ∷ bs) first ∙ ap (λ l. t ∷ l) (append_cancel_right bs more (begins e ∷ rest) (rests ∙ split))

-- own cells hold the same behind it
held_waiting : (tree : Tree) (plan : Plan) (safe : IsSafe tree plan) (p : ℕ) → p < plan.workers → (n : ℕ) (t : CounterTurn) (rest : List Deed) (own : List ℤ) → IsBoundaryTurn t → HoldsOwn tree plan p own n → drop n (all_deeds tree plan p) ≡ counter_deeds tree t ++ rest → HoldsOwn tree plan p own (n + 1)
held_waiting tree plan safe p below n (posts k) rest own waits holds is =
    holds_still tree plan p n own holds (post counter k) (post_there tree plan safe p n below counter k (next_get (all_deeds tree plan p) n (posting counter k) rest is)) refl
held_waiting tree plan safe p below n (awaits on k) rest own waits holds is =
    holds_still tree plan p n own holds (await counter on k) (await_there tree plan safe p n below counter on k (next_get (all_deeds tree plan p) n (awaiting counter on k) rest is)) refl
held_waiting tree plan safe p below n (begins e) rest own waits holds is = absurd waits
held_waiting tree plan safe p below n (works i) rest own waits holds is = absurd waits

module _ (tree : Tree) (plan : Plan) (safe : IsSafe tree plan) (n p : ℕ) (below : p < plan.workers) where
  pub begin_first : (w : Worker) → n < length (phases tree plan.cut.marks) → IsAt tree plan n p w → IsBeginning tree plan n p w
  begin_first w lt at =
      let v = phase_there n (phases tree plan.cut.marks) lt in
      let does = posts_at tree plan p v.0.place v.0.loops in
      let whom = waits_for tree plan p v.0.place v.0.loops in
      let r = at.stands.runs in
      record {
        ahead = boundary_turns (suc n - 1) does whom;
        waits = waiting_boundary (suc n - 1) does whom;
        stands = subst (λ (l : List CounterTurn). Stands tree plan p l w) (phase_begins tree plan p n v.0 v.1 v.2) at.stands;
        none = at.none;
        shut = at.shut;
        left = shut_deeds tree plan safe n p below w.turns r.program r.plan_is r.processor r.turns at.shut ∙ behind_is tree plan safe n v.0 v.1 v.2 p ∙ ap (λ l. l ++ deeds_begun tree plan n p) (sym (bounded tree (suc n - 1) does whom));
      }

  -- nothing but a post or an await comes next there, or the phase begins
  pub only_waits : (w : Worker) (next : Next) → IsBeginning tree plan n p w → ComesNext w.turns (Coming.Turn next) → (((x : ℕ) × (next ≡ Post x)) ⊎ ((x : ℕ) × (y : ℕ) × (next ≡ Await x y)) → ⊥) → ⊥
  only_waits w (Post x) b comes other = other (inl (x, refl))
  only_waits w (Await x y) b comes other = other (inr (x, y, refl))
  only_waits w (Signal x) b comes other = let lt = comes.1.1 in let all = rounds w.turns b.stands.runs.sound in absurd (omega (arith, lt, all))
  only_waits w (AwaitSignal x y) b comes other = let lt = comes.1.1 in let all = rounds w.turns b.stands.runs.sound in absurd (omega (arith, lt, all))
  only_waits w (Work stop) b comes other = no_work b.ahead (turns_begun tree plan n p) (suc n) comes.1.2.next.0.instance comes.1.2.next.1 (sym b.stands.runs.turns ∙ plain_left w.turns comes.0 ∙ comes.1.2.next.2) b.waits
  only_waits w (Close k) b comes other =
      let r = b.stands.runs in
      no_closing tree plan p (cursor_left w.turns) b.shut.standing w.turns.turns.place k comes.1.0.0 b.shut.none (sym (shut_is tree plan p w.turns r.program r.plan_is r.processor b.shut) ∙ comes.1.0.1)
  only_waits w End b comes other = no_end b.ahead (turns_begun tree plan n p) (suc n) (sym b.stands.runs.turns ∙ plain_none w.turns comes.0 comes.2)

  -- where none is left in front, all deeds in front of the phase are done
  pub begun_here : (w : Worker) (b : IsBeginning tree plan n p w) → b.ahead ≡ [] → w.done.done ≡ begun tree plan n p
  begun_here w b none =
      let r = b.stands.runs in
      let left = r.deeds ∙ b.left ∙ ap (λ l. flat_map (counter_deeds tree) l ++ deeds_begun tree plan n p) none in
      omega (arith, ap length left, length-drop w.done.done (all_deeds tree plan p), r.within, begun_is tree plan p n below)

-- ---- another worker with the same parts

abbrev pub Key : Type 0
Key = Tree × (Plan × ℕ)

abbrev pub key_of : Worker → Key
key_of w = (tree_of w.program.now, (w.plan.now, w.processor))

pub same_key : (tree : Tree) (plan : Plan) (p : ℕ) (left : List CounterTurn) (w : Worker) → Stands tree plan p left w → ◌≡◌ {A = Key} (tree, (plan, p)) (key_of w)
same_key tree plan p left w s = λ i. (sym s.program i, (sym s.plan_is i, sym s.processor i))

-- a worker whose cursor has looked
pub seen_beginning : (tree : Tree) (plan : Plan) (n p : ℕ) (w : Worker) (d : Cursor) → IsBeginning tree plan n p w → IsCursor d → cursor_left d ≡ cursor_left w.turns → cursor_turns d ≡ cursor_turns w.turns → IsSameCursor w.turns d → IsBeginning tree plan n p (record w { turns = d })
seen_beginning tree plan n p w d b sound left turns run = record {
  ahead = b.ahead;
  waits = b.waits;
  stands = record {
    program = b.stands.program;
    plan_is = b.stands.plan_is;
    processor = b.stands.processor;
    runs = looked tree plan p (b.ahead ++ begins (suc n) ∷ turns_begun tree plan n p) w.done.done w.turns d w.executor b.stands.runs sound left turns run;
    kept = b.stands.kept;
    cells = b.stands.cells;
    holds = b.stands.holds;
  };
  none = b.none;
  shut = shut_same w.turns d b.shut left turns run;
  left = ap (flat_map (turn_deeds tree plan p)) turns ∙ b.left;
}

-- past a post or an await
pub passed_beginning : (tree : Tree) (plan : Plan) (safe : IsSafe tree plan) (n p : ℕ) → p < plan.workers → (w : Worker) (d : Cursor) (done : Progress) (next : Next) → IsBeginning tree plan n p w → (s : WaitsNext tree plan p w.turns.turns next) → IsCursor d → w.turns.begins ≡ None → d.begins ≡ None → done.done ≡ w.done.done + 1 →
    (u : Turn) × (cursor_turns w.turns ≡ u ∷ cursor_turns d) → PassesPlainly w.turns.turns d.turns next → IsSameCursor w.turns d → IsBeginning tree plan n p (record w { turns = d; done = done })
passed_beginning tree plan safe n p below w d done next b s sound none none_then more passed plainly run =
    let doing = flat_map (turn_deeds tree plan p) in
    let tail = turns_begun tree plan n p in
    let went = s.passes d.turns plainly in
    let left_c : cursor_left w.turns ≡ s.plain ∷ cursor_left d =
    plain_left w.turns none ∙ went.1 ∙ ap (λ t. t ∷ counters_left d.turns.counters) (sym (same_first s.plain went.0 s.rest (counters_left d.turns.counters) (sym s.left ∙ went.1))) ∙ ap (λ l. s.plain ∷ l) (sym (plain_left d none_then)) in
    let turns_c : cursor_turns w.turns ≡ s.turn ∷ cursor_turns d = passed.1 ∙ ap (λ t. t ∷ cursor_turns d) (sym (first_turn s.turn passed.0 s.later (cursor_turns d) (sym s.turns ∙ passed.1))) in
    let f = first_of b.ahead tail (suc n) s.plain (cursor_left d) (sym b.stands.runs.turns ∙ left_c) s.waits b.waits in
    let ahead_is : b.ahead ≡ s.plain ∷ f.0 = ahead_first b.ahead tail (suc n) s.plain (cursor_left d) f.0 (sym b.stands.runs.turns ∙ left_c) f.2 s.waits b.waits in
    let runs = waited_runs tree plan p safe below (cursor_left d) s.plain s.turn w.done.done done.done w.turns d w.executor s.waits s.does more
    (subst (λ (l : List CounterTurn). Runs tree plan p l w.done.done w.turns w.executor) (sym b.stands.runs.turns ∙ left_c) b.stands.runs) sound left_c turns_c run in
    let both : counter_deeds tree s.plain ++ doing (cursor_turns d) ≡ counter_deeds tree s.plain ++ (flat_map (counter_deeds tree) f.0 ++ deeds_begun tree plan n p) =
    ap (λ l. l ++ doing (cursor_turns d)) (sym s.does) ∙ sym (ap doing turns_c) ∙ b.left ∙ ap (λ l. flat_map (counter_deeds tree) l ++ deeds_begun tree plan n p) ahead_is ∙ append_assoc (counter_deeds tree s.plain) (flat_map (counter_deeds tree) f.0) (deeds_begun tree plan n p) in
    record {
      ahead = f.0;
      waits = f.1;
      stands = record {
        program = b.stands.program;
        plan_is = b.stands.plan_is;
        processor = b.stands.processor;
        runs = subst (λ (l : List CounterTurn). Runs tree plan p l done.done d w.executor) f.2 runs;
        kept = b.stands.kept;
        cells = b.stands.cells;
        holds = subst (HoldsOwn tree plan p w.own) (sym more) (held_waiting tree plan safe p below w.done.done s.plain (doing (cursor_turns d)) w.own s.waits b.stands.holds (b.stands.runs.deeds ∙ ap doing turns_c ∙ ap (λ l. l ++ doing (cursor_turns d)) s.does));
      };
      none = b.none;
      shut = shut_passed w.turns d s.plain s.turn b.shut s.waits left_c turns_c run;
      left = append_cancel_left (counter_deeds tree s.plain) (doing (cursor_turns d)) (flat_map (counter_deeds tree) f.0 ++ deeds_begun tree plan n p) both;
    }

-- past the beginning
module _ (tree : Tree) (plan : Plan) (safe : IsSafe tree plan) (n p : ℕ) (below : p < plan.workers) (w : Worker) (b : IsBeginning tree plan n p w) (d : Cursor) (e : ℕ) (left : cursor_left w.turns ≡ begins e ∷ cursor_left d) where
  ahead_is : b.ahead ++ begins (suc n) ∷ turns_begun tree plan n p ≡ begins e ∷ cursor_left d
  ahead_is = sym b.stands.runs.turns ∙ left

  pub begins_next : e ≡ suc n
  begins_next = (begins_of b.ahead (turns_begun tree plan n p) (suc n) e (cursor_left d) ahead_is b.waits).0

  pub has_begun : IsCursor d → cursor_turns d ≡ cursor_turns w.turns → IsSameCursor w.turns d → HasBegun tree plan n p (record w { turns = d })
  has_begun sound turns run =
      let none = none_ahead b.ahead (turns_begun tree plan n p) (suc n) e (cursor_left d) ahead_is b.waits in
      let rest_is = (begins_of b.ahead (turns_begun tree plan n p) (suc n) e (cursor_left d) ahead_is b.waits).1 in
      record {
        stands = record {
          program = b.stands.program;
          plan_is = b.stands.plan_is;
          processor = b.stands.processor;
          runs = subst (λ (l : List CounterTurn). Runs tree plan p l w.done.done d w.executor) rest_is
              (begun_runs tree plan p (cursor_left d) e w.done.done w.turns d w.executor (subst (λ (l : List CounterTurn). Runs tree plan p l w.done.done w.turns w.executor) ahead_is b.stands.runs) sound (begins e, left) turns run);
          kept = b.stands.kept;
          cells = b.stands.cells;
          holds = b.stands.holds;
        };
        none = b.none;
        place = begun_here tree plan safe n p below w b none;
      }
