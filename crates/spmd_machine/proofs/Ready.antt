-- A machine behind a step.
use Rattle.std.proofs.Common.{◌≡◌, ℕ, ◌+◌, ◌<◌, ◌≤◌, ℤ, [], ◌∷◌, ◌++◌, length, get_or, Vec, Global, refl, sym, ◌∙◌, ap, subst, arith}
use Rattle.std.specs.Vec.{with_item}
use Rattle.std.proofs.lemmas.List.{get_or_default, length-map, length-set}
use Rattle.std.proofs.lemmas.List.Elements.{All-append, All-cons, All-nil}
use Rattle.std.proofs.lemmas.List.Sums.{fold_push, sum_by-set}
use Rattle.nest_walk.specs.Tables.{entries}
use Rattle.seq_meaning.specs.Room.{Written}
use Rattle.nest_tree.specs.Layout.{cell_count}
use Rattle.nest_tree.specs.Tree.{Tree}
use Rattle.sync_plan.specs.declared.plan.Plan.{Plan}
use Rattle.spmd_model.specs.Deeds.{Deed}
use Rattle.spmd_model.specs.Machines.{machine_by}
use Rattle.spmd_model.specs.declared.style.Style.{Style}
use Rattle.spmd_model.specs.States.{State, first_state}
use Rattle.spmd_model.specs.Runs.{stepped}
use Rattle.spmd_model.specs.Timelines as Timelines
use Rattle.spmd_machine.specs.Machines.{ComesNext, HasDone, IsReached, IsMachine, IsSameMachine, StepsTo, model_of, plan_in, shared_in, shown, step_answer, style_in, tree_in}
use Rattle.spmd_machine.specs.Processors.{IsKept, left_of, position_of, room_of}
use Rattle.spmd_machine.specs.declared.answer.StepAnswer.{StepAnswer}
use Rattle.spmd_machine.specs.declared.answer.StepAnswer.TheVariants.{Stepped, Ended}
use Rattle.spmd_machine.specs.declared.parts.Parts.{Parts}
use Rattle.spmd_machine.specs.declared.processor.Processor.{Processor}
use Rattle.turns.specs.TurnsLeft.{IsNext}
use Rattle.turns.specs.declared.turns.Next.{Next}
use Rattle.turns.specs.declared.turns.Next.TheVariants.{End}
use Rattle.spmd_machine.proofs.Kept.{end_left, picked, written_all}
use Rattle.spmd_machine.proofs.Steps.{Does, ShowsSame, done_state, ended_answer, ended_state, still_state, stepped_answer}

-- one step more
pub reached_more : (m : Timelines.Machine) (s : State) (p : ℕ) → p < m.workers → IsReached m s → IsReached m (stepped m s p)
reached_more m s p lt r = record {
  schedule = r.schedule ++ p ∷ [];
  workers = All-append (λ q. q < m.workers) r.schedule (p ∷ []) r.workers (All-cons (λ q. q < m.workers) p [] lt (All-nil (λ q. q < m.workers)));
  run = ap (λ t. stepped m t p) r.run ∙ sym (fold_push (stepped m) (first_state m) r.schedule p);
}

module _ (m : Parts) (ready : IsMachine m) (p : ℕ) (x y : Processor) (lt : p < length m.processors.items) (read : x ≡ get_or m.processors.items p x) where
  -- the machine with another processor, memory, output and values of loops
  abbrev pub with_parts : Vec ℤ Global → Vec ℤ Global → Written → Parts
  with_parts loops memory output = record m { processors = with_item m.processors p y; loops = loops; memory = memory; output = output }

  pub kept_here : IsKept (style_in m) (tree_in m) (plan_in m) (entries m.table) p x
  kept_here = subst (IsKept (style_in m) (tree_in m) (plan_in m) (entries m.table) p) (sym read) (ready.kept p x lt)

  pub next_here : (found : Next) → ComesNext m p found → IsNext x.turns found
  next_here found next = subst (λ (z : Processor). IsNext z.turns found) (sym read) (next x)

  -- it is one of the plan's
  pub worker_here : p < (plan_in m).workers
  worker_here = omega (arith, lt, ready.count)

  ready_with : (loops memory : Vec ℤ Global) (output : Written) → IsKept (style_in m) (tree_in m) (plan_in m) (entries m.table) p y → length loops.items ≡ length m.loops.items → length memory.items ≡ length m.memory.items →
      length output.bytes + room_of (tree_in m) y ≤ length m.output.bytes + room_of (tree_in m) x → m.output.room ≤ output.room → IsReached (model_of m) (shown (with_parts loops memory output)) → IsMachine (with_parts loops memory output)
  ready_with loops memory output kept written cells room capacity reached =
      let sums = sum_by-set (room_of (tree_in m)) m.processors.items p y x lt in
      let mine = ap (room_of (tree_in m)) read in
      record {
        formed = ready.formed;
        ranges = ready.ranges;
        fits = ready.fits;
        table = ready.table;
        wide = ready.wide;
        codes = ready.codes;
        params = ready.params;
        loops = omega (arith, ready.loops, written);
        code_room = ready.code_room;
        cells = cells ∙ ready.cells;
        count = length-set m.processors.items p y ∙ ready.count;
        kept = written_all (IsKept (style_in m) (tree_in m) (plan_in m) (entries m.table)) m.processors.items p y ready.kept kept;
        room = omega (arith, sums, mine, room, capacity, ready.room);
        reached = reached;
      }

  -- a deed is done
  pub steps : (loops memory : Vec ℤ Global) (output : Written) (d : Deed) → IsKept (style_in m) (tree_in m) (plan_in m) (entries m.table) p y → length loops.items ≡ length m.loops.items → length memory.items ≡ length m.memory.items →
      length output.bytes + room_of (tree_in m) y ≤ length m.output.bytes + room_of (tree_in m) x → m.output.room ≤ output.room →
      Does (style_in m) (tree_in m) (plan_in m) ready.formed ready.fits (entries m.table) m.processors.items m.memory.items m.output.bytes p worker_here x lt read kept_here d y memory.items output.bytes → StepsTo m (with_parts loops memory output) p Stepped
  unfolding shown
  steps loops memory output d kept written cells room capacity does =
      let state = done_state (style_in m) (tree_in m) (plan_in m) ready.formed ready.fits (entries m.table) m.processors.items m.memory.items m.output.bytes p worker_here x lt read kept_here d y memory.items output.bytes does in
      let reached = subst (IsReached (model_of m)) (sym state) (reached_more (model_of m) (shown m) p (omega (arith, lt, ready.count)) ready.reached) in
      record {
        ready = ready_with loops memory output kept written cells room capacity reached;
        same = record { program = refl; plan = refl; style = refl; count = length-set m.processors.items p y };
        state = state;
        answer = stepped_answer (style_in m) (tree_in m) (plan_in m) ready.formed ready.fits (entries m.table) m.processors.items m.memory.items m.output.bytes p worker_here x lt read kept_here d (left_of y) does.left does.can;
      }

  -- nothing is done
  pub still_shown : ShowsSame (style_in m) (tree_in m) (plan_in m) ready.formed ready.fits (entries m.table) m.processors.items m.memory.items m.output.bytes p worker_here x lt read kept_here y → shown (with_parts m.loops m.memory m.output) ≡ shown m
  unfolding shown
  still_shown same = still_state (style_in m) (tree_in m) (plan_in m) ready.formed ready.fits (entries m.table) m.processors.items m.memory.items m.output.bytes p worker_here x lt read kept_here y same

  pub still_ready : IsKept (style_in m) (tree_in m) (plan_in m) (entries m.table) p y → room_of (tree_in m) y ≡ room_of (tree_in m) x →
      ShowsSame (style_in m) (tree_in m) (plan_in m) ready.formed ready.fits (entries m.table) m.processors.items m.memory.items m.output.bytes p worker_here x lt read kept_here y → IsMachine (with_parts m.loops m.memory m.output)
  still_ready kept room same = ready_with m.loops m.memory m.output kept refl refl (omega (arith, room)) (omega arith) (subst (IsReached (model_of m)) (sym (still_shown same)) ready.reached)

-- a code has filled its registers
pub code_filled : (old new : Parts) (p : ℕ) (said : StepAnswer) (registers : Vec ℤ Global) → length registers.items ≡ length new.code_registers.items → StepsTo old new p said → StepsTo old (record new { code_registers = registers }) p said
unfolding shown
code_filled old new p said registers same step =
    let ready = step.ready in
    record {
      ready = record {
        formed = ready.formed;
        ranges = ready.ranges;
        fits = ready.fits;
        table = ready.table;
        wide = ready.wide;
        codes = ready.codes;
        params = ready.params;
        loops = ready.loops;
        code_room = omega (arith, ready.code_room, same);
        cells = ready.cells;
        count = ready.count;
        kept = ready.kept;
        room = ready.room;
        reached = ready.reached;
      };
      same = record { program = step.same.program; plan = step.same.plan; style = step.same.style; count = step.same.count };
      state = step.state;
      answer = step.answer;
    }

-- a processor at its end
pub at_end : (m : Parts) → IsMachine m → (p : ℕ) → p < length m.processors.items → ComesNext m p End → (shown m ≡ stepped (model_of m) (shown m) p) × (Ended ≡ step_answer (model_of m) (shown m) p)
unfolding shown
at_end m ready p lt next =
    let (x, read) = picked m.processors.items p lt in
    let kept = kept_here m ready p x x lt read in
    let worker = worker_here m ready p x x lt read in
    let left = end_left (style_in m) (tree_in m) (plan_in m) (entries m.table) p x kept (next_here m ready p x x lt read End next) in (
      ended_state (style_in m) (tree_in m) (plan_in m) ready.formed ready.fits (entries m.table) m.processors.items m.memory.items m.output.bytes p worker x lt read kept left,
      ended_answer (style_in m) (tree_in m) (plan_in m) ready.formed ready.fits (entries m.table) m.processors.items m.memory.items m.output.bytes p worker x lt read kept left,
    )

-- what holds of a machine's model holds of that of another of the same program and plan, in the same style
pub along : (P : Timelines.Machine → Type 0) (m n : Parts) → IsSameMachine m n → P (model_of n) → P (model_of m)
along P m n same h =
    subst (λ (s : Style). P (machine_by s (tree_in m) (plan_in m))) same.style
    (subst (λ (q : Plan). P (machine_by (style_in n) (tree_in m) q)) same.plan (subst (λ (w : Tree). P (machine_by (style_in n) w (plan_in n))) same.program h))

pub model_is : (m n : Parts) → IsSameMachine m n → model_of n ≡ model_of m
model_is m n same =
    ap (λ (s : Style). machine_by s (tree_in n) (plan_in n)) same.style ∙ ap (λ (w : Tree). machine_by (style_in m) w (plan_in n)) same.program
    ∙ ap (λ (q : Plan). machine_by (style_in m) (tree_in m) q) same.plan

pub same_then : (m n o : Parts) → IsSameMachine m n → IsSameMachine n o → IsSameMachine m o
same_then m n o a b = record { program = b.program ∙ a.program; plan = b.plan ∙ a.plan; style = b.style ∙ a.style; count = b.count ∙ a.count }

-- a step behind a look at what comes next
pub steps_from : (m n o : Parts) (p : ℕ) (said : StepAnswer) → IsSameMachine m n → shown n ≡ shown m → StepsTo n o p said → StepsTo m o p said
steps_from m n o p said same state step = record {
  ready = step.ready;
  same = same_then m n o same step.same;
  state = step.state ∙ ap (λ (d : Timelines.Machine). stepped d (shown n) p) (model_is m n same) ∙ ap (λ s. stepped (model_of m) s p) state;
  answer = step.answer ∙ ap (λ (d : Timelines.Machine). step_answer d (shown n) p) (model_is m n same) ∙ ap (λ s. step_answer (model_of m) s p) state;
}

pub shared_is : (m n : Parts) → IsSameMachine m n → shared_in n ≡ shared_in m
shared_is m n same = ap cell_count same.program

-- the same with the count of cells that all share
pub along_shared : (P : Timelines.Machine → ℕ → Type 0) (m n : Parts) → IsSameMachine m n → P (model_of n) (shared_in n) → P (model_of m) (shared_in m)
along_shared P m n same h = subst (P (model_of m)) (shared_is m n same) (subst (λ (d : Timelines.Machine). P d (shared_in n)) (model_is m n same) h)

pub shown_count : (m : Parts) → length (shown m).positions ≡ length m.processors.items
unfolding shown
shown_count m = length-map m.processors.items (position_of (style_in m) (tree_in m) (plan_in m))

-- how much is done of what comes next
pub done_is : (m : Parts) (p n : ℕ) (x : Processor) → p < length m.processors.items → x ≡ get_or m.processors.items p x → x.done ≡ n → HasDone m p n
done_is m p n x lt read is = λ d. ap (λ (z : Processor). z.done) (sym (read ∙ get_or_default m.processors.items p x d lt)) ∙ is
