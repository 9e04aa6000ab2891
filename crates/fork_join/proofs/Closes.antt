-- A worker that closes an own scalar, once its stores are laid in.
use mathlib.Core.Logic.{∥∥₁_map}
use Rattle.std.proofs.Common.{◌≡◌, ℕ, ℤ, pos, suc, ◌+◌, ◌<◌, nat_le, true, false, List, ◌∷◌, ◌++◌, drop, length, set, Some, None, if◌then◌else◌, sym, ◌∙◌, ap, subst, arith}
use Rattle.std.specs.List.{flat_map}
use Rattle.std.proofs.lemmas.Bool.{leb-true, leb-false, lt-ltb}
use Rattle.nest_tree.specs.Layout.{cell_count, first_cell}
use Rattle.nest_tree.specs.Tree.{Tree}
use Rattle.nest_model.specs.Memory.{cell_value}
use Rattle.sync_plan.specs.Own.{own_loop}
use Rattle.sync_plan.specs.declared.plan.Plan.{Plan}
use Rattle.own_cells.specs.OwnCells.{shared_cell}
use Rattle.own_cells.specs.declared.cells.OwnCells.{OwnCells}
use Rattle.spmd_model.specs.Cells.{plus}
use Rattle.spmd_model.specs.Deeds.{Deed}
use Rattle.spmd_model.specs.MachineDeeds.{keeping_deeds, totalling_deeds}
use Rattle.spmd_model.specs.Lawful.{put}
use Rattle.instance_runs.specs.declared.progress.Progress.{Progress}
use Rattle.instance_runs.specs.declared.execute.Executor.{Executor}
use Rattle.turns.specs.Turns.{Turn, closes, scalar_at, turn_deeds}
use Rattle.turns.specs.TurnsLeft.{PassesPlainly, turns_own, turns_place}
use Rattle.turns.specs.declared.turns.NextOrPhase.{NextOrPhase}
use Rattle.turns.specs.declared.turns.NextOrPhase.TheVariants as Coming
use Rattle.turns.specs.declared.turns.Next.TheVariants.{Close}
use Rattle.turns.proofs.OwnPlaces.{not_small, scalar_below, shared_there}
use Rattle.fork_join.specs.Cursors.{ComesNext, IsCursor, IsSameCursor, IsShut, cursor_left, cursor_plan, cursor_tree, cursor_turns}
use Rattle.fork_join.specs.Joins.{IsSafe, all_deeds, joined, own_place, protocol}
use Rattle.fork_join.specs.Workers.{IsAt, IsClosing, Runs, turns_behind}
use Rattle.fork_join.specs.declared.cursor.Cursor.{Cursor}
use Rattle.fork_join.specs.declared.worker.Worker.{Worker}
use Rattle.fork_join.proofs.Closing.{Closed, keeps_lawful, kept, totalled, totals_lawful}
use Rattle.fork_join.proofs.Running.{laid_more, sized}
use Rattle.fork_join.proofs.Shutting.{plain_left, shut_by, shut_place}
use Rattle.fork_join.proofs.Turning.{looked}
use Rattle.fork_join.proofs.Walking.{no_work_behind}

same_later : (t s : Turn) (ts ss : List Turn) → t ∷ ts ≡ s ∷ ss → ts ≡ ss
same_later t s ts ss is = cc

module _ {tree : Tree} {plan : Plan} {n p : ℕ} {memory : List ℤ} {w : Worker} (closing : IsClosing tree plan n p memory w) (k : ℕ) (comes : ComesNext w.turns (Coming.Turn (Close k))) where
  pub small : k < 32
  small = comes.1.1.small

  -- the cell that all share
  abbrev pub to : ℕ
  to = first_cell tree (scalar_at (own_loop tree plan (turns_place w.turns.turns)) k)

  abbrev there : ℕ
  there = first_cell (cursor_tree w.turns) (scalar_at (own_loop (cursor_tree w.turns) (cursor_plan w.turns) (turns_place w.turns.turns)) k)

  abbrev Both : Type 0
  Both = Tree × Plan

  both_is : ◌≡◌ {A = Both} (cursor_tree w.turns, cursor_plan w.turns) (tree, plan)
  both_is = λ i. (closing.stands.runs.program i, closing.stands.runs.plan_is i)

  there_is : there ≡ to
  there_is = ap (λ (z : Both). first_cell z.0 (scalar_at (own_loop z.0 z.1 (turns_place w.turns.turns)) k)) both_is

  pub cell_there : (own : OwnCells) → own ≡ turns_own w.turns.turns → shared_cell own k ≡ Some to
  cell_there own is = ap (λ (o : OwnCells). shared_cell o k) is ∙ shared_there w.turns.turns closing.stands.runs.sound.sound k comes.1.1 ∙ ap (λ x. Some x) there_is

  pub cell_is : (own : OwnCells) (x : ℕ) → own ≡ turns_own w.turns.turns → shared_cell own k ≡ Some x → x ≡ to
  cell_is own x is at = let both : Some x ≡ Some to = sym at ∙ cell_there own is in cc

  to_below : to < cell_count tree
  to_below = subst (λ (z : Both). first_cell z.0 (scalar_at (own_loop z.0 z.1 (turns_place w.turns.turns)) k) < cell_count z.0) both_is (scalar_below w.turns.turns closing.stands.runs.sound.sound k comes.1.1)

  pub cell_inside : IsSafe tree plan → (own : OwnCells) (x : ℕ) → own ≡ turns_own w.turns.turns → shared_cell own k ≡ Some x → x < length memory
  cell_inside safe own x is at =
      let cell = cell_is own x is at in
      let below = to_below in
      let long = sized tree plan safe memory (put (joined tree plan n p) p w.done.done) closing.lawful in
      omega (arith, cell, below, long)

  -- what is left behind the closing
  rest : List Deed
  rest = flat_map (turn_deeds tree plan p) comes.1.0.0

  first_deeds : drop w.done.done (all_deeds tree plan p) ≡ turn_deeds tree plan p (closes (turns_place w.turns.turns) k) ++ rest
  unfolding rest
  first_deeds = closing.stands.runs.deeds ∙ ap (flat_map (turn_deeds tree plan p)) comes.1.0.1

  keeping : nat_le 16 k ≡ false → drop w.done.done (all_deeds tree plan p) ≡ keeping_deeds (own_place tree p k) to ++ rest
  keeping is = first_deeds ∙ ap (λ b. (if b then keeping_deeds (own_place tree p k) to else totalling_deeds (own_place tree p k) to) ++ rest) (lt-ltb k 16 (leb-false 16 k is))

  totalling : nat_le 16 k ≡ true → drop w.done.done (all_deeds tree plan p) ≡ totalling_deeds (own_place tree p k) to ++ rest
  totalling is = first_deeds ∙ ap (λ b. (if b then keeping_deeds (own_place tree p k) to else totalling_deeds (own_place tree p k) to) ++ rest) (not_small k (leb-true 16 k is))

  module _ (d : Cursor) (none : d.begins ≡ None) (passed : (u : Turn) × (cursor_turns w.turns ≡ u ∷ cursor_turns d)) where
    pub nearer : length (cursor_turns d) < length (cursor_turns w.turns)
    nearer = omega (arith, ap (λ (l : List Turn). length l) passed.1)

    -- the worker behind it
    module _ (sound : IsCursor d) (plainly : PassesPlainly w.turns.turns d.turns (Close k)) (run : IsSameCursor w.turns d) where
      closed_runs : (own : List ℤ) (done : Progress) → Closed tree plan p rest own w.done.done done.done → Runs tree plan p (turns_behind tree plan (suc n) p) done.done d w.executor
      unfolding rest
      closed_runs own done closed =
          let r = closing.stands.runs in
          let later : comes.1.0.0 ≡ cursor_turns d = same_later (closes (turns_place w.turns.turns) k) passed.0 comes.1.0.0 (cursor_turns d) (sym comes.1.0.1 ∙ passed.1) in
          record {
            sound = sound;
            program = run.program ∙ r.program;
            plan_is = run.plan ∙ r.plan_is;
            processor = run.processor ∙ r.processor;
            turns = plain_left d none ∙ plainly ∙ sym (plain_left w.turns comes.0) ∙ r.turns;
            inside = r.inside;
            there = r.there;
            deeds = closed.left ∙ ap (flat_map (turn_deeds tree plan p)) later;
            within = closed.within;
            idle = closed.idle;
            can = r.can;
            executor = r.executor;
            output = r.output ∙ sym closed.printed;
            fits = r.fits;
            room = r.room;
          }

      closed_behind : (own cells : List ℤ) (done : Progress) → Closed tree plan p rest own w.done.done done.done → ∥ (protocol tree plan).lawful cells (put (joined tree plan n p) p done.done) ∥₁ → IsClosing tree plan n p cells (record w { turns = d; own = own; done = done })
      closed_behind own cells done closed lawful =
          let b = closing.stands in
          record {
            stands = record { program = b.program; plan_is = b.plan_is; processor = b.processor; runs = closed_runs own done closed; kept = b.kept; cells = b.cells; holds = closed.holds };
            none = closing.none;
            lawful = lawful;
          }

      module _ (safe : IsSafe tree plan) (below : p < plan.workers) (done : Progress) (cells : List ℤ) where
        -- where the cell that all share has what a private scalar's own one holds
        pub private_closed : nat_le 16 k ≡ false → done.done ≡ w.done.done + 2 → cells ≡ set memory to (cell_value w.own k) → IsClosing tree plan n p cells (record w { turns = d; done = done })
        private_closed is more written =
            let b = closing.stands in
            closed_behind w.own cells done
            (subst (Closed tree plan p rest w.own w.done.done) (sym more) (kept tree plan safe p w.done.done k to below small to_below w.own b.holds b.runs.idle rest (keeping is)))
            (∥∥₁_map closing.lawful (λ lawful.
            subst (λ (m : List ℤ). (protocol tree plan).lawful m (put (joined tree plan n p) p done.done)) (sym written)
            (subst (λ (j : ℕ). (protocol tree plan).lawful (set memory to (cell_value w.own k)) (put (joined tree plan n p) p j)) (sym more)
            (keeps_lawful tree plan safe p w.done.done k to below small to_below w.own b.holds b.runs.idle rest (keeping is) memory (joined tree plan n p) lawful))))

        -- where it has that more of a sum scalar, whose own cell begins again
        pub sum_closed : nat_le 16 k ≡ true → k < length w.own → done.done ≡ w.done.done + 3 → cells ≡ set memory to (plus (cell_value memory to) (cell_value w.own k)) → IsClosing tree plan n p cells (record w { turns = d; own = set w.own k (pos 0); done = done })
        sum_closed is inside more written =
            let b = closing.stands in
            closed_behind (set w.own k (pos 0)) cells done
            (subst (Closed tree plan p rest (set w.own k (pos 0)) w.done.done) (sym more) (totalled tree plan safe p w.done.done k to below small to_below w.own b.holds b.runs.idle rest inside (totalling is)))
            (∥∥₁_map closing.lawful (λ lawful.
            subst (λ (m : List ℤ). (protocol tree plan).lawful m (put (joined tree plan n p) p done.done)) (sym written)
            (subst (λ (j : ℕ). (protocol tree plan).lawful (set memory to (plus (cell_value memory to) (cell_value w.own k))) (put (joined tree plan n p) p j)) (sym more)
            (totals_lawful tree plan safe p w.done.done k to below small to_below w.own b.holds b.runs.idle rest inside (totalling is) memory (joined tree plan n p) lawful))))

-- ---- a worker whose cursor has looked

module _ (tree : Tree) (plan : Plan) (safe : IsSafe tree plan) (n p : ℕ) (below : p < plan.workers) where
  pub seen_closing : (memory : List ℤ) (w : Worker) (d : Cursor) → IsClosing tree plan n p memory w → IsCursor d → cursor_left d ≡ cursor_left w.turns → cursor_turns d ≡ cursor_turns w.turns → IsSameCursor w.turns d → IsClosing tree plan n p memory (record w { turns = d })
  seen_closing memory w d b sound left turns run = record {
    stands = record {
      program = b.stands.program;
      plan_is = b.stands.plan_is;
      processor = b.stands.processor;
      runs = looked tree plan p (turns_behind tree plan (suc n) p) w.done.done w.turns d w.executor b.stands.runs sound left turns run;
      kept = b.stands.kept;
      cells = b.stands.cells;
      holds = b.stands.holds;
    };
    none = b.none;
    lawful = b.lawful;
  }

  -- no closing comes next, and so none is left
  pub shut_now : (done : ℕ) (d : Cursor) (x : Executor) (next : NextOrPhase) → Runs tree plan p (turns_behind tree plan (suc n) p) done d x → ComesNext d next → ((k : ℕ) → next ≡ Coming.Turn (Close k) → ⊥) → IsShut d
  shut_now done d x next r comes none = shut_by d r.sound next comes (λ stop is.
      let work = subst (ComesNext d) is comes in
      let plain = work.1.2.next in
      no_work_behind tree plan p (suc n) plain.0.instance plain.1 (sym r.turns ∙ plain_left d work.0 ∙ plain.2)) none

  -- its worker is in front of the next phase
  pub closed_at : (memory : List ℤ) (w : Worker) → IsClosing tree plan n p memory w → IsShut w.turns → IsAt tree plan (suc n) p w × ∥ (protocol tree plan).lawful memory (joined tree plan n (suc p)) ∥₁
  closed_at memory w b shut = (
    record { stands = b.stands; none = b.none; shut = shut },
    laid_more tree plan safe n p w.done.done memory (shut_place tree plan safe (suc n) p below w.done.done w.turns w.executor b.stands.runs shut) b.lawful,
  )
