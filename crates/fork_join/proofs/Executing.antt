-- An instance that comes next, executed over a worker's cells.
use Rattle.std.proofs.Common.{◌≡◌, ℕ, suc, true, None, sum_by, ◌+◌, ◌≤◌, ◌<◌, List, [], ◌∷◌, ◌++◌, append-nil, drop, length, map, refl, sym, ◌∙◌, ap, subst, arith}
use Rattle.std.specs.List.{All, flat_map, list_all}
use Rattle.std.proofs.lemmas.List.Elements.{All-cons, All-nil}
use Rattle.std.proofs.lemmas.List.Sums.{sum_by-cons}
use Rattle.nest_tree.specs.Layout.{cell_count}
use Rattle.nest_tree.specs.Tree.{Tree}
use Rattle.nest_model.specs.Accesses.{cells_of}
use Rattle.nest_model.specs.Instances.{Instance}
use Rattle.nest_walk.specs.Cursors.{visit_at}
use Rattle.nest_walk.specs.Paths.{Round}
use Rattle.nest_walk.specs.declared.cursor.Stop.{Stop}
use Rattle.sync_plan.specs.Own.{own_loop, own_of}
use Rattle.sync_plan.specs.declared.plan.Plan.{Plan}
use Rattle.own_cells.specs.OwnCells.{AreFew}
use Rattle.spmd_model.specs.Deeds.{Deed, instance_deeds}
use Rattle.spmd_model.specs.MachineDeeds.{own_deeds}
use Rattle.spmd_model.specs.declared.style.Style.TheVariants.{Arrive}
use Rattle.spmd_model.specs.PlanProtocols.{printed_by, registers_by}
use Rattle.instance_runs.specs.Executors.{Begins, CanExecute, executor_output, executor_room, executor_tree}
use Rattle.instance_runs.specs.Rooms.{visit_room}
use Rattle.turns.specs.CounterTurns.{counter_room, CounterTurn, is_counter_inside, works}
use Rattle.turns.specs.CountersLeft.{counters_left}
use Rattle.instance_runs.specs.declared.execute.Executor.{Executor}
use Rattle.turns.specs.Turns.{Turn, runs, turn_deeds}
use Rattle.turns.specs.TurnsLeft.{PassesPlainly, turns_place}
use Rattle.turns.specs.declared.turns.NextOrPhase.TheVariants as Coming
use Rattle.turns.specs.declared.turns.Next.TheVariants as Nexts
use Rattle.fork_join.specs.Cursors.{ComesNext, IsCursor, IsSameCursor, cursor_left, cursor_turns}
use Rattle.fork_join.specs.Joins.{all_deeds}
use Rattle.fork_join.specs.SeenDeeds.{phase_deed}
use Rattle.fork_join.specs.Workers.{HasExecuted, IsCounterThere, IsWalking, Runs, turns_behind}
use Rattle.fork_join.specs.declared.cursor.Cursor.{Cursor}
use Rattle.fork_join.proofs.SeenDeeds.{visit_instances}
use Rattle.fork_join.proofs.Shutting.{plain_left}
use Rattle.fork_join.proofs.Turning.{tails}
use Rattle.fork_join.proofs.Walking.{NextHere, cut_off, insides, no_work_behind, seen_exactly, theirs, went_on}

module _ (tree : Tree) (plan : Plan) (n p done : ℕ) (left : List Instance) (c : Cursor) (x : Executor) (stop : Stop) (rounds : List Round) (h : NextHere tree plan n p done left c x stop rounds) (is_tree : executor_tree x ≡ tree) where
  abbrev i : Instance
  i = h.at.instance

  abbrev place : ℕ
  place = turns_place c.turns

  doing : List Deed
  doing = flat_map (turn_deeds tree plan p) h.later

  there : All (λ j. All (λ k. k < cell_count tree) (cells_of tree j)) (i ∷ [])
  there = All-cons (λ j. All (λ k. k < cell_count tree) (cells_of tree j)) i [] h.there (All-nil (λ j. All (λ k. k < cell_count tree) (cells_of tree j)))

  one_gone : drop done (all_deeds tree plan p) ≡ flat_map (own_deeds tree (own_of tree plan place) p) (i ∷ []) ++ doing
  unfolding doing
  one_gone = h.gone ∙ ap (λ l. l ++ flat_map (turn_deeds tree plan p) h.later) (sym (append-nil (own_deeds tree (own_of tree plan place) p i)))

  one_instance : (rest : List Deed) → flat_map (instance_deeds tree) (i ∷ []) ++ rest ≡ instance_deeds (executor_tree x) i ++ rest
  one_instance rest = ap (λ l. l ++ rest) (append-nil (instance_deeds tree i)) ∙ ap (λ t. instance_deeds t i ++ rest) (sym is_tree)

  -- as an instance has the deeds
  module _ (few : AreFew tree (own_loop tree plan place)) where
    abbrev seen : Deed → Deed
    seen = phase_deed tree plan place p

    seen_is : map seen (drop done (all_deeds tree plan p)) ≡ instance_deeds (executor_tree x) i ++ map seen doing
    seen_is = ap (map seen) one_gone ∙ visit_instances tree plan place p few (i ∷ []) doing there ∙ one_instance (map seen doing)

    pub begins_seen : Begins (executor_tree x) rounds stop (map seen (drop done (all_deeds tree plan p)))
    begins_seen = record { at = h.at; inside = h.inside; rest = map seen doing; is = seen_is }

    pub left_seen : (after : ℕ) → after ≤ length (all_deeds tree plan p) → map seen (drop after (all_deeds tree plan p)) ≡ begins_seen.rest → drop after (all_deeds tree plan p) ≡ flat_map (turn_deeds tree plan p) h.later
    unfolding doing begins_seen
    left_seen after within now =
        seen_exactly seen (all_deeds tree plan p) (flat_map (own_deeds tree (own_of tree plan place) p) (i ∷ [])) (flat_map (turn_deeds tree plan p) h.later) (instance_deeds (executor_tree x) i) done after one_gone within seen_is
        (seen_is ∙ ap (λ l. instance_deeds (executor_tree x) i ++ l) (sym now))

  -- it is done
  pub executed : (after : ℕ) (y : Executor) → drop after (all_deeds tree plan p) ≡ flat_map (turn_deeds tree plan p) h.later → after ≤ length (all_deeds tree plan p) → registers_by Arrive tree plan p after ≡ [] → CanExecute y → executor_tree y ≡ tree →
      executor_output y ≡ printed_by Arrive tree plan p after → executor_room x ≤ executor_room y → length (executor_output y) ≤ length (executor_output x) + visit_room (executor_tree x) (visit_at (executor_tree x) rounds stop) →
      length (executor_output x) + visit_room (executor_tree x) (visit_at (executor_tree x) rounds stop) ≤ executor_room x → HasExecuted tree plan p done after c x y
  executed after y left within idle can same output wider grown room = record {
    first = λ t rest e.
        let both : runs place i ∷ h.later ≡ t ∷ rest = sym h.turns ∙ e in
        let rests : h.later ≡ rest = cc in
        left ∙ ap (flat_map (turn_deeds tree plan p)) rests;
    within = within;
    idle = idle;
    can = can;
    executor = same;
    output = output;
    wider = wider;
    fits = omega (arith, grown, room, wider);
    grown = λ t rest e.
        let both : works i ∷ h.rest ≡ t ∷ rest = sym h.is ∙ e in
        let first : works i ≡ t = cc in
        let space = ap (counter_room tree) first in
        let here = h.room in
        omega (arith, grown, space, here);
  }

-- past an instance that is done
pub next_walks : (tree : Tree) (plan : Plan) (n p done after : ℕ) (left : List Instance) (d e : Cursor) (x y : Executor) (stop : Stop) → Runs tree plan p (map works left ++ turns_behind tree plan (suc n) p) done d x → ComesNext d (Coming.Turn (Nexts.Work stop)) → HasExecuted tree plan p done after d x y → IsCursor e → e.begins ≡ None →
    (t : Turn) × (cursor_turns d ≡ t ∷ cursor_turns e) → PassesPlainly d.turns e.turns (Nexts.Work stop) → IsSameCursor d e → IsWalking tree plan n p after e y × (length (cursor_left e) < length (cursor_left d))
next_walks tree plan n p done after left d e x y stop r comes did sound none passed plainly run =
    let plain = comes.1.2.next in
    let i = plain.0.instance in
    let rests : plain.1 ≡ counters_left e.turns.counters = tails (works i) plainly.0 plain.1 (counters_left e.turns.counters) (sym plain.2 ∙ plainly.1) in
    let left_d : cursor_left d ≡ works i ∷ cursor_left e = plain_left d comes.0 ∙ plain.2 ∙ ap (λ l. works i ∷ l) (rests ∙ sym (plain_left e none)) in
    let tail = turns_behind tree plan (suc n) p in
    let rest = cursor_left e in
    let stands : map works left ++ tail ≡ map works (i ∷ []) ++ rest = sym r.turns ∙ left_d in
    let cut = cut_off left (i ∷ []) tail rest (no_work_behind tree plan p (suc n)) stands in
    let all = insides tree (i ∷ []) rest (subst (λ (l : List CounterTurn). list_all (is_counter_inside tree) l ≡ true) stands r.inside) in
    let cells = theirs tree (i ∷ []) rest (subst (All (IsCounterThere tree)) stands r.there) in
    let runs = went_on tree plan p (map works left ++ tail) done after d e x y r sound run rest refl all.1 cells.1 (did.first passed.0 (cursor_turns e) passed.1) did.within did.idle did.can did.executor did.output did.fits
    (λ first.
    let most = r.room first in
    let sums = ap (sum_by (counter_room tree)) stands in
    let one = sum_by-cons (counter_room tree) (works i) rest in
    let grown = did.grown (works i) rest left_d in
    let wider = did.wider in
    omega (arith, most, sums, one, grown, wider)) in
    (record { left = cut.0; runs = subst (λ (l : List CounterTurn). Runs tree plan p l after e y) cut.2 runs }, omega (arith, ap (λ (l : List CounterTurn). length l) left_d))
