-- Processors at their first turns.
use Rattle.std.proofs.Common.{◌≡◌, ℕ, suc, ◌+◌, ◌*◌, ◌<◌, ◌≤◌, ℤ, pos, true, List, [], ◌∷◌, ◌++◌, map, get_or, length, replicate, Some, refl, sym, ◌∙◌, ap, subst, arith, sum_by}
use Rattle.std.specs.Prelude.{slice_get}
use Rattle.std.specs.List.{flat_map, list_all, range_with_len}
use Rattle.std.proofs.lemmas.List.{length-replicate, replicate-append-replicate}
use Rattle.std.proofs.lemmas.List.Elements.{All-nil}
use Rattle.std.proofs.lemmas.List.Sums.{sum_by-cons}
use Rattle.nest_tree.specs.Layout.{cell_count}
use Rattle.nest_tree.specs.Limits.{IsWithinLimits}
use Rattle.nest_tree.specs.Tree.{Tree}
use Rattle.nest_tree.specs.WellFormed.{IsWellFormed}
use Rattle.nest_model.specs.Instances.{instances}
use Rattle.nest_model.specs.Ranges.{IsInRange, is_instance_inside}
use Rattle.nest_walk.specs.declared.table.WorkCells.{WorkCells}
use Rattle.owner_partition.specs.Phases.{phases}
use Rattle.sync_plan.specs.Fit.{IsFit}
use Rattle.sync_plan.specs.declared.plan.Plan.{Plan}
use Rattle.spmd_model.specs.States.{State, first_state}
use Rattle.spmd_model.specs.Machines.{machine_by}
use Rattle.spmd_model.specs.declared.style.Style.{Style}
use Rattle.spmd_model.proofs.MachineDeeds.{acts_do}
use Rattle.spmd_model.proofs.StateAt.{same_state}
use Rattle.instance_runs.specs.Loads.{AreWide, widths}
use Rattle.instance_runs.specs.Rooms.{longest_output}
use Rattle.turns.specs.CounterTurns.{counter_room, is_counter_inside, counter_turns}
use Rattle.turns.proofs.PhaseSums.{all_inside, rooms_below}
use Rattle.turns.specs.Turns.{first_standing, turn_deeds, turn_room}
use Rattle.turns.specs.TurnsLeft.{turns_left, turns_plan, turns_processor}
use Rattle.turns.proofs.TurnRooms.{turn_rooms, turn_runs}
use Rattle.turns.proofs.TurnsAct.{turns_act}
use Rattle.spmd_machine.specs.Machines.{IsReached}
use Rattle.spmd_machine.specs.Processors.{IsFoundNext, IsFresh, IsKept, all_of, is_turn_inside, left_of, position_of, room_of, state_of}
use Rattle.spmd_machine.specs.declared.processor.Processor.{Processor}
use Rattle.spmd_machine.proofs.Kept.{idle_begun, left_idle}

map_same : {Y : Type 0} (f : Processor → Y) (ps : List Processor) (y : Y) → ((p : ℕ) (d : Processor) → p < length ps → f (get_or ps p d) ≡ y) → map f ps ≡ replicate (length ps) y
map_same f [] y h = refl
map_same f (x ∷ ps) y h = ap (λ z. z ∷ map f ps) (h 0 x (omega arith)) ∙ ap (λ zs. y ∷ zs) (map_same f ps y (λ p d lt. h (suc p) d (omega arith)))

same_sums : (f : Processor → ℕ) (g : ℕ → ℕ) (ps : List Processor) (a : ℕ) → ((p : ℕ) (d : Processor) → p < length ps → f (get_or ps p d) ≡ g (a + p)) → sum_by f ps ≡ sum_by g (range_with_len a (length ps))
same_sums f g [] a h = refl
same_sums f g (x ∷ ps) a h =
    let first : f x ≡ g a = h 0 x (omega arith) ∙ ap g (omega arith) in
    omega (arith, sum_by-cons f x ps, sum_by-cons g a (range_with_len (a + 1) (length ps)), first, same_sums f g ps (a + 1) (λ p d lt. h (suc p) d (omega arith) ∙ ap g (omega arith)))

own_zeros : (ps : List Processor) → ((p : ℕ) (d : Processor) → p < length ps → (get_or ps p d).own ≡ replicate 32 (pos 0)) → flat_map (λ (x : Processor). x.own) ps ≡ replicate (32 * length ps) (pos 0)
own_zeros [] h = let none : 0 ≡ 32 * 0 = omega arith in ap (λ n. replicate n (pos 0)) none
own_zeros (x ∷ ps) h =
    let more : 32 + 32 * length ps ≡ 32 * suc (length ps) = omega arith in
    ap (λ l. l ++ flat_map (λ (z : Processor). z.own) ps) (h 0 x (omega arith)) ∙ ap (λ l. replicate 32 (pos 0) ++ l) (own_zeros ps (λ p d lt. h (suc p) d (omega (arith, lt))))
    ∙ replicate-append-replicate 32 (32 * length ps) (pos 0) ∙ ap (λ n. replicate n (pos 0)) more

-- ---- fresh processors

module _ (style : Style) (tree : Tree) (plan : Plan) (size : ℕ) (formed : IsWellFormed tree) (limits : IsWithinLimits tree) (fits : IsFit tree plan) (ranges : IsInRange tree) where
  fresh_left : (p : ℕ) (x : Processor) → p < plan.workers → IsFresh style tree plan size p x → left_of x ≡ all_of style tree plan p
  unfolding all_of
  fresh_left p x worker f =
      left_idle x f.idle.none_done ∙ ap (λ (w : Tree). flat_map (turn_deeds w (turns_plan x.turns) (turns_processor x.turns)) (turns_left x.turns)) f.program
      ∙ ap (λ (q : Plan). flat_map (turn_deeds tree q (turns_processor x.turns)) (turns_left x.turns)) f.plan_is ∙ ap (λ n. flat_map (turn_deeds tree plan n) (turns_left x.turns)) f.processor
      ∙ ap (flat_map (turn_deeds tree plan p)) f.turns ∙ turns_act style tree plan p formed limits fits ranges worker ∙ acts_do style tree plan p formed fits worker

  fresh_position : (p : ℕ) (x : Processor) → p < plan.workers → IsFresh style tree plan size p x → position_of style tree plan x ≡ 0
  unfolding position_of
  fresh_position p x worker f = let left = fresh_left p x worker f in omega (arith, ap length left, ap (λ n. length (all_of style tree plan n)) f.processor)

  fresh_room : (p : ℕ) (x : Processor) → IsFresh style tree plan size p x → room_of tree x ≡ sum_by (counter_room tree) (counter_turns tree plan p 1 (phases tree plan.cut.marks))
  unfolding room_of
  fresh_room p x f = ap (sum_by (turn_room tree)) f.turns ∙ turn_rooms style tree plan p first_standing (counter_turns tree plan p 1 (phases tree plan.cut.marks))

  pub kept_fresh : (entries : List WorkCells) (p : ℕ) (x : Processor) → p < plan.workers → AreWide entries → list_all (is_instance_inside tree) (instances tree) ≡ true → ((n : ℕ) (cells : WorkCells) → slice_get entries n ≡ Some cells → widths cells.loads.items ≤ size) → 1 ≤ size → IsFresh style tree plan size p x →
      IsKept style tree plan entries p x
  kept_fresh entries p x worker wide inside most some f = record {
    sound = f.sound;
    program = f.program;
    plan_is = f.plan_is;
    processor = f.processor;
    style_is = f.style_is;
    behind = record { front = []; is = sym (fresh_left p x worker f) };
    instance = subst (IsFoundNext x.turns) (sym f.none_found) tt;
    begun = idle_begun entries wide (turns_left x.turns) x f.idle;
    inside = ap (list_all (is_turn_inside tree)) f.turns ∙ turn_runs style tree plan p (is_instance_inside tree) (is_counter_inside tree) (λ n. refl) (λ on n. refl) (λ e. refl) (λ i. refl) first_standing (counter_turns tree plan p 1 (phases tree plan.cut.marks)) ∙ all_inside tree plan p inside;
    own_cells = ap length f.own_cells ∙ length-replicate 32 (pos 0);
    room = λ n cells at. omega (arith, most n cells at, f.room);
    room_to_close = omega (arith, some, f.room);
  }

  module _ (ps : List Processor) (count : length ps ≡ plan.workers) (fresh : (p : ℕ) (d : Processor) → p < length ps → IsFresh style tree plan size p (get_or ps p d)) where
    pub fresh_rooms : sum_by (room_of tree) ps ≤ longest_output tree
    fresh_rooms =
        let each = same_sums (room_of tree) (λ p. sum_by (counter_room tree) (counter_turns tree plan p 1 (phases tree plan.cut.marks))) ps 0
        (λ p d lt. fresh_room p (get_or ps p d) (fresh p d lt) ∙ ap (λ n. sum_by (counter_room tree) (counter_turns tree plan n 1 (phases tree plan.cut.marks))) (omega arith)) in
        omega (arith, each, ap (λ n. sum_by (λ p. sum_by (counter_room tree) (counter_turns tree plan p 1 (phases tree plan.cut.marks))) (range_with_len 0 n)) count, rooms_below tree plan)

    pub first_is : (memory : List ℤ) (output : List ℕ) → memory ≡ replicate (cell_count tree) (pos 0) → output ≡ [] → state_of style tree plan ps memory output ≡ first_state (machine_by style tree plan)
    first_is memory output zeros none =
        let own = own_zeros ps (λ p d lt. (fresh p d lt).own_cells) ∙ ap (λ n. replicate (32 * n) (pos 0)) count in
        same_state
        (map_same (position_of style tree plan) ps 0 (λ p d lt. fresh_position p (get_or ps p d) (omega (arith, lt, count)) (fresh p d lt)) ∙ ap (λ n. replicate n 0) count)
        (map_same (λ (x : Processor). x.registers.items) ps [] (λ p d lt. (fresh p d lt).idle.empty) ∙ ap (λ n. replicate n []) count)
        (map_same (λ (x : Processor). x.counter) ps 0 (λ p d lt. (fresh p d lt).counter) ∙ ap (λ n. replicate n 0) count)
        (map_same (λ (x : Processor). x.signal) ps 0 (λ p d lt. (fresh p d lt).signal) ∙ ap (λ n. replicate n 0) count)
        (ap (λ l. l ++ flat_map (λ (x : Processor). x.own) ps) zeros ∙ ap (λ l. replicate (cell_count tree) (pos 0) ++ l) own ∙ replicate-append-replicate (cell_count tree) (32 * plan.workers) (pos 0))
        none

pub reached_first : (style : Style) (tree : Tree) (plan : Plan) (s : State) → s ≡ first_state (machine_by style tree plan) → IsReached (machine_by style tree plan) s
reached_first style tree plan s is = record { schedule = []; workers = All-nil (λ p. p < plan.workers); run = is }
