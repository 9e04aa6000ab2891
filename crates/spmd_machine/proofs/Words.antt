-- A turn that sets a word of the processor's own, or awaits another's.
use Rattle.std.proofs.Common.{◌≡◌, ℕ, ◌<◌, true, nat_le, List, [], ◌∷◌, length, get_or, set, refl, sym, ◌∙◌, ap, subst, arith}
use Rattle.std.specs.Prelude.{slice_index}
use Rattle.nest_walk.specs.Tables.{entries}
use Rattle.spmd_model.specs.Deeds.{Deed, posting, awaiting, can_do, did}
use Rattle.spmd_model.specs.States.{State, words_of}
use Rattle.spmd_model.specs.Timelines.{Word, counter, signal}
use Rattle.turns.specs.Turns.{Turn, sets, waits, turn_deeds}
use Rattle.turns.specs.TurnsLeft.{turns_left, turns_plan, turns_processor, turns_tree}
use Rattle.spmd_machine.specs.Machines.{IsMachine, StepsTo, plan_in, style_in, tree_in}
use Rattle.spmd_machine.specs.Processors.{IsIdle, IsKept, PassesTurn, state_of}
use Rattle.spmd_machine.specs.declared.answer.StepAnswer.TheVariants.{Stepped}
use Rattle.spmd_machine.specs.declared.parts.Parts.{Parts}
use Rattle.spmd_machine.specs.declared.processor.Processor.{Processor}
use Rattle.spmd_machine.proofs.Kept.{first_is, left_turn, passed_kept, room_passed, set_idle, wait_idle}
use Rattle.spmd_machine.proofs.OwnMemory.{same_memory}
use Rattle.spmd_machine.proofs.Ready.{kept_here, steps, with_parts, worker_here}
use Rattle.spmd_machine.proofs.Steps.{same_counters, same_registers, same_signals}

module _ (m : Parts) (ready : IsMachine m) (p : ℕ) (x y : Processor) (lt : p < length m.processors.items) (read : x ≡ get_or m.processors.items p x) where
  abbrev here : State
  here = state_of (style_in m) (tree_in m) (plan_in m) m.processors.items m.memory.items m.output.bytes

  abbrev kept : IsKept (style_in m) (tree_in m) (plan_in m) (entries m.table) p x
  kept = kept_here m ready p x y lt read

  -- what a deed of words leaves as it is
  record KeepsRest (d : Deed) : Type 0 where
    registers : (did here p d).registers ≡ here.registers
    memory_is : (did here p d).memory ≡ here.memory
    output_is : (did here p d).output ≡ here.output

  -- a turn of one deed of words, of which nothing was done
  word_steps : (d : Deed) (turn t : Turn) (rest : List Turn) → turns_left x.turns ≡ turn ∷ rest → IsIdle x → PassesTurn x y t → y.own ≡ x.own → turn_deeds (turns_tree x.turns) (turns_plan x.turns) (turns_processor x.turns) turn ≡ d ∷ [] →
      can_do here d ≡ true → KeepsRest d → set here.counters p y.counter ≡ (did here p d).counters → set here.signals p y.signal ≡ (did here p d).signals →
      StepsTo m (with_parts m ready p x y lt read m.loops m.memory m.output) p Stepped
  word_steps d turn t rest next idle passed own deed can keeps counters signals =
      let same = first_is (turns_left x.turns) turn t rest (turns_left y.turns) next passed.turns in
      let passes : PassesTurn x y turn = subst (PassesTurn x y) (sym same.0) passed in
      let left = left_turn (style_in m) (tree_in m) (plan_in m) (entries m.table) p x kept y turn d passes deed idle.none_done in
      let room = room_passed (style_in m) (tree_in m) (plan_in m) (entries m.table) p x kept y turn passes.turns in
      let cells : length y.own ≡ 32 = ap length own ∙ kept.own_cells in
      steps m ready p x y lt read m.loops m.memory m.output d (passed_kept (style_in m) (tree_in m) (plan_in m) (entries m.table) p x kept ready.wide y turn d passes cells left) refl refl (omega (arith, room)) (omega arith)
      (record {
        left = left;
        processor = passes.processor ∙ kept.processor;
        can = can;
        registers = same_registers (style_in m) (tree_in m) (plan_in m) ready.formed ready.fits (entries m.table) m.processors.items m.memory.items m.output.bytes p (worker_here m ready p x y lt read) x lt read kept y (passes.idle.empty ∙ sym idle.empty) ∙ sym keeps.registers;
        counters = counters;
        signals = signals;
        memory_is = same_memory m.processors.items m.memory.items p x lt read y own ∙ sym keeps.memory_is;
        output_is = sym keeps.output_is;
      })

  counter_stays : y.counter ≡ x.counter → set here.counters p y.counter ≡ here.counters
  counter_stays e = same_counters (style_in m) (tree_in m) (plan_in m) ready.formed ready.fits (entries m.table) m.processors.items m.memory.items m.output.bytes p (worker_here m ready p x y lt read) x lt read kept y e

  signal_stays : y.signal ≡ x.signal → set here.signals p y.signal ≡ here.signals
  signal_stays e = same_signals (style_in m) (tree_in m) (plan_in m) ready.formed ready.fits (entries m.table) m.processors.items m.memory.items m.output.bytes p (worker_here m ready p x y lt read) x lt read kept y e

  pub post_steps : (number : ℕ) (t : Turn) (rest : List Turn) → turns_left x.turns ≡ sets counter number ∷ rest → PassesTurn x y t → y.own ≡ x.own → y.counter ≡ number → y.signal ≡ x.signal → StepsTo m (with_parts m ready p x y lt read m.loops m.memory m.output) p Stepped
  post_steps number t rest next passed own set_to stays =
      word_steps (posting counter number) (sets counter number) t rest next (set_idle (style_in m) (tree_in m) (plan_in m) (entries m.table) p x kept counter number rest next) passed own refl refl (record { registers = refl; memory_is = refl; output_is = refl })
      (ap (set here.counters p) set_to) (signal_stays stays)

  pub signal_steps : (number : ℕ) (t : Turn) (rest : List Turn) → turns_left x.turns ≡ sets signal number ∷ rest → PassesTurn x y t → y.own ≡ x.own → y.counter ≡ x.counter → y.signal ≡ number → StepsTo m (with_parts m ready p x y lt read m.loops m.memory m.output) p Stepped
  signal_steps number t rest next passed own stays set_to =
      word_steps (posting signal number) (sets signal number) t rest next (set_idle (style_in m) (tree_in m) (plan_in m) (entries m.table) p x kept signal number rest next) passed own refl refl (record { registers = refl; memory_is = refl; output_is = refl })
      (counter_stays stays) (ap (set here.signals p) set_to)

  pub await_steps : (word : Word) (on wanted : ℕ) (t : Turn) (rest : List Turn) → turns_left x.turns ≡ waits word on wanted ∷ rest → PassesTurn x y t → y.own ≡ x.own → y.counter ≡ x.counter → y.signal ≡ x.signal →
      nat_le wanted (slice_index (words_of here word) on) ≡ true → StepsTo m (with_parts m ready p x y lt read m.loops m.memory m.output) p Stepped
  await_steps word on wanted t rest next passed own counts signals can =
      word_steps (awaiting word on wanted) (waits word on wanted) t rest next (wait_idle (style_in m) (tree_in m) (plan_in m) (entries m.table) p x kept word on wanted rest next) passed own refl can (record { registers = refl; memory_is = refl; output_is = refl })
      (counter_stays counts) (signal_stays signals)
