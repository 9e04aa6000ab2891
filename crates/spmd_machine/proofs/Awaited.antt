-- Whose word a step reads.
use Rattle.std.proofs.Common.{◌≡◌, ℕ, ◌<◌, ◌∷◌, List, get_or, length, Some, map, ap, sym, ◌∙◌, arith}
use Rattle.std.specs.Prelude.{slice_index}
use Rattle.std.specs.List.{flat_map}
use Rattle.std.proofs.lemmas.List.{get_or-map}
use Rattle.nest_walk.specs.Tables.{entries}
use Rattle.spmd_model.specs.Deeds.{Deed, awaiting}
use Rattle.spmd_model.specs.Timelines.{Word}
use Rattle.spmd_model.specs.Acts.{await, act_at}
use Rattle.spmd_model.proofs.Counters.{awaited_post}
use Rattle.spmd_model.proofs.MachineOrder.{sound_by}
use Rattle.spmd_model.proofs.Deeds.{await_is}
use Rattle.turns.specs.Turns.{Turn, waits, turn_deeds}
use Rattle.turns.specs.TurnsLeft.{turns_left, turns_plan, turns_processor, turns_tree}
use Rattle.spmd_machine.specs.Machines.{IsMachine, model_of, plan_in, style_in, tree_in}
use Rattle.spmd_machine.specs.Processors.{IsKept, left_of, state_of}
use Rattle.spmd_machine.specs.declared.parts.Parts.{Parts}
use Rattle.spmd_machine.specs.declared.processor.Processor.{Processor}
use Rattle.spmd_machine.proofs.Kept.{left_idle, wait_idle}
use Rattle.spmd_machine.proofs.Ready.{kept_here, worker_here}
use Rattle.spmd_machine.proofs.Steps.{next_from}

module _ (m : Parts) (ready : IsMachine m) (p : ℕ) (x : Processor) (lt : p < length m.processors.items) (read : x ≡ get_or m.processors.items p x) (word : Word) (on wanted : ℕ) (rest : List Turn) (next : turns_left x.turns ≡ waits word on wanted ∷ rest) where
  kept : IsKept (style_in m) (tree_in m) (plan_in m) (entries m.table) p x
  kept = kept_here m ready p x x lt read

  abbrev pub behind_it : List Deed
  behind_it = flat_map (turn_deeds (turns_tree x.turns) (turns_plan x.turns) (turns_processor x.turns)) rest

  pub await_left : left_of x ≡ awaiting word on wanted ∷ behind_it
  await_left = left_idle x (wait_idle (style_in m) (tree_in m) (plan_in m) (entries m.table) p x kept word on wanted rest next).none_done ∙ ap (flat_map (turn_deeds (turns_tree x.turns) (turns_plan x.turns) (turns_processor x.turns))) next

  -- it awaits a processor
  pub awaits_processor : on < length m.processors.items
  awaits_processor =
      let s = state_of (style_in m) (tree_in m) (plan_in m) m.processors.items m.memory.items m.output.bytes in
      let n = next_from (style_in m) (tree_in m) (plan_in m) ready.formed ready.fits (entries m.table) m.processors.items m.memory.items m.output.bytes p (worker_here m ready p x x lt read) x lt read kept (awaiting word on wanted) behind_it await_left in
      let act : act_at (model_of m) p (slice_index s.positions p) ≡ Some (await word on wanted) = n.there ∙ ap (λ a. Some a) (await_is (model_of m) n.element word on wanted n.is) in
      let below = (awaited_post (model_of m) word p (slice_index s.positions p) on wanted (sound_by (style_in m) (tree_in m) (plan_in m) ready.formed ready.fits) (worker_here m ready p x x lt read) act).0 in
      omega (arith, below, ready.count)

-- words that are read
pub counter_read : (ps : List Processor) (on : ℕ) (z : Processor) → on < length ps → z ≡ get_or ps on z → slice_index (map (λ (x : Processor). x.counter) ps) on ≡ z.counter
counter_read ps on z lt is = get_or-map (λ (x : Processor). x.counter) ps on z 0 lt ∙ ap (λ (x : Processor). x.counter) (sym is)

pub signal_read : (ps : List Processor) (on : ℕ) (z : Processor) → on < length ps → z ≡ get_or ps on z → slice_index (map (λ (x : Processor). x.signal) ps) on ≡ z.signal
signal_read ps on z lt is = get_or-map (λ (x : Processor). x.signal) ps on z 0 lt ∙ ap (λ (x : Processor). x.signal) (sym is)
