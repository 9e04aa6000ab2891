-- Whether an act on its own cells comes next of a processor.
use Rattle.std.proofs.Common.{◌≡◌, ℕ, ◌<◌, nat_lt, Bool, false, List, [], ◌∷◌, length, get_or, sym, ◌∙◌, ap}
use Rattle.std.specs.List.{flat_map}
use Rattle.nest_walk.specs.Tables.{entries}
use Rattle.spmd_model.specs.Deeds.{Deed, posting, awaiting}
use Rattle.spmd_model.specs.Quiet.{quiet_next}
use Rattle.spmd_model.specs.Timelines.{Word, counter, signal}
use Rattle.turns.specs.Turns.{Turn, sets, waits, turn_deeds}
use Rattle.turns.specs.TurnsLeft.{turns_left, turns_plan, turns_processor, turns_tree}
use Rattle.turns.specs.declared.turns.Next.TheVariants.{Post, Await, Signal, AwaitSignal, End}
use Rattle.spmd_machine.specs.Machines.{ComesNext, IsMachine, IsSameMachine, model_of, plan_in, shared_in, shown, style_in, tree_in}
use Rattle.spmd_machine.specs.Processors.{left_of, state_of}
use Rattle.spmd_machine.specs.declared.parts.Parts.{Parts}
use Rattle.spmd_machine.specs.declared.processor.Processor.{Processor}
use Rattle.spmd_machine.proofs.Kept.{end_left, left_idle, picked, set_idle, wait_idle}
use Rattle.spmd_machine.proofs.Ready.{along_shared, kept_here, next_here, worker_here}
use Rattle.spmd_machine.proofs.Settles.{is_quiet_deed, quiet_by, quiet_end}
use Rattle.spmd_machine.proofs.Steps.{next_from, next_none}

module _ (m : Parts) (ready : IsMachine m) (p : ℕ) (x : Processor) (lt : p < length m.processors.items) (read : x ≡ get_or m.processors.items p x) where
  pub quiet_is : (d : Deed) (rest : List Deed) → left_of x ≡ d ∷ rest → nat_lt 0 (quiet_next (model_of m) (shared_in m) (shown m) p) ≡ is_quiet_deed (shared_in m) d
  unfolding shown
  quiet_is d rest left =
      let n = next_from (style_in m) (tree_in m) (plan_in m) ready.formed ready.fits (entries m.table) m.processors.items m.memory.items m.output.bytes p (worker_here m ready p x x lt read) x lt read (kept_here m ready p x x lt read) d rest left in
      quiet_by (model_of m) (shared_in m) (state_of (style_in m) (tree_in m) (plan_in m) m.processors.items m.memory.items m.output.bytes) p n.element d n.there n.is

  pub quiet_over : left_of x ≡ [] → nat_lt 0 (quiet_next (model_of m) (shared_in m) (shown m) p) ≡ false
  unfolding shown
  quiet_over left =
      quiet_end (model_of m) (shared_in m) (state_of (style_in m) (tree_in m) (plan_in m) m.processors.items m.memory.items m.output.bytes) p
      (next_none (style_in m) (tree_in m) (plan_in m) ready.formed ready.fits (entries m.table) m.processors.items m.memory.items m.output.bytes p (worker_here m ready p x x lt read) x lt read (kept_here m ready p x x lt read) left)

  -- a word is set or awaited
  pub sets_loud : (word : Word) (number : ℕ) (rest : List Turn) → turns_left x.turns ≡ sets word number ∷ rest → nat_lt 0 (quiet_next (model_of m) (shared_in m) (shown m) p) ≡ false
  sets_loud word number rest next =
      let does = turn_deeds (turns_tree x.turns) (turns_plan x.turns) (turns_processor x.turns) in
      quiet_is (posting word number) (flat_map does rest) (left_idle x (set_idle (style_in m) (tree_in m) (plan_in m) (entries m.table) p x (kept_here m ready p x x lt read) word number rest next).none_done ∙ ap (flat_map does) next)

  pub waits_loud : (word : Word) (on wanted : ℕ) (rest : List Turn) → turns_left x.turns ≡ waits word on wanted ∷ rest → nat_lt 0 (quiet_next (model_of m) (shared_in m) (shown m) p) ≡ false
  waits_loud word on wanted rest next =
      let does = turn_deeds (turns_tree x.turns) (turns_plan x.turns) (turns_processor x.turns) in
      quiet_is (awaiting word on wanted) (flat_map does rest) (left_idle x (wait_idle (style_in m) (tree_in m) (plan_in m) (entries m.table) p x (kept_here m ready p x x lt read) word on wanted rest next).none_done ∙ ap (flat_map does) next)

  pub end_loud : turns_left x.turns ≡ [] → nat_lt 0 (quiet_next (model_of m) (shared_in m) (shown m) p) ≡ false
  end_loud next = quiet_over (end_left (style_in m) (tree_in m) (plan_in m) (entries m.table) p x (kept_here m ready p x x lt read) next)

-- by what a look finds to come next
pub post_loud : (m : Parts) → IsMachine m → (p number : ℕ) → p < length m.processors.items → ComesNext m p (Post number) → nat_lt 0 (quiet_next (model_of m) (shared_in m) (shown m) p) ≡ false
post_loud m ready p number lt next =
    let (x, read) = picked m.processors.items p lt in
    let comes = next_here m ready p x x lt read (Post number) next in
    sets_loud m ready p x lt read counter number comes.0.0 comes.0.1

pub await_loud : (m : Parts) → IsMachine m → (p on wanted : ℕ) → p < length m.processors.items → ComesNext m p (Await on wanted) → nat_lt 0 (quiet_next (model_of m) (shared_in m) (shown m) p) ≡ false
await_loud m ready p on wanted lt next =
    let (x, read) = picked m.processors.items p lt in
    let comes = next_here m ready p x x lt read (Await on wanted) next in
    waits_loud m ready p x lt read counter on wanted comes.0.0 comes.0.1

pub signal_loud : (m : Parts) → IsMachine m → (p number : ℕ) → p < length m.processors.items → ComesNext m p (Signal number) → nat_lt 0 (quiet_next (model_of m) (shared_in m) (shown m) p) ≡ false
signal_loud m ready p number lt next =
    let (x, read) = picked m.processors.items p lt in
    let comes = next_here m ready p x x lt read (Signal number) next in
    sets_loud m ready p x lt read signal number comes.0.0 comes.0.1

pub await_signal_loud : (m : Parts) → IsMachine m → (p on wanted : ℕ) → p < length m.processors.items → ComesNext m p (AwaitSignal on wanted) → nat_lt 0 (quiet_next (model_of m) (shared_in m) (shown m) p) ≡ false
await_signal_loud m ready p on wanted lt next =
    let (x, read) = picked m.processors.items p lt in
    let comes = next_here m ready p x x lt read (AwaitSignal on wanted) next in
    waits_loud m ready p x lt read signal on wanted comes.0.0 comes.0.1

pub end_is_loud : (m : Parts) → IsMachine m → (p : ℕ) → p < length m.processors.items → ComesNext m p End → nat_lt 0 (quiet_next (model_of m) (shared_in m) (shown m) p) ≡ false
end_is_loud m ready p lt next =
    let (x, read) = picked m.processors.items p lt in
    end_loud m ready p x lt read (next_here m ready p x x lt read End next)

-- what holds behind a look holds in front of it
pub looked_quiet : (m n : Parts) (p : ℕ) (b : Bool) → IsSameMachine m n → shown n ≡ shown m → nat_lt 0 (quiet_next (model_of n) (shared_in n) (shown n) p) ≡ b → nat_lt 0 (quiet_next (model_of m) (shared_in m) (shown m) p) ≡ b
looked_quiet m n p b same state h =
    along_shared (λ d shared. nat_lt 0 (quiet_next d shared (shown m) p) ≡ b) m n same (ap (λ s. nat_lt 0 (quiet_next (model_of n) (shared_in n) s p)) (sym state) ∙ h)
