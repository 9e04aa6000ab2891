-- What contracts see of a machine, by its parts.
use Rattle.std.proofs.Common.{◌≡◌, refl, sym, ◌∙◌, subst, take}
use Rattle.std.specs.List.{flat_map}
use Rattle.std.proofs.lemmas.List.{take_at}
use Rattle.spmd_machine.specs.Machines.{IsMachine, IsSameMachine, shared_in, shown, view_of}
use Rattle.spmd_machine.specs.Views.{IsSameSubject, MachineView}
use Rattle.spmd_machine.specs.declared.parts.Parts.{Parts}
use Rattle.spmd_machine.specs.declared.processor.Processor.{Processor}
use Rattle.spmd_machine.proofs.Ready.{shown_count}

pub same_seen : (m n : Parts) (v : MachineView) → view_of m ≡ v → IsSameMachine m n → IsSameSubject v (view_of n)
same_seen m n v seen same =
    subst (λ (w : MachineView). IsSameSubject w (view_of n)) seen
    (record { program = same.program; plan = same.plan; style = same.style; count = shown_count n ∙ same.count ∙ sym (shown_count m) })

pub memory_seen : (m : Parts) → IsMachine m → m.memory.items ≡ take (shared_in m) (shown m).memory
unfolding shown
memory_seen m ready = sym (take_at m.memory.items (flat_map (λ (x : Processor). x.own) m.processors.items) (shared_in m) ready.cells)

pub output_seen : (m : Parts) → m.output.bytes ≡ (shown m).output
unfolding shown
output_seen m = refl
