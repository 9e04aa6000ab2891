-- Slots with accesses that conflict.
use Rattle.std.specs.Prelude.{Bool}
use Rattle.std.specs.List.{list_any}
use Rattle.comm_system.specs.Obligations.{Slot}
use Rattle.comm_system.specs.Pairs.{conflict}
use Rattle.comm_system.specs.References.{references_of}

-- an access of a slot's first phase conflicts with one of its second
abbrev pub meets : Slot → Bool
meets slot =
    list_any (λ a. list_any (conflict a) (references_of slot.second)) (references_of slot.first)
