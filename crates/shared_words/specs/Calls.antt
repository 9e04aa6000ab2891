-- What the calls of a table ask and tell.
use Rattle.std.specs.Prelude.{ℕ, ℤ, ◌+◌, ◌-◌, ◌*◌, ◌≡◌, ◌<◌, true, false, Contains, Some, length, replicate, slice_get, slice_index, slice_set}
use Rattle.nest_model.specs.Accesses.{loads_of}
use Rattle.nest_model.specs.Instances.{Instance, instances}
use Rattle.nest_model.specs.Memory.{cell_value, memory_before}
use Rattle.spmd_model.specs.Machines.{instances_in_front}
use Rattle.spmd_model.specs.Free.{IsInVain}
use Rattle.spmd_model.specs.Timelines.{counter, signal}
use Rattle.spmd_model.specs.Acts.{post, await, load, store, add}
use Rattle.spmd_model.specs.Viewed.{barriers_in_front}
use Rattle.shared_words.specs.declared.poll.Poll.{Poll}
use Rattle.shared_words.specs.declared.poll.Poll.TheVariants.{Ready, NotYet}
use Rattle.shared_words.specs.declared.roles.Stage.{Stage}
use Rattle.shared_words.specs.declared.roles.Stage.TheVariants.{Ended, NotOut}
use Rattle.shared_words.specs.Places.{settled_at}
use Rattle.shared_words.specs.Homes.{Home, CellView, MainView, protocol_at, next_act, missed, arrivals_of, plan_given, style_given, tree_given}

-- the next act loads this cell, or stores to it
abbrev pub LoadsNext : CellView → ℕ → Type 0
LoadsNext v cell = (place : ℕ) × (next_act v ≡ Some (load place cell))

abbrev pub StoresNext : CellView → ℕ → Type 0
StoresNext v cell = (place : ℕ) × (next_act v ≡ Some (store place cell))

-- or adds to it
abbrev pub AddsNext : CellView → ℕ → Type 0
AddsNext v cell = (place : ℕ) × (next_act v ≡ Some (add place cell))

-- it posts this number on the processor's counter, or awaits it on another's
abbrev pub PostsNext : CellView → ℕ → Type 0
PostsNext v number =
    (next_act v ≡ Some (post counter number)) × ((protocol_at v.home).gathers number ≡ false)

abbrev pub AwaitsNext : CellView → ℕ → ℕ → Type 0
AwaitsNext v on wanted =
    (next_act v ≡ Some (await counter on wanted)) × ((protocol_at v.home).gathers wanted ≡ false)

-- it sets the processor's signal to this number, or awaits it of another's
abbrev pub SignalsNext : CellView → ℕ → Type 0
SignalsNext v number = next_act v ≡ Some (post signal number)

abbrev pub AwaitsSignalNext : CellView → ℕ → ℕ → Type 0
AwaitsSignalNext v on wanted = next_act v ≡ Some (await signal on wanted)

-- it arrives at the barrier of this number, or awaits another there
abbrev pub ArrivesNext : CellView → ℕ → Type 0
ArrivesNext v number =
    (next_act v ≡ Some (post counter number)) × ((protocol_at v.home).gathers number ≡ true)

abbrev pub GathersNext : CellView → ℕ → Type 0
GathersNext v number = (on : ℕ) × (next_act v ≡ Some (await counter on number))
    × ((protocol_at v.home).gathers number ≡ true)

-- the next act is the load of this cell by an instance of the program, and this is what memory in front of that instance has there
abbrev pub IsInMemory : CellView → ℕ → ℤ → Type 0
IsInMemory v cell z =
    (place : ℕ) → next_act v ≡ Some (load place cell) → let tree = tree_given v.home.given in
    let number = instances_in_front (style_given v.home.given) tree (plan_given v.home.given)
    place in
    (i : Instance) × (slice_get (instances tree) number ≡ Some i) × Contains (loads_of tree i) cell
    × (z ≡ cell_value (memory_before tree number) cell)

-- not all that the seat's processor awaits with its next act was posted at the places that its table knows
abbrev pub StandsInVain : CellView → Type 0
StandsInVain v =
    IsInVain (protocol_at v.home).acts (slice_index v.home.known) v.processor v.position

-- a poll that is ready goes on; another one is a miss, and shows the word that it found, which is less than what was wanted: so the seat stood in vain
abbrev pub PollTells : CellView → CellView → ℕ → Poll → CellView → Type 0
PollTells old further wanted Ready new = new ≡ further
PollTells old further wanted (NotYet seen) new =
    (seen < wanted) × (new ≡ missed seen old) × StandsInVain old

-- how many arrivals there are once all have arrived as often as the seat's processor
abbrev pub all_arrivals : CellView → ℕ
all_arrivals v = (protocol_at v.home).workers * arrivals_of v

-- as many as the barriers up to the one in front of phase number e, for each processor
abbrev pub arrivals_up_to : Home → ℕ → ℕ
arrivals_up_to h e = (protocol_at h).workers
    * (barriers_in_front (tree_given h.given) (plan_given h.given) (e - 1) + 1)

abbrev pub with_stage : ℕ → Stage → MainView → MainView
with_stage p stage v = record { home = v.home; stages = slice_set v.stages p stage }

-- a processor's seat at its first act
abbrev pub first_seat : Home → ℕ → CellView
first_seat h p = record {
  home = h;
  processor = p;
  position = settled_at (protocol_at h) p 0;
  misses = 0;
  seen = 0;
}

-- all acts of the seat's processor are done
abbrev pub IsEndedSeat : CellView → Type 0
IsEndedSeat v = v.position ≡ length ((protocol_at v.home).acts v.processor)

-- the seats of all processors were taken in
abbrev pub AreAllEnded : MainView → Type 0
AreAllEnded v = (p : ℕ) → p < (protocol_at v.home).workers → slice_get v.stages p ≡ Some Ended

-- the main seat of a new table
abbrev pub main_seat : Home → MainView
main_seat h = record { home = h; stages = replicate (protocol_at h).workers NotOut }
