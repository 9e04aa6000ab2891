-- What a leg of a worker does to its seat.
use Rattle.std.specs.Prelude.{ℕ, suc, ◌+◌, ◌-◌, ◌==◌, ◌≡◌, ◌≤◌, ◌<◌, ◌⊎◌, true, Some, if◌then◌else◌}
use Rattle.sync_plan.specs.Boundaries.{joins}
use Rattle.spmd_model.specs.Timelines.{counter}
use Rattle.spmd_model.specs.Acts.{await, post}
use Rattle.spmd_model.specs.Protocols.{act_at}
use Rattle.shared_words.specs.Calls.{AwaitsNext, AwaitsSignalNext, GathersNext, StandsInVain, all_arrivals}
use Rattle.shared_words.specs.Homes.{CellView, next_act, protocol_at}
use Rattle.spmd_workers.specs.Places.{plan_at, tree_at}
use Rattle.spmd_workers.specs.declared.worker.Leg.{Leg}
use Rattle.spmd_workers.specs.declared.worker.Leg.TheVariants.{Ended, Joined, Waiting}

-- it is the same processor's seat of the same table
pub record IsSameSeat (old new : CellView) : Type 0 where
  pub home : new.home ≡ old.home
  pub processor : new.processor ≡ old.processor

-- it stands where it stood, or further on, behind an act that was done
abbrev pub IsFurther : CellView → CellView → Type 0
IsFurther old new = (new ≡ old) ⊎ ((old.position < new.position) × (new.misses ≡ 0))

-- of whose joins so many are answered: the post in front of a join is done only where the join is one of them
abbrev pub AreAnswered : CellView → ℕ → Type 0
AreAnswered v answered =
    (n number : ℕ) → n < v.position → act_at (protocol_at v.home) v.processor n
    ≡ Some (post counter number) → joins (tree_at v.home) (plan_at v.home) number ≡ true
    → number < answered

-- its last polls found too little, and there were at least 1000 of them: the last one found this, in vain
pub record HasMissed (old new : CellView) (seen : ℕ) : Type 0 where
  pub same : IsSameSeat old new
  pub stays : new.position ≡ old.position
  pub misses : 1000 + old.misses ≤ new.misses
  pub found : new.seen ≡ seen
  pub vain : StandsInVain new

-- the counter of another is awaited next, or its signal, or all arrivals at a barrier
abbrev pub IsAwaited : CellView → ℕ → ℕ → Type 0
IsAwaited v on wanted = AwaitsNext v on wanted
    ⊎ (AwaitsSignalNext v on wanted ⊎ ((number : ℕ) × GathersNext v number
    × (on ≡ (protocol_at v.home).workers) × (wanted ≡ all_arrivals v)))

-- that is awaited next, the last poll found this, which is less, in vain, and there were 1000 misses in a row or more, those before aside
pub record IsWaiting (old new : CellView) (on wanted seen : ℕ) : Type 0 where
  pub next : IsAwaited new on wanted
  pub low : seen < wanted
  pub found : new.seen ≡ seen
  pub vain : StandsInVain new
  pub misses : 1000 + (if old.position == new.position then old.misses else 0) ≤ new.misses

-- exactly the acts up to the post in front of the join are done, which is none of those that were answered before
pub record IsJoined (answered : ℕ) (v : CellView) (e : ℕ) : Type 0 where
  pub several : 1 < (protocol_at v.home).workers
  pub join : joins (tree_at v.home) (plan_at v.home) (e - 1) ≡ true
  pub above : answered < e
  pub posted : (n : ℕ) × (v.position ≡ suc n)
      × (act_at (protocol_at v.home) v.processor n ≡ Some (post counter (e - 1)))
  pub awaits : (on wanted : ℕ) × (next_act v ≡ Some (await counter on wanted))

-- the phase in front of which the join stands that was answered last, 0 where there is none, behind this answer
abbrev pub answered_last : ℕ → Leg → ℕ
answered_last answered Ended = answered
answered_last answered (Joined e) = e
answered_last answered (Waiting on wanted seen) = answered
