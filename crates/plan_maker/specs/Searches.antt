-- The search for the weakest kinds in front of the phases of a plan.
use Rattle.std.specs.Prelude.{ℕ, suc, ◌≡◌, ◌≢◌, ◌<◌, ◌^◌, true, List, [], ◌++◌, length, map, Option, Some, None, slice_get, slice_set}
use Rattle.std.specs.List.{All, AllZip, filter}
use Rattle.farkas_cert.specs.declared.certificate.Certificate.{Certificate}
use Rattle.nest_tree.specs.View.{tree_of}
use Rattle.sync_plan.specs.declared.plan.Kind.{Kind}
use Rattle.comm_system.specs.Certain.{certain_of}
use Rattle.comm_system.specs.Obligations.{Slot, slot_signature}
use Rattle.comm_system.specs.References.{StaticPhase, phases_of}
use Rattle.comm_system.specs.SlotViews.{slot_seen}
use Rattle.plan_maker.specs.declared.cache.SlotCache.{SlotCache}
use Rattle.plan_maker.specs.declared.cache.Trial.{Trial}
use Rattle.plan_maker.specs.declared.cause.Cause.{Cause}
use Rattle.plan_maker.specs.declared.problem.Problem.{Problem}
use Rattle.plan_maker.specs.declared.reasons.PhaseReason.{PhaseReason}
use Rattle.plan_maker.specs.declared.search.Search.{Search}
use Rattle.plan_maker.specs.Caches.{Grows, IsCache, IsHeld, boundaries_seen}
use Rattle.plan_maker.specs.Candidates.{ArePlaces, Choice, candidate, kinds_taken}
use Rattle.plan_maker.specs.Meeting.{meets}
use Rattle.plan_maker.specs.Asked.{IsCause}
use Rattle.plan_maker.specs.PhaseCauses.{IsPhaseCause, touches}
use Rattle.plan_maker.specs.Trials.{HasMoreCertificates, asked_of_slot, slots_asked}
use Rattle.plan_maker.specs.Weakest.{candidates_in}

-- the phases of a problem's plan
abbrev pub phases_in : Problem → List StaticPhase
phases_in p = phases_of (tree_of p.program.now) p.plan.now.cut.marks

-- a slot with its certain boundaries and without a verdict
pub record IsFresh (phases : List StaticPhase) (slot : Slot) (c : SlotCache) : Type 0 where
  pub slot_is : slot_seen c.slot ≡ slot
  pub few : length c.boundaries.items < 2 ^ 30
  pub certain : boundaries_seen c ≡ certain_of slot phases
  pub empty : c.entries.items ≡ []

-- one for each of these slots with accesses that conflict
abbrev pub AreFresh : List StaticPhase → List Slot → List SlotCache → Type 0
AreFresh phases slots caches = AllZip (IsFresh phases) (filter meets slots) caches

-- the slots of a search, and the kinds that are taken
abbrev pub slots_in : Search → List Slot
slots_in s = map (λ (c : SlotCache). slot_seen c.slot) s.slots.items

abbrev pub kinds_in : Search → List Kind
kinds_in s = kinds_taken s.candidates.items s.taken.items

-- those with another candidate in front of a phase
abbrev pub kinds_with : Search → Choice → List Kind
kinds_with s c = kinds_taken s.candidates.items (slice_set s.taken.items c.phase c.place)

-- the boundaries of a slot are its certain ones, its verdicts are true, and under these kinds its systems are refuted
pub record IsCurrent (p : Problem) (kinds : List Kind) (c : SlotCache) : Type 0 where
  pub certain : boundaries_seen c ≡ certain_of (slot_seen c.slot) (phases_in p)
  pub cache : IsCache (tree_of p.program.now) p.plan.now c
  pub held : IsHeld (tree_of p.program.now) p.plan.now (slot_seen c.slot)
      (slot_signature p.plan.now.version kinds (phases_in p) (slot_seen c.slot)) c.entries.items

-- of each phase a candidate is taken, and under these kinds the systems of each slot are refuted
pub record IsSearch (s : Search) : Type 0 where
  pub candidates : s.candidates.items ≡ candidates_in (tree_of s.problem.program.now)
      s.problem.plan.now
  pub places : ArePlaces s.candidates.items s.taken.items
  pub few : length s.taken.items < 2 ^ 20
  pub ready : All (IsCurrent s.problem (kinds_in s)) s.slots.items

-- the same but for what is taken and for verdicts
pub record IsSameSearch (old new : Search) : Type 0 where
  pub problem : new.problem ≡ old.problem
  pub candidates : new.candidates ≡ old.candidates
  pub slots : slots_in new ≡ slots_in old

-- kinds that are the same but in front of the phase with this number
abbrev pub AreElsewhere : ℕ → List Kind → List Kind → Type 0
AreElsewhere u kinds others = (k : ℕ) → suc k ≢ u → slice_get kinds k ≡ slice_get others k

-- of a slot: under these kinds its systems are refuted, or it has the boundary in front of the phase with this number among its certain ones, and this is its first system that is kept
abbrev pub IsTried : Problem → ℕ → List Kind → SlotCache → Option Cause → Type 0
IsTried p u kinds c None = IsCurrent p kinds c
IsTried p u kinds c (Some cause) = (touches u (certain_of (slot_seen c.slot) (phases_in p)) ≡ true)
    × IsCause (asked_of_slot (tree_of p.program.now) p.plan.now kinds (slot_seen c.slot)) cause

-- a slot was tried with these kinds, which differ from others in front of the phase with this number alone
pub record HasTried (p : Problem) (trial : Trial) (old new : SlotCache) (outcome : Option Cause) :
    Type 0 where
  pub cache : IsCache (tree_of p.program.now) p.plan.now new
  pub grown : Grows old new
  pub tried : (others : List Kind) → AreElsewhere trial.phase trial.kinds.now others
      → IsCurrent p others old → IsTried p trial.phase trial.kinds.now new outcome

-- under these kinds the systems of each slot are refuted, or the first that is kept is one of a slot with the boundary in front of the phase with this number
abbrev pub IsTrial : Search → ℕ → List Kind → Option Cause → Type 0
IsTrial s u kinds None = All (IsCurrent s.problem kinds) s.slots.items
IsTrial s u kinds (Some cause) =
    IsPhaseCause (tree_of s.problem.program.now) s.problem.plan.now kinds u [] (slots_in s) cause

-- with another choice a system is kept: this is the first
pub record IsTrialReason (s : Search) (c : Choice) (reason : PhaseReason) : Type 0 where
  pub phase : reason.phase ≡ suc c.phase
  pub kind : reason.kind ≡ candidate s.candidates.items c
  pub cause : IsPhaseCause (tree_of s.problem.program.now) s.problem.plan.now (kinds_with s c)
      (suc c.phase) [] (slots_in s) reason.cause

-- reasons for these choices, behind the others
pub record AreMoreReasons (s : Search) (choices : List Choice) (old new : List PhaseReason) :
    Type 0 where
  pub more : List PhaseReason
  pub behind : new ≡ old ++ more
  pub reasons : AllZip (IsTrialReason s) choices more

-- certificates for the systems of the slots under the kinds that are taken, behind others
abbrev pub HasCertificates : Search → List Certificate → List Certificate → Type 0
HasCertificates s old new = HasMoreCertificates
    (slots_asked (tree_of s.problem.program.now) s.problem.plan.now (kinds_in s) (slots_in s)) old
    new
