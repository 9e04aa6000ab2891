-- Verdicts on a slot that were made.
use Rattle.std.specs.Global.{Vec}
use Rattle.std.specs.Prelude.{ℕ, ◌≡◌, ◌<◌, ◌^◌, ◌⊎◌, List, [], ◌++◌, length, map, Option, Some, None, slice_get}
use Rattle.std.specs.List.{All}
use Rattle.farkas_cert.specs.declared.certificate.Certificate.{Certificate}
use Rattle.nest_tree.specs.Tree.{Tree}
use Rattle.owner_partition.specs.declared.anchor.Anchor.{Anchor}
use Rattle.sync_plan.specs.declared.plan.Plan.{Plan}
use Rattle.comm_system.specs.Boundaries.{Boundary, Side}
use Rattle.comm_system.specs.Obligations.{Slot}
use Rattle.comm_system.specs.SideViews.{boundary_seen, producer_seen, side_seen}
use Rattle.comm_system.specs.SlotViews.{slot_seen}
use Rattle.comm_system.specs.Signatures.{Signature, waits}
use Rattle.conflict_rules.specs.declared.producer.Side.{Side as HeldSide}
use Rattle.comm_system.specs.declared.waits.Waits.{Waits}
use Rattle.plan_maker.specs.Asked.{IsCause, slot_asked}
use Rattle.plan_maker.specs.Judged.{IsVerdict}
use Rattle.plan_maker.specs.declared.cache.Entry.{Entry}
use Rattle.plan_maker.specs.declared.cache.Key.{Key}
use Rattle.plan_maker.specs.declared.cache.SlotCache.{SlotCache}
use Rattle.plan_maker.specs.declared.cause.Cause.{Cause}
use Rattle.plan_maker.specs.declared.verdict.Verdict.TheVariants.{Refuted}

abbrev pub pair_seen : Anchor × HeldSide → Anchor × Side
pair_seen (a, side) = (a, side_seen side)

-- what was seen, as a signature
abbrev pub key_seen : Key → Signature
key_seen k = waits k.left k.right (map pair_seen k.producers.items)

abbrev pub waits_seen : Waits → Signature
waits_seen w = waits w.left w.right (map producer_seen w.producers.items)

abbrev pub boundaries_seen : SlotCache → List Boundary
boundaries_seen c = map boundary_seen c.boundaries.items

-- an entry's verdict is on the systems of the slot with what was seen
abbrev pub IsEntry : Tree → Plan → Slot → Entry → Type 0
IsEntry tree plan slot e = IsVerdict (slot_asked tree plan slot (key_seen e.key)) e.verdict

-- a slot's boundaries are few enough to be counted, and its verdicts are true
pub record IsCache (tree : Tree) (plan : Plan) (c : SlotCache) : Type 0 where
  pub few : length c.boundaries.items < 2 ^ 30
  pub entries : All (IsEntry tree plan (slot_seen c.slot)) c.entries.items

-- a verdict under this signature is there that refutes the systems
pub record HasRefuted (g : Signature) (entries : List Entry) : Type 0 where
  pub place : ℕ
  pub entry : Entry
  pub at : slice_get entries place ≡ Some entry
  pub key : key_seen entry.key ≡ g
  pub certificates : Vec Certificate
  pub refuted : entry.verdict ≡ Refuted certificates

-- a slot has no systems under this signature, or such a verdict
abbrev pub IsHeld : Tree → Plan → Slot → Signature → List Entry → Type 0
IsHeld tree plan slot g entries = (slot_asked tree plan slot g ≡ []) ⊎ HasRefuted g entries

-- what is remembered of a signature: its systems are refuted, or this is the first that is kept
abbrev pub IsRecalled : Tree → Plan → Slot → Signature → List Entry → Option Cause → Type 0
IsRecalled tree plan slot g entries None = IsHeld tree plan slot g entries
IsRecalled tree plan slot g entries (Some cause) = IsCause (slot_asked tree plan slot g) cause

-- the same slot, with the verdicts that it had and perhaps more
pub record Grows (old new : SlotCache) : Type 0 where
  pub slot : new.slot ≡ old.slot
  pub boundaries : new.boundaries ≡ old.boundaries
  pub more : List Entry
  pub behind : new.entries.items ≡ old.entries.items ++ more

-- a slot was asked about the systems that it has under a signature
pub record HasAnswered (tree : Tree) (plan : Plan) (g : Signature) (old new : SlotCache)
    (outcome : Option Cause) : Type 0 where
  pub cache : IsCache tree plan new
  pub grown : Grows old new
  pub answer : IsRecalled tree plan (slot_seen new.slot) g new.entries.items outcome
