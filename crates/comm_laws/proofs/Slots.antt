-- Each slot, pair and piece has its task in the list.
use Rattle.std.proofs.Common.{◌≡◌, ℕ, zero, suc, ◌+◌, ◌-◌, ◌<◌, ◌≤◌, nat_lt, Some, None, List, [], ◌∷◌, ◌++◌, length, if◌then◌else◌, sym, subst, arith}
use Rattle.std.specs.List.{AllByRecursion, Contains, flat_map, range_with_len, slice_get}
use Rattle.std.proofs.lemmas.Bool.{lt-ltb}
use Rattle.std.proofs.lemmas.List.Elements.{Contains-append_left, Contains-append_right}
use Rattle.list_lemmas.proofs.Elements.{Contains-map, Contains-flat_map}
use Rattle.list_lemmas.proofs.Ranges.{range_there}
use Rattle.nest_tree.specs.Tree.{Tree}
use Rattle.nest_rows.proofs.Nesting.{all-weaker}
use Rattle.owner_partition.specs.declared.anchor.Anchor.{Anchor}
use Rattle.sync_plan.specs.declared.plan.Plan.{Plan}
use Rattle.conflict_rules.specs.Boundaries.{Side}
use Rattle.comm_system.specs.Levels.{common, levels}
use Rattle.conflict_rules.specs.Slots.{Slot}
use Rattle.comm_system.specs.Obligations.{Task, pair_tasks, paths_tasks, piece_task, pieces_from, slot_signature, slot_tasks, slots_before, slots_between, slots_from, slots_of, tasks_of, trips_tasks}
use Rattle.comm_system.specs.OwnerRows.{Piece, pieces}
use Rattle.comm_system.specs.Pairs.{Pair, pairs_of}
use Rattle.conflict_rules.specs.References.{StaticPhase, phases_of}
use Rattle.comm_system.specs.Signatures.{waits}
use Rattle.comm_system.proofs.Lists.{contains_here, contains_later}

-- ---- levels and slots

pub carried_level : (loops s t k : ℕ) → k < loops → Contains (levels loops s t) (suc k)
carried_level loops s t k less = Contains-append_left (range_with_len 1 loops) (if nat_lt s t then 0 ∷ [] else []) (suc k) (range_there 1 loops (suc k) (omega arith) (omega (arith, less)))

pub plain_level : (loops s t : ℕ) → s < t → Contains (levels loops s t) 0
plain_level loops s t less =
    let none : List ℕ = 0 ∷ [] in
    Contains-append_right (range_with_len 1 loops) (if nat_lt s t then 0 ∷ [] else []) 0 (subst (λ b. Contains {X = ℕ} (if b then none else []) 0) (sym (lt-ltb s t less)) (contains_here {X = ℕ} 0 []))

abbrev pub slot_at : ℕ → StaticPhase → ℕ → StaticPhase → ℕ → Slot
slot_at s first t second level = record { s = s; first = first; t = t; second = second; level = level }

before_there : (u : ℕ) (phases : List StaticPhase) (k s : ℕ) (first : StaticPhase) (t : ℕ) (second : StaticPhase) (slot : Slot) → s ≡ u + k → slice_get phases k ≡ Some first → Contains (slots_between s first t second) slot → Contains (slots_before u phases t second) slot
before_there u [] k s first t second slot is at c = absurd (let no : None ≡ Some first = at in cc)
before_there u (p ∷ phases) zero s first t second slot is at c =
    let same : first ≡ p = cc in
    let number : s ≡ u = omega (arith, is) in
    Contains-append_left (slots_between u p t second) (slots_before (suc u) phases t second) slot (subst (λ n. Contains (slots_between n p t second) slot) number (subst (λ x. Contains (slots_between s x t second) slot) same c))
before_there u (p ∷ phases) (suc k) s first t second slot is at c =
    Contains-append_right (slots_between u p t second) (slots_before (suc u) phases t second) slot (before_there (suc u) phases k s first t second slot (omega (arith, is)) at c)

from_there : (all : List StaticPhase) (u : ℕ) (phases : List StaticPhase) (k t : ℕ) (second : StaticPhase) (slot : Slot) → t ≡ u + k → slice_get phases k ≡ Some second → Contains (slots_before 1 all t second) slot → Contains (slots_from all u phases) slot
from_there all u [] k t second slot is at c = absurd (let no : None ≡ Some second = at in cc)
from_there all u (p ∷ phases) zero t second slot is at c =
    let same : second ≡ p = cc in
    let number : t ≡ u = omega (arith, is) in
    Contains-append_left (slots_before 1 all u p) (slots_from all (suc u) phases) slot (subst (λ n. Contains (slots_before 1 all n p) slot) number (subst (λ x. Contains (slots_before 1 all t x) slot) same c))
from_there all u (p ∷ phases) (suc k) t second slot is at c =
    Contains-append_right (slots_before 1 all u p) (slots_from all (suc u) phases) slot (from_there all (suc u) phases k t second slot (omega (arith, is)) at c)

pub slot_there : (phases : List StaticPhase) (s : ℕ) (first : StaticPhase) (t : ℕ) (second : StaticPhase) (level : ℕ) → 1 ≤ s → 1 ≤ t → slice_get phases (s - 1) ≡ Some first → slice_get phases (t - 1) ≡ Some second → Contains (levels (common first.outer second.outer) s t) level →
    Contains (slots_of phases) (record { s = s; first = first; t = t; second = second; level = level })
slot_there phases s first t second level some some' at at' c =
    from_there phases 1 phases (t - 1) t second (slot_at s first t second level) (omega (arith, some')) at'
    (before_there 1 phases (s - 1) s first t second (slot_at s first t second level) (omega (arith, some)) at (Contains-map (slot_at s first t second) (levels (common first.outer second.outer) s t) level c))

-- ---- pieces

pieces_there : (f : ℕ → Piece → Task) (n : ℕ) (ps : List Piece) → AllByRecursion (λ p. (k : ℕ) × Contains (pieces_from f n ps) (f k p)) ps
pieces_there f n [] = tt
pieces_there f n (p ∷ ps) = (
  (n, contains_here (f n p) (pieces_from f (suc n) ps)),
  all-weaker (λ q. (k : ℕ) × Contains (pieces_from f (suc n) ps) (f k q)) (λ q. (k : ℕ) × Contains (f n p ∷ pieces_from f (suc n) ps) (f k q)) ps (λ q h. (h.0, contains_later (f n p) (f h.0 q) (pieces_from f (suc n) ps) h.1)) (pieces_there f (suc n) ps),
)

module _ (tree : Tree) (plan : Plan) where
  -- a task of a slot is one of the plan's
  slot_task : (slot : Slot) (task : Task) → Contains (slots_of (phases_of tree plan.cut.marks)) slot → Contains (slot_tasks tree plan slot (slot_signature plan.version plan.kinds (phases_of tree plan.cut.marks) slot)) task → Contains (tasks_of tree plan) task
  slot_task slot task there among =
      let phases = phases_of tree plan.cut.marks in
      let slots = flat_map (λ (slot : Slot). slot_tasks tree plan slot (slot_signature plan.version plan.kinds phases slot)) (slots_of phases) in
      let paths = flat_map (paths_tasks tree plan) phases in
      let trips = flat_map (trips_tasks tree plan) phases in
      Contains-append_left (trips ++ slots) paths task
      (Contains-append_right trips slots task (Contains-flat_map (λ slot. slot_tasks tree plan slot (slot_signature plan.version plan.kinds phases slot)) (slots_of phases) slot task there among))

  -- each piece of a pair has its task
  pub pieces_tasks : (slot : Slot) (left right : ℕ) (producers : List (Anchor × Side)) (pair : Pair) → Contains (slots_of (phases_of tree plan.cut.marks)) slot → slot_signature plan.version plan.kinds (phases_of tree plan.cut.marks) slot ≡ waits left right producers → Contains (pairs_of plan.cut slot.first slot.second) pair →
      AllByRecursion (λ p. (k : ℕ) × Contains (tasks_of tree plan) (piece_task tree plan slot left right producers pair k p)) (pieces (length producers))
  pieces_tasks slot left right producers pair there is among =
      all-weaker (λ p. (k : ℕ) × Contains (pair_tasks tree plan slot left right producers pair) (piece_task tree plan slot left right producers pair k p)) (λ p. (k : ℕ) × Contains (tasks_of tree plan) (piece_task tree plan slot left right producers pair k p)) (pieces (length producers))
      (λ p h. (
        h.0,
        slot_task slot (piece_task tree plan slot left right producers pair h.0 p) there
            (subst (λ sig. Contains (slot_tasks tree plan slot sig) (piece_task tree plan slot left right producers pair h.0 p)) (sym is)
            (Contains-flat_map (pair_tasks tree plan slot left right producers) (pairs_of plan.cut slot.first slot.second) pair (piece_task tree plan slot left right producers pair h.0 p) among h.1)),
      ))
      (pieces_there (piece_task tree plan slot left right producers pair) 1 (pieces (length producers)))
