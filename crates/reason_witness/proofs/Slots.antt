-- The systems at the slots of a plan with other kinds: those at a slot that sees the same waits are the plan's own, and these have good certificates.
use Rattle.std.proofs.Common.{◌≡◌, ℕ, suc, List, [], ◌∷◌, ◌++◌, refl, sym, subst, inl, inr}
use Rattle.std.specs.List.{AllZip, Contains, flat_map}
use Rattle.std.proofs.lemmas.List.Elements.{Contains-append_cases, Contains-append_left, Contains-append_right, Contains-push_cases}
use Rattle.list_lemmas.proofs.Elements.{Contains-flat_map as in_flat_map, Contains-flat_map_cases}
use Rattle.farkas_cert.specs.Good.{IsGood}
use Rattle.farkas_cert.specs.declared.certificate.Certificate.{Certificate}
use Rattle.nest_tree.specs.Tree.{Tree}
use Rattle.sync_plan.specs.declared.plan.Kind.{Kind}
use Rattle.sync_plan.specs.declared.plan.Plan.{Plan}
use Rattle.comm_system.specs.Obligations.{Slot, Task, numbered_from, paths_tasks, slot_signature, slot_tasks, slots_of, tasks_of, trips_tasks}
use Rattle.comm_system.specs.References.{StaticPhase, phases_of}
use Rattle.comm_system.specs.Signatures.{Signature, blocked, waits}
use Rattle.comm_system.specs.declared.obligation.Obligation.{Obligation}
use Rattle.comm_system.proofs.Lists.{contains_cases, contains_nothing}
use Rattle.plan_checker.specs.Accepted.{IsAccepted}
use Rattle.plan_maker.specs.Judged.{task_of}
use Rattle.reason_witness.specs.Findings.{AreCertifiedUnder, IsCertified}
use Rattle.reason_witness.specs.Plans.{tasks_at, with_kinds}
use Rattle.reason_witness.specs.declared.found.Wanted.{Wanted}

certified_zip : (n : ℕ) (ts : List Task) (cs : List Certificate) (k : Task) → AllZip (λ (o : Obligation) c. IsGood o.system c) (numbered_from n ts) cs → Contains ts k → IsCertified k.system
certified_zip n [] cs k all c = absurd (contains_nothing k c)
certified_zip n (t ∷ ts) [] k all c = absurd all
certified_zip n (t ∷ ts) (d ∷ ds) k all c = elim (contains_cases t k ts c) [
  | inl same ↦ subst (λ (x : Task). IsCertified x.system) same (d, all.0)
  | inr later ↦ certified_zip (suc n) ts ds k all.1 later
]

-- each system of an accepted plan has a good certificate
pub own_certified : (tree : Tree) (plan : Plan) (k : Task) → IsAccepted tree plan → Contains (tasks_of tree plan) k → IsCertified k.system
own_certified tree plan k accepted c = certified_zip 1 (tasks_of tree plan) plan.certificates k accepted.certified c

abbrev slots_in : Tree → Plan → List Slot
slots_in tree plan = slots_of (phases_of tree plan.cut.marks)

-- the systems of a slot don't look at the plan's kinds but for its signature
same_tasks : (tree : Tree) (plan : Plan) (kinds : List Kind) (slot : Slot) (signature : Signature) → slot_tasks tree (with_kinds plan kinds) slot signature ≡ slot_tasks tree plan slot signature
same_tasks tree plan kinds slot blocked = refl
same_tasks tree plan kinds slot (waits left right producers) = refl

same_trips : (tree : Tree) (plan : Plan) (kinds : List Kind) (s : StaticPhase) → trips_tasks tree (with_kinds plan kinds) s ≡ trips_tasks tree plan s
same_trips tree plan kinds s = refl

same_paths : (tree : Tree) (plan : Plan) (kinds : List Kind) (s : StaticPhase) → paths_tasks tree (with_kinds plan kinds) s ≡ paths_tasks tree plan s
same_paths tree plan kinds s = refl

-- those at a slot are among those of the plan with these kinds
pub slot_there : (tree : Tree) (plan : Plan) (kinds : List Kind) (slot : Slot) (k : Task) → Contains (slots_in tree plan) slot → Contains (tasks_at tree plan kinds slot) k → Contains (tasks_of tree (with_kinds plan kinds)) k
slot_there tree plan kinds slot k there c =
    let phases = phases_of tree plan.cut.marks in
    let tasks = λ (s : Slot). slot_tasks tree (with_kinds plan kinds) s (slot_signature plan.version kinds phases s) in
    let here = subst (λ ts. Contains ts k) (sym (same_tasks tree plan kinds slot (slot_signature plan.version kinds phases slot))) c in
    let trips = flat_map (trips_tasks tree (with_kinds plan kinds)) phases in
    let slots = flat_map tasks (slots_of phases) in
    let paths = flat_map (paths_tasks tree (with_kinds plan kinds)) phases in
    Contains-append_left (trips ++ slots) paths k (Contains-append_right trips slots k (in_flat_map tasks (slots_of phases) slot k there here))

-- so has each of two trips of a phase of it, and each of the paths of its private scalars
own_trips : (tree : Tree) (plan : Plan) (k : Task) (s : StaticPhase) → IsAccepted tree plan → Contains (phases_of tree plan.cut.marks) s → Contains (trips_tasks tree plan s) k → IsCertified k.system
own_trips tree plan k s accepted there c =
    let phases = phases_of tree plan.cut.marks in
    let among = λ (x : Slot). slot_tasks tree plan x (slot_signature plan.version plan.kinds phases x) in
    let trips = flat_map (trips_tasks tree plan) phases in
    let slots = flat_map among (slots_of phases) in
    let paths = flat_map (paths_tasks tree plan) phases in
    own_certified tree plan k accepted (Contains-append_left (trips ++ slots) paths k (Contains-append_left trips slots k (in_flat_map (trips_tasks tree plan) phases s k there c)))

own_paths : (tree : Tree) (plan : Plan) (k : Task) (s : StaticPhase) → IsAccepted tree plan → Contains (phases_of tree plan.cut.marks) s → Contains (paths_tasks tree plan s) k → IsCertified k.system
own_paths tree plan k s accepted there c =
    let phases = phases_of tree plan.cut.marks in
    let among = λ (x : Slot). slot_tasks tree plan x (slot_signature plan.version plan.kinds phases x) in
    let trips = flat_map (trips_tasks tree plan) phases in
    let slots = flat_map among (slots_of phases) in
    let paths = flat_map (paths_tasks tree plan) phases in
    own_certified tree plan k accepted (Contains-append_right (trips ++ slots) paths k (in_flat_map (paths_tasks tree plan) phases s k there c))

-- where a slot of an accepted plan sees the same as under the plan's own kinds, its systems have good certificates
pub own_slot : (tree : Tree) (plan : Plan) (kinds : List Kind) (slot : Slot) (wanted : Wanted) → IsAccepted tree plan → Contains (slots_in tree plan) slot →
    slot_signature plan.version kinds (phases_of tree plan.cut.marks) slot ≡ slot_signature plan.version plan.kinds (phases_of tree plan.cut.marks) slot → AreCertifiedUnder (tasks_at tree plan kinds slot) wanted
own_slot tree plan kinds slot wanted accepted there same o c sought =
    let own = subst (λ signature. Contains (slot_tasks tree plan slot signature) (task_of o)) same c in
    own_certified tree plan (task_of o) accepted (slot_there tree plan plan.kinds slot (task_of o) there own)

-- at each of these slots those that are looked for have good certificates
abbrev pub AreSlotsCertified : Tree → Plan → List Kind → Wanted → List Slot → Type 0
AreSlotsCertified tree plan kinds wanted slots = (slot : Slot) → Contains slots slot → AreCertifiedUnder (tasks_at tree plan kinds slot) wanted

pub slots_push : (tree : Tree) (plan : Plan) (kinds : List Kind) (wanted : Wanted) (slots : List Slot) (s : Slot) → AreSlotsCertified tree plan kinds wanted slots → AreCertifiedUnder (tasks_at tree plan kinds s) wanted → AreSlotsCertified tree plan kinds wanted (slots ++ s ∷ [])
slots_push tree plan kinds wanted slots s all one slot there = elim (Contains-push_cases slots s slot there) [
  | inl before ↦ all slot before
  | inr same ↦ subst (λ (x : Slot). AreCertifiedUnder (tasks_at tree plan kinds x) wanted) same one
]

-- then all of the plan with these kinds have
pub all_under : (tree : Tree) (plan : Plan) (kinds : List Kind) (wanted : Wanted) → IsAccepted tree plan → AreSlotsCertified tree plan kinds wanted (slots_in tree plan) → AreCertifiedUnder (tasks_of tree (with_kinds plan kinds)) wanted
all_under tree plan kinds wanted accepted all o there sought =
    let phases = phases_of tree plan.cut.marks in
    let tasks = λ (s : Slot). slot_tasks tree (with_kinds plan kinds) s (slot_signature plan.version kinds phases s) in
    let k = task_of o in
    let trips = flat_map (trips_tasks tree (with_kinds plan kinds)) phases in
    let slots = flat_map tasks (slots_of phases) in
    let paths = flat_map (paths_tasks tree (with_kinds plan kinds)) phases in
    elim (Contains-append_cases (trips ++ slots) paths k there) [
      | inl front ↦ elim (Contains-append_cases trips slots k front) [
        | inl among ↦
            let r = Contains-flat_map_cases (trips_tasks tree (with_kinds plan kinds)) phases k among in
            own_trips tree plan k r.0 accepted r.1 (subst (λ ts. Contains ts k) (same_trips tree plan kinds r.0) r.2)
        | inr among ↦
            let r = Contains-flat_map_cases tasks (slots_of phases) k among in
            all r.0 r.1 o (subst (λ ts. Contains ts k) (same_tasks tree plan kinds r.0 (slot_signature plan.version kinds phases r.0)) r.2) sought
      ]
      | inr among ↦
          let r = Contains-flat_map_cases (paths_tasks tree (with_kinds plan kinds)) phases k among in
          own_paths tree plan k r.0 accepted r.1 (subst (λ ts. Contains ts k) (same_paths tree plan kinds r.0) r.2)
    ]
