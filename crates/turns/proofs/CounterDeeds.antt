-- What counter turns do is what a phase's deeds are.
use Rattle.std.proofs.Common.{◌≡◌, ℕ, suc, ◌-◌, Bool, true, false, List, [], ◌∷◌, ◌++◌, map, if◌then◌else◌, refl, ap, ◌∙◌, sum_by, arith}
use Rattle.std.specs.Prelude.{slice_get}
use Rattle.std.specs.List.{flat_map, list_all}
use Rattle.std.proofs.lemmas.Grind.{flat_map-append}
use Rattle.std.proofs.lemmas.List.Sums.{sum_by-cons}
use Rattle.nest_tree.specs.Tree.{Tree}
use Rattle.nest_model.specs.Instances.{Instance}
use Rattle.nest_model.specs.Visits.{Visit}
use Rattle.sync_plan.specs.declared.plan.Plan.{Plan}
use Rattle.sync_plan.specs.Waits.{posts_at, waits_for}
use Rattle.spmd_model.specs.Deeds.{awaiting, boundary_deeds, deeds_from, instance_deeds, owned_by, phase_deeds, posting}
use Rattle.spmd_model.specs.Timelines.{counter}
use Rattle.turns.specs.CounterTurns.{CounterTurn, awaits, begins, posts, works, boundary_turns, is_counter_inside, phase_turns, counter_deeds, counter_turns, without_beginnings, counter_room}

posted : (tree : Tree) (number : ℕ) (does : Bool) → flat_map (counter_deeds tree) (if does then posts number ∷ [] else []) ≡ (if does then posting counter number ∷ [] else [])
posted tree number true = refl
posted tree number false = refl

awaited : (tree : Tree) (number : ℕ) (qs : List ℕ) → flat_map (counter_deeds tree) (map (λ q. awaits q number) qs) ≡ map (λ q. awaiting counter q number) qs
awaited tree number [] = refl
awaited tree number (q ∷ qs) = ap (λ l. awaiting counter q number ∷ l) (awaited tree number qs)

worked : (tree : Tree) (is : List Instance) → flat_map (counter_deeds tree) (map works is) ≡ flat_map (instance_deeds tree) is
worked tree [] = refl
worked tree (i ∷ is) = ap (λ l. instance_deeds tree i ++ l) (worked tree is)

pub bounded : (tree : Tree) (number : ℕ) (does : Bool) (qs : List ℕ) → flat_map (counter_deeds tree) (boundary_turns number does qs) ≡ boundary_deeds counter number does qs
bounded tree number does qs =
    flat_map-append (counter_deeds tree) (if does then posts number ∷ [] else []) (map (λ q. awaits q number) qs)
    ∙ ap (λ l. l ++ flat_map (counter_deeds tree) (map (λ q. awaits q number) qs)) (posted tree number does)
    ∙ ap (λ l. (if does then posting counter number ∷ [] else []) ++ l) (awaited tree number qs)

in_phase : (tree : Tree) (plan : Plan) (p e : ℕ) (v : Visit) → flat_map (counter_deeds tree) (phase_turns tree plan p e v) ≡ phase_deeds tree plan p e v
in_phase tree plan p e v =
    let does = posts_at tree plan p v.place v.loops in
    let qs = waits_for tree plan p v.place v.loops in
    let own = owned_by tree (slice_get plan.anchors (v.place - 1)) plan.workers p v in
    flat_map-append (counter_deeds tree) (boundary_turns (e - 1) does qs) (begins e ∷ map works own)
    ∙ ap (λ l. l ++ flat_map (counter_deeds tree) (map works own)) (bounded tree (e - 1) does qs)
    ∙ ap (λ l. boundary_deeds counter (e - 1) does qs ++ l) (worked tree own)

pub turns_do : (tree : Tree) (plan : Plan) (p e : ℕ) (vs : List Visit) → flat_map (counter_deeds tree) (counter_turns tree plan p e vs) ≡ deeds_from tree plan p e vs
turns_do tree plan p e [] = refl
turns_do tree plan p e (v ∷ rest) =
    flat_map-append (counter_deeds tree) (phase_turns tree plan p e v) (counter_turns tree plan p (suc e) rest)
    ∙ ap (λ l. l ++ flat_map (counter_deeds tree) (counter_turns tree plan p (suc e) rest)) (in_phase tree plan p e v)
    ∙ ap (λ l. phase_deeds tree plan p e v ++ l) (turns_do tree plan p (suc e) rest)

-- phases that begin do nothing
pub unseen_deeds : (tree : Tree) (ts : List CounterTurn) → flat_map (counter_deeds tree) (without_beginnings ts) ≡ flat_map (counter_deeds tree) ts
unseen_deeds tree [] = refl
unseen_deeds tree (posts number ∷ rest) = refl
unseen_deeds tree (awaits on wanted ∷ rest) = refl
unseen_deeds tree (begins e ∷ rest) = unseen_deeds tree rest
unseen_deeds tree (works i ∷ rest) = refl

pub unseen_room : (tree : Tree) (ts : List CounterTurn) → sum_by (counter_room tree) (without_beginnings ts) ≡ sum_by (counter_room tree) ts
unseen_room tree [] = refl
unseen_room tree (posts number ∷ rest) = refl
unseen_room tree (awaits on wanted ∷ rest) = refl
unseen_room tree (begins e ∷ rest) = omega (arith, unseen_room tree rest, sum_by-cons (counter_room tree) (begins e) rest)
unseen_room tree (works i ∷ rest) = refl

pub unseen_inside : (tree : Tree) (ts : List CounterTurn) → list_all (is_counter_inside tree) (without_beginnings ts) ≡ list_all (is_counter_inside tree) ts
unseen_inside tree [] = refl
unseen_inside tree (posts number ∷ rest) = refl
unseen_inside tree (awaits on wanted ∷ rest) = refl
unseen_inside tree (begins e ∷ rest) = unseen_inside tree rest
unseen_inside tree (works i ∷ rest) = refl
