-- A worker at a phase's beginning and behind it, and in front of the first one.
use mathlib.Core.Logic.{∥∥₁_elim, ∥∥₁_map}
use Rattle.std.proofs.Common.{◌≡◌, ℕ, zero, suc, ◌-◌, ◌<◌, ◌≤◌, ℤ, pos, Bool, true, false, cond, List, [], ◌∷◌, ◌++◌, append_assoc, map, replicate, Option, Some, None, refl, sym, ◌∙◌, ap, subst, inl, inr, arith, sum_by}
use Rattle.std.specs.Prelude.{slice_get}
use Rattle.std.specs.List.{All, filter, flat_map, list_all, range_with_len}
use Rattle.std.proofs.Props.{props}
use Rattle.std.proofs.lemmas.Bool.{and_parts, cases_Bool}
use Rattle.std.proofs.lemmas.List.Elements.{All-cons, All-head, All-nil, All-tail}
use Rattle.std.proofs.lemmas.List.Sums.{sum_by-cons}
use Rattle.nest_tree.specs.Layout.{cell_count}
use Rattle.nest_tree.specs.Tree.{Tree, param_values}
use Rattle.nest_tree.specs.View.{tree_of}
use Rattle.nest_tree.specs.WellFormed.{IsWellFormed}
use Rattle.nest_tree.proofs.Cells.{well_formed_parts}
use Rattle.nest_model.specs.Accesses.{cells_of as cells_in}
use Rattle.nest_model.specs.Instances.{Instance, instances, no_values}
use Rattle.nest_model.specs.Memory.{cell_value}
use Rattle.nest_model.specs.Ranges.{IsInRange, is_instance_inside}
use Rattle.nest_model.specs.Visits.{Visit}
use Rattle.owner_partition.specs.declared.anchor.Anchor.{Anchor}
use Rattle.owner_partition.specs.Phases.{visit_instances, phases}
use Rattle.sync_plan.specs.Waits.{posts_at, waits_for}
use Rattle.sync_plan.specs.declared.plan.Plan.{Plan}
use Rattle.spmd_model.specs.Deeds.{owned_by}
use Rattle.spmd_model.proofs.CellsThere.{IsGoodWork, cells_there, good_in}
use Rattle.spmd_model.specs.Protocols.{held_at}
use Rattle.instance_runs.specs.Rooms.{longest_output}
use Rattle.turns.specs.CounterTurns.{counter_room, CounterTurn, awaits, begins, boundary_turns, posts, counter_turns, works}
use Rattle.turns.proofs.PhaseSums.{phases_whole, rooms_below}
use Rattle.fork_join.specs.StoreLists.{cells_of, entries_of}
use Rattle.fork_join.specs.Joins.{Goes, HoldsOwn, IsAlone, IsSafe, begun, own_place, protocol}
use Rattle.fork_join.specs.Workers.{IsOverlay, IsCounterThere}
use Rattle.fork_join.specs.declared.overlay.Overlay.{Overlay}
use Rattle.fork_join.proofs.Alone.{goes_none}

pub alone_first : (tree : Tree) (plan : Plan) (p n : ℕ) (memory : List ℤ) (stores : List (ℕ × ℤ)) (own : List ℤ) (cells done : ℕ) → IsSafe tree plan → p < plan.workers → (protocol tree plan).lawful memory (begun tree plan n) → stores ≡ [] → HoldsOwn tree plan p own done → cells ≡ cell_count tree → done ≡ begun tree plan n p
    → IsAlone tree plan p n memory stores own cells done
alone_first tree plan p n memory stores own cells done safe below lawful none holds count is = record {
  safe = safe;
  below = below;
  lawful = lawful;
  goes = subst (λ (s : List (ℕ × ℤ)). Goes (protocol tree plan) p (begun tree plan n p) s done) (sym none) (subst (Goes (protocol tree plan) p (begun tree plan n p) []) (sym is) (goes_none (protocol tree plan) safe.laws p (begun tree plan n p) below));
  holds = holds;
  count = count;
}

same_number : (a b : ℕ) → IsProp (a ≡ b)
same_number a b = Prim.hlevel props

same_value : (a b : ℤ) → IsProp (a ≡ b)
same_value a b = Prim.hlevel props

module _ (tree : Tree) (plan : Plan) (n p : ℕ) (memory : List ℤ) (o : Overlay) (kept : IsOverlay tree plan n p memory o) where
  abbrev Far : Type 0
  Far = Tree × (Plan × (ℕ × ℕ))

  far : ◌≡◌ {A = Far} (tree_of o.program.now, (o.plan.now, (o.processor, o.behind))) (tree, (plan, (p, n)))
  far = λ i. (kept.program i, (kept.plan_is i, (kept.processor i, kept.behind i)))

  pub worked : ∥ Goes (protocol tree plan) p (begun tree plan n p) (entries_of o.stores) o.done.done ∥₁
  worked = ∥∥₁_map o.goes (λ a. subst (λ (k : Far). Goes (protocol k.0 k.1.0) k.1.1.0 (begun k.0 k.1.0 k.1.1.1 k.1.1.0) (entries_of o.stores) o.done.done) far a.goes)

  pub its_cells : cells_of o.stores ≡ cell_count tree
  its_cells = ∥∥₁_elim o.goes (same_number (cells_of o.stores) (cell_count tree)) (λ a. a.count ∙ ap cell_count kept.program)

  pub its_own : HoldsOwn tree plan p o.own o.done.done
  its_own k lt = ∥∥₁_elim o.goes (same_value (cell_value o.own k) (held_at (protocol tree plan) p (own_place tree p k) o.done.done)) (λ a.
      a.holds k lt ∙ ap (λ (z : Far). held_at (protocol z.0 z.1.0) z.1.1.0 (own_place z.0 z.1.1.0 k) o.done.done) far)

-- own cells hold 0 at first
none_held : (n k : ℕ) → cell_value (replicate n (pos 0)) k ≡ pos 0
none_held zero k = refl
none_held (suc n) zero = refl
none_held (suc n) (suc k) = none_held n k

pub holds_none : (tree : Tree) (plan : Plan) (p : ℕ) (own : List ℤ) → own ≡ replicate 32 (pos 0) → HoldsOwn tree plan p own 0
holds_none tree plan p own is k lt = ap (λ l. cell_value l k) is ∙ none_held 32 k

-- ---- each cell of an instance is there

abbrev AreCells : Tree → Instance → Type 0
AreCells tree i = All (λ c. c < cell_count tree) (cells_in tree i)

good_cells : (tree : Tree) (is : List Instance) → IsWellFormed tree → All (IsGoodWork tree) is → list_all (is_instance_inside tree) is ≡ true → All (AreCells tree) is
good_cells tree [] formed good inside = All-nil (AreCells tree)
good_cells tree (i ∷ is) formed good inside =
    let parts = and_parts (is_instance_inside tree i) (list_all (is_instance_inside tree) is) inside in
    All-cons (AreCells tree) i is (cells_there tree i formed (All-head (IsGoodWork tree) i is good) parts.0) (good_cells tree is formed (All-tail (IsGoodWork tree) i is good) parts.1)

all_cells : (tree : Tree) → IsWellFormed tree → IsInRange tree → All (AreCells tree) (instances tree)
all_cells tree formed ranges = good_cells tree (instances tree) formed (good_in tree (param_values tree) tree.items [] 1 1 (no_values tree) (well_formed_parts tree formed).statements) ranges

some_cells : (tree : Tree) (test : Instance → Bool) (is : List Instance) → All (AreCells tree) is → All (AreCells tree) (filter test is)
some_cells tree test [] all = All-nil (AreCells tree)
some_cells tree test (i ∷ is) all =
    let later = some_cells tree test is (All-tail (AreCells tree) i is all) in
    elim (cases_Bool (test i)) [
      | inl holds ↦ subst (λ b. All (AreCells tree) (cond b (i ∷ filter test is) (filter test is))) (sym holds) (All-cons (AreCells tree) i (filter test is) (All-head (AreCells tree) i is all) later)
      | inr fails ↦ subst (λ b. All (AreCells tree) (cond b (i ∷ filter test is) (filter test is))) (sym fails) later
    ]

owned_cells : (tree : Tree) (a : Option Anchor) (workers p : ℕ) (v : Visit) → All (AreCells tree) (visit_instances (param_values tree) v) → All (AreCells tree) (owned_by tree a workers p v)
owned_cells tree None workers p v all = All-nil (AreCells tree)
owned_cells tree (Some a) workers p v all = some_cells tree _ (visit_instances (param_values tree) v) all

front_cells : (tree : Tree) (xs ys : List Instance) → All (AreCells tree) (xs ++ ys) → All (AreCells tree) xs × All (AreCells tree) ys
front_cells tree [] ys all = (All-nil (AreCells tree), all)
front_cells tree (x ∷ xs) ys all =
    let more = front_cells tree xs ys (All-tail (AreCells tree) x (xs ++ ys) all) in
    (All-cons (AreCells tree) x xs (All-head (AreCells tree) x (xs ++ ys) all) more.0, more.1)

awaits_there : (tree : Tree) (k : ℕ) (qs : List ℕ) (rest : List CounterTurn) → All (IsCounterThere tree) rest → All (IsCounterThere tree) (map (λ q. awaits q k) qs ++ rest)
awaits_there tree k [] rest all = all
awaits_there tree k (q ∷ qs) rest all = All-cons (IsCounterThere tree) (awaits q k) (map (λ q. awaits q k) qs ++ rest) tt (awaits_there tree k qs rest all)

boundary_there : (tree : Tree) (k : ℕ) (does : Bool) (qs : List ℕ) (rest : List CounterTurn) → All (IsCounterThere tree) rest → All (IsCounterThere tree) (boundary_turns k does qs ++ rest)
boundary_there tree k true qs rest all = All-cons (IsCounterThere tree) (posts k) (map (λ q. awaits q k) qs ++ rest) tt (awaits_there tree k qs rest all)
boundary_there tree k false qs rest all = awaits_there tree k qs rest all

works_there : (tree : Tree) (is : List Instance) (rest : List CounterTurn) → All (AreCells tree) is → All (IsCounterThere tree) rest → All (IsCounterThere tree) (map works is ++ rest)
works_there tree [] rest cells all = all
works_there tree (i ∷ is) rest cells all = All-cons (IsCounterThere tree) (works i) (map works is ++ rest) (All-head (AreCells tree) i is cells) (works_there tree is rest (All-tail (AreCells tree) i is cells) all)

turns_there : (tree : Tree) (plan : Plan) (p e : ℕ) (vs : List Visit) → All (AreCells tree) (flat_map (visit_instances (param_values tree)) vs) → All (IsCounterThere tree) (counter_turns tree plan p e vs)
turns_there tree plan p e [] all = All-nil (IsCounterThere tree)
turns_there tree plan p e (v ∷ vs) all =
    let does = posts_at tree plan p v.place v.loops in
    let qs = waits_for tree plan p v.place v.loops in
    let own = owned_by tree (slice_get plan.anchors (v.place - 1)) plan.workers p v in
    let later = counter_turns tree plan p (suc e) vs in
    let parts = front_cells tree (visit_instances (param_values tree) v) (flat_map (visit_instances (param_values tree)) vs) all in
    subst (All (IsCounterThere tree)) (sym (append_assoc (boundary_turns (e - 1) does qs) (begins e ∷ map works own) later))
    (boundary_there tree (e - 1) does qs (begins e ∷ (map works own ++ later))
    (All-cons (IsCounterThere tree) (begins e) (map works own ++ later) tt (works_there tree own later (owned_cells tree (slice_get plan.anchors (v.place - 1)) plan.workers p v parts.0) (turns_there tree plan p (suc e) vs parts.1))))

pub all_there : (tree : Tree) (plan : Plan) (p : ℕ) → IsWellFormed tree → IsInRange tree → All (IsCounterThere tree) (counter_turns tree plan p 1 (phases tree plan.cut.marks))
all_there tree plan p formed ranges = turns_there tree plan p 1 (phases tree plan.cut.marks) (subst (All (AreCells tree)) (sym (phases_whole tree plan.cut.marks)) (all_cells tree formed ranges))

-- the first processor prints no more than the whole output
pub first_room : (tree : Tree) (plan : Plan) → 0 < plan.workers → sum_by (counter_room tree) (counter_turns tree plan 0 1 (phases tree plan.cut.marks)) ≤ longest_output tree
first_room tree plan some = by plan.workers some (rooms_below tree plan)
  where
    by : (workers : ℕ) → 0 < workers → sum_by (λ p. sum_by (counter_room tree) (counter_turns tree plan p 1 (phases tree plan.cut.marks))) (range_with_len 0 workers) ≤ longest_output tree → sum_by (counter_room tree) (counter_turns tree plan 0 1 (phases tree plan.cut.marks)) ≤ longest_output tree
    by zero lt most = absurd (omega arith)
    by (suc k) lt most =
        omega (arith, most, sum_by-cons (λ p. sum_by (counter_room tree) (counter_turns tree plan p 1 (phases tree plan.cut.marks))) 0 (range_with_len 1 k))
