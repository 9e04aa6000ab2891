-- The phases that begin among counter turns, and what moves of a cursor do to them.
use Rattle.std.proofs.Common.{◌≡◌, ℕ, suc, ◌+◌, ◌-◌, Bool, true, false, List, [], ◌∷◌, ◌++◌, map, length, refl, ap, sym, subst, ◌∙◌, append_assoc, arith}
use Rattle.std.specs.Prelude.{slice_get}
use Rattle.std.specs.List.{range_with_len}
use Rattle.nest_tree.specs.Tree.{Tree}
use Rattle.nest_model.specs.Instances.{Instance}
use Rattle.nest_model.specs.Visits.{Visit}
use Rattle.sync_plan.specs.Waits.{posts_at, waits_for}
use Rattle.sync_plan.specs.declared.plan.Plan.{Plan}
use Rattle.spmd_model.specs.Deeds.{owned_by}
use Rattle.turns.specs.CounterTurns.{CounterTurn, posts, awaits, begins, works, boundary_turns, counter_turns}
use Rattle.turns.specs.CountersLeft.{IsCounterNext, counters_left}
use Rattle.turns.specs.declared.counters.CounterNext.{CounterNext}
use Rattle.turns.specs.declared.counters.CounterNext.TheVariants.{Post, Await, Phase, Work, End}
use Rattle.turns.specs.declared.counters.CounterTurns.{CounterTurns}
use Rattle.turns.specs.Turns.{beginnings}
use Rattle.turns.specs.TurnsLeft.{IsCounterOf}

-- ---- among all turns

works_begin : (is : List Instance) (later : List CounterTurn) → beginnings (map works is ++ later) ≡ beginnings later
works_begin [] later = refl
works_begin (i ∷ is) later = works_begin is later

awaits_begin : (number : ℕ) (qs : List ℕ) (later : List CounterTurn) → beginnings (map (λ q. awaits q number) qs ++ later) ≡ beginnings later
awaits_begin number [] later = refl
awaits_begin number (q ∷ qs) later = awaits_begin number qs later

boundary_begins : (number : ℕ) (does : Bool) (qs : List ℕ) (later : List CounterTurn) → beginnings (boundary_turns number does qs ++ later) ≡ beginnings later
boundary_begins number true qs later = awaits_begin number qs later
boundary_begins number false qs later = awaits_begin number qs later

pub all_begin : (tree : Tree) (plan : Plan) (p e : ℕ) (vs : List Visit) → beginnings (counter_turns tree plan p e vs) ≡ range_with_len e (length vs)
all_begin tree plan p e [] = refl
all_begin tree plan p e (v ∷ vs) =
    let does = posts_at tree plan p v.place v.loops in
    let qs = waits_for tree plan p v.place v.loops in
    let own = owned_by tree (slice_get plan.anchors (v.place - 1)) plan.workers p v in
    let rest = counter_turns tree plan p (suc e) vs in
    let next_is : suc e ≡ e + 1 = omega arith in
    ap beginnings (append_assoc (boundary_turns (e - 1) does qs) (begins e ∷ map works own) rest)
    ∙ boundary_begins (e - 1) does qs (begins e ∷ (map works own ++ rest))
    ∙ ap (λ l. e ∷ l) (works_begin own rest ∙ all_begin tree plan p (suc e) vs ∙ ap (λ k. range_with_len k (length vs)) next_is)

-- ---- past the first turn

-- it was that a phase begins
pub phase_begun : (ts rest left : List CounterTurn) (e : ℕ) (u : CounterTurn) → ts ≡ begins e ∷ rest → ts ≡ u ∷ left → beginnings ts ≡ e ∷ beginnings left
phase_begun ts rest left e u is passed =
    let both : begins e ∷ rest ≡ u ∷ left = sym is ∙ passed in
    let same : rest ≡ left = cc in
    ap beginnings is ∙ ap (λ l. e ∷ beginnings l) same

-- it was an instance
pub work_begun : (ts rest left : List CounterTurn) (i : Instance) (u : CounterTurn) → ts ≡ works i ∷ rest → ts ≡ u ∷ left → beginnings left ≡ beginnings ts
work_begun ts rest left i u is passed =
    let both : works i ∷ rest ≡ u ∷ left = sym is ∙ passed in
    let same : rest ≡ left = cc in
    sym (ap beginnings is ∙ ap beginnings same)

-- it was a counter
pub counter_begun : (ts left : List CounterTurn) (number : ℕ) (u : CounterTurn) → IsCounterOf ts number → ts ≡ u ∷ left → beginnings left ≡ beginnings ts
counter_begun [] left number u of passed = absurd of
counter_begun (posts k ∷ rest) left number u of passed = let same : rest ≡ left = cc in sym (ap beginnings same)
counter_begun (awaits on k ∷ rest) left number u of passed = let same : rest ≡ left = cc in sym (ap beginnings same)
counter_begun (begins e ∷ rest) left number u of passed = absurd of
counter_begun (works i ∷ rest) left number u of passed = absurd of

-- ---- past all awaits of a boundary

pub awaits_begun : (number : ℕ) (qs : List ℕ) (ts left : List CounterTurn) → ts ≡ map (λ q. awaits q number) qs ++ left → beginnings left ≡ beginnings ts
awaits_begun number qs ts left is = sym (ap beginnings is ∙ awaits_begin number qs left)

-- ---- past a strip

pub strip_begun : (is : List Instance) (ts left : List CounterTurn) → ts ≡ map works is ++ left → beginnings left ≡ beginnings ts
strip_begun is ts left at = sym (ap beginnings at ∙ works_begin is left)

-- ---- past a turn that was looked at

-- it wasn't that a phase begins
pub other_begun : (c : CounterTurns) (n : CounterNext) (u : CounterTurn) (left : List CounterTurn) → IsCounterNext c n → ((e : ℕ) → n ≡ Phase e → ⊥) → counters_left c ≡ u ∷ left → beginnings left ≡ beginnings (counters_left c)
other_begun c (Post number) u left next other passed = counter_begun (counters_left c) left number u (subst (λ ts. IsCounterOf ts number) (sym next.1) refl) passed
other_begun c (Await on wanted) u left next other passed = counter_begun (counters_left c) left wanted u (subst (λ ts. IsCounterOf ts wanted) (sym next.1) refl) passed
other_begun c (Phase e) u left next other passed = absurd (other e refl)
other_begun c (Work stop) u left next other passed = work_begun (counters_left c) next.1 left next.0.instance u next.2 passed
other_begun c End u left next other passed = absurd (let clash : [] ≡ u ∷ left = sym next ∙ passed in cc)
