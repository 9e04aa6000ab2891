-- Verdicts on loops, and their reasons.
use Rattle.std.proofs.Common.{◌≡◌, ℕ, suc, ◌+◌, ◌-◌, Bool, true, false, List, [], ◌∷◌, ◌++◌, take, length, Some, if◌then◌else◌, refl, ap, ap₂, ◌∙◌, subst, inl, inr, arith, length-take}
use Rattle.std.specs.Prelude.{slice_get}
use Rattle.std.specs.List.{flat_map}
use Rattle.std.proofs.lemmas.Option.{slice_get_within}
use Rattle.nest_tree.specs.Tree.{Tree}
use Rattle.owner_partition.specs.declared.cut.Mark.{Mark}
use Rattle.sync_plan.specs.declared.plan.Plan.{Plan}
use Rattle.comm_system.specs.References.{StaticPhase}
use Rattle.comm_system.proofs.InPlace.{take_got}
use Rattle.plan_maker.specs.Asked.{paths_asked, trips_asked}
use Rattle.plan_maker.specs.Bars.{is_open, open_loops}
use Rattle.plan_maker.specs.Loops.{AreLoopVerdicts, IsLoopVerdict, LoopVerdict}
use Rattle.plan_maker.proofs.Lists.{get_pushed}

-- one more
pub verdict_more : (tree : Tree) (vs : List LoopVerdict) (v : LoopVerdict) → AreLoopVerdicts tree vs → IsLoopVerdict tree (length vs + 1) v → AreLoopVerdicts tree (vs ++ v ∷ [])
verdict_more tree vs v all new n w from at =
    elim (get_pushed vs v (n - 1) w at) [
      | inl old ↦ all n w from old
      | inr h ↦ let number : length vs + 1 ≡ n = omega (arith, h.0, from) in subst (λ k. IsLoopVerdict tree k w) number (subst (IsLoopVerdict tree (length vs + 1)) h.1 new)
    ]

-- what is asked of trips depends on nothing of a plan but its cut and its conditions
pub trips_same : (tree : Tree) (a b : Plan) → a.cut ≡ b.cut → a.conditions ≡ b.conditions → (phases : List StaticPhase) → flat_map (trips_asked tree a) phases ≡ flat_map (trips_asked tree b) phases
trips_same tree a b cut conditions [] = refl
trips_same tree a b cut conditions (s ∷ phases) =
    ap₂ (λ x y. x ++ y) (ap₂ (λ c k. trips_asked tree (record b { cut = c; conditions = k }) s) cut conditions) (trips_same tree a b cut conditions phases)

-- nor what is asked of paths
pub paths_same : (tree : Tree) (a b : Plan) → a.cut ≡ b.cut → a.conditions ≡ b.conditions → (phases : List StaticPhase) → flat_map (paths_asked tree a) phases ≡ flat_map (paths_asked tree b) phases
paths_same tree a b cut conditions [] = refl
paths_same tree a b cut conditions (s ∷ phases) =
    ap₂ (λ x y. x ++ y) (ap₂ (λ c k. paths_asked tree (record b { cut = c; conditions = k }) s) cut conditions) (paths_same tree a b cut conditions phases)

open-more : (n : ℕ) (marks : List Mark) (m : Mark) → open_loops n (marks ++ m ∷ []) ≡ open_loops n marks ++ (if is_open m then (n + length marks) ∷ [] else [])
open-more n [] m = let e : n ≡ n + 0 = omega arith in ap (λ k. if is_open m then k ∷ [] else []) e
open-more n (x ∷ marks) m = by (is_open x) (open-more (suc n) marks m)
  where
    by : (b : Bool) → open_loops (suc n) (marks ++ m ∷ []) ≡ open_loops (suc n) marks ++ (if is_open m then (suc n + length marks) ∷ [] else []) →
        (if b then n ∷ open_loops (suc n) (marks ++ m ∷ []) else open_loops (suc n) (marks ++ m ∷ [])) ≡ (if b then n ∷ open_loops (suc n) marks else open_loops (suc n) marks) ++ (if is_open m then (n + suc (length marks)) ∷ [] else [])
    by true h = let e : suc n + length marks ≡ n + suc (length marks) = omega arith in ap (λ ks. n ∷ ks) (h ∙ ap (λ k. open_loops (suc n) marks ++ (if is_open m then k ∷ [] else [])) e)
    by false h = let e : suc n + length marks ≡ n + suc (length marks) = omega arith in h ∙ ap (λ k. open_loops (suc n) marks ++ (if is_open m then k ∷ [] else [])) e

pub open_taken : (marks : List Mark) (i : ℕ) (m : Mark) → slice_get marks i ≡ Some m → open_loops 1 (take (i + 1) marks) ≡ open_loops 1 (take i marks) ++ (if is_open m then (i + 1) ∷ [] else [])
open_taken marks i m at =
    let inside = slice_get_within marks i m at in
    let long : length (take i marks) ≡ i = simp length-take (omega (arith, inside)) in
    let number : 1 + length (take i marks) ≡ i + 1 = omega (arith, long) in
    ap (open_loops 1) (take_got marks i m at) ∙ open-more 1 (take i marks) m ∙ ap (λ k. open_loops 1 (take i marks) ++ (if is_open m then k ∷ [] else [])) number
