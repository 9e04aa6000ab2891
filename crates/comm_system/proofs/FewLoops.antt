-- At most six loops are round a static phase, and two have no more in common.
use Rattle.std.proofs.Common.{◌≡◌, ℕ, suc, ◌≤◌, inl, inr, Option, Some, None, List, [], ◌∷◌, length, if◌then◌else◌, ap, arith}
use Rattle.std.proofs.lemmas.List.{length-map, length-take}
use Rattle.std.proofs.lemmas.Bool.{cases_eq}
use Rattle.nest_tree.specs.Tree.{Head}
use Rattle.nest_tree.specs.View.{head_of}
use Rattle.nest_rows.specs.InCommon.{common}
use Rattle.nest_rows.specs.Views.{heads_of}
use Rattle.nest_rows.specs.declared.terms.Around.{Around}
use Rattle.owner_partition.specs.StaticPhases.{first_loops, loops_of}
use Rattle.owner_partition.specs.declared.outer_loops.OuterLoops.{OuterLoops}
use Rattle.owner_partition.specs.declared.outer_loops.Six.{Six}
use Rattle.comm_system.proofs.StationOrder.{differ_test}
use Rattle.comm_system.proofs.Timeline.{common_same}

pub common_within : (hs gs : List Head) → (common hs gs ≤ length hs) × (common hs gs ≤ length gs)
common_within [] gs = (omega arith, omega arith)
common_within (h ∷ hs) [] = (omega arith, omega arith)
common_within (h ∷ hs) (g ∷ gs) = elim (cases_eq h.number g.number) [
  | inl same ↦ let c = common_same h g hs gs same in let w = common_within hs gs in (omega (arith, c, w.0), omega (arith, c, w.1))
  | inr ne ↦ let c : common (h ∷ hs) (g ∷ gs) ≡ 0 = ap (λ b. if b then suc (common hs gs) else 0) (differ_test h.number g.number ne) in (omega (arith, c), omega (arith, c))
]

first_few : (depth : ℕ) (six : Option Six) → length (first_loops depth six) ≤ depth
first_few depth None = omega arith
first_few depth (Some six) = omega (arith, length-take depth six.items)

few_loops : (x : OuterLoops) → length (heads_of (loops_of x)) ≤ 6
few_loops x = omega (arith, length-map (loops_of x) (λ (a : Around). head_of a.nest.now), first_few x.depth x.six, x.within)

pub few_in_common : (x y : OuterLoops) → common (heads_of (loops_of x)) (heads_of (loops_of y)) ≤ 6
few_in_common x y = omega (arith, few_loops x, (common_within (heads_of (loops_of x)) (heads_of (loops_of y))).0)
