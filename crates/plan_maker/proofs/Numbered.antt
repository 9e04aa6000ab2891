-- Obligations without their numbers.
use Rattle.std.proofs.Common.{◌≡◌, ℕ, suc, List, [], ◌∷◌, ◌++◌, map, refl, ap, sym, ◌∙◌}
use Rattle.std.specs.List.{flat_map}
use Rattle.std.proofs.lemmas.List.{map-append}
use Rattle.nest_tree.specs.Tree.{Tree}
use Rattle.owner_partition.specs.declared.anchor.Dist.{Dist}
use Rattle.sync_plan.specs.declared.plan.Plan.{Plan}
use Rattle.comm_system.specs.Obligations.{Task, numbered_from}
use Rattle.comm_system.specs.Subjects.{Group, obligations_in}
use Rattle.plan_maker.specs.Asked.{asked}
use Rattle.plan_maker.specs.Judged.{asked_about, asked_in}

pub asked_numbered : (dists : List Dist) (n : ℕ) (tasks : List Task) → map (asked_about dists) (numbered_from n tasks) ≡ map (asked dists) tasks
asked_numbered dists n [] = refl
asked_numbered dists n (k ∷ tasks) = ap (λ qs. asked dists k ∷ qs) (asked_numbered dists (suc n) tasks)

-- what is asked of pairs of accesses, one behind another
pub asked_flat : (tree : Tree) (plan : Plan) (dists : List Dist) (gs : List Group) → flat_map (asked_in tree plan dists) gs ≡ map (asked_about dists) (flat_map (obligations_in tree plan) gs)
asked_flat tree plan dists [] = refl
asked_flat tree plan dists (g ∷ gs) =
    ap (λ qs. asked_in tree plan dists g ++ qs) (asked_flat tree plan dists gs) ∙ sym (map-append (asked_about dists) (obligations_in tree plan g) (flat_map (obligations_in tree plan) gs))
