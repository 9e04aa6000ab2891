-- What is asked where a loop alone is dealt out.
use Rattle.std.proofs.Common.{◌≡◌, ℕ, List, [], ap, ◌∙◌, subst}
use Rattle.std.specs.List.{flat_map}
use Rattle.nest_tree.specs.Tree.{Tree}
use Rattle.owner_partition.specs.Cuts.{Cutting}
use Rattle.sync_plan.specs.Barriers.{barrier_plan}
use Rattle.sync_plan.specs.declared.plan.Conditions.TheVariants.{Values}
use Rattle.sync_plan.specs.declared.plan.Plan.{Plan}
use Rattle.comm_system.specs.References.{StaticPhase, phases_of}
use Rattle.plan_maker.specs.Asked.{paths_asked, trips_asked}
use Rattle.maker_marks.specs.declared.tries.Tried.{Tried}
use Rattle.maker_marks.specs.Cut.{cut_alone}
use Rattle.plan_maker.specs.Cut.{cut_asked, cut_paths_asked}
use Rattle.plan_maker.specs.Judged.{IsVerdict, Judged}
use Rattle.plan_maker.proofs.Verdicts.{paths_same, trips_same}

module _ (tree : Tree) (plan : Plan) (cut : Cutting) (phases : List StaticPhase) (same : plan.cut ≡ cut) (conditions : plan.conditions ≡ Values) (are : phases ≡ phases_of tree cut.marks) where
  pub trips_are : flat_map (trips_asked tree plan) phases ≡ cut_asked tree cut
  trips_are = trips_same tree plan (barrier_plan cut [] 1 []) same conditions phases ∙ ap (flat_map (trips_asked tree (barrier_plan cut [] 1 []))) are

  pub paths_are : flat_map (paths_asked tree plan) phases ≡ cut_paths_asked tree cut
  paths_are = paths_same tree plan (barrier_plan cut [] 1 []) same conditions phases ∙ ap (flat_map (paths_asked tree (barrier_plan cut [] 1 []))) are

  -- the verdicts on them, by the try
  module _ (n : ℕ) (t : Tried) (vs : List ℕ) (is : cut ≡ cut_alone tree n t vs) where
    pub trips_judged : (v : Judged) → IsVerdict (flat_map (trips_asked tree plan) phases) v → IsVerdict (cut_asked tree (cut_alone tree n t vs)) v
    trips_judged v h = subst (λ qs. IsVerdict qs v) (trips_are ∙ ap (cut_asked tree) is) h

    pub paths_judged : (v : Judged) → IsVerdict (flat_map (paths_asked tree plan) phases) v → IsVerdict (cut_paths_asked tree (cut_alone tree n t vs)) v
    paths_judged v h = subst (λ qs. IsVerdict qs v) (paths_are ∙ ap (cut_paths_asked tree) is) h
