-- Which loops are what in a made plan.
use Rattle.std.specs.Prelude.{ℕ, ◌≡◌, List, [], ◌∷◌, ◌++◌, Option, Some}
use Rattle.std.specs.List.{flat_map}
use Rattle.nest_tree.specs.Tree.{Statements, Tree}
use Rattle.owner_partition.specs.Cuts.{Cutting}
use Rattle.sync_plan.specs.Barriers.{barrier_plan}
use Rattle.comm_system.specs.References.{phases_of}
use Rattle.maker_marks.specs.declared.tries.Tried.{Tried}
use Rattle.maker_marks.specs.declared.tries.Tried.TheVariants.{Private}
use Rattle.plan_maker.specs.Asked.{Asked, paths_asked, trips_asked}
use Rattle.maker_marks.specs.Cut.{cut_alone, cut_of}
use Rattle.maker_marks.specs.Tries.{IsMadeOf, body_among, body_of, tried_privates}

-- a cut in which each loop that is dealt out is so by a try that is made of it
pub record IsTriedCut (tree : Tree) (cut : Cutting) : Type 0 where
  pub dealt : ℕ → Option Tried
  pub own : ℕ → List ℕ
  pub cut_is : cut ≡ cut_of dealt own tree
  pub made : (n : ℕ) (t : Tried) (body : Statements) → dealt n ≡ Some t
      → body_among n tree.items ≡ Some body → IsMadeOf t (own n) body

-- what is asked of two trips of the loops that a cut deals out, and of the paths of their private scalars
abbrev pub cut_asked : Tree → Cutting → List Asked
cut_asked tree cut =
    flat_map (trips_asked tree (barrier_plan cut [] 1 [])) (phases_of tree cut.marks)

abbrev pub cut_paths_asked : Tree → Cutting → List Asked
cut_paths_asked tree cut =
    flat_map (paths_asked tree (barrier_plan cut [] 1 [])) (phases_of tree cut.marks)

-- of the loop with this number, where it alone is dealt out so, with these private scalars: the one, then the other; and with those of the try
abbrev pub alone_asked : Tree → ℕ → Tried → List ℕ → List Asked
alone_asked tree n t vs =
    cut_asked tree (cut_alone tree n t vs) ++ cut_paths_asked tree (cut_alone tree n t vs)

abbrev pub loop_asked : Tree → ℕ → Tried → List Asked
loop_asked tree n t = alone_asked tree n t (tried_privates t (body_of tree n))

-- of the path of a scalar in that loop
abbrev pub path_asked : Tree → ℕ → ℕ → List Asked
path_asked tree n v = cut_paths_asked tree (cut_alone tree n Private (v ∷ []))
