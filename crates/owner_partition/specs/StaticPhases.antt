-- Static phases in the text, with the Outer loops round them.
use Rattle.std.specs.Prelude.{ℕ, List, [], map, reverse, take, Option, Some, None}
use Rattle.nest_tree.specs.Tree.{Head}
use Rattle.nest_rows.specs.Views.{heads_of}
use Rattle.nest_rows.specs.declared.terms.Around.{Around}
use Rattle.owner_partition.specs.declared.outer_loops.OuterLoops.{OuterLoops}
use Rattle.owner_partition.specs.declared.outer_loops.Six.{Six}
use Rattle.owner_partition.specs.declared.static_phase.StaticPhase.{StaticPhase}

-- so many of six loops
abbrev pub first_loops : ℕ → Option Six → List Around
first_loops depth None = []
first_loops depth (Some six) = take depth six.items

-- the loops, from the outermost
abbrev pub loops_of : OuterLoops → List Around
loops_of x = first_loops x.depth x.six

-- the numbers of loops, the innermost first
abbrev pub numbers_round : List Around → List ℕ
numbers_round around = reverse (map (λ (h : Head). h.number) (heads_of around))

-- those of the Outer loops round a static phase
abbrev pub loops_round : StaticPhase → List ℕ
loops_round s = numbers_round (loops_of s.outer)
