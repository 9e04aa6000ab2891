-- The cut of a program, by how its loops are dealt out.
use Rattle.std.specs.Prelude.{ℕ, ◌-◌, [], ◌∷◌, ◌++◌, List, replicate, Option, Some, None}
use Rattle.nest_tree.specs.Tree.{Tree}
use Rattle.owner_partition.specs.Cuts.{Cutting}
use Rattle.maker_marks.specs.declared.tries.Tried.{Tried}
use Rattle.maker_marks.specs.Marks.{marks_of}
use Rattle.maker_marks.specs.Privates.{own_at, privates_of}
use Rattle.maker_marks.specs.Tries.{body_of, tried_at, tried_privates}

-- the cut in which loops are dealt out so, by number, each with these private scalars
abbrev pub cut_of : (ℕ → Option Tried) → (ℕ → List ℕ) → Tree → Cutting
cut_of dealt own tree =
    record { marks = marks_of dealt tree.items; privates = privates_of dealt own tree.items }

-- the loop with this number is dealt out by this try, and no other loop: those round it are Outer
abbrev pub only : ℕ → Tried → List (Option Tried)
only n t = replicate (n - 1) None ++ Some t ∷ []

-- with these private scalars, and with those of the try
abbrev pub cut_alone : Tree → ℕ → Tried → List ℕ → Cutting
cut_alone tree n t vs = cut_of (tried_at (only n t)) (own_at (replicate (n - 1) [] ++ vs ∷ [])) tree

abbrev pub cut_of_try : Tree → ℕ → Tried → Cutting
cut_of_try tree n t = cut_alone tree n t (tried_privates t (body_of tree n))
