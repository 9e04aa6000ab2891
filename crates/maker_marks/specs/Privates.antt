-- The private scalars of loops, by how these are dealt out and which each has then.
use Rattle.std.specs.Prelude.{ℕ, ◌-◌, List, [], ◌∷◌, ◌++◌, slice_index_or, Option, Some, None}
use Rattle.nest_tree.specs.Tree.{Statement, Statements, do_loop, work, continue, done, next}
use Rattle.maker_marks.specs.declared.tries.Tried.{Tried}

-- none of each loop
abbrev mutual
  pub none_in : Statement → List (List ℕ)
  none_in (do_loop head body) = [] ∷ none_of body
  none_in (work w) = []
  none_in (continue line) = []

  pub none_of : Statements → List (List ℕ)
  none_of done = []
  none_of (next s rest) = none_in s ++ none_of rest

-- those of the loop with this number, from 1
abbrev pub own_at : List (List ℕ) → ℕ → List ℕ
own_at lists n = slice_index_or lists (n - 1) []

-- those of a loop and of those inside, where it is known how it is dealt out, which it has then, and which those inside have if it isn't
abbrev pub privates_by : Option Tried → List ℕ → Statements → List (List ℕ) → List (List ℕ)
privates_by (Some t) own body inside = own ∷ none_of body
privates_by None own body inside = [] ∷ inside

-- from the outside in: a loop that is dealt out has its own, and those inside it have none
abbrev mutual
  pub privates_in : (ℕ → Option Tried) → (ℕ → List ℕ) → Statement → List (List ℕ)
  privates_in dealt own (do_loop head body) =
      privates_by (dealt head.number) (own head.number) body (privates_of dealt own body)
  privates_in dealt own (work w) = []
  privates_in dealt own (continue line) = []

  pub privates_of : (ℕ → Option Tried) → (ℕ → List ℕ) → Statements → List (List ℕ)
  privates_of dealt own done = []
  privates_of dealt own (next s rest) = privates_in dealt own s ++ privates_of dealt own rest

-- those of the loop with this number and body
abbrev pub loop_privates : (ℕ → Option Tried) → (ℕ → List ℕ) → ℕ → Statements → List (List ℕ)
loop_privates dealt own n body = privates_by (dealt n) (own n) body (privates_of dealt own body)
