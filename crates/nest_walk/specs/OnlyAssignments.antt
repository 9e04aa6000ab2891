-- A loop's body that is one assignment without a comparison, with at most a CONTINUE behind it.
use Rattle.std.specs.Prelude.{ℕ, Bool, false, Option, None, Some, is_none, List, [], ◌∷◌, ◌≡◌}
use Rattle.nest_tree.specs.Tree.{Work, assign, print, Statement, do_loop, work, continue}
use Rattle.nest_tree.specs.declared.tree.Access.{Access}
use Rattle.nest_tree.specs.declared.tree.Expr.{Expr}
use Rattle.nest_tree.specs.declared.tree.Item.{Item}
use Rattle.nest_tree.specs.declared.tree.Item.TheVariants.{Assign, Continue}

-- the CONTINUE at the end of a loop's body, where there is one
abbrev pub ending : Option ℕ → List Item
ending None = []
ending (Some line) = Continue line ∷ []

-- statements are this assignment, without a comparison, and at most a CONTINUE behind it
abbrev pub IsOnlyAssignment : List Item → Item → Type 0
IsOnlyAssignment items item = (target : Access) × (e : Expr) × (line : ℕ) × (end : Option ℕ)
    × (item ≡ Assign target e None line) × (items ≡ item ∷ ending end)

-- a statement is an assignment without a comparison
abbrev pub is_plain_work : Work → Bool
is_plain_work (assign a) = is_none a.guard
is_plain_work (print p) = false

abbrev pub is_plain : Statement → Bool
is_plain (do_loop head body) = false
is_plain (work w) = is_plain_work w
is_plain (continue line) = false
