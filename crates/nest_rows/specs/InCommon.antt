-- The loops that two places have in common, from the outermost.
use Rattle.std.specs.Prelude.{ℕ, suc, ◌==◌, ◌&&◌, Bool, true, false, List, [], ◌∷◌, if◌then◌else◌}
use Rattle.nest_tree.specs.Tree.{Head}

-- these loops are the first of those
abbrev pub is_prefix : List Head → List Head → Bool
is_prefix [] others = true
is_prefix (h ∷ heads) [] = false
is_prefix (h ∷ heads) (g ∷ others) = h.number == g.number && is_prefix heads others

-- how many there are in common
abbrev pub common : List Head → List Head → ℕ
common [] others = 0
common (h ∷ heads) [] = 0
common (h ∷ heads) (g ∷ others) = if h.number == g.number then suc (common heads others) else 0
