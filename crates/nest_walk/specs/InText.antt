-- What is left of a walk stands in the program's text where its numbers say.
use Rattle.std.specs.Prelude.{ℕ, Bool, List, [], ◌∷◌}
use Rattle.std.proofs.Props.{props}
use Rattle.nest_tree.specs.Tree.{Tree}
use Rattle.nest_model.specs.Visits.{every}
use Rattle.nest_walk.specs.Paths.{Round}
use Rattle.nest_walk.specs.Places.{numbers_of}
use Rattle.nest_walk.specs.Texts.{StandFrom, placed, placed_of, works}
use Rattle.nest_walk.specs.Walks.{Level, Stretch, Walk, stretch_behind}

pub record StretchInText (tree : Tree) (enters : ℕ → Bool) (around : List ℕ) (s : Stretch) :
    Type 0 where
  pub stops : StandFrom (placed tree enters) s.place (placed_of enters around s.statements)
  pub works : StandFrom (works tree) s.first (placed_of every around s.statements)

StretchInText-prop : (tree : Tree) (enters : ℕ → Bool) (around : List ℕ) (s : Stretch)
    → IsProp (StretchInText tree enters around s)
StretchInText-prop tree enters around s = hlevel props

-- the rest of the innermost body, each body, and what stands behind each loop
abbrev pub AreInText : Tree → Walk → List Round → List Level → Stretch → Type 0
AreInText tree walk [] levels rest = StretchInText tree walk.enters [] rest
AreInText tree walk (r ∷ rounds) [] rest = ⊥
AreInText tree walk (r ∷ rounds) (l ∷ levels) rest =
    StretchInText tree walk.enters (r.number ∷ numbers_of rounds) rest
    × StretchInText tree walk.enters (r.number ∷ numbers_of rounds) l.body
    × AreInText tree walk rounds levels (stretch_behind walk l)

pub AreInText-prop : (tree : Tree) (walk : Walk) (rounds : List Round) (levels : List Level)
    (rest : Stretch) → IsProp (AreInText tree walk rounds levels rest)
AreInText-prop tree walk [] levels rest = hlevel (props, StretchInText-prop)
AreInText-prop tree walk (r ∷ rounds) [] rest = hlevel props
AreInText-prop tree walk (r ∷ rounds) (l ∷ levels) rest = hlevel
    (props, StretchInText-prop, AreInText-prop tree walk rounds levels (stretch_behind walk l))
