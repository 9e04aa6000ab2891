-- How many moves a walk still makes: past each statement, into each loop, to each next trip and out of each loop.
use Rattle.std.specs.Prelude.{ℕ, suc, ◌+◌, ℤ, Bool, List, [], ◌∷◌, sum_by, if◌then◌else◌}
use Rattle.nest_tree.specs.Tree.{Statement, Statements, do_loop, work, continue, done, next}
use Rattle.nest_model.specs.Instances.{head_trips, with_loop}
use Rattle.nest_walk.specs.Paths.{Round, by_number}
use Rattle.nest_walk.specs.Walks.{Walk, Stretch, Level, stretch_behind}

abbrev mutual
  pub moves_of : List ℤ → (ℕ → Bool) → Statement → List ℤ → ℕ
  moves_of params enters (do_loop head body) loops =
      if enters head.number
      then 2 + sum_by (λ v. suc (moves_in params enters body (with_loop loops head.number v)))
      (head_trips params head loops)
      else 1
  moves_of params enters (work w) loops = 1
  moves_of params enters (continue line) loops = 1

  pub moves_in : List ℤ → (ℕ → Bool) → Statements → List ℤ → ℕ
  moves_in params enters done loops = 0
  moves_in params enters (next s rest) loops =
      moves_of params enters s loops + moves_in params enters rest loops

abbrev pub stretch_moves : Walk → Stretch → List ℤ → ℕ
stretch_moves walk s loops = moves_in walk.params walk.enters s.statements loops

-- the moves that are left, as the stops that are left
abbrev pub moves_left : Walk → List Round → List Level → Stretch → ℕ
moves_left walk [] levels rest = stretch_moves walk rest (by_number walk.loops [])
moves_left walk (r ∷ rounds) [] rest = 0
moves_left walk (r ∷ rounds) (l ∷ levels) rest =
    stretch_moves walk rest (by_number walk.loops (r ∷ rounds))
    + (suc (sum_by (λ v. suc (stretch_moves walk l.body
    (with_loop (by_number walk.loops rounds) r.number v))) l.later)
    + moves_left walk rounds levels (stretch_behind walk l))
