-- The systems of a pair that are made one at a time.
use Rattle.std.proofs.Common.{◌≡◌, ℕ, zero, suc, ◌+◌, ℤ, pos, neg_ℤ, List, [], ◌∷◌, ◌++◌, Some, None, slice_get, map, take, ap, ◌∙◌, arith}
use Rattle.farkas_cert.specs.Inequalities.{Inequalities}
use Rattle.nest_tree.specs.Tree.{Tree}
use Rattle.nest_systems.specs.Growing.{with_constraints}
use Rattle.owner_partition.specs.declared.anchor.Anchor.{Anchor}
use Rattle.sync_plan.specs.declared.plan.Plan.{Plan}
use Rattle.conflict_rules.specs.Boundaries.{Side}
use Rattle.conflict_rules.specs.Slots.{Slot}
use Rattle.comm_system.specs.Obligations.{Task, last_of, numbered_from, piece_task, pieces_from}
use Rattle.comm_system.specs.OwnerRows.{Piece, above, below, distance}
use Rattle.comm_system.specs.Pairs.{Pair}
use Rattle.comm_system.specs.PieceViews.{piece_seen}
use Rattle.conflict_rules.specs.References.{variable_of}
use Rattle.comm_system.specs.SystemViews.{IsShared}
use Rattle.comm_system.specs.declared.in_place.PairSystems.{PairSystems}
use Rattle.comm_system.specs.declared.obligation.Topic.{Topic}
use Rattle.comm_system.specs.declared.pair_systems.Shared.{Shared}
use Rattle.comm_system.proofs.SystemParts.{piece_system}

-- a piece's task, by the rows that all pieces share
pub piece_same : (tree : Tree) (plan : Plan) (slot : Slot) (left right : ℕ) (producers : List (Anchor × Side)) (pair : Pair) (shared : Shared) (s : Inequalities) (variable : ℕ) (range : ℤ × ℤ) →
    IsShared tree plan slot producers pair shared → s ≡ shared.system → variable ≡ variable_of pair.first.what → range ≡ (neg_ℤ (pos (distance below left right)), pos (distance above left right)) → (number : ℕ) (p : Piece) →
    record { system = with_constraints (last_of left right shared.owners.items p) s; lines = (pair.first.line, pair.second.line); variable = variable; level = slot.level; piece = number; range = range } ≡ piece_task tree plan slot left right producers pair number p
piece_same tree plan slot left right producers pair shared s variable range is same named far number p =
    let last = last_of left right shared.owners.items p in
    let system = piece_system tree plan slot left right producers pair shared p (with_constraints last s) is (ap (with_constraints last) same) in
    let at : Inequalities → ℕ → ℤ × ℤ → Task = λ x v r. record { system = x; lines = (pair.first.line, pair.second.line); variable = v; level = slot.level; piece = number; range = r } in
    ap (λ x. at x variable range) system ∙ ap (λ v. at (piece_task tree plan slot left right producers pair 1 p).system v range) named ∙ ap (λ r. at (piece_task tree plan slot left right producers pair 1 p).system (variable_of pair.first.what) r) far

-- one more of a list
pub take_got : {X : Type 0} (xs : List X) (k : ℕ) (x : X) → slice_get xs k ≡ Some x → take (k + 1) xs ≡ take k xs ++ x ∷ []
take_got [] k x at = absurd (let no : None ≡ Some x = at in cc)
take_got (y ∷ xs) zero x at = let same : y ≡ x = cc in ap (λ z. z ∷ []) same
take_got (y ∷ xs) (suc k) x at = let e : suc k + 1 ≡ suc (k + 1) = omega arith in ap (λ j. take j (y ∷ xs)) e ∙ ap (λ zs. y ∷ zs) (take_got xs k x at)

-- that of a piece, over this shared system
abbrev pub task_over : PairSystems → Topic → Inequalities → ℕ → Piece → Task
task_over p t s number piece =
    record { system = with_constraints (last_of p.waits.now.left p.waits.now.right p.owners.items piece) s; lines = t.lines; variable = t.variable; level = t.level; piece = number; range = t.range }

-- those of the same shared system, and what is said of it
pub all_same : (p : PairSystems) (t : Topic) (s new : Inequalities) → new ≡ s →
    numbered_from p.number (pieces_from (task_over p t new) 1 (map piece_seen p.pieces.items)) ≡ numbered_from p.number (pieces_from (task_over p t s) 1 (map piece_seen p.pieces.items))
all_same p t s new same = ap (λ x. numbered_from p.number (pieces_from (task_over p t x) 1 (map piece_seen p.pieces.items))) same
