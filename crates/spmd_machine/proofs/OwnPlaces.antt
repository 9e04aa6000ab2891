-- An access of an own scalar by a processor.
use Rattle.std.proofs.Common.{◌≡◌, ℕ, ◌+◌, ◌*◌, ◌<◌, nat_le, Option, Some, None, ap, ◌∙◌, arith}
use Rattle.std.specs.Option.{is_some}
use Rattle.std.proofs.lemmas.Bool.{le-leb, lt-leb}
use Rattle.nest_tree.specs.Layout.{cell_count}
use Rattle.nest_tree.specs.Tree.{Tree}
use Rattle.sync_plan.specs.Own.{at_slot, own_cell, own_of}
use Rattle.sync_plan.specs.declared.plan.Plan.{Plan}

-- an access is one of an own cell where the cell is that of an own scalar
pub own_quiet : (tree : Tree) (plan : Plan) (place p c : ℕ) (o : Option ℕ) → c < cell_count tree → (own_of tree plan place).slot c ≡ o → nat_le (cell_count tree) (own_cell (own_of tree plan place) p c) ≡ is_some o
own_quiet tree plan place p c None below at = ap (λ q. nat_le (cell_count tree) (at_slot (own_of tree plan place) p c q)) at ∙ lt-leb (cell_count tree) c below
own_quiet tree plan place p c (Some k) below at = ap (λ q. nat_le (cell_count tree) (at_slot (own_of tree plan place) p c q)) at ∙ le-leb (cell_count tree) (cell_count tree + (32 * p + k)) (omega arith)
