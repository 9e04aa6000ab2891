use Rattle.std.proofs.Common.{rules}
use Rattle.std.proofs.lemmas.Result.{IfOk-weaker}
use Rattle.nest_tree.specs.View.{tree_of}
use Rattle.c_expressions.specs.Sums.{IsPlain}
use Rattle.c_owners.specs.Owners.{spot_at}
use Rattle.c_owners.proofs.Likeness.{itself_alike, plain_alike}
use Rattle.c_owners.proofs.layout.Layout.sum_alike.Goals as goal

pub returns-then-is_plain-2 : goal.returns-then-is_plain-2
returns-then-is_plain-2 c =
    let all = spot_at (tree_of c.args.self.now.program.now) c.args.spot.now.constant c.args.spot.now.loops.now c.args.spot.now.params.now c.args.spot.now.last in
    let p : IsPlain c.in_ok-sum.sum = search rules in
    let q : IsPlain c.in_ok-reduced.reduced = search rules in
    plain_alike c.args.self.now.workers c.in_ok-sum.sum c.in_ok-reduced.reduced all c.in_ok-sum.ensures c.in_ok-reduced.ensures p q

pub returns : goal.returns
returns c =
    let all = spot_at (tree_of c.args.self.now.program.now) c.args.spot.now.constant c.args.spot.now.loops.now c.args.spot.now.params.now c.args.spot.now.last in
    IfOk-weaker c.sum_of.result _ _ (λ s u. itself_alike c.args.self.now.workers s all u) c.sum_of.ensures
