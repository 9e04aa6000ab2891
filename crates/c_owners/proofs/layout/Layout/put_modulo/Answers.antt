use Rattle.std.proofs.lemmas.Result.{on_ok_weaker}
use Rattle.nest_tree.specs.View.{tree_of}
use Rattle.c_owners.specs.Owners.{spot_at}
use Rattle.c_owners.proofs.Owning.{turn_owner_written}
use Rattle.c_owners.proofs.layout.Layout.put_modulo.Goals as goal

pub returns : goal.returns
returns c =
    let all = spot_at (tree_of c.args.self.now.program.now) c.args.spot.now.constant c.args.spot.now.loops.now c.args.spot.now.params.now c.args.spot.now.last in
    on_ok_weaker c.put_text-2.result (λ e. turn_owner_written c.args.self.now.workers all c.args.place.now _ _ _ _ c.requires c.in_ok-put_text.ensures c.in_ok-put_sum.ensures e) c.put_text-2.ensures
