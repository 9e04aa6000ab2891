use Rattle.std.proofs.Common.{rules, ◌≡◌, length, sym, ◌∙◌}
use Rattle.comm_system.specs.SystemViews.{task_at}
use Rattle.comm_system.proofs.SystemParts.{pieces_long}
use Rattle.comm_system.proofs.in_place.PairSystems.count.Goals as goal

pub returns : goal.returns
returns c =
    let size : c.len.result ≡ length c.args.self.now.pieces.items = search rules in
    size ∙ sym (pieces_long (task_at c.args.self.now) c.args.self.now.number 1 c.args.self.now.pieces.items)
