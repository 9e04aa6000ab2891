use Rattle.farkas_cert.proofs.LastUses.{both_forgotten}
use Rattle.farkas_cert.proofs.uses.Uses.forget.Goals as goal

pub returns : goal.returns
returns c =
    let self = c.args.self.now in
    both_forgotten self.count self.taken.now c.args.made.now.items c.forget_at.new.made.items c.forget_named.new.made.items c.forget_at.ensures c.forget_named.ensures
