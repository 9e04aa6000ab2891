use Rattle.farkas_cert.proofs.LastUses.{both_forgotten}
use Rattle.farkas_cert.proofs.uses.Uses.forget_named.Goals as goal

pub loop-name-preserved : goal.loop-name-preserved
loop-name-preserved c =
    let self = c.args.self.now in
    both_forgotten self.count self.taken.now c.args.made.now.items c.loop-name.made.items c.forget_at.new.made.items c.loop-name.invariant c.forget_at.ensures
