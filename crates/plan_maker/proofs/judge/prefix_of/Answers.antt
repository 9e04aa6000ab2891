use Rattle.std.proofs.Common.{sym, subst}
use Rattle.farkas_cert.specs.Inequalities.{Inequalities}
use Rattle.comm_system.specs.SystemViews.{last_made}
use Rattle.plan_maker.specs.Askable.{IsAskable}
use Rattle.plan_maker.proofs.Askable.{left_has}
use Rattle.plan_maker.proofs.judge.prefix_of.Goals as goal

pub of-requires : goal.of-requires
of-requires c =
    let p = c.args.systems.now in
    let left = c.presolved.result.now in
    subst (λ (s : Inequalities). IsAskable s c.args.dists.now) (sym c.system.ensures.system) (record {
      narrow = c.system.ensures.narrow;
      owners = left_has c.args.dists.now p (last_made p).system left c.presolved.ensures.left c.presolved.ensures.columns c.requires.owners;
      room = c.presolved.ensures.few;
      few = c.requires.few;
    })
