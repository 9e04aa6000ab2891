use Rattle.std.proofs.Common.{◌∷◌, [], sym, subst, arith}
use Rattle.nest_systems.specs.Kept.{HasTaken, IsConstant}
use Rattle.nest_systems.proofs.KeptConstants.{taken-one}
use Rattle.nest_systems.proofs.kept.take_constant.Goals as goal

pub returns-in_ok-push : goal.returns-in_ok-push
returns-in_ok-push c =
    let is : IsConstant c.args.constants c.args.unknown = (omega arith, omega arith) in
    subst (HasTaken c.args.constants (c.args.unknown ∷ []) c.args.kept.now.items) (sym c.in_ok-push.ensures.items) (taken-one c.args.constants c.args.unknown c.args.kept.now.items is)
