use Rattle.std.proofs.Common.{map}
use Rattle.nest_tree.specs.declared.tree.Parameter.{Parameter}
use Rattle.nest_systems.proofs.Standing.{values-stand}
use Rattle.nest_systems.proofs.constraint_system.ConstraintSystem.push_constants.Goals as goal

pub returns : goal.returns
returns c =
    let s = c.self.inside in
    let vs = map (λ (p : Parameter). p.value) c.args.params.now in
    values-stand s.vars (map (λ (p : Parameter). p.value) s.values.now) vs s.rest.items c.args.self.now c.self.view_is c.requires.none
