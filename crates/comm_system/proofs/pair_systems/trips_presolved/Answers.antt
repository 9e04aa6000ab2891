use Rattle.std.proofs.Common.{pos, ap, ◌∙◌}
use Rattle.farkas_cert.specs.Inequalities.{Inequalities}
use Rattle.conflict_rules.specs.References.{variable_of}
use Rattle.comm_system.specs.Seen.{pair_of}
use Rattle.comm_system.specs.SystemViews.{about}
use Rattle.comm_system.specs.declared.obligation.Obligation.{Obligation}
use Rattle.comm_system.specs.declared.obligation.Topic.{Topic}
use Rattle.comm_system.proofs.Growings.{left-few}
use Rattle.comm_system.proofs.pair_systems.trips_presolved.Goals as goal

pub returns-clause-made : goal.returns-clause-made
returns-clause-made c =
    let s = c.in_ok-system.system in
    let pair = pair_of c.args.a.now c.args.b.now in
    let of : Inequalities → Obligation = λ x. record { number = c.args.number; system = x; lines = (pair.first.line, pair.second.line); variable = variable_of pair.first.what; level = 0; piece = 0; range = (pos 0, pos 0) } in
    (s, ap (λ (t : Topic). about t s) c.trips_topic.ensures ∙ ap of c.in_ok-system.ensures.made, c.in_ok-presolved.ensures.presolved, c.in_ok-presolved.ensures.widened)

pub returns-clause-few : goal.returns-clause-few
returns-clause-few c = left-few c.in_ok-system.system c.in_ok-presolved.presolved 4294967295 c.in_ok-presolved.ensures.presolved c.in_ok-system.ensures.few
