use Rattle.plan_systems.specs.SystemsText.{system_text}
use Rattle.plan_systems.proofs.Joined.{item_joined}
use Rattle.plan_systems.proofs.lines.push_systems.Goals as goal

pub loop-obligation-preserved : goal.loop-obligation-preserved
loop-obligation-preserved c =
    item_joined system_text c.args.found.now c.loop-obligation.obligation-index c.obligation-item.result c.args.text.now.items c.loop-obligation.text.items c.push_system.new.text.items c.loop-obligation-test.true c.obligation-item.is c.loop-obligation.invariant c.in_ok-push_system.ensures
