use Rattle.std.proofs.Common.{◌+◌, drop, map, ◌∙◌}
use Rattle.comm_system.specs.GroupViews.{listed_seen}
use Rattle.comm_system.specs.KeptViews.{kept_seen}
use Rattle.comm_system.specs.Subjects.{with_subjects}
use Rattle.comm_system.proofs.GroupSteps.{all_pairs, all_past, listed_more, pairs_more, partners}
use Rattle.comm_system.proofs.groups.Groups.add_pairs.Goals as goal

pub returns-then-self-most : goal.returns-then-self-most
returns-then-self-most c =
    all_past c.args.most (listed_seen c.loop-a.self) (all_pairs c.args.scene (map kept_seen c.args.seconds.now) (map kept_seen (drop c.loop-a.a-index c.args.firsts.now))) c.if-self-most.true ∙ c.loop-a.invariant

pub loop-a-preserved : goal.loop-a-preserved
loop-a-preserved c =
    let firsts = c.args.firsts.now in
    let bs = map kept_seen c.args.seconds.now in
    let scene = c.args.scene in
    let k = c.loop-a.a-index in
    let a = c.a-item.result in
    listed_more c.args.most (listed_seen c.loop-a.self) (listed_seen c.add_partners.new.self) (with_subjects c.args.most (listed_seen c.args.self.now) (all_pairs scene bs (map kept_seen firsts))) (all_pairs scene bs (map kept_seen (drop k firsts))) (partners scene (kept_seen a) bs) (all_pairs scene bs (map kept_seen (drop (k + 1) firsts)))
    c.loop-a.invariant (pairs_more kept_seen scene bs firsts k a c.loop-a-test.true c.a-item.is) c.in_ok-add_partners.ensures
