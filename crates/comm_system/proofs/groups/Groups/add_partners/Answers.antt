use Rattle.std.proofs.Common.{◌+◌, [], ◌∷◌, drop, map, ◌∙◌}
use Rattle.comm_system.specs.GroupViews.{listed_seen}
use Rattle.comm_system.specs.KeptViews.{kept_seen}
use Rattle.conflict_rules.specs.Seen.{reference_seen}
use Rattle.comm_system.specs.Subjects.{with_subjects}
use Rattle.comm_system.proofs.GroupSteps.{all_past, listed_more, partners, partners_more}
use Rattle.comm_system.proofs.groups.Groups.add_partners.Goals as goal

pub returns-then-self-most : goal.returns-then-self-most
returns-then-self-most c =
    all_past c.args.most (listed_seen c.loop-b.self) (partners c.args.scene (reference_seen c.args.a.now) (map kept_seen (drop c.loop-b.b-index c.args.seconds.now))) c.if-self-most.true ∙ c.loop-b.invariant

pub loop-b-preserved : goal.loop-b-preserved
loop-b-preserved c =
    let seconds = c.args.seconds.now in
    let a = reference_seen c.args.a.now in
    let scene = c.args.scene in
    let k = c.loop-b.b-index in
    let b = c.b-item.result in
    listed_more c.args.most (listed_seen c.loop-b.self) (listed_seen c.add_pair.new.self) (with_subjects c.args.most (listed_seen c.args.self.now) (partners scene a (map kept_seen seconds))) (partners scene a (map kept_seen (drop k seconds))) (partners scene a (kept_seen b ∷ [])) (partners scene a (map kept_seen (drop (k + 1) seconds)))
    c.loop-b.invariant (partners_more kept_seen scene a seconds k b c.loop-b-test.true c.b-item.is) c.in_ok-add_pair.ensures
