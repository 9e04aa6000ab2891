use Rattle.std.proofs.Common.{◌-◌, length, sym, ◌∙◌}
use Rattle.nest_tree.specs.View.{statement_of, tree_of}
use Rattle.nest_tree.specs.WellFormed.{loops_of}
use Rattle.owner_partition.specs.StaticPhases.{loops_round}
use Rattle.maker_anchors.specs.Anchors.{element_anchor}
use Rattle.maker_anchors.proofs.Found.{if_good_good}
use Rattle.maker_anchors.proofs.Within.{good_given, round_within}
use Rattle.maker_anchors.proofs.anchors.element_owner.Goals as goal

pub placed-anchor-requires : goal.placed-anchor-requires
placed-anchor-requires c =
    let tree = tree_of c.args.program.now in
    let loops = loops_round c.args.phase.now in
    let constants = length tree.params in
    let within = round_within tree c.args.plan.now.cut.marks (c.args.number - 1) (record { what = statement_of c.args.phase.now.item.now; around = loops }) c.args.program.now.formed c.requires.phase in
    let good = if_good_good constants loops (element_anchor tree c.args.plan.now.workers c.args.access.now) c.in-Some.anchor (sym c.in_ok-anchor.ensures ∙ c.in-Some.is) in
    record { given = good_given (loops_of tree.items) constants loops c.in-Some.anchor within good }
