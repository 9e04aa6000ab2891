use Rattle.std.proofs.Common.{◌≤◌, ap, sym, ◌∙◌, arith}
use Rattle.std.specs.List.{sum}
use Rattle.plan_maker.proofs.Choices.{no_more}
use Rattle.plan_maker.proofs.Ready.{same_twice, taken_long}
use Rattle.plan_maker.proofs.search.Search.pass_inside.Goals as goal
use Rattle.plan_maker.proofs.search.Search.pass_inside.Goals.{else-branch, then-branch}

pub settle_inside-requires-clause-phase : goal.settle_inside-requires-clause-phase
settle_inside-requires-clause-phase c =
    omega (arith, c.loop-phase-test.true, c.len-phase-end.ensures, c.args.self.now.taken.ok.0, taken_long c.args.self.now c.loop-phase.self c.loop-phase.invariant.same c.requires c.loop-phase.invariant.search)

pub loop-phase-preserved : goal.loop-phase-preserved
loop-phase-preserved c =
    let first = c.args.self.now in
    let old = c.loop-phase.self in
    let new = c.settle_inside.new.self in
    let its = c.loop-phase.invariant in
    let has = c.in_ok-settle_inside.ensures in
    let settled : sum new.taken.items ≤ sum old.taken.items = no_more c.in_ok-settle_inside.field-0 (sum new.taken.items) (sum old.taken.items) has.weaker (λ e. ap sum (has.taken e)) in
    record {
      search = has.search;
      same = same_twice first old new its.same has.same;
      least = omega (arith, settled, its.least);
      weaker = elim c.if-branch.branch [
        | then-branch w ↦ λ changed. omega (arith, has.weaker w.if-branch.true, its.least)
        | else-branch w ↦ λ changed. omega (arith, settled, its.weaker (sym w.changed-is ∙ changed))
      ];
    }
