use Rattle.std.proofs.Common.{rules, ◌≡◌, suc, drop, sym, ◌∙◌, ap, subst, arith}
use Rattle.nest_tree.specs.View.{tree_of}
use Rattle.owner_partition.specs.Phases.{phases}
use Rattle.fork_join.specs.Joins.{in_front, protocol}
use Rattle.fork_join.specs.Workers.{AreAt}
use Rattle.fork_join.proofs.Running.{last_is, lawful_begun, lawful_first, nothing_left, some_left}
use Rattle.fork_join.proofs.Turning.{phase_next_drop}
use Rattle.fork_join.proofs.run.execute.Goals as goal

pub loop-phase-init : goal.loop-phase-init
loop-phase-init g c =
    let tree = tree_of c.args.lent.program.now in
    let plan = c.args.lent.plan.now in
    record {
      count = search rules;
      at = c.requires.at;
      passed = c.new-left.ensures.passed;
      left = c.new-left.ensures.phases;
      within = omega arith;
      lawful = lawful_first tree plan c.requires.safe c.args.memory.now c.requires.memory;
    }

pub fork-requires-clause-lawful : goal.fork-requires-clause-lawful
fork-requires-clause-lawful g c κs within =
    let tree = tree_of c.args.lent.program.now in
    let plan = c.args.lent.plan.now in
    let inv = c.loop-phase.invariant in
    let v = c.in-Some.ensures.phase in
    lawful_begun tree plan c.requires.safe c.loop-phase.behind c.loop-phase.memory (some_left c.loop-phase.behind (phases tree plan.cut.marks) _ v.0 (sym inv.left ∙ v.1)) inv.lawful

pub lay_in-requires-clause-lawful : goal.lay_in-requires-clause-lawful
lay_in-requires-clause-lawful g c =
    let tree = tree_of c.args.lent.program.now in
    let plan = c.args.lent.plan.now in
    let inv = c.loop-phase.invariant in
    let v = c.in-Some.ensures.phase in
    lawful_begun tree plan c.requires.safe c.loop-phase.behind c.loop-phase.memory (some_left c.loop-phase.behind (phases tree plan.cut.marks) _ v.0 (sym inv.left ∙ v.1)) inv.lawful

pub loop-phase-preserved : goal.loop-phase-preserved
loop-phase-preserved g c =
    let tree = tree_of c.args.lent.program.now in
    let plan = c.args.lent.plan.now in
    let n = c.loop-phase.behind in
    let inv = c.loop-phase.invariant in
    let v = c.in-Some.ensures.phase in
    let stands = sym inv.left ∙ v.1 in
    let lt = some_left n (phases tree plan.cut.marks) _ v.0 stands in
    let was = inv.passed in
    let now = v.3.number_is in
    let next : suc n ≡ c.in-Some.phase.number = omega (arith, was, now) in
    let went = c.lay_in.ensures in
    let more = c.in-Some.ensures.passed in
    record {
      count = went.count ∙ c.fork.ensures.count ∙ inv.count;
      at = subst (λ k. AreAt tree plan k c.lay_in.new.workers) next went.at;
      passed = omega (arith, more, was, now);
      left = sym (phase_next_drop n (phases tree plan.cut.marks) v.0 _ stands) ∙ ap (λ k. drop k (phases tree plan.cut.marks)) next;
      within = omega (arith, next, lt);
      lawful = subst (λ k. ∥ (protocol tree plan).lawful c.lay_in.new.memory (in_front tree plan k) ∥₁) next went.lawful;
    }

pub returns-clause-at : goal.returns-clause-at
returns-clause-at g c =
    let tree = tree_of c.args.lent.program.now in
    let plan = c.args.lent.plan.now in
    let inv = c.loop-phase.invariant in
    let none = sym inv.left ∙ c.in_default.ensures.phase in
    subst (λ k. AreAt tree plan k c.loop-phase.workers) (nothing_left c.loop-phase.behind (phases tree plan.cut.marks) none inv.within) inv.at

pub returns-clause-memory : goal.returns-clause-memory
returns-clause-memory g c =
    let tree = tree_of c.args.lent.program.now in
    let plan = c.args.lent.plan.now in
    let inv = c.loop-phase.invariant in
    let none = sym inv.left ∙ c.in_default.ensures.phase in
    last_is tree plan c.requires.safe c.loop-phase.behind c.loop-phase.memory none inv.lawful
