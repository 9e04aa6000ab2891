use Rattle.std.proofs.Common.{◌<◌, ◌≤◌, length, refl, ap, sym, subst, arith}
use Rattle.nest_tree.specs.View.{tree_of}
use Rattle.plan_maker.specs.declared.search.Search.{Search}
use Rattle.plan_maker.specs.Caches.{IsCache}
use Rattle.plan_maker.specs.Searches.{IsCurrent, IsTried, kinds_in}
use Rattle.plan_maker.proofs.Ready.{same_refl, same_twice, slots_long, step_kept, step_passed, step_same, step_search, trial_elsewhere}
use Rattle.plan_maker.proofs.search.Search.try_kinds.Goals as goal

pub loop-place-init : goal.loop-place-init
loop-place-init c = record { search = c.requires.search; same = same_refl c.args.self.now; taken = refl; passed = λ j d lt. absurd (omega (arith, lt)) }

pub try_kinds-requires-clause-cache : goal.try_kinds-requires-clause-cache
try_kinds-requires-clause-cache c =
    let s = c.loop-place.self in
    let e = c.index_mut-slot.result.now in
    let lt : c.loop-place.place < length s.slots.items = omega (arith, c.loop-place-test.true, c.len-place-end.ensures, c.args.self.now.slots.ok.0, slots_long c.args.self.now s c.loop-place.invariant.same) in
    let there = c.loop-place.invariant.search.ready c.loop-place.place e lt in
    subst (λ d. IsCache (tree_of s.problem.program.now) s.problem.plan.now d) (sym c.index_mut-slot.ensures.value) there.cache

pub returns-in-Some : goal.returns-in-Some
returns-in-Some c =
    let old = c.loop-place.self in
    let new : Search = record old { slots = Rattle.std.specs.Vec.with_item old.slots c.loop-place.place c.try_kinds.new.self; findings = c.try_kinds.new.findings } in
    let e = c.index_mut-slot.result.now in
    let x = c.try_kinds.new.self in
    let k = c.loop-place.place in
    let its = c.loop-place.invariant in
    let lt : k < length old.slots.items = omega (arith, c.loop-place-test.true, c.len-place-end.ensures, c.args.self.now.slots.ok.0, slots_long c.args.self.now old its.same) in
    let is = c.index_mut-slot.ensures.value in
    let has = c.in_ok-cause.ensures in
    let was : IsCurrent old.problem (kinds_in old) e = subst (IsCurrent old.problem (kinds_in old)) (sym is) (its.search.ready k e lt) in
    let tried = subst (IsTried old.problem c.args.trial.phase c.args.trial.kinds.now x) c.in-Some.is (has.tried (kinds_in old) (trial_elsewhere c.args.self.now old c.args.trial.phase c.args.trial.kinds.now its.same its.taken c.requires.elsewhere) was) in
    record {
      search = step_search old new k e x refl refl refl refl lt is has.grown has.cache its.search;
      same = same_twice c.args.self.now old new its.same (step_same old new k e x refl refl refl refl lt is has.grown);
      taken = ap (λ v. v.items) its.taken;
      trial = step_kept old new k e x refl refl refl refl lt is c.args.trial.kinds.now its.passed c.args.trial.phase c.in-Some.cause tried;
    }

pub loop-place-preserved : goal.loop-place-preserved
loop-place-preserved c =
    let old = c.loop-place.self in
    let new : Search = record old { slots = Rattle.std.specs.Vec.with_item old.slots c.loop-place.place c.try_kinds.new.self; findings = c.try_kinds.new.findings } in
    let e = c.index_mut-slot.result.now in
    let x = c.try_kinds.new.self in
    let k = c.loop-place.place in
    let its = c.loop-place.invariant in
    let lt : k < length old.slots.items = omega (arith, c.loop-place-test.true, c.len-place-end.ensures, c.args.self.now.slots.ok.0, slots_long c.args.self.now old its.same) in
    let is = c.index_mut-slot.ensures.value in
    let has = c.in_ok-cause.ensures in
    let was : IsCurrent old.problem (kinds_in old) e = subst (IsCurrent old.problem (kinds_in old)) (sym is) (its.search.ready k e lt) in
    let tried = subst (IsTried old.problem c.args.trial.phase c.args.trial.kinds.now x) c.in_default.is (has.tried (kinds_in old) (trial_elsewhere c.args.self.now old c.args.trial.phase c.args.trial.kinds.now its.same its.taken c.requires.elsewhere) was) in
    record {
      search = step_search old new k e x refl refl refl refl lt is has.grown has.cache its.search;
      same = same_twice c.args.self.now old new its.same (step_same old new k e x refl refl refl refl lt is has.grown);
      taken = its.taken;
      passed = step_passed old new k e x refl refl refl refl lt is c.args.trial.kinds.now its.passed tried;
    }

pub returns : goal.returns
returns c =
    let s = c.loop-place.self in
    let its = c.loop-place.invariant in
    let all : length s.slots.items ≤ c.loop-place.place = omega (arith, c.loop-place-test.false, c.len-place-end.ensures, c.args.self.now.slots.ok.0, slots_long c.args.self.now s its.same) in
    record { search = its.search; same = its.same; taken = ap (λ v. v.items) its.taken; trial = λ k d lt. its.passed k d (omega (arith, lt, all)) }
