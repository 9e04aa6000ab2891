use Rattle.std.proofs.Common.{◌≡◌, ◌+◌, ◌<◌, ◌≤◌, ◌++◌, true, false, ℕ, List, length, take, get_or, ap, sym, ◌∙◌, subst, arith}
use Rattle.std.specs.List.{AllZip, sum}
use Rattle.std.proofs.lemmas.List.{take_all}
use Rattle.nest_walk.proofs.Grown.{AllZip-append}
use Rattle.plan_maker.specs.declared.reasons.PhaseReason.{PhaseReason}
use Rattle.plan_maker.specs.Candidates.{Choice, weaker_at, weaker_from}
use Rattle.plan_maker.specs.Searches.{IsTrialReason}
use Rattle.plan_maker.proofs.Choices.{no_more, weaker_more}
use Rattle.plan_maker.proofs.Ready.{reasons_kept, same_twice, taken_long}
use Rattle.plan_maker.proofs.search.Search.pass.Goals as goal
use Rattle.plan_maker.proofs.search.Search.pass.Goals.{else-branch, then-branch}

pub settle-requires-clause-phase : goal.settle-requires-clause-phase
settle-requires-clause-phase c =
    omega (arith, c.loop-phase-test.true, c.len-phase-end.ensures, c.args.self.now.taken.ok.0, taken_long c.args.self.now c.loop-phase.self c.loop-phase.invariant.same c.requires c.loop-phase.invariant.search)

pub loop-phase-preserved : goal.loop-phase-preserved
loop-phase-preserved c =
    let first = c.args.self.now in
    let old = c.loop-phase.self in
    let new = c.settle.new.self in
    let k = c.loop-phase.phase in
    let its = c.loop-phase.invariant in
    let has = c.in_ok-settle.ensures in
    let within : k < length old.taken.items = omega (arith, c.loop-phase-test.true, c.len-phase-end.ensures, first.taken.ok.0, taken_long first old its.same c.requires its.search) in
    let settled : sum new.taken.items ≤ sum old.taken.items = no_more c.in_ok-settle.field-0 (sum new.taken.items) (sum old.taken.items) has.weaker (λ e. ap sum (has.taken e)) in
    let step : (unsettled : c.in_ok-settle.field-0 ≡ false) → c.loop-phase.changed ≡ false → AllZip (IsTrialReason new) (weaker_from 0 (take (k + 1) new.taken.items)) c.settle.new.reasons.items =
    λ unsettled unchanged.
    let more = has.reasons unsettled in
    let at : 0 + k ≡ k = omega arith in
    let split = weaker_more 0 old.taken.items k within ∙ ap (λ j. weaker_from 0 (take k old.taken.items) ++ weaker_at j (get_or old.taken.items k 0)) at in
    let all = AllZip-append (IsTrialReason old) (weaker_from 0 (take k old.taken.items)) (weaker_at k (get_or old.taken.items k 0)) c.loop-phase.reasons.items more.more (its.reasons unchanged) more.reasons in
    let here = subst (λ (cs : List Choice). AllZip (IsTrialReason old) cs (c.loop-phase.reasons.items ++ more.more)) (sym split) all in
    let there = subst (λ (rs : List PhaseReason). AllZip (IsTrialReason old) (weaker_from 0 (take (k + 1) old.taken.items)) rs) (sym more.behind) here in
    subst (λ (ts : List ℕ). AllZip (IsTrialReason new) (weaker_from 0 (take (k + 1) ts)) c.settle.new.reasons.items) (sym (has.taken unsettled))
    (reasons_kept old new (weaker_from 0 (take (k + 1) old.taken.items)) c.settle.new.reasons.items has.same (has.taken unsettled) there) in
    record {
      search = has.search;
      same = same_twice first old new its.same has.same;
      least = omega (arith, settled, its.least);
      weaker = elim c.if-branch.branch [
        | then-branch w ↦ λ changed. omega (arith, has.weaker w.if-branch.true, its.least)
        | else-branch w ↦ λ changed. omega (arith, settled, its.weaker (sym w.changed-is ∙ changed))
      ];
      reasons = elim c.if-branch.branch [
        | then-branch w ↦ λ unchanged. absurd (let no : true ≡ false = sym w.changed-is ∙ unchanged in cc)
        | else-branch w ↦ λ unchanged. step w.if-branch.false (sym w.changed-is ∙ unchanged)
      ];
    }

pub returns-else-changed-clause-reasons : goal.returns-else-changed-clause-reasons
returns-else-changed-clause-reasons c =
    let s = c.loop-phase.self in
    let all : length s.taken.items ≤ c.loop-phase.phase = omega (arith, c.loop-phase-test.false, c.len-phase-end.ensures, c.args.self.now.taken.ok.0, taken_long c.args.self.now s c.loop-phase.invariant.same c.requires c.loop-phase.invariant.search) in
    subst (λ (ts : List ℕ). AllZip (IsTrialReason s) (weaker_from 0 ts) c.loop-phase.reasons.items) (take_all c.loop-phase.phase s.taken.items all) (c.loop-phase.invariant.reasons c.if-changed.false)
