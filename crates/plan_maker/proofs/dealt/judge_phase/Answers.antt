use Rattle.std.proofs.Common.{◌≡◌, ℕ, ◌≤◌, rules, Bool, true, [], map, if◌then◌else◌, ap, sym, ◌∙◌, subst, refl}
use Rattle.std.specs.Prelude.{IfOk}
use Rattle.std.specs.List.{flat_map}
use Rattle.nest_tree.specs.View.{tree_of}
use Rattle.sync_plan.specs.Fit.{is_dealt}
use Rattle.comm_system.specs.GroupViews.{group_seen, listed_seen}
use Rattle.comm_system.specs.Obligations.{trips_task}
use Rattle.comm_system.specs.Pairs.{pairs_within, Pair}
use Rattle.comm_system.specs.PhaseViews.{phase_seen}
use Rattle.comm_system.specs.Subjects.{obligations_in, of_trips}
use Rattle.comm_system.proofs.GroupLists.{of_phase}
use Rattle.plan_maker.specs.Asked.{asked}
use Rattle.plan_maker.specs.Judged.{IsVerdict, asked_about}
use Rattle.plan_maker.proofs.Numbered.{asked_flat, asked_numbered}
use Rattle.plan_maker.proofs.Askable.{groups_dealt}
use Rattle.plan_maker.proofs.dealt.judge_phase.Goals as goal

pub returns : goal.returns
returns c =
    let tree = tree_of c.args.problem.program.now in
    let plan = c.args.problem.plan.now in
    let s = phase_seen c.args.phase.now in
    let tasks = map (trips_task tree plan s) (pairs_within plan.cut s) in
    let dealt : is_dealt plan.cut.marks s.what ≡ true = sym c.is_dealt.ensures ∙ c.if-not-is_dealt.false in
    let most : ℕ = 18446744073709551615 in
    let within : c.in_ok-groups.groups.next ≤ most = search rules in
    let obligations = ap (λ gs. flat_map (obligations_in tree plan) (map group_seen gs)) c.as_slice.ensures.value ∙ of_phase tree plan most 1 s (listed_seen c.in_ok-groups.groups) c.in_ok-groups.ensures within in
    let same = asked_flat tree plan [] (map group_seen c.as_slice.result.now) ∙ ap (map (asked_about [])) obligations ∙ asked_numbered [] 1 tasks ∙ ap (λ (b : Bool). map (asked []) (if b then tasks else [])) (sym dealt) in
    subst (λ qs. IfOk c.judge_groups.result (IsVerdict qs)) same c.judge_groups.ensures

pub judge_groups-requires-clause-dealt : goal.judge_groups-requires-clause-dealt
judge_groups-requires-clause-dealt c =
    let plan = c.args.problem.plan.now in
    let s = phase_seen c.args.phase.now in
    groups_dealt plan [] (of_trips s) (λ (pair : Pair). refl) 18446744073709551615 1 (pairs_within plan.cut s) c.as_slice.result.now (listed_seen c.in_ok-groups.groups) (ap (map group_seen) (sym c.as_slice.ensures.value)) c.in_ok-groups.ensures
