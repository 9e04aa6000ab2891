use Rattle.std.proofs.Common.{ℕ, ◌≤◌, rules, [], map, ap, sym, ◌∙◌, subst, refl}
use Rattle.std.specs.Prelude.{IfOk}
use Rattle.std.specs.List.{flat_map}
use Rattle.nest_tree.specs.View.{tree_of}
use Rattle.comm_system.specs.GroupViews.{group_seen, listed_seen}
use Rattle.comm_system.specs.Obligations.{numbered_from, paths_tasks}
use Rattle.comm_system.specs.Paths.{PathLoop, paths_of}
use Rattle.comm_system.specs.PhaseViews.{phase_seen}
use Rattle.comm_system.specs.Subjects.{Listed, obligations_in, of_path, paths_subjects}
use Rattle.comm_system.proofs.GroupLists.{listed_whole, path_systems}
use Rattle.plan_maker.specs.Judged.{IsVerdict, asked_about}
use Rattle.plan_maker.proofs.Numbered.{asked_flat, asked_numbered}
use Rattle.plan_maker.proofs.Askable.{groups_dealt}
use Rattle.plan_maker.proofs.dealt.judge_phase_paths.Goals as goal

pub returns : goal.returns
returns c =
    let tree = tree_of c.args.problem.program.now in
    let plan = c.args.problem.plan.now in
    let s = phase_seen c.args.phase.now in
    let tasks = paths_tasks tree plan s in
    let most : ℕ = 18446744073709551615 in
    let within : c.in_ok-groups.groups.next ≤ most = search rules in
    let is = c.in_ok-groups.ensures in
    let next = ap (λ (m : Listed). m.next) is in
    let all = ap (λ (m : Listed). flat_map (obligations_in tree plan) m.groups) is ∙ listed_whole tree plan most 1 (paths_subjects plan.cut s) (subst (λ n. n ≤ most) next within) ∙ ap (numbered_from 1) (path_systems tree plan s) in
    let obligations = ap (λ gs. flat_map (obligations_in tree plan) (map group_seen gs)) c.as_slice.ensures.value ∙ all in
    let same = asked_flat tree plan [] (map group_seen c.as_slice.result.now) ∙ ap (map (asked_about [])) obligations ∙ asked_numbered [] 1 tasks in
    subst (λ qs. IfOk c.judge_groups.result (IsVerdict qs)) same c.judge_groups.ensures

pub judge_groups-requires-clause-dealt : goal.judge_groups-requires-clause-dealt
judge_groups-requires-clause-dealt c =
    let plan = c.args.problem.plan.now in
    let s = phase_seen c.args.phase.now in
    groups_dealt plan [] of_path (λ (p : PathLoop). refl) 18446744073709551615 1 (paths_of plan.cut s) c.as_slice.result.now (listed_seen c.in_ok-groups.groups) (ap (map group_seen) (sym c.as_slice.ensures.value)) c.in_ok-groups.ensures
