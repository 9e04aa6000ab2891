use Rattle.std.proofs.Common.{◌≡◌, [], ◌+◌, drop, get_or, ap, sym, ◌∙◌}
use Rattle.std.specs.List.{flat_map}
use Rattle.std.proofs.lemmas.List.{drop_all}
use Rattle.comm_system.specs.GroupViews.{listed_seen}
use Rattle.comm_system.specs.PhaseViews.{phase_seen}
use Rattle.comm_system.specs.Shown.{privates_in}
use Rattle.comm_system.specs.Subjects.{path_subjects, with_subjects}
use Rattle.comm_system.proofs.GroupSteps.{listed_more}
use Rattle.comm_system.proofs.PathGroups.{each_path, scalars_more}
use Rattle.comm_system.proofs.groups.Groups.add_paths.Goals as goal

pub loop-scalar-preserved : goal.loop-scalar-preserved
loop-scalar-preserved c =
    let s = phase_seen c.args.phase.now in
    let scalars = c.privates_in-scalars.result.now in
    let k = c.loop-scalar.scalar-index in
    listed_more c.args.most (listed_seen c.loop-scalar.self) (listed_seen c.add_path.new.self) (with_subjects c.args.most (listed_seen c.args.self.now) (flat_map (path_subjects s) scalars)) (flat_map (path_subjects s) (drop k scalars)) (path_subjects s (get_or scalars k 0)) (flat_map (path_subjects s) (drop (k + 1) scalars))
    c.loop-scalar.invariant (scalars_more s scalars k c.loop-scalar-test.true) c.in_ok-add_path.ensures

pub returns : goal.returns
returns c =
    let s = phase_seen c.args.phase.now in
    let scalars = c.privates_in-scalars.result.now in
    let most = c.args.most in
    let before = listed_seen c.args.self.now in
    let none : drop c.loop-scalar.scalar-index scalars ≡ [] = drop_all c.loop-scalar.scalar-index scalars c.loop-scalar-test.false in
    sym (ap (λ vs. with_subjects most (listed_seen c.loop-scalar.self) (flat_map (path_subjects s) vs)) none) ∙ c.loop-scalar.invariant ∙ ap (λ vs. with_subjects most before (flat_map (path_subjects s) vs)) c.privates_in-scalars.ensures
    ∙ ap (with_subjects most before) (sym (each_path s (privates_in c.args.cut.now s.what)))
