use Rattle.std.proofs.Common.{◌≡◌, None, ap, sym, subst, ◌∙◌, arith}
use Rattle.std.specs.Option.{option_map}
use Rattle.f77_forms.specs.View.{statement_of}
use Rattle.f77_program.specs.Passed.{passed}
use Rattle.f77_program.specs.Refusals.{fault_of}
use Rattle.f77_program.specs.Wholes.{given_of}
use Rattle.f77_program.proofs.Passing.{passed-evaluated, loops-evaluated}
use Rattle.f77_scene.specs.Behind.{behind}
use Rattle.f77_scene.specs.Reading.{scene_with, fault_of_form}
use Rattle.f77_scene.specs.Scene.{Scene}
use Rattle.f77_source.specs.Limits.{KeepsLimits}
use Rattle.f77_source.specs.Sources.{reading_view}
use Rattle.f77_source.proofs.Kept.{kept}
use Rattle.f77_source.proofs.check.pass.Goals as goal

pub pass_statement-requires : goal.pass_statement-requires
pass_statement-requires c =
    let same : c.fault_in.new.known.loops ≡ c.args.known.now.loops =
    ap (λ (s : Scene). s.loops) c.in_ok-fault.ensures.known ∙ loops-evaluated (given_of c.args.whole.now) c.args.known.now (statement_of c.in-Ok.statement) in
    let few = c.requires.count in
    let begun = c.requires.loops in
    omega arith

pub returns-in_ok-pass_statement-in-None-clause-known : goal.returns-in_ok-pass_statement-in-None-clause-known
returns-in_ok-pass_statement-in-None-clause-known c =
    let given = given_of c.args.whole.now in
    let s = c.args.known.now in
    let label = c.args.source.now.label in
    let f = statement_of c.in-Ok.statement in
    c.in_ok-pass_statement-in-None.ensures ∙ ap (λ x. passed x label f) c.in_ok-fault.ensures.known ∙ passed-evaluated given s label f
    ∙ ap (λ r. scene_with given s label (reading_view r)) (sym c.in-Ok.is)

pub returns-in_ok-pass_statement-in-None-clause-within : goal.returns-in_ok-pass_statement-in-None-clause-within
returns-in_ok-pass_statement-in-None-clause-within c =
    let given = given_of c.args.whole.now in
    let s = c.args.known.now in
    let label = c.args.source.now.label in
    let f = statement_of c.in-Ok.statement in
    let next : c.pass_statement.new.known ≡ behind given s label f = c.in_ok-pass_statement-in-None.ensures ∙ ap (λ x. passed x label f) c.in_ok-fault.ensures.known ∙ passed-evaluated given s label f in
    let none : fault_of_form given s c.args.behind label f ≡ None = sym c.in_ok-fault.ensures.fault ∙ ap (option_map fault_of) c.in-None.is in
    subst KeepsLimits (sym next) (kept given s c.args.behind label f none c.requires)
