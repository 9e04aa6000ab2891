use Rattle.std.proofs.Common.{List, Bool, ℕ, map, ◌∙◌, ap, drop, subst}
use Rattle.std.proofs.lemmas.List.{take_rest}
use Rattle.std.proofs.lemmas.Result.{err_from_is_err_and}
use Rattle.f77_source.specs.Sources.{setting_of}
use Rattle.nest_tree.specs.View.{tree_of}
use Rattle.plan_input.specs.Errors as sources
use Rattle.asked_plan.specs.Plans.{IsPlanFor, IsPlanErrorFor, IsError}
use Rattle.asked_plan.proofs.planned.plan_program.Goals as goal

pub returns-in_err-program-clause-refused : goal.returns-in_err-program-clause-refused
returns-in_err-program-clause-refused g c =
    let bytes = c.args.bytes.now in
    let settings = map setting_of c.args.asked.now.settings.now in
    let error = c.in_err-program.field-0.0 in
    let result = err_from_is_err_and c.from_residual.result c.from_residual.ensures.1 in
    rw (result.1, result.2)
    (IsError.source (subst (λ (alone : Bool). sources.IsError alone bytes settings error) c.stands_alone-alone.ensures c.in_err-program.ensures.refused))

pub returns-in_err-plan-clause-refused : goal.returns-in_err-plan-clause-refused
returns-in_err-plan-clause-refused g c =
    let tree = tree_of c.in_ok-program.program in
    let bytes = c.args.bytes.now in
    let error = c.in_err-plan.field-0.0 in
    let rest = take_rest bytes c.in_ok-program.rest ∙ ap (λ n. drop n bytes) c.in_ok-program.ensures.rest in
    let clear = subst (λ (alone : Bool). sources.IsClear alone bytes) c.stands_alone-alone.ensures c.in_ok-program.ensures.clear in
    let result = err_from_is_err_and c.from_residual-in_err-plan.result c.from_residual-in_err-plan.ensures.1 in
    rw (result.1, result.2)
    (IsError.plan tree clear c.in_ok-program.ensures.program c.in_ok-program.ensures.inside (subst (λ (b : List ℕ). IsPlanErrorFor c.args.asked.now.choice c.args.asked.now.workers tree b error) rest c.in_err-plan.ensures.refused))

pub returns-clause-planned : goal.returns-clause-planned
returns-clause-planned g c =
    let tree = tree_of c.in_ok-program.program in
    let bytes = c.args.bytes.now in
    let rest = take_rest bytes c.in_ok-program.rest ∙ ap (λ n. drop n bytes) c.in_ok-program.ensures.rest in
    record {
      clear = subst (λ (alone : Bool). sources.IsClear alone bytes) c.stands_alone-alone.ensures c.in_ok-program.ensures.clear;
      source = c.in_ok-program.ensures.program;
      inside = c.in_ok-program.ensures.inside;
      plan_is = subst (λ (b : List ℕ). IsPlanFor c.args.asked.now.choice c.args.asked.now.workers tree b c.in_ok-plan.plan) rest c.in_ok-plan.ensures.plan;
    }

pub returns-clause-fits : goal.returns-clause-fits
returns-clause-fits g c = c.in_ok-plan.ensures.accepted.fits
