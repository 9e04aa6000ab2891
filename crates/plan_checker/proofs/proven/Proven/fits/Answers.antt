use Rattle.std.proofs.Common.{◌≡◌, ℤ, List, Some, None, length, map, refl, ap, sym, ◌∙◌}
use Rattle.std.proofs.lemmas.List.{length-map}
use Rattle.nest_tree.specs.Tree.{param_values}
use Rattle.nest_tree.specs.View.{constant_of, tree_of}
use Rattle.nest_tree.specs.declared.tree.Parameter.{Parameter}
use Rattle.nest_tree.specs.declared.program.Program.{Program}
use Rattle.nest_tree.proofs.FirstLimits.{values_of_constants}
use Rattle.nest_agree.specs.Agree.{Agree}
use Rattle.sync_plan.specs.declared.plan.Plan.{Plan}
use Rattle.plan_checker.specs.Proved.{first_other, first_unproved}
use Rattle.plan_checker.proofs.Agreeing.{same_long}
use Rattle.plan_checker.proofs.Certified.{proved_where_none}
use Rattle.plan_checker.proofs.ProvedFit.{none_is, proved_plans_fit, same_test, unfit_by, unfit_differs}
use Rattle.plan_checker.proofs.proven.Proven.fits.Goals as goal

abbrev values_in : List Parameter → List ℤ
values_in ps = map (λ (p : Parameter). p.value) ps

-- the first other value, of what the programs' constants are
of_programs : (f g : Program) (plan : Plan) (ps qs : List Parameter) → ps ≡ f.params.items → qs ≡ g.params.items → first_other (values_in ps) plan.conditions (values_in qs) ≡ first_other (param_values (tree_of f)) plan.conditions (param_values (tree_of g))
of_programs f g plan ps qs a b =
    ap (λ xs. first_other (values_in xs) plan.conditions (values_in qs)) a ∙ ap (λ xs. first_other (values_in f.params.items) plan.conditions (values_in xs)) b
    ∙ ap (λ vs. first_other vs plan.conditions (values_in g.params.items)) (sym (values_of_constants f.params.items)) ∙ ap (first_other (param_values (tree_of f)) plan.conditions) (sym (values_of_constants g.params.items))

as_many : (f g : Program) (ps qs : List Parameter) → ps ≡ f.params.items → qs ≡ g.params.items → Agree (tree_of f) (tree_of g) → length ps ≡ length qs
as_many f g ps qs a b agree =
    ap (λ xs. length xs) a ∙ sym (length-map f.params.items constant_of) ∙ same_long (tree_of f) (tree_of g) agree ∙ length-map g.params.items constant_of ∙ sym (ap (λ xs. length xs) b)

pub returns-then-not-agrees-clause-refused : goal.returns-then-not-agrees-clause-refused
returns-then-not-agrees-clause-refused c =
    let f = tree_of c.args.self.now.program.now in
    let g = tree_of c.args.program.now in
    unfit_differs f g c.args.self.now.plan.now (sym (same_test c.agrees.result f g c.agrees.ensures) ∙ c.if-not-agrees.true)

pub returns-in-Err-clause-refused : goal.returns-in-Err-clause-refused
returns-in-Err-clause-refused c =
    let f = tree_of c.args.self.now.program.now in
    let g = tree_of c.args.program.now in
    let plan = c.args.self.now.plan.now in
    unfit_by f g plan (Some c.in-Err.refusal) (first_other (param_values f) plan.conditions (param_values g)) (sym (same_test c.agrees.result f g c.agrees.ensures) ∙ c.if-not-agrees.false) c.in-Err.ensures refl

pub first_other-requires : goal.first_other-requires
first_other-requires c =
    as_many c.args.self.now.program.now c.args.program.now c.deref.result.now c.deref-2.result.now c.deref.ensures.value c.deref-2.ensures.value (c.agrees.ensures.0 c.if-not-agrees.false)

pub returns-in-Some-clause-refused : goal.returns-in-Some-clause-refused
returns-in-Some-clause-refused c =
    let f = tree_of c.args.self.now.program.now in
    let g = tree_of c.args.program.now in
    let plan = c.args.self.now.plan.now in
    let row = of_programs c.args.self.now.program.now c.args.program.now plan c.deref.result.now c.deref-2.result.now c.deref.ensures.value c.deref-2.ensures.value in
    unfit_by f g plan None (Some c.in-Some.row) (sym (same_test c.agrees.result f g c.agrees.ensures) ∙ c.if-not-agrees.false) c.in_default.ensures (sym c.in-Some.is ∙ c.first_other.ensures ∙ row)

pub returns-in-None-clause-refused : goal.returns-in-None-clause-refused
returns-in-None-clause-refused c =
    let f = tree_of c.args.self.now.program.now in
    let g = tree_of c.args.program.now in
    let plan = c.args.self.now.plan.now in
    let row = of_programs c.args.self.now.program.now c.args.program.now plan c.deref.result.now c.deref-2.result.now c.deref.ensures.value c.deref-2.ensures.value in
    unfit_by f g plan None None (sym (same_test c.agrees.result f g c.agrees.ensures) ∙ c.if-not-agrees.false) c.in_default.ensures (sym c.in-None.is ∙ c.first_other.ensures ∙ row)

pub returns-in-None-clause-accepted : goal.returns-in-None-clause-accepted
returns-in-None-clause-accepted c =
    let f = tree_of c.args.self.now.program.now in
    let g = tree_of c.args.program.now in
    let plan = c.args.self.now.plan.now in
    let row = of_programs c.args.self.now.program.now c.args.program.now plan c.deref.result.now c.deref-2.result.now c.deref.ensures.value c.deref-2.ensures.value in
    let none = unfit_by f g plan None None (sym (same_test c.agrees.result f g c.agrees.ensures) ∙ c.if-not-agrees.false) c.in_default.ensures (sym c.in-None.is ∙ c.first_other.ensures ∙ row) in
    proved_plans_fit f g plan (proved_where_none f plan (none_is (first_unproved f plan) c.args.self.now.proved)) (sym none)
