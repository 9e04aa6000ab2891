use Rattle.std.proofs.Common.{◌≡◌, ◌&&◌, map, ap, ap₂, sym, ◌∙◌}
use Rattle.nest_tree.specs.Tree.{param_values}
use Rattle.nest_tree.specs.View.{tree_of}
use Rattle.nest_tree.proofs.FirstLimits.{values_of_constants}
use Rattle.nest_tree.specs.declared.tree.Parameter.{Parameter}
use Rattle.maker_candidates.specs.Same.{fixed_value, is_same_one, says_same}
use Rattle.maker_candidates.proofs.OneOwner.{same_owner}
use Rattle.maker_candidates.proofs.same.says_same.Goals as goal
use Rattle.maker_candidates.proofs.same.says_same.Goals.{After-is_same_one}

same : (c : After-is_same_one) → c.is_same_one.result ≡ says_same (param_values (tree_of c.args.program.now)) c.args.workers c.args.one.now c.args.other.now
same c =
    let workers = c.args.workers in
    let one = c.args.one.now in
    let other = c.args.other.now in
    let params = param_values (tree_of c.args.program.now) in
    let constants = ap (map (λ (p : Parameter). p.value)) c.as_slice-constants.ensures.value ∙ sym (values_of_constants c.args.program.now.params.items) in
    let first = c.fixed_value-value.ensures ∙ ap (λ vs. fixed_value vs one.form) constants in
    let second = c.fixed_value-second.ensures ∙ ap (λ vs. fixed_value vs other.form) constants in
    let tested = is_same_one workers one.form.loops one.dist (fixed_value params one.form) other.dist (fixed_value params other.form) in
    c.is_same_one.ensures ∙ ap (λ ls. is_same_one workers ls one.dist c.fixed_value-value.result other.dist c.fixed_value-second.result) c.loops-loops.ensures.pairs
    ∙ ap₂ (λ o q. is_same_one workers one.form.loops one.dist o other.dist q) first second ∙ sym (ap (λ b. b && tested) (sym c.have_same_loops.ensures ∙ c.if-have_same_loops.true))

pub returns-then-have_same_loops-clause-same : goal.returns-then-have_same_loops-clause-same
returns-then-have_same_loops-clause-same c = same c

pub returns-then-have_same_loops-clause-owner : goal.returns-then-have_same_loops-clause-owner
returns-then-have_same_loops-clause-owner c = λ h loops. same_owner (param_values (tree_of c.args.program.now)) c.args.workers c.args.one.now c.args.other.now loops (sym (same c) ∙ h)
