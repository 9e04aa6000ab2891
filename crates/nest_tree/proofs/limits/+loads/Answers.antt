use Rattle.std.proofs.Common.{◌≡◌, ◌+◌, ◌++◌, length, drop, map, Err, ap, sym, ◌∙◌, inl, inr, rules}
use Rattle.std.specs.Option.{option_or}
use Rattle.std.specs.Result.{result_err}
use Rattle.nest_tree.specs.declared.tree.Expr.{the_lemmas}
use Rattle.nest_tree.specs.declared.tree.Parameter.{Parameter}
use Rattle.nest_tree.specs.Given.{are_loads_given}
use Rattle.nest_tree.specs.Limits.{wide_loads}
use Rattle.nest_tree.specs.Loads.{loads_in, loads_among}
use Rattle.nest_tree.specs.View.{expression_of, expressions_from}
use Rattle.nest_tree.proofs.Rows.{arguments_more, expression_of-Min, expression_of-Max}
use Rattle.nest_tree.proofs.Wide.{wide_loads-append, loads_given-append, first_refused}
use Rattle.nest_tree.proofs.limits.+loads.Goals as goal

pub check_all_loads-returns-in_err-check_loads : goal.check_all_loads-returns-in_err-check_loads
check_all_loads-returns-in_err-check_loads t c =
    let values = map (λ (p : Parameter). p.value) c.args.constants.now in
    let e = c.argument-item.result in
    let rest = loads_among (expressions_from (drop (c.loop-argument.argument-index + 1) c.args.arguments.now)) in
    let more = arguments_more c.args.arguments.now c.loop-argument.argument-index e c.loop-argument-test.true c.argument-item.is in
    let split = sym c.loop-argument.invariant.wide ∙ ap (λ x. wide_loads values c.args.ends.now (loads_among x)) more ∙ wide_loads-append values c.args.ends.now (loads_in (expression_of e)) rest in
    let same : c.from_residual.result ≡ Err c.in_err-check_loads.field-0.0 = search rules in
    ap result_err same ∙ first_refused c.in_err-check_loads.field-0.0 _ (wide_loads values c.args.ends.now rest) _ (c.in_err-check_loads.ensures) split

pub check_all_loads-loop-argument-preserved : goal.check_all_loads-loop-argument-preserved
check_all_loads-loop-argument-preserved t c =
    let values = map (λ (p : Parameter). p.value) c.args.constants.now in
    let e = c.argument-item.result in
    let rest = loads_among (expressions_from (drop (c.loop-argument.argument-index + 1) c.args.arguments.now)) in
    let more = arguments_more c.args.arguments.now c.loop-argument.argument-index e c.loop-argument-test.true c.argument-item.is in
    let split = sym c.loop-argument.invariant.wide ∙ ap (λ x. wide_loads values c.args.ends.now (loads_among x)) more ∙ wide_loads-append values c.args.ends.now (loads_in (expression_of e)) rest in
    let given = loads_given-append (length c.args.ends.now) (length c.args.constants.now) (loads_in (expression_of e)) rest (sym (ap (λ x. are_loads_given (length c.args.ends.now) (length c.args.constants.now) (loads_among x)) more) ∙ c.loop-argument.invariant.given) in
    record {
      given = given.1;
      wide = sym (split ∙ ap (λ o. option_or o (wide_loads values c.args.ends.now rest)) (sym (c.in_ok-check_loads.ensures)));
    }

pub check_loads-check_all_loads-requires : goal.check_loads-check_all_loads-requires
check_loads-check_all_loads-requires t c =
    let given = are_loads_given (length c.args.ends.now) (length c.args.constants.now) in
    let e = ap (λ e. given (loads_in (expression_of e))) c.in-Min.is ∙ ap (λ e. given (loads_in e)) (expression_of-Min c.in-Min.arguments) in
    (search (rules, the_lemmas), ap (λ xs. given (loads_among (expressions_from xs))) c.deref.ensures.value ∙ sym e ∙ c.requires)

pub check_loads-check_all_loads-requires-in-Max : goal.check_loads-check_all_loads-requires-in-Max
check_loads-check_all_loads-requires-in-Max t c =
    let given = are_loads_given (length c.args.ends.now) (length c.args.constants.now) in
    let e = ap (λ e. given (loads_in (expression_of e))) c.in-Max.is ∙ ap (λ e. given (loads_in e)) (expression_of-Max c.in-Max.arguments) in
    (search (rules, the_lemmas), ap (λ xs. given (loads_among (expressions_from xs))) c.deref-in-Max.ensures.value ∙ sym e ∙ c.requires)

pub check_loads-returns-in_err-check_loads-in-Add : goal.check_loads-returns-in_err-check_loads-in-Add
check_loads-returns-in_err-check_loads-in-Add t c =
    let values = map (λ (p : Parameter). p.value) c.args.constants.now in
    let a = loads_in (expression_of c.in-Add.a.value) in
    let b = loads_in (expression_of c.in-Add.b.value) in
    let both : loads_in (expression_of c.args.e.now) ≡ a ++ b = elim c.in-Add.is [ inl h ↦ ap (λ e. loads_in (expression_of e)) h | inr k ↦ elim k [ inl h ↦ ap (λ e. loads_in (expression_of e)) h | inr h ↦ ap (λ e. loads_in (expression_of e)) h ] ] in
    let split = ap (wide_loads values c.args.ends.now) both ∙ wide_loads-append values c.args.ends.now a b in
    let first = c.in_err-check_loads-in-Add.ensures ∙ ap (λ e. wide_loads values c.args.ends.now (loads_in (expression_of e))) c.deref-in-Add.ensures in
    let same : c.from_residual.result ≡ Err c.in_err-check_loads-in-Add.field-0.0 = search rules in
    ap result_err same ∙ first_refused c.in_err-check_loads-in-Add.field-0.0 _ (wide_loads values c.args.ends.now b) _ first split

pub check_loads-returns-in_ok-check_loads-in-Add : goal.check_loads-returns-in_ok-check_loads-in-Add
check_loads-returns-in_ok-check_loads-in-Add t c =
    let values = map (λ (p : Parameter). p.value) c.args.constants.now in
    let a = loads_in (expression_of c.in-Add.a.value) in
    let b = loads_in (expression_of c.in-Add.b.value) in
    let both : loads_in (expression_of c.args.e.now) ≡ a ++ b = elim c.in-Add.is [ inl h ↦ ap (λ e. loads_in (expression_of e)) h | inr k ↦ elim k [ inl h ↦ ap (λ e. loads_in (expression_of e)) h | inr h ↦ ap (λ e. loads_in (expression_of e)) h ] ] in
    let split = ap (wide_loads values c.args.ends.now) both ∙ wide_loads-append values c.args.ends.now a b in
    let first = c.in_ok-check_loads-in-Add.ensures ∙ ap (λ e. wide_loads values c.args.ends.now (loads_in (expression_of e))) c.deref-in-Add.ensures in
    let second = c.check_loads-in-Add.ensures ∙ ap (λ e. wide_loads values c.args.ends.now (loads_in (expression_of e))) c.deref-in-Add-2.ensures in
    second ∙ ap (λ o. option_or o (wide_loads values c.args.ends.now b)) first ∙ sym split

pub check_loads-returns-in-Min : goal.check_loads-returns-in-Min
check_loads-returns-in-Min t c =
    let wide = wide_loads (map (λ (p : Parameter). p.value) c.args.constants.now) c.args.ends.now in
    let e = ap (λ e. wide (loads_in (expression_of e))) c.in-Min.is ∙ ap (λ e. wide (loads_in e)) (expression_of-Min c.in-Min.arguments) in
    c.check_all_loads.ensures ∙ ap (λ xs. wide (loads_among (expressions_from xs))) c.deref.ensures.value ∙ sym e

pub check_loads-returns-in-Max : goal.check_loads-returns-in-Max
check_loads-returns-in-Max t c =
    let wide = wide_loads (map (λ (p : Parameter). p.value) c.args.constants.now) c.args.ends.now in
    let e = ap (λ e. wide (loads_in (expression_of e))) c.in-Max.is ∙ ap (λ e. wide (loads_in e)) (expression_of-Max c.in-Max.arguments) in
    c.check_all_loads-in-Max.ensures ∙ ap (λ xs. wide (loads_among (expressions_from xs))) c.deref-in-Max.ensures.value ∙ sym e
