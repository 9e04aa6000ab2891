use Rattle.std.proofs.Common.{◌≡◌, ◌+◌, ◌++◌, List, drop, Err, ap, sym, ◌∙◌, inl, inr, rules}
use Rattle.std.specs.Option.{option_or}
use Rattle.std.specs.Result.{result_err}
use Rattle.nest_tree.specs.Loads.{loads_among, loads_in}
use Rattle.nest_tree.specs.View.{expression_of, expressions_from, tree_of}
use Rattle.nest_tree.specs.declared.tree.Access.{Access}
use Rattle.nest_tree.specs.declared.tree.Expr.{the_lemmas}
use Rattle.nest_tree.proofs.Rows.{arguments_more, expression_of-Max, expression_of-Min}
use Rattle.nest_tree.proofs.Wide.{first_refused}
use Rattle.nest_walk.specs.Cursors.{loops_in}
use Rattle.nest_walk.specs.Places.{numbers_of}
use Rattle.nest_walk.specs.RoundsOf.{rounds_of}
use Rattle.range_check.specs.Outside.{accesses_outside, are_sound_accesses}
use Rattle.range_check.proofs.Lists.{outside-append, sound-append}
use Rattle.range_check.proofs.check.+loads.Goals as goal

pub check_all_loads-check_loads-requires : goal.check_all_loads-check_loads-requires
check_all_loads-check_loads-requires t c =
    let tree = tree_of c.args.program.now in
    let around = numbers_of (rounds_of c.args.path.now) in
    let loops = loops_in tree (rounds_of c.args.path.now) in
    let e = c.argument-item.result in
    let here = loads_in (expression_of e) in
    let rest = loads_among (expressions_from (drop (c.loop-argument.argument-index + 1) c.args.arguments.now)) in
    let more = arguments_more c.args.arguments.now c.loop-argument.argument-index e c.loop-argument-test.true c.argument-item.is in
    let sound = sound-append tree around loops here rest (sym (ap (λ x. are_sound_accesses tree around loops (loads_among x)) more) ∙ c.loop-argument.invariant.sound) in
    (search (rules, the_lemmas), (c.requires.numbered, sound.0))

pub check_all_loads-returns-in_err-check_loads : goal.check_all_loads-returns-in_err-check_loads
check_all_loads-returns-in_err-check_loads t c =
    let tree = tree_of c.args.program.now in
    let loops = loops_in tree (rounds_of c.args.path.now) in
    let out = accesses_outside tree loops c.args.line in
    let e = c.argument-item.result in
    let here = loads_in (expression_of e) in
    let rest = loads_among (expressions_from (drop (c.loop-argument.argument-index + 1) c.args.arguments.now)) in
    let more = arguments_more c.args.arguments.now c.loop-argument.argument-index e c.loop-argument-test.true c.argument-item.is in
    let split = sym c.loop-argument.invariant.first ∙ ap (λ x. out (loads_among x)) more ∙ outside-append tree loops c.args.line here rest in
    let same : c.from_residual.result ≡ Err c.in_err-check_loads.field-0.0 = search rules in
    ap result_err same ∙ first_refused c.in_err-check_loads.field-0.0 _ (out rest) _ c.in_err-check_loads.ensures split

pub check_all_loads-loop-argument-preserved : goal.check_all_loads-loop-argument-preserved
check_all_loads-loop-argument-preserved t c =
    let tree = tree_of c.args.program.now in
    let around = numbers_of (rounds_of c.args.path.now) in
    let loops = loops_in tree (rounds_of c.args.path.now) in
    let out = accesses_outside tree loops c.args.line in
    let e = c.argument-item.result in
    let here = loads_in (expression_of e) in
    let rest = loads_among (expressions_from (drop (c.loop-argument.argument-index + 1) c.args.arguments.now)) in
    let more = arguments_more c.args.arguments.now c.loop-argument.argument-index e c.loop-argument-test.true c.argument-item.is in
    let split = sym c.loop-argument.invariant.first ∙ ap (λ x. out (loads_among x)) more ∙ outside-append tree loops c.args.line here rest in
    let sound = sound-append tree around loops here rest (sym (ap (λ x. are_sound_accesses tree around loops (loads_among x)) more) ∙ c.loop-argument.invariant.sound) in
    record {
      sound = sound.1;
      first = sym (split ∙ ap (λ o. option_or o (out rest)) (sym c.in_ok-check_loads.ensures));
    }

pub check_loads-check_all_loads-requires : goal.check_loads-check_all_loads-requires
check_loads-check_all_loads-requires t c =
    let tree = tree_of c.args.program.now in
    let around = numbers_of (rounds_of c.args.path.now) in
    let loops = loops_in tree (rounds_of c.args.path.now) in
    let sounds = λ (xs : List Access). are_sound_accesses tree around loops xs in
    let e = ap (λ e. sounds (loads_in (expression_of e))) c.in-Min.is ∙ ap (λ e. sounds (loads_in e)) (expression_of-Min c.in-Min.arguments) in
    (search (rules, the_lemmas), (c.requires.numbered, ap (λ xs. sounds (loads_among (expressions_from xs))) c.deref.ensures.value ∙ sym e ∙ c.requires.sound))

pub check_loads-check_all_loads-requires-in-Max : goal.check_loads-check_all_loads-requires-in-Max
check_loads-check_all_loads-requires-in-Max t c =
    let tree = tree_of c.args.program.now in
    let around = numbers_of (rounds_of c.args.path.now) in
    let loops = loops_in tree (rounds_of c.args.path.now) in
    let sounds = λ (xs : List Access). are_sound_accesses tree around loops xs in
    let e = ap (λ e. sounds (loads_in (expression_of e))) c.in-Max.is ∙ ap (λ e. sounds (loads_in e)) (expression_of-Max c.in-Max.arguments) in
    (search (rules, the_lemmas), (c.requires.numbered, ap (λ xs. sounds (loads_among (expressions_from xs))) c.deref-in-Max.ensures.value ∙ sym e ∙ c.requires.sound))

pub check_loads-returns-in-Min : goal.check_loads-returns-in-Min
check_loads-returns-in-Min t c =
    let tree = tree_of c.args.program.now in
    let loops = loops_in tree (rounds_of c.args.path.now) in
    let out = accesses_outside tree loops c.args.line in
    let e = ap (λ e. out (loads_in (expression_of e))) c.in-Min.is ∙ ap (λ e. out (loads_in e)) (expression_of-Min c.in-Min.arguments) in
    c.check_all_loads.ensures ∙ ap (λ xs. out (loads_among (expressions_from xs))) c.deref.ensures.value ∙ sym e

pub check_loads-returns-in-Max : goal.check_loads-returns-in-Max
check_loads-returns-in-Max t c =
    let tree = tree_of c.args.program.now in
    let loops = loops_in tree (rounds_of c.args.path.now) in
    let out = accesses_outside tree loops c.args.line in
    let e = ap (λ e. out (loads_in (expression_of e))) c.in-Max.is ∙ ap (λ e. out (loads_in e)) (expression_of-Max c.in-Max.arguments) in
    c.check_all_loads-in-Max.ensures ∙ ap (λ xs. out (loads_among (expressions_from xs))) c.deref-in-Max.ensures.value ∙ sym e

pub check_loads-returns-in_err-check_loads-in-Add : goal.check_loads-returns-in_err-check_loads-in-Add
check_loads-returns-in_err-check_loads-in-Add t c =
    let tree = tree_of c.args.program.now in
    let loops = loops_in tree (rounds_of c.args.path.now) in
    let out = accesses_outside tree loops c.args.line in
    let a = loads_in (expression_of c.in-Add.a.value) in
    let b = loads_in (expression_of c.in-Add.b.value) in
    let both : loads_in (expression_of c.args.e.now) ≡ a ++ b = elim c.in-Add.is [ inl h ↦ ap (λ e. loads_in (expression_of e)) h | inr k ↦ elim k [ inl h ↦ ap (λ e. loads_in (expression_of e)) h | inr h ↦ ap (λ e. loads_in (expression_of e)) h ] ] in
    let split = ap out both ∙ outside-append tree loops c.args.line a b in
    let first = c.in_err-check_loads-in-Add.ensures ∙ ap (λ e. out (loads_in (expression_of e))) c.deref-in-Add.ensures in
    let same : c.from_residual.result ≡ Err c.in_err-check_loads-in-Add.field-0.0 = search rules in
    ap result_err same ∙ first_refused c.in_err-check_loads-in-Add.field-0.0 _ (out b) _ first split

pub check_loads-returns-in_ok-check_loads-in-Add : goal.check_loads-returns-in_ok-check_loads-in-Add
check_loads-returns-in_ok-check_loads-in-Add t c =
    let tree = tree_of c.args.program.now in
    let loops = loops_in tree (rounds_of c.args.path.now) in
    let out = accesses_outside tree loops c.args.line in
    let a = loads_in (expression_of c.in-Add.a.value) in
    let b = loads_in (expression_of c.in-Add.b.value) in
    let both : loads_in (expression_of c.args.e.now) ≡ a ++ b = elim c.in-Add.is [ inl h ↦ ap (λ e. loads_in (expression_of e)) h | inr k ↦ elim k [ inl h ↦ ap (λ e. loads_in (expression_of e)) h | inr h ↦ ap (λ e. loads_in (expression_of e)) h ] ] in
    let split = ap out both ∙ outside-append tree loops c.args.line a b in
    let first = c.in_ok-check_loads-in-Add.ensures ∙ ap (λ e. out (loads_in (expression_of e))) c.deref-in-Add.ensures in
    let second = c.check_loads-in-Add.ensures ∙ ap (λ e. out (loads_in (expression_of e))) c.deref-in-Add-2.ensures in
    second ∙ ap (λ o. option_or o (out b)) first ∙ sym split
