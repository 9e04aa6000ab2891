use Rattle.std.proofs.Common.{◌+◌, None, drop, ap, sym, ◌∙◌, subst}
use Rattle.std.specs.Option.{option_or}
use Rattle.std.specs.Prelude.{IfOk, Option, ◌≡◌}
use Rattle.nest_tree.specs.Loads.{loads_among, loads_in}
use Rattle.nest_tree.specs.View.{expression_of, expressions_from}
use Rattle.nest_tree.proofs.Rows.{expression_of-Max, expression_of-Min}
use Rattle.owner_partition.specs.declared.anchor.Anchor.{Anchor}
use Rattle.maker_anchors.specs.Anchors.{first_of}
use Rattle.maker_anchors.specs.Scopes.{good_load_anchor}
use Rattle.maker_anchors.proofs.Found.{first_next, none_is}
use Rattle.maker_anchors.proofs.anchors.+loaded.Goals as goal

pub first_loaded-returns-in-Min : goal.first_loaded-returns-in-Min
first_loaded-returns-in-Min t c =
    let f = good_load_anchor c.args.scope c.args.own in
    let same = ap (λ xs. first_of f (loads_among (expressions_from xs))) c.deref.ensures.value ∙ sym (ap (λ e. first_of f (loads_in e)) (ap expression_of c.in-Min.is ∙ expression_of-Min c.in-Min.arguments)) in
    subst (λ (x : Option Anchor). IfOk c.first_loaded_among.result (λ o. o ≡ x)) same c.first_loaded_among.ensures

pub first_loaded-returns-in-Max : goal.first_loaded-returns-in-Max
first_loaded-returns-in-Max t c =
    let f = good_load_anchor c.args.scope c.args.own in
    let same = ap (λ xs. first_of f (loads_among (expressions_from xs))) c.deref-in-Max.ensures.value ∙ sym (ap (λ e. first_of f (loads_in e)) (ap expression_of c.in-Max.is ∙ expression_of-Max c.in-Max.arguments)) in
    subst (λ (x : Option Anchor). IfOk c.first_loaded_among-in-Max.result (λ o. o ≡ x)) same c.first_loaded_among-in-Max.ensures

pub first_loaded_among-returns-in-Some : goal.first_loaded_among-returns-in-Some
first_loaded_among-returns-in-Some t c =
    let f = good_load_anchor c.args.scope c.args.own in
    let es = c.args.arguments.now in
    let i = c.loop-argument.argument-index in
    let rest = first_of f (loads_among (expressions_from (drop (i + 1) es))) in
    let here = sym c.in_ok-anchor.ensures ∙ c.in-Some.is in
    sym (first_next f es i c.argument-item.result c.loop-argument-test.true c.argument-item.is ∙ ap (λ o. option_or o rest) here) ∙ c.loop-argument.invariant

pub first_loaded_among-loop-argument-preserved : goal.first_loaded_among-loop-argument-preserved
first_loaded_among-loop-argument-preserved t c =
    let f = good_load_anchor c.args.scope c.args.own in
    let es = c.args.arguments.now in
    let i = c.loop-argument.argument-index in
    let rest = first_of f (loads_among (expressions_from (drop (i + 1) es))) in
    let none : c.in_ok-anchor.field-0 ≡ None = none_is c.in_ok-anchor.field-0 c.in_default.not-Some in
    let here = sym c.in_ok-anchor.ensures ∙ none in
    sym (first_next f es i c.argument-item.result c.loop-argument-test.true c.argument-item.is ∙ ap (λ o. option_or o rest) here) ∙ c.loop-argument.invariant
