use Rattle.std.proofs.Common.{◌≡◌, ◌-◌, [], ◌∷◌, length, map, reverse, drop, get_or, Bor, ap, sym, ◌∙◌, arith}
use Rattle.std.proofs.Math.ListN.{get_or-map}
use Rattle.std.proofs.lemmas.List.{length-map}
use Rattle.std.specs.List.{flat_map}
use Rattle.nest_tree.specs.View.{expression_of}
use Rattle.f77_forms.specs.View as forms
use Rattle.f77_forms.specs.declared.form.Expression.{Expression}
use Rattle.f77_program.specs.Measures.{measure_of}
use Rattle.f77_program.specs.Operands.{forms_of}
use Rattle.f77_program.specs.Reaches.{reach_of}
use Rattle.f77_program.specs.Stacks.{stacked}
use Rattle.f77_program.proofs.Stacked.{turn_back, all_parts}
use Rattle.f77_scene.specs.Tests.{subscripts_at}
use Rattle.f77_scene.specs.Trees as trees
use Rattle.f77_source.proofs.Formed.{reach_parts}
use Rattle.f77_source.proofs.Splits.{last_of}
use Rattle.f77_source.proofs.tree.tree_of.Goals as goal

pub grow-requires-clause-measures : goal.grow-requires-clause-measures
grow-requires-clause-measures c =
    let t = turn_back (measure_of c.args.known.now) c.in_ok-parts.parts.items c.loop-place.place c.index-part.result.now (forms.expression_of c.args.e.now, c.in_ok-parts.ensures) c.loop-place-test.true (omega (arith, c.len-place.ensures)) c.index-part.ensures in
    (t.0, c.deref.ensures.value ∙ c.loop-place.invariant.measures ∙ t.1)

pub grow-requires-clause-trees : goal.grow-requires-clause-trees
grow-requires-clause-trees c =
    let t = turn_back (trees.tree_of c.args.variables.now c.args.known.now) c.in_ok-parts.parts.items c.loop-place.place c.index-part.result.now (forms.expression_of c.args.e.now, c.in_ok-parts.ensures) c.loop-place-test.true (omega (arith, c.len-place.ensures)) c.index-part.ensures in
    (t.0, c.loop-place.invariant.trees ∙ t.1)

pub grow-requires-clause-affine : goal.grow-requires-clause-affine
grow-requires-clause-affine c =
    let s = c.args.known.now in
    let parts = c.in_ok-parts.parts.items in
    let p = c.index-part.result.now in
    let i = c.loop-place.place - 1 in
    let form = λ (e : Bor Expression). forms.expression_of e.now in
    let at : form p ≡ get_or (forms_of parts) i (form p) = ap form c.index-part.ensures ∙ sym (get_or-map form parts i p) in
    ap (λ e. reach_of s (subscripts_at s e)) at
    ∙ reach_parts s (subscripts_at s) (forms_of parts) i (form p) (omega (arith, length-map parts form, c.len-place.ensures)) (ap (λ ps. reach_of s (flat_map (subscripts_at s) ps)) c.in_ok-parts.ensures ∙ c.requires.affine)

pub apply-requires : goal.apply-requires
apply-requires c =
    let t = turn_back (measure_of c.args.known.now) c.in_ok-parts.parts.items c.loop-place.place c.index-part.result.now (forms.expression_of c.args.e.now, c.in_ok-parts.ensures) c.loop-place-test.true (omega (arith, c.len-place.ensures)) c.index-part.ensures in
    (t.0, c.loop-place.invariant.measures ∙ t.1)

pub loop-place-preserved : goal.loop-place-preserved
loop-place-preserved c =
    let m = turn_back (measure_of c.args.known.now) c.in_ok-parts.parts.items c.loop-place.place c.index-part.result.now (forms.expression_of c.args.e.now, c.in_ok-parts.ensures) c.loop-place-test.true (omega (arith, c.len-place.ensures)) c.index-part.ensures in
    let t = turn_back (trees.tree_of c.args.variables.now c.args.known.now) c.in_ok-parts.parts.items c.loop-place.place c.index-part.result.now (forms.expression_of c.args.e.now, c.in_ok-parts.ensures) c.loop-place-test.true (omega (arith, c.len-place.ensures)) c.index-part.ensures in
    record {
      measures = c.in_ok-apply.ensures m.0 (c.loop-place.invariant.measures ∙ m.1) ∙ sym m.2;
      trees = c.in_ok-grow.ensures t.0 (c.loop-place.invariant.trees ∙ t.1) ∙ sym t.2;
    }

pub popped-requires : goal.popped-requires
popped-requires c =
    let f = trees.tree_of c.args.variables.now c.args.known.now in
    let e = forms.expression_of c.args.e.now in
    let none : c.loop-place.place ≡ 0 = omega arith in
    let one : map expression_of c.loop-place.trees.items ≡ f e ∷ [] =
    c.loop-place.invariant.trees ∙ ap (λ k. reverse (stacked f (drop k (forms_of c.in_ok-parts.parts.items)))) none ∙ ap (λ ps. reverse (stacked f ps)) c.in_ok-parts.ensures ∙ all_parts f e in
    omega (arith, ap length one, length-map c.loop-place.trees.items expression_of)

pub returns : goal.returns
returns c =
    let f = trees.tree_of c.args.variables.now c.args.known.now in
    let e = forms.expression_of c.args.e.now in
    let none : c.loop-place.place ≡ 0 = omega arith in
    let one : map expression_of c.loop-place.trees.items ≡ f e ∷ [] =
    c.loop-place.invariant.trees ∙ ap (λ k. reverse (stacked f (drop k (forms_of c.in_ok-parts.parts.items)))) none ∙ ap (λ ps. reverse (stacked f ps)) c.in_ok-parts.ensures ∙ all_parts f e in
    let last = last_of expression_of c.loop-place.trees.items [] (f e) one in
    ap expression_of (c.popped.ensures last.first last.x last.whole).1 ∙ last.same
