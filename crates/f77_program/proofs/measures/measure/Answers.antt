use Rattle.std.proofs.Common.{◌≡◌, ◌∷◌, [], length, reverse, drop, ap, sym, ◌∙◌, arith}
use Rattle.f77_program.specs.Measures.{measure_of}
use Rattle.f77_program.specs.Operands.{forms_of}
use Rattle.f77_program.specs.Stacks.{stacked}
use Rattle.f77_program.proofs.Stacked.{turn_back, all_parts}
use Rattle.f77_program.proofs.measures.measure.Goals as goal

pub apply-requires : goal.apply-requires
apply-requires c =
    let t = turn_back (measure_of c.args.known.now) c.args.parts.now c.loop-place.place c.index-parts-place.result c.requires c.loop-place-test.true c.loop-place.auto.place c.index-parts-place.is in
    (t.0, c.loop-place.invariant ∙ t.1)

pub loop-place-preserved : goal.loop-place-preserved
loop-place-preserved c =
    let t = turn_back (measure_of c.args.known.now) c.args.parts.now c.loop-place.place c.index-parts-place.result c.requires c.loop-place-test.true c.loop-place.auto.place c.index-parts-place.is in
    c.in_ok-apply.ensures t.0 (c.loop-place.invariant ∙ t.1) ∙ sym t.2

pub popped-requires : goal.popped-requires
popped-requires c =
    let f = measure_of c.args.known.now in
    let e = c.requires.0 in
    let none : c.loop-place.place ≡ 0 = omega arith in
    let one : c.loop-place.stack.items ≡ f e ∷ [] = c.loop-place.invariant ∙ ap (λ k. reverse (stacked f (drop k (forms_of c.args.parts.now)))) none ∙ ap (λ ps. reverse (stacked f ps)) c.requires.1 ∙ all_parts f e in
    omega (arith, ap length one)

pub returns : goal.returns
returns c = λ e parts.
    let f = measure_of c.args.known.now in
    let none : c.loop-place.place ≡ 0 = omega arith in
    let one : c.loop-place.stack.items ≡ f e ∷ [] = c.loop-place.invariant ∙ ap (λ k. reverse (stacked f (drop k (forms_of c.args.parts.now)))) none ∙ ap (λ ps. reverse (stacked f ps)) parts ∙ all_parts f e in
    (c.popped.ensures [] (f e) one).1
