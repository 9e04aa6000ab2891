use Rattle.std.proofs.Common.{◌+◌, drop, get_or, if◌then◌else◌, ap, sym, ◌∙◌}
use Rattle.std.proofs.lemmas.List.{drop_all}
use Rattle.nest_tree.specs.declared.tree.Spread.TheVariants.{Block}
use Rattle.f77_scene.specs.Directives.{Placing, placings}
use Rattle.f77_source.specs.Placings.{is_before, directive_number, chosen}
use Rattle.f77_source.proofs.Placed.{chosen-placed, chosen-more}
use Rattle.f77_source.proofs.placing.placing_of.Goals as goal
use Rattle.f77_source.proofs.placing.placing_of.Goals.{then-is_before, else-is_before}

pub loop-candidate-preserved : goal.loop-candidate-preserved
loop-candidate-preserved c =
    let texts = c.args.texts.now in
    let n = c.args.name.now in
    let k = c.args.dimensions in
    let i = c.loop-candidate.candidate-index in
    let d : Placing = (0, Block) in
    let q = get_or placings i d in
    let first = c.loop-candidate.first in
    let p = c.loop-candidate.placing in
    let rest = drop (i + 1) placings in
    let number = directive_number texts n k q in
    let more = chosen-more texts n k placings i d first p c.loop-candidate-test.true in
    let tested = ap (λ o. is_before o first) (sym c.in_ok-number.ensures) ∙ sym c.is_before.ensures in
    elim c.if-is_before.branch [
      | then-is_before w ↦
          ap (λ o. chosen texts n k rest o c.if-is_before.placing) (w.first-is ∙ c.in_ok-number.ensures) ∙ ap (chosen texts n k rest number) w.placing-is
          ∙ sym (ap (λ b. if b then chosen texts n k rest number q else chosen texts n k rest first p) (tested ∙ w.if-is_before.true)) ∙ sym more ∙ c.loop-candidate.invariant
      | else-is_before w ↦
          ap (λ o. chosen texts n k rest o c.if-is_before.placing) w.first-is ∙ ap (chosen texts n k rest first) w.placing-is
          ∙ sym (ap (λ b. if b then chosen texts n k rest number q else chosen texts n k rest first p) (tested ∙ w.if-is_before.false)) ∙ sym more ∙ c.loop-candidate.invariant
    ]

pub returns : goal.returns
returns c =
    let none = drop_all c.loop-candidate.candidate-index placings c.loop-candidate-test.false in
    ap (λ ps. chosen c.args.texts.now c.args.name.now c.args.dimensions ps c.loop-candidate.first c.loop-candidate.placing) (sym none) ∙ c.loop-candidate.invariant ∙ chosen-placed c.args.texts.now c.args.name.now c.args.dimensions
