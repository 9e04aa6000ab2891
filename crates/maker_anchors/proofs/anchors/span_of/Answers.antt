use Rattle.std.proofs.Common.{◌≡◌, ◌-◌, ap, sym, ◌∙◌, arith, ℕ, ℤ, None, Some}
use Rattle.std.proofs.lemmas.Int.{ints}
use mir.Syntax.{w128}
use mir.Val.{to_z, of_z}
use Rattle.nest_tree.specs.Form.{Form}
use Rattle.nest_tree.specs.Layout.{extent}
use Rattle.nest_tree.specs.Tree.{param_values}
use Rattle.nest_tree.specs.View.{tree_of}
use Rattle.nest_tree.specs.WellFormed.{is_value}
use Rattle.owner_partition.specs.declared.anchor.Dist.TheVariants.{Block}
use Rattle.owner_partition.specs.Placement.{misplaced, phase_ends}
use Rattle.maker_anchors.proofs.NearEnds.{placed_values}
use Rattle.maker_anchors.proofs.Spans.{probe, span_none, span_some}
use Rattle.maker_anchors.proofs.anchors.span_of.Goals as goal

pub returns-in_default : goal.returns-in_default
returns-in_default c =
    let tree = tree_of c.args.program.now in
    let at : misplaced tree c.args.cut.now.marks 1 c.args.phase (probe c.args.number) ≡ None = ap (λ (f : Form). misplaced tree c.args.cut.now.marks 1 c.args.phase (record { form = f; dist = Block 0 })) (sym c.in_ok-loop_value.ensures) ∙ sym c.in_default.ensures in
    sym (span_none (param_values tree) 1 c.args.phase c.args.number (phase_ends tree c.args.cut.now.marks (c.args.phase - 1)) at)

pub returns : goal.returns
returns c =
    let tree = tree_of c.args.program.now in
    let p = c.in-Err.ends in
    let at : misplaced tree c.args.cut.now.marks 1 c.args.phase (probe c.args.number) ≡ Some p = ap (λ (f : Form). misplaced tree c.args.cut.now.marks 1 c.args.phase (record { form = f; dist = Block 0 })) (sym c.in_ok-loop_value.ensures) ∙ sym c.in-Err.ensures in
    let span = span_some (param_values tree) 1 c.args.phase c.args.number (phase_ends tree c.args.cut.now.marks (c.args.phase - 1)) p at in
    let low : to_z w128 (of_z w128 p.low) ≡ p.low = omega (arith, ints) in
    let high : to_z w128 (of_z w128 p.high) ≡ p.high = omega (arith, ints) in
    let places = c.in-Some.ensures.places ∙ ap (λ z. extent (z, to_z w128 (of_z w128 p.high))) low ∙ ap (λ z. extent (p.low, z)) high in
    let whole : ◌≡◌ {A = ℤ × ℕ} (to_z w128 (of_z w128 p.low), c.in-Some.width) (p.low, extent (p.low, p.high)) = λ i. (low i, places i) in
    whole ∙ sym span

pub unreachable-requires : goal.unreachable-requires
unreachable-requires c =
    let tree = tree_of c.args.program.now in
    let p = c.in-Err.ends in
    let at : misplaced tree c.args.cut.now.marks 1 c.args.phase (probe c.args.number) ≡ Some p = ap (λ (f : Form). misplaced tree c.args.cut.now.marks 1 c.args.phase (record { form = f; dist = Block 0 })) (sym c.in_ok-loop_value.ensures) ∙ sym c.in-Err.ensures in
    let values = placed_values tree c.args.cut.now.marks 1 c.args.phase c.args.number p c.args.program.now.limits at in
    let low : to_z w128 (of_z w128 p.low) ≡ p.low = omega (arith, ints) in
    let high : to_z w128 (of_z w128 p.high) ≡ p.high = omega (arith, ints) in
    let found = c.in-None.ensures.near (ap is_value low ∙ values.low) (ap is_value high ∙ values.high) in
    cc
