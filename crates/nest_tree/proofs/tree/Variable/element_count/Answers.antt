use Rattle.std.proofs.Common.{◌∙◌, ◌*◌, ◌^◌, ◌≤◌, length, pos, arith, ap}
use Rattle.std.proofs.Math.Pow.{pow_mono}
use Rattle.nest_tree.specs.View.{declaration_of}
use Rattle.nest_tree.proofs.Places.{good_declaration, counting-step}
use Rattle.nest_tree.proofs.tree.Variable.element_count.Goals as goal

pub loop-bounds-preserved : goal.loop-bounds-preserved
loop-bounds-preserved c =
    let e = c.from-count.ensures ∙ c.extent.ensures.extent in
    rw e (rw c.deref-bounds-items.ensures.value (counting-step c.args.self.now.bounds.items c.loop-bounds.bounds-index (pos 0, pos 0) _ _ (omega (arith, ap length c.deref-bounds-items.ensures.value)) c.loop-bounds.invariant))

pub returns-clause-most : goal.returns-clause-most
returns-clause-most c =
    let g = good_declaration (declaration_of c.args.self.now) c.requires in
    let power : 2 ^ (32 * c.loop-bounds.bounds-index) ≤ 2 ^ 96 = pow_mono {i = 32 * c.loop-bounds.bounds-index} {j = 96} (omega (arith, g.1, ap length c.deref-bounds-items.ensures.value)) in
    omega (arith, power, c.loop-bounds.invariant.most)
