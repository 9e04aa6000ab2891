use Rattle.std.proofs.Common.{rules, ap, sym, ◌∙◌, ◌∷◌, ◌-◌, w64, FitsSigned, to_z-of_z}
use Rattle.nest_walk.specs.Progressions.{progression}
use Rattle.nest_walk.proofs.Steps.{taken}
use Rattle.nest_walk.proofs.trips.Trips.take.Goals as goal

pub returns : goal.returns
returns c =
    let t = c.args.self.now in
    let f : FitsSigned w64 t.next = search rules in
    let g : FitsSigned w64 t.step = search rules in
    let h : FitsSigned w64 c.with_product-self.result = search rules in
    let next = simp to_z-of_z at c.with_product-self.ensures in
    simp to_z-of_z (taken t.next t.step t.count c.requires.some c.requires.small ∙ ap (λ z. t.next ∷ progression z t.step (t.count - 1)) (sym next))
