use Rattle.std.proofs.Common.{◌≡◌, length, refl, subst}
use Rattle.std.proofs.lemmas.List.{length-take-le}
use Rattle.presolve.specs.Presolution.{IsPresolved, Presolution, first_kept}
use Rattle.nest_systems.specs.Growing.{Growing}
use Rattle.nest_systems.proofs.growing.GrowingSystem.kept.Goals as goal

pub returns : goal.returns
returns c =
    let s = c.self.inside in
    let (first, all, low, tame, few, one, both) = c.self.invariant in
    subst (λ (g : Growing). (p : Presolution) × IsPresolved g.shared p × (p.columns ≡ g.columns) × (length p.numbers ≡ s.kept)) c.self.view_is
    (first_kept s.kept s.presolved, first, refl, length-take-le s.kept s.presolved.numbers low)
