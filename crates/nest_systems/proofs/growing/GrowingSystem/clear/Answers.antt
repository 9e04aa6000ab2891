use Rattle.std.proofs.Common.{ℕ, ◌+◌, ◌<◌, ◌≤◌, ◌^◌, List, [], IsTrue, length, map, sym, ◌∙◌, subst, arith}
use Rattle.std.specs.List.{All}
use Rattle.std.proofs.lemmas.List.{length-append, length-map, length-take-le}
use Rattle.std.proofs.lemmas.List.Elements.{All-nil}
use Rattle.farkas_cert.specs.Inequalities.{Inequalities}
use Rattle.presolve.specs.Presolution.{IsPresolved, Presolution, first_kept}
use Rattle.nest_rows.specs.declared.constraint.Constraint.{Constraint}
use Rattle.nest_rows.specs.Constraints.{is_tame, row_of}
use Rattle.nest_systems.specs.Growing.{with_constraints}
use Rattle.nest_systems.specs.Widened.{Widens}
use Rattle.nest_systems.proofs.GrowingParts.{first-twice, none-behind, rows-left}
use Rattle.nest_systems.proofs.growing.GrowingSystem.clear.Goals as goal

abbrev Stands : Inequalities → ℕ → Presolution → List Constraint → Type 0
Stands shared kept p last =
    IsPresolved shared (first_kept kept p) × IsPresolved (with_constraints last shared) p × (kept ≤ length p.numbers) × All (λ c. IsTrue (is_tame c)) last × (p.count < 2 ^ 62 + length last) × Widens shared (first_kept kept p) × Widens (with_constraints last shared) p

pub invariant_of-self : goal.invariant_of-self
invariant_of-self c =
    let s = c.self.inside in
    let p = s.presolved in
    let last = s.last.items in
    let (first, all, low, tame, few, one, both) = c.self.invariant in
    let q = first_kept s.kept p in
    let twice = first-twice p s.kept low (rows-left (with_constraints last s.shared) p all) in
    let none = none-behind s.shared in
    let kept = length-take-le s.kept p.numbers low in
    let whole = all.count ∙ length-append s.shared.rows (map (row_of s.shared.vars) last) in
    let more = length-map last (row_of s.shared.vars) in
    let cut = first.count in
    let stands : Stands s.shared s.kept q [] = (
      subst (IsPresolved s.shared) (sym twice) first,
      subst (λ (w : Inequalities). IsPresolved w q) (sym none) first,
      omega (arith, kept),
      All-nil (λ (x : Constraint). IsTrue (is_tame x)),
      omega (arith, whole, more, cut, few),
      subst (Widens s.shared) (sym twice) one,
      subst (λ (w : Inequalities). Widens w q) (sym none) one,
    ) in
    subst (λ x. Stands s.shared s.kept x c.clear.new.self.items) (sym c.truncate.ensures) (subst (Stands s.shared s.kept q) (sym c.clear.ensures.items) stands)
