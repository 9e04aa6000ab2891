use Rattle.std.proofs.Common.{IsTrue, length, ap, sym, ◌∙◌, subst, arith}
use Rattle.std.specs.List.{All}
use Rattle.std.proofs.lemmas.List.Elements.{All-nil}
use Rattle.farkas_cert.specs.Inequalities.{Inequalities}
use Rattle.presolve.specs.Presolution.{IsPresolved}
use Rattle.nest_rows.specs.declared.constraint.Constraint.{Constraint}
use Rattle.nest_rows.specs.Constraints.{is_tame}
use Rattle.nest_systems.specs.Growing.{with_constraints}
use Rattle.nest_systems.specs.Widened.{Widens}
use Rattle.nest_systems.proofs.GrowingParts.{first-all, none-behind, rows-left}
use Rattle.nest_systems.proofs.growing.GrowingSystem.new.Goals as goal

pub invariant_of-result : goal.invariant_of-result
invariant_of-result c =
    let s = c.args.shared in
    let p = c.args.presolved in
    let items = c.new.ensures.items in
    let kept = c.kept-kept.ensures.kept in
    let first = first-all p c.kept-kept.result kept (rows-left s p c.requires.presolved) in
    let none = ap (λ cs. with_constraints cs s) items ∙ none-behind s in
    let long = ap length items in (
      subst (IsPresolved s) (sym first) c.requires.presolved,
      subst (λ (w : Inequalities). IsPresolved w p) (sym none) c.requires.presolved,
      omega (arith, kept),
      subst (All (λ x. IsTrue (is_tame x))) (sym items) (All-nil (λ (x : Constraint). IsTrue (is_tame x))),
      omega (arith, long, c.requires.room),
      subst (Widens s) (sym first) c.requires.widened,
      subst (λ (w : Inequalities). Widens w p) (sym none) c.requires.widened,
    )
