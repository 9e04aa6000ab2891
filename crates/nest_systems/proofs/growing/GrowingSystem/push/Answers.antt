use Rattle.std.proofs.Common.{◌≡◌, ℕ, ◌+◌, ◌*◌, ◌<◌, ◌≤◌, ◌^◌, List, [], ◌∷◌, ◌++◌, IsTrue, length, rules, ap, sym, ◌∙◌, subst, arith}
use Rattle.std.specs.List.{All}
use Rattle.std.proofs.lemmas.List.{length-append}
use Rattle.std.proofs.lemmas.List.Elements.{All-push}
use Rattle.farkas_cert.specs.Inequalities.{Inequalities}
use Rattle.presolve.specs.Presolution.{IsPresolved, Presolution, first_kept, with_last}
use Rattle.nest_rows.specs.declared.constraint.Constraint.{Constraint}
use Rattle.nest_rows.specs.Constraints.{is_tame}
use Rattle.nest_systems.specs.Growing.{Growing, with_constraints}
use Rattle.nest_systems.specs.Kept.{NamesKept, row_over}
use Rattle.nest_systems.specs.Widened.{Widens}
use Rattle.nest_systems.proofs.GrowingParts.{more-first, more-left}
use Rattle.nest_systems.proofs.Widening.{first-widened, more-widened}
use Rattle.nest_systems.proofs.growing.GrowingSystem.push.Goals as goal

abbrev Stands : Inequalities → ℕ → Presolution → List Constraint → Type 0
Stands shared kept p last =
    IsPresolved shared (first_kept kept p) × IsPresolved (with_constraints last shared) p × (kept ≤ length p.numbers) × All (λ c. IsTrue (is_tame c)) last × (p.count < 2 ^ 62 + length last) × Widens shared (first_kept kept p) × Widens (with_constraints last shared) p

pub push-requires-2-clause-room : goal.push-requires-2-clause-room
push-requires-2-clause-room c =
    let few : length c.as_slice-behind.result.now * 16 < 2 ^ 63 = search rules in
    omega (arith, few, c.as_slice-behind.ensures.len, ap length c.as_slice-behind.ensures.value, c.self.invariant.4)

pub invariant_of-self-in-Ok : goal.invariant_of-self-in-Ok
invariant_of-self-in-Ok c =
    let s = c.self.inside in
    let p = s.presolved in
    let row = c.in_ok-row.row in
    let x = c.args.constraint in
    let (first, all, low, tame, few, one, both) = c.self.invariant in
    let seen = c.self.view_is in
    let named : NamesKept s.shared.vars p.columns x = subst (λ (g : Growing). NamesKept g.shared.vars g.columns x) (sym seen) c.requires.named in
    let made : row ≡ row_over p.columns x = c.in_ok-row.ensures.row ∙ ap (λ cols. row_over cols x) c.columns.ensures in
    let long = length-append s.last.items (x ∷ []) in
    let numbers = length-append p.numbers ((p.count + 1) ∷ []) in
    let stands : Stands s.shared s.kept (with_last row p) (s.last.items ++ x ∷ []) = (
      more-first (with_constraints s.last.items s.shared) s.shared row s.kept p all low first,
      more-left s.shared s.last.items x row p all named made,
      omega (arith, low, numbers),
      All-push (λ c. IsTrue (is_tame c)) s.last.items x tame c.requires.tame,
      omega (arith, few, long),
      first-widened (with_constraints s.last.items s.shared) s.shared row s.kept p all low one,
      more-widened s.shared s.last.items x row p all both named made,
    ) in
    subst (λ q. Stands s.shared s.kept q c.push.new.self.items) (sym c.in-Ok.ensures.ok) (subst (Stands s.shared s.kept (with_last row p)) (sym c.in_ok-push.ensures.items) stands)
