use Rattle.std.proofs.Common.{◌≡◌, Some, ap, inl, inr, sym, ◌∙◌}
use Rattle.plan_checker.specs.declared.refusal.PlanRefusal.TheVariants.{Bad, Missing, NoMemory}
use Rattle.reason_witness.specs.Reasons.{bad, missing}
use Rattle.explain_plan.proofs.given.account_of_refused.Goals as goal

pub refused_account-requires-clause-refused : goal.refused_account-requires-clause-refused
refused_account-requires-clause-refused c =
    let n = c.in-Missing.number in
    elim c.in-Missing.is [
      | inl is ↦ missing (c.requires.first (λ none. let clash : Missing n ≡ NoMemory = sym is ∙ none in cc) ∙ ap Some is)
      | inr r ↦ bad r.0 (c.requires.first (λ none. let clash : Bad n r.0 ≡ NoMemory = sym r.1 ∙ none in cc) ∙ ap Some r.1)
    ]
