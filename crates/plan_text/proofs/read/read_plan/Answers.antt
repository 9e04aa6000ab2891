use Rattle.std.proofs.Common.{◌≡◌, ℕ, Bool, true, false, true≢false, ◌==◌, ◌+◌, ◌<◌, ◌++◌, length, List, [], ◌∷◌, append-nil, refl, ap, sym, ◌∙◌, arith}
use Rattle.std.proofs.lemmas.Bool.Decides.{nat_tests}
use Rattle.plan_text.specs.Parts.{plan_of}
use Rattle.plan_text.specs.PlanText.{plan_lines, plan_text}
use Rattle.plan_text.proofs.PlanLaws.{bytes_behind, text_refused}
use Rattle.plan_text.proofs.read.read_plan.Goals as goal

nothing_left : (xs : List ℕ) (b : Bool) → b ≡ (length xs == 0) → b ≡ true → xs ≡ []
nothing_left [] b is all = refl
nothing_left (x ∷ xs) b is all = absurd (let none : length (x ∷ xs) ≡ 0 = grind (arith, nat_tests) in omega (arith, none))

some_left : (xs : List ℕ) (b : Bool) → b ≡ (length xs == 0) → b ≡ false → 0 < length xs
some_left [] b is more = absurd (true≢false (sym is ∙ more))
some_left (x ∷ xs) b is more = omega arith

one_behind : (now taken n : ℕ) → now ≡ taken + n → taken ≡ 0 → now + 1 ≡ n + 1
one_behind now taken n e none = omega (arith, e, none)

pub returns-in-Err-clause-refused : goal.returns-in-Err-clause-refused
returns-in-Err-clause-refused c =
    text_refused c.args.bytes.now c.new-lines.result.rest.now c.new-lines.result.taken c.in-Err.refusal c.new-lines.ensures.rest c.new-lines.ensures.taken c.in-Err.ensures.refused

pub returns-then-not-is_empty-clause-refused : goal.returns-then-not-is_empty-clause-refused
returns-then-not-is_empty-clause-refused c =
    let p = c.in-Ok.parts in
    let plan = plan_of p.version p.workers p.conditions p.loops.items p.phases.items p.certificates.items in
    let rest = c.read_parts.new.lines.rest.now in
    let some = some_left rest c.is_empty.result c.is_empty.ensures c.if-not-is_empty.true in
    bytes_behind c.args.bytes.now plan rest (c.read_parts.new.lines.taken + 1) c.in-Ok.ensures.shown (sym c.new-lines.ensures.rest ∙ c.in-Ok.ensures.ok) some
    (one_behind c.read_parts.new.lines.taken c.new-lines.result.taken (length (plan_lines plan)) c.in-Ok.ensures.taken c.new-lines.ensures.taken)

pub returns-clause-plan : goal.returns-clause-plan
returns-clause-plan c =
    let p = c.in-Ok.parts in
    let plan = plan_of p.version p.workers p.conditions p.loops.items p.phases.items p.certificates.items in
    let rest = c.read_parts.new.lines.rest.now in
    let none = nothing_left rest c.is_empty.result c.is_empty.ensures c.if-not-is_empty.false in
    sym c.new-lines.ensures.rest ∙ c.in-Ok.ensures.ok ∙ ap (λ r. plan_text plan ++ r) none ∙ append-nil (plan_text plan) ∙ ap plan_text (sym c.in_ok-plan.ensures)
