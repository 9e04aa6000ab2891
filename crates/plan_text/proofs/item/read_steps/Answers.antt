use Rattle.std.proofs.Common.{Some, ◌++◌, ◌<◌, ◌^◌, sym, ap, ◌∙◌, map, List, ℕ, arith}
use denote.Ref.{Bor}
use Rattle.plan_text.specs.Loose.{number_64, steps_said, word_at}
use Rattle.plan_text.specs.PlanText.{is_64}
use Rattle.plan_text.specs.Words.{cert_line}
use Rattle.plan_text.proofs.LineLaws.{refuse, steps-law}
use Rattle.plan_text.proofs.item.read_steps.Goals as goal

pub returns-clause-refused : goal.returns-clause-refused
returns-clause-refused c =
    let number = c.args.number in
    let low : number < 10 ^ 64 = omega (arith, c.ranges.number.fits) in
    let words = ap (λ (ws : List (Bor (List ℕ))). map (λ w. w.now) ws) c.deref.ensures.value ∙ c.in_ok-words.ensures in
    let says = sym (ap Some (c.number_64-steps.ensures ∙ ap number_64 (c.word_at.ensures ∙ ap (word_at 2) words))) in
    refuse (cert_line number) is_64 steps_said (steps-law number low) c.in_ok-line.line.now c.args.lines.now.rest.now c.next.new.self.rest.now c.deref-2.result.now c.number_64-steps.result c.refusal.result c.args.lines.now.taken c.next.new.self.taken
    c.refusal.ensures c.in_ok-line.ensures.taken c.in_ok-line.ensures.whole c.in_ok-line.ensures.cut says
    (c.deref-2.ensures.value ∙ c.in_ok-put_cert.ensures ∙ ap (λ b. b ++ cert_line number c.number_64-steps.result) c.in_ok-written.ensures.items)
    (c.is_same.ensures.differs c.if-is_same.false)
