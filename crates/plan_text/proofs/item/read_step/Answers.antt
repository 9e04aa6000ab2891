use Rattle.std.proofs.Common.{Some, ◌++◌, sym, ap, ◌∙◌, map, List, ℕ}
use denote.Ref.{Bor}
use Rattle.plan_text.specs.Loose.{step_of, step_said, words_of}
use Rattle.plan_text.specs.PlanText.{is_step_shown}
use Rattle.plan_text.specs.Words.{step_line}
use Rattle.plan_text.proofs.LineLaws.{refuse, step-law}
use Rattle.plan_text.proofs.Said.{shown-step}
use Rattle.plan_text.proofs.item.read_step.Goals as goal

pub returns-then-is_same-clause-shown : goal.returns-then-is_same-clause-shown
returns-then-is_same-clause-shown c =
    let words = ap (λ (ws : List (Bor (List ℕ))). map (λ w. w.now) ws) c.deref.ensures.value ∙ c.in_ok-words.ensures in
    ap is_step_shown (c.in_ok-step.ensures ∙ ap step_of words) ∙ shown-step (words_of c.in_ok-line.line.now)

pub returns-clause-refused : goal.returns-clause-refused
returns-clause-refused c =
    let words = ap (λ (ws : List (Bor (List ℕ))). map (λ w. w.now) ws) c.deref.ensures.value ∙ c.in_ok-words.ensures in
    let says = sym (ap Some (c.in_ok-step.ensures ∙ ap step_of words)) in
    refuse step_line is_step_shown step_said step-law c.in_ok-line.line.now c.args.lines.now.rest.now c.next.new.self.rest.now c.deref-2.result.now c.in_ok-step.step c.refusal.result c.args.lines.now.taken c.next.new.self.taken
    c.refusal.ensures c.in_ok-line.ensures.taken c.in_ok-line.ensures.whole c.in_ok-line.ensures.cut says
    (c.deref-2.ensures.value ∙ c.in_ok-put_step.ensures ∙ ap (λ b. b ++ step_line c.in_ok-step.step) c.in_ok-written.ensures.items)
    (c.is_same.ensures.differs c.if-is_same.false)
