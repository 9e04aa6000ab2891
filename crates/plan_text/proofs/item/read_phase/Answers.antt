use Rattle.std.proofs.Common.{rules, None, ◌≡◌, ◌++◌, ◌<◌, ◌^◌, sym, ap, ◌∙◌, drop, map, List, ℕ, arith}
use denote.Ref.{Bor}
use Rattle.owner_partition.specs.declared.anchor.Anchor.{Anchor}
use Rattle.sync_plan.specs.declared.plan.Kind.{Kind}
use Rattle.plan_text.specs.Loose.{phase_of, phase_said, words_of}
use Rattle.plan_text.specs.PlanText.{is_phase_shown}
use Rattle.plan_text.specs.Words.{phase_line}
use Rattle.plan_text.proofs.LineLaws.{no_line, phase-law, refuse, refuse_unsaid}
use Rattle.plan_text.proofs.Said.{shown-phase}
use Rattle.plan_text.proofs.item.read_phase.Goals as goal

pub returns-in_default-clause-refused : goal.returns-in_default-clause-refused
returns-in_default-clause-refused c =
    let number = c.args.number in
    let low : number < 10 ^ 64 = omega (arith, c.ranges.number.fits) in
    let words = ap (λ (ws : List (Bor (List ℕ))). map (λ w. w.now) ws) c.deref.ensures.value ∙ c.in_ok-words.ensures in
    let says = sym (c.in_ok-kind.ensures ∙ ap phase_of (c.behind_first.ensures ∙ ap (drop 1) words)) in
    let none : c.in_ok-kind.field-0 ≡ None = c.in_default.is in
    refuse_unsaid (phase_line number) is_phase_shown phase_said (phase-law number low) c.in_ok-line.line.now c.args.lines.now.rest.now c.next.new.self.rest.now c.refusal.result c.args.lines.now.taken c.next.new.self.taken
    c.refusal.ensures c.in_ok-line.ensures.taken c.in_ok-line.ensures.whole c.in_ok-line.ensures.cut (λ x told. (let clash = sym none ∙ sym says ∙ told in absurd (cc)))

pub returns-then-is_same-clause-shown : goal.returns-then-is_same-clause-shown
returns-then-is_same-clause-shown c =
    let words = ap (λ (ws : List (Bor (List ℕ))). map (λ w. w.now) ws) c.deref.ensures.value ∙ c.in_ok-words.ensures in
    let says = sym (c.in_ok-kind.ensures ∙ ap phase_of (c.behind_first.ensures ∙ ap (drop 1) words)) in
    shown-phase (drop 1 (words_of c.in_ok-line.line.now)) (c.in-Some.kind, c.in-Some.anchor) (says ∙ c.in-Some.is)

pub returns-clause-refused : goal.returns-clause-refused
returns-clause-refused c =
    let number = c.args.number in
    let low : number < 10 ^ 64 = omega (arith, c.ranges.number.fits) in
    let phase : Kind × Anchor = (c.in-Some.kind, c.in-Some.anchor) in
    let words = ap (λ (ws : List (Bor (List ℕ))). map (λ w. w.now) ws) c.deref.ensures.value ∙ c.in_ok-words.ensures in
    let says = sym (c.in_ok-kind.ensures ∙ ap phase_of (c.behind_first.ensures ∙ ap (drop 1) words)) ∙ c.in-Some.is in
    refuse (phase_line number) is_phase_shown phase_said (phase-law number low) c.in_ok-line.line.now c.args.lines.now.rest.now c.next.new.self.rest.now c.deref-2.result.now phase c.refusal-else-is_same.result c.args.lines.now.taken c.next.new.self.taken
    c.refusal-else-is_same.ensures c.in_ok-line.ensures.taken c.in_ok-line.ensures.whole c.in_ok-line.ensures.cut says
    (c.deref-2.ensures.value ∙ c.in_ok-put_phase.ensures ∙ ap (λ b. b ++ phase_line number phase) c.in_ok-written.ensures.items)
    (c.is_same.ensures.differs c.if-is_same.false)

pub returns-in_err-line-clause-refused : goal.returns-in_err-line-clause-refused
returns-in_err-line-clause-refused c =
    let alien = no_line (phase_line c.args.number) is_phase_shown c.args.lines.now.rest.now in
    search (rules, alien)
