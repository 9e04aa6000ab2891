use Rattle.std.proofs.Common.{Some, ◌≡◌, ◌++◌, ◌<◌, ◌^◌, false, sym, ap, ◌∙◌, map, List, ℕ, arith}
use denote.Ref.{Bor}
use Rattle.plan_text.specs.Loose.{row_of, row_said, words_of}
use Rattle.plan_text.specs.PlanText.{is_row_shown}
use Rattle.plan_text.specs.Words.{row_line}
use Rattle.plan_text.proofs.LineLaws.{refuse, refuse_unsaid, row-law}
use Rattle.plan_text.proofs.Said.{shown-row, row_tested}
use Rattle.plan_text.proofs.item.read_row.Goals as goal

pub returns-then-not-is_same-clause-refused : goal.returns-then-not-is_same-clause-refused
returns-then-not-is_same-clause-refused c =
    let number = c.args.number in
    let low : number < 10 ^ 64 = omega (arith, c.ranges.number.fits) in
    let words = ap (λ (ws : List (Bor (List ℕ))). map (λ w. w.now) ws) c.deref.ensures.value ∙ c.in_ok-words.ensures in
    let says = sym (ap Some (c.in_ok-row.ensures ∙ ap row_of words)) in
    refuse (row_line number) is_row_shown row_said (row-law number low) c.in_ok-line.line.now c.args.lines.now.rest.now c.next.new.self.rest.now c.deref-2.result.now c.in_ok-row.row c.refusal.result c.args.lines.now.taken c.next.new.self.taken
    c.refusal.ensures c.in_ok-line.ensures.taken c.in_ok-line.ensures.whole c.in_ok-line.ensures.cut says
    (c.deref-2.ensures.value ∙ c.in_ok-put_row.ensures ∙ ap (λ b. b ++ row_line number c.in_ok-row.row) c.in_ok-written.ensures.items)
    (c.is_same.ensures.differs c.if-not-is_same.true)

pub returns-then-is_shown-clause-shown : goal.returns-then-is_shown-clause-shown
returns-then-is_shown-clause-shown c =
    let words = ap (λ (ws : List (Bor (List ℕ))). map (λ w. w.now) ws) c.deref.ensures.value ∙ c.in_ok-words.ensures in
    let is = c.in_ok-row.ensures ∙ ap row_of words in
    ap is_row_shown is ∙ shown-row (words_of c.in_ok-line.line.now) ∙ ap row_tested (sym is) ∙ sym c.is_shown.ensures ∙ c.if-is_shown.true

pub returns-clause-refused : goal.returns-clause-refused
returns-clause-refused c =
    let number = c.args.number in
    let low : number < 10 ^ 64 = omega (arith, c.ranges.number.fits) in
    let words = ap (λ (ws : List (Bor (List ℕ))). map (λ w. w.now) ws) c.deref.ensures.value ∙ c.in_ok-words.ensures in
    let is = c.in_ok-row.ensures ∙ ap row_of words in
    let no : is_row_shown (row_of (words_of c.in_ok-line.line.now)) ≡ false = shown-row (words_of c.in_ok-line.line.now) ∙ ap row_tested (sym is) ∙ sym c.is_shown.ensures ∙ c.if-is_shown.false in
    refuse_unsaid (row_line number) is_row_shown row_said (row-law number low) c.in_ok-line.line.now c.args.lines.now.rest.now c.next.new.self.rest.now c.refusal-else-is_shown.result c.args.lines.now.taken c.next.new.self.taken
    c.refusal-else-is_shown.ensures c.in_ok-line.ensures.taken c.in_ok-line.ensures.whole c.in_ok-line.ensures.cut (λ x told. (let same : x ≡ row_of (words_of c.in_ok-line.line.now) = cc in ap is_row_shown same ∙ no))
