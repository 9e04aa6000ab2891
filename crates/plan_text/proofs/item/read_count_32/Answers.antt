use Rattle.std.proofs.Common.{Some, ◌++◌, sym, ap, ◌∙◌, map, List, ℕ}
use denote.Ref.{Bor}
use Rattle.plan_text.specs.Loose.{count_32_said, number_32, word_at}
use Rattle.plan_text.specs.PlanText.{is_32}
use Rattle.plan_text.specs.Words.{count_line}
use Rattle.plan_text.proofs.LineLaws.{count_32-law, refuse}
use Rattle.plan_text.proofs.item.read_count_32.Goals as goal

pub returns-clause-refused : goal.returns-clause-refused
returns-clause-refused c =
    let word = c.args.word.now in
    let words = ap (λ (ws : List (Bor (List ℕ))). map (λ w. w.now) ws) c.deref.ensures.value ∙ c.in_ok-words.ensures in
    let says = sym (ap Some (c.number_32-count.ensures ∙ ap number_32 (c.word_at.ensures ∙ ap (word_at 1) words))) in
    refuse (count_line word) is_32 count_32_said (count_32-law word c.requires) c.in_ok-line.line.now c.args.lines.now.rest.now c.next.new.self.rest.now c.deref-2.result.now c.number_32-count.result c.refusal.result c.args.lines.now.taken c.next.new.self.taken
    c.refusal.ensures c.in_ok-line.ensures.taken c.in_ok-line.ensures.whole c.in_ok-line.ensures.cut says
    (c.deref-2.ensures.value ∙ c.in_ok-put_count.ensures ∙ ap (λ b. b ++ count_line word c.from.result) c.in_ok-written.ensures.items ∙ ap (count_line word) c.from.ensures)
    (c.is_same.ensures.differs c.if-is_same.false)
