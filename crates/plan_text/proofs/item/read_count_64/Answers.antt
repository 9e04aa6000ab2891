use Rattle.std.proofs.Common.{Some, ◌++◌, sym, ap, ◌∙◌, map, List, ℕ}
use denote.Ref.{Bor}
use Rattle.plan_text.specs.Loose.{count_64_said, number_64, word_at}
use Rattle.plan_text.specs.PlanText.{is_64}
use Rattle.plan_text.specs.Words.{count_line}
use Rattle.plan_text.proofs.LineLaws.{count_64-law, refuse}
use Rattle.plan_text.proofs.item.read_count_64.Goals as goal

pub returns-clause-refused : goal.returns-clause-refused
returns-clause-refused c =
    let word = c.args.word.now in
    let words = ap (λ (ws : List (Bor (List ℕ))). map (λ w. w.now) ws) c.deref.ensures.value ∙ c.in_ok-words.ensures in
    let says = sym (ap Some (c.number_64-count.ensures ∙ ap number_64 (c.word_at.ensures ∙ ap (word_at 1) words))) in
    refuse (count_line word) is_64 count_64_said (count_64-law word c.requires) c.in_ok-line.line.now c.args.lines.now.rest.now c.next.new.self.rest.now c.deref-2.result.now c.number_64-count.result c.refusal.result c.args.lines.now.taken c.next.new.self.taken
    c.refusal.ensures c.in_ok-line.ensures.taken c.in_ok-line.ensures.whole c.in_ok-line.ensures.cut says
    (c.deref-2.ensures.value ∙ c.in_ok-put_count.ensures ∙ ap (λ b. b ++ count_line word c.number_64-count.result) c.in_ok-written.ensures.items)
    (c.is_same.ensures.differs c.if-is_same.false)
