use Rattle.std.proofs.Common.{Some, None, ◌≡◌, ◌++◌, false, sym, ap, ◌∙◌, map, List, ℕ, codes}
use Rattle.std.specs.Prelude.{if◌then◌else◌}
use Rattle.std.specs.Str.{bytes_eq}
use denote.Ref.{Bor}
use Rattle.plan_text.specs.Loose.{is_where_shown, number_32, where_line, where_said, word_at, words_of}
use Rattle.plan_text.specs.Words.{count_line}
use Rattle.plan_text.proofs.LineLaws.{refuse}
use Rattle.plan_text.proofs.Plans.{not_same, where-law}
use Rattle.plan_text.proofs.read.read_where.Goals as goal

pub returns-clause-refused : goal.returns-clause-refused
returns-clause-refused c =
    let line = c.in_ok-line.line.now in
    let words = ap (λ (ws : List (Bor (List ℕ))). map (λ w. w.now) ws) c.deref.ensures.value ∙ c.in_ok-words.ensures in
    let no : bytes_eq line (codes "WHERE VALUES") ≡ false = not_same line (codes "WHERE VALUES") (c.is_same.ensures.differs c.if-is_same.false) in
    let says = ap (λ b. if b then Some None else Some (Some (number_32 (word_at 1 (words_of line))))) no ∙ sym (ap (λ n. Some (Some n)) (c.number_32-count.ensures ∙ ap number_32 (c.word_at.ensures ∙ ap (word_at 1) words))) in
    refuse where_line is_where_shown where_said where-law line c.args.lines.now.rest.now c.next.new.self.rest.now c.deref-2.result.now (Some c.number_32-count.result) c.refusal.result c.args.lines.now.taken c.next.new.self.taken
    c.refusal.ensures c.in_ok-line.ensures.taken c.in_ok-line.ensures.whole c.in_ok-line.ensures.cut says
    (c.deref-2.ensures.value ∙ c.in_ok-put_count.ensures ∙ ap (λ b. b ++ count_line (codes "WHERE") c.from.result) c.in_ok-written.ensures.items ∙ ap (count_line (codes "WHERE")) c.from.ensures)
    (c.is_same-2.ensures.differs c.if-is_same-2.false)
