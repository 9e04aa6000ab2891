use Rattle.std.proofs.Common.{Some, ◌≡◌, ◌++◌, ◌<◌, ◌^◌, ◌&&◌, false, sym, ap, ◌∙◌, map, List, ℕ, arith}
use Rattle.std.specs.List.{list_all}
use Rattle.std.proofs.lemmas.Bool.{and_from}
use denote.Ref.{Bor}
use Rattle.owner_partition.specs.declared.cut.Mark.{Mark}
use Rattle.plan_text.specs.Loose.{loop_of, loop_said, words_of}
use Rattle.plan_text.specs.PlanText.{has_loop, is_32, is_loop_shown}
use Rattle.plan_text.specs.Words.{loop_line}
use Rattle.plan_text.proofs.LineLaws.{loop-law, refuse, refuse_unsaid}
use Rattle.plan_text.proofs.Said.{shown-loop}
use Rattle.plan_text.proofs.item.read_loop.Goals as goal

pub returns-then-not-is_same-clause-refused : goal.returns-then-not-is_same-clause-refused
returns-then-not-is_same-clause-refused c =
    let number = c.args.number in
    let version = c.args.version in
    let low : number < 10 ^ 64 = omega (arith, c.ranges.number.fits) in
    let words = ap (λ (ws : List (Bor (List ℕ))). map (λ w. w.now) ws) c.deref.ensures.value ∙ c.in_ok-words.ensures in
    let l : Mark × List ℕ = (c.in_ok-mark.mark, c.in_ok-mark.privates) in
    let says = sym (ap Some (c.in_ok-mark.ensures ∙ ap loop_of words)) in
    refuse (loop_line number) (is_loop_shown version) loop_said (loop-law version number low) c.in_ok-line.line.now c.args.lines.now.rest.now c.next.new.self.rest.now c.deref-2.result.now l c.refusal.result c.args.lines.now.taken c.next.new.self.taken
    c.refusal.ensures c.in_ok-line.ensures.taken c.in_ok-line.ensures.whole c.in_ok-line.ensures.cut says
    (c.deref-2.ensures.value ∙ c.in_ok-put_loop.ensures ∙ ap (λ vs. c.in_ok-written.written.items ++ loop_line number (c.in_ok-mark.mark, vs)) c.as_slice.ensures ∙ ap (λ b. b ++ loop_line number l) c.in_ok-written.ensures.items)
    (c.is_same.ensures.differs c.if-not-is_same.true)

pub returns-then-has_loop-clause-shown : goal.returns-then-has_loop-clause-shown
returns-then-has_loop-clause-shown c =
    let words = ap (λ (ws : List (Bor (List ℕ))). map (λ w. w.now) ws) c.deref.ensures.value ∙ c.in_ok-words.ensures in
    let l : Mark × List ℕ = (c.in_ok-mark.mark, c.in_ok-mark.privates) in
    let is = c.in_ok-mark.ensures ∙ ap loop_of words in
    and_from (has_loop c.args.version l) (list_all is_32 l.1) (sym c.has_loop.ensures ∙ c.if-has_loop.true) (ap (λ (x : Mark × List ℕ). list_all is_32 x.1) is ∙ shown-loop (words_of c.in_ok-line.line.now))

pub returns-clause-refused : goal.returns-clause-refused
returns-clause-refused c =
    let number = c.args.number in
    let version = c.args.version in
    let low : number < 10 ^ 64 = omega (arith, c.ranges.number.fits) in
    let words = ap (λ (ws : List (Bor (List ℕ))). map (λ w. w.now) ws) c.deref.ensures.value ∙ c.in_ok-words.ensures in
    let l : Mark × List ℕ = (c.in_ok-mark.mark, c.in_ok-mark.privates) in
    let is = c.in_ok-mark.ensures ∙ ap loop_of words in
    let no : is_loop_shown version l ≡ false = ap (λ b. b && list_all is_32 l.1) (sym c.has_loop.ensures ∙ c.if-has_loop.false) in
    refuse_unsaid (loop_line number) (is_loop_shown version) loop_said (loop-law version number low) c.in_ok-line.line.now c.args.lines.now.rest.now c.next.new.self.rest.now c.refusal-else-has_loop.result c.args.lines.now.taken c.next.new.self.taken
    c.refusal-else-has_loop.ensures c.in_ok-line.ensures.taken c.in_ok-line.ensures.whole c.in_ok-line.ensures.cut (λ x told. (let same : x ≡ loop_of (words_of c.in_ok-line.line.now) = cc in ap (is_loop_shown version) (same ∙ sym is) ∙ no))
