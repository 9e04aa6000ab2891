use Rattle.std.proofs.Common.{◌+◌, ◌<◌, ◌++◌, ◌∙◌, ap, sym, length, codes, [], ◌∷◌, ◌≤◌, arith}
use Rattle.std.proofs.lemmas.List.{take_all}
use Rattle.plan_text.specs.PlanText.{alone, numbered, text_of, zipped}
use Rattle.plan_text.specs.Words.{count_line, phase_line}
use Rattle.plan_text.proofs.Written.{headed_written, item_written, line_written, pair, zipped-at, zipped-length}
use Rattle.plan_text.proofs.write.put_phases.Goals as goal

pub loop-place-preserved : goal.loop-place-preserved
loop-place-preserved c =
    let kinds = c.args.kinds.now in
    let anchors = c.args.anchors.now in
    let place = c.loop-place.place in
    let phase = pair c.index-kinds-place.result c.index-anchors-place.result in
    let inside : place < length (zipped kinds anchors) = omega (arith, c.loop-place-test.true, zipped-length kinds anchors c.requires.pairs) in
    item_written (alone phase_line) (zipped kinds anchors) place phase c.push.new.self.items c.loop-place.out.items c.push-in-loop-place.new.self.items inside
    (zipped-at kinds anchors place c.index-kinds-place.result c.index-anchors-place.result c.loop-place-test.true c.requires.pairs c.index-kinds-place.is c.index-anchors-place.is) c.loop-place.invariant
    (line_written (phase_line (place + 1) phase) c.loop-place.out.items c.put_phase.new.out.items c.push-in-loop-place.new.self.items c.in_ok-put_phase.ensures c.in_ok-push-2.ensures.items)

pub returns : goal.returns
returns c =
    let kinds = c.args.kinds.now in
    let anchors = c.args.anchors.now in
    let old = c.args.out.now.items in
    let place = c.loop-place.place in
    let long = zipped-length kinds anchors c.requires.pairs in
    let past : length (zipped kinds anchors) ≤ place = omega (arith, long, c.loop-place-test.false) in
    c.loop-place.invariant
    ∙ ap (λ xs. c.push.new.self.items ++ text_of (numbered (alone phase_line) 1 xs)) (take_all place (zipped kinds anchors) past)
    ∙ headed_written (count_line (codes "PHASES") (length kinds)) (text_of (numbered (alone phase_line) 1 (zipped kinds anchors))) old c.put_count.new.out.items c.push.new.self.items c.in_ok-put_count.ensures c.in_ok-push.ensures.items
    ∙ ap (λ n. old ++ ((count_line (codes "PHASES") n ++ 10 ∷ []) ++ text_of (numbered (alone phase_line) 1 (zipped kinds anchors)))) (sym long)
