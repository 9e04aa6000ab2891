use Rattle.std.proofs.Common.{◌+◌, ◌<◌, ◌++◌, ◌∙◌, ap, sym, length, codes, [], ◌∷◌, ◌≤◌, get_or, arith}
use Rattle.std.proofs.lemmas.List.{get_or_default, take_all}
use Rattle.owner_partition.specs.declared.cut.Mark.TheVariants.{Outer}
use Rattle.plan_text.specs.PlanText.{alone, numbered, text_of, zipped}
use Rattle.plan_text.specs.Words.{count_line, loop_line}
use Rattle.plan_text.proofs.Written.{headed_written, item_written, line_written, pair, zipped-at, zipped-length}
use Rattle.plan_text.proofs.write.put_loops.Goals as goal

pub loop-place-preserved : goal.loop-place-preserved
loop-place-preserved c =
    let marks = c.args.marks.now in
    let lists = c.args.privates.now in
    let place = c.loop-place.place in
    let mark = get_or marks place Outer in
    let list = c.index-privates-place.result in
    let one = pair mark list in
    let inside : place < length (zipped marks lists) = omega (arith, c.loop-place-test.true, zipped-length marks lists c.requires.lists) in
    item_written (alone loop_line) (zipped marks lists) place one c.push.new.self.items c.loop-place.out.items c.push-in-loop-place.new.self.items inside
    (zipped-at marks lists place mark list c.loop-place-test.true c.requires.lists (get_or_default marks place Outer mark c.loop-place-test.true) c.index-privates-place.is) c.loop-place.invariant
    (line_written (loop_line (place + 1) one) c.loop-place.out.items c.put_loop.new.out.items c.push-in-loop-place.new.self.items (c.in_ok-put_loop.ensures ∙ ap (λ vs. c.loop-place.out.items ++ loop_line (place + 1) (pair mark vs)) c.as_slice.ensures) c.in_ok-push-2.ensures.items)

pub returns : goal.returns
returns c =
    let marks = c.args.marks.now in
    let lists = c.args.privates.now in
    let old = c.args.out.now.items in
    let place = c.loop-place.place in
    let long = zipped-length marks lists c.requires.lists in
    let past : length (zipped marks lists) ≤ place = omega (arith, long, c.loop-place-test.false) in
    c.loop-place.invariant
    ∙ ap (λ xs. c.push.new.self.items ++ text_of (numbered (alone loop_line) 1 xs)) (take_all place (zipped marks lists) past)
    ∙ headed_written (count_line (codes "LOOPS") (length marks)) (text_of (numbered (alone loop_line) 1 (zipped marks lists))) old c.put_count.new.out.items c.push.new.self.items c.in_ok-put_count.ensures c.in_ok-push.ensures.items
    ∙ ap (λ n. old ++ ((count_line (codes "LOOPS") n ++ 10 ∷ []) ++ text_of (numbered (alone loop_line) 1 (zipped marks lists)))) (sym long)
