use Rattle.std.proofs.Common.{w64, ℤ, to_z, of_z}
use Rattle.std.specs.Mem.Slots.{slots_counts, slots_items}
use Rattle.std.proofs.Common.{length, length-set, ◌≤◌, ◌∙◌, ap, arith}
use Rattle.std.proofs.lemmas.Int.{of_z-to_z}
use Rattle.shared_words.proofs.Reading.{read_all, read_more, found_at}
use Rattle.shared_words.proofs.closed.read_words.Goals as goal

pub loop-cell-preserved : goal.loop-cell-preserved
loop-cell-preserved c =
    let v : ℤ = to_z w64 (of_z w64 c.cast_signed.result) in let old = c.loop-cell.invariant in let inside = c.loop-cell-test.true in let count = old.0 in (
      length-set c.loop-cell.into.items c.loop-cell.cell v ∙ count,
      old.1,
      old.2,
      λ cell lt. read_more c.loop-cell.into.items (slots_items c.args.words.now.words) c.loop-cell.cell v (omega (arith, inside, count))
          (ap (λ x. to_z w64 (of_z w64 x)) c.cast_signed.ensures ∙ ap (to_z w64) (of_z-to_z w64 c.word.result c.word.type_inv) ∙ ap (to_z w64) (found_at (slots_items c.args.words.now.words) c.loop-cell.cell c.word.result c.word.ensures)) old.3 cell lt,
    )

pub returns : goal.returns
returns c =
    let done = c.loop-cell.invariant in let count = c.len-count.ensures in let end = c.loop-cell-test.false in
    let room : c.len-count.result ≤ length (slots_items c.args.words.now.words) = omega (arith, done.1, (slots_counts c.args.words.now.words).0) in
    read_all c.loop-cell.into.items (slots_items c.args.words.now.words) _ (done.0 ∙ count) (omega (arith, room, count)) (λ cell lt. done.3 cell (omega (arith, lt, count, end)))
