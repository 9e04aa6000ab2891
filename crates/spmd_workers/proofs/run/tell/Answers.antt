use Rattle.std.proofs.Common.{refl, ◌∙◌, ap, arith}
use Rattle.crossbeam_utils.specs.Padded.{padded_value, padded_with_value}
use Rattle.shared_words.specs.Homes.{at_place, main_in}
use Rattle.spmd_workers.specs.Workers.{WorkerView, worker_in}
use Rattle.spmd_workers.proofs.Telling.{told_more, told_none}
use Rattle.spmd_workers.proofs.run.tell.Goals as goal

pub loop-p-init : goal.loop-p-init
loop-p-init c = told_none c.args.main.now c.args.workers.now.items c.requires.workers

pub loop-p-preserved : goal.loop-p-preserved
loop-p-preserved c =
    let from = c.index_mut.result.now in
    let w = padded_with_value from c.note.new.self in
    let was = c.deref_mut.ensures.value ∙ ap padded_value c.index_mut.ensures.value in
    let end = c.len-p-end.ensures in let size = c.args.workers.now.ok.0 in let test = c.loop-p-test.true in
    told_more c.args.main.now c.loop-p.main c.note.new.main c.args.workers.now.items c.loop-p.workers.items _ c.loop-p.p w c.loop-p.invariant c.requires.workers (omega (arith, test, end, size)) c.requires.long from
    (c.note.ensures.main ∙ ap (λ (v : WorkerView). main_in (at_place v.seat.processor v.seat.position c.loop-p.main.home) c.loop-p.main) was) (c.note.ensures.seat ∙ ap (worker_in c.note.new.main.home) was) c.note.ensures.placed refl
