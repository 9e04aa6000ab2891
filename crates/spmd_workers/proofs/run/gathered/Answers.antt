use Rattle.std.proofs.Common.{rules, ◌≡◌, ◌≢◌, ◌+◌, ◌++◌, ◌∷◌, [], ℕ, List, Some, length, length-append, sym, ◌∙◌, ap, subst, inl, inr, arith}
use Rattle.std.specs.Prelude.{slice_get}
use Rattle.std.proofs.lemmas.Bool.{cases_eq}
use Rattle.crossbeam_utils.specs.declared.cache_padded.CachePadded.{CachePadded}
use Rattle.crossbeam_utils.specs.Padded.{padded_value}
use Rattle.shared_words.specs.Homes.{CellView, MainView}
use Rattle.shared_words.specs.declared.roles.Stage.TheVariants.{Ended, Out}
use Rattle.spmd_workers.specs.Workers.{IsOver, IsWorkerOf, WorkerView}
use Rattle.spmd_workers.proofs.Teams.{all_printed, popped_all, popped_last, stage_new, stage_old}
use Rattle.spmd_workers.proofs.run.gathered.Goals as goal

pub loop-worker-preserved : goal.loop-worker-preserved
loop-worker-preserved c =
    let h = c.args.cells.now in
    let inv = c.loop-worker.invariant in
    let all = c.loop-worker.workers.items in
    let front = c.pop.new.self.items in
    let n = length front in
    let worker = c.in-Some.worker in
    let last : all ≡ front ++ worker ∷ [] = search rules in
    let long : length all ≡ n + 1 = ap (λ (l : List (CachePadded WorkerView)). length l) last ∙ length-append front (worker ∷ []) in
    let w = c.into_inner.result in
    let its : IsWorkerOf h n w = subst (IsWorkerOf h n) (sym c.into_inner.ensures) (popped_last (λ q (d : CachePadded WorkerView). IsWorkerOf h q (padded_value d)) all front worker last inv.each) in
    let over : IsOver w = subst IsOver (sym c.into_inner.ensures) (popped_last (λ q (d : CachePadded WorkerView). IsOver (padded_value d)) all front worker last inv.over) in
    let seat = c.into_parts-seat.result.0 in
    let p = seat.processor in
    let who : p ≡ n = ap (λ (v : CellView). v.processor) c.into_parts-seat.ensures.seat ∙ its.processor in
    let v = c.loop-worker.main in
    let is = c.take_in.ensures.main in
    let stays : (q : ℕ) → q ≢ n → slice_get c.take_in.new.main.stages q ≡ slice_get v.stages q = λ q other. stage_old v c.take_in.new.main p q Ended is (λ e. other (e ∙ who)) in
    let here : slice_get c.take_in.new.main.stages n ≡ Some Ended =
    subst (λ k. slice_get c.take_in.new.main.stages k ≡ Some Ended) who (stage_new v c.take_in.new.main p Out Ended is (ap (slice_get v.stages) who ∙ inv.out n (omega (arith, long)))) in
    record {
      home = ap (λ (m : MainView). m.home) is ∙ inv.home;
      few = (let low = inv.few in omega (arith, long, low));
      each = popped_all (λ q (d : CachePadded WorkerView). IsWorkerOf h q (padded_value d)) all front worker last inv.each;
      over = popped_all (λ q (d : CachePadded WorkerView). IsOver (padded_value d)) all front worker last inv.over;
      out = λ q lt. stays q (λ e. absurd (omega (arith, e, lt))) ∙ inv.out q (omega (arith, lt, long));
      ended = λ q le lt. elim (cases_eq q n) [
        | inl same ↦ ap (slice_get c.take_in.new.main.stages) same ∙ here
        | inr other ↦ stays q other ∙ inv.ended q (omega (arith, le, other, long)) lt
      ];
      none = λ e. absurd (cc);
      first = c.into_parts-seat.ensures.output ∙ all_printed h n w its over;
    }
