use Rattle.std.proofs.Common.{◌≡◌, ◌<◌, ◌∷◌, [], List, length, length-append, sym, ◌∙◌, ap, subst, inl, inr, arith}
use Rattle.std.specs.Prelude.{slice_get}
use Rattle.std.proofs.lemmas.Bool.{cases_eq}
use Rattle.crossbeam_utils.specs.declared.cache_padded.CachePadded.{CachePadded}
use Rattle.crossbeam_utils.specs.Padded.{padded_value}
use Rattle.list_lemmas.proofs.Appending.{pushed_all}
use Rattle.shared_words.specs.Homes.{CellView, MainView, plan_given, protocol_at}
use Rattle.shared_words.specs.declared.roles.Stage.TheVariants.{NotOut, Out}
use Rattle.spmd_workers.specs.Workers.{IsWorkerOf, WorkerView}
use Rattle.spmd_workers.proofs.Teams.{stage_new, stage_old}
use Rattle.spmd_workers.proofs.run.workers_of.Goals as goal

pub loop-p-preserved : goal.loop-p-preserved
loop-p-preserved c =
    let h = c.args.cells.now in
    let inv = c.loop-p.invariant in
    let p = c.loop-p.p in
    let v = c.loop-p.main in
    let w = c.seat_for-seat.new.main in
    let main = c.seat_for-seat.ensures.main in
    let x = c.new-in-loop-p.result in
    let is = c.in_ok-push.ensures.items in
    let seat = c.in-Ok.ensures.seat ∙ c.seat_for-seat.ensures.seat in
    let its : IsWorkerOf h p c.in-Ok.worker = record { home = ap (λ (u : CellView). u.home) seat; processor = ap (λ (u : CellView). u.processor) seat } in
    let here : IsWorkerOf h p (padded_value x) = subst (IsWorkerOf h p) (sym c.new-in-loop-p.ensures) its in
    let many : (protocol_at h).workers ≡ c.tables.inside.plan.now.workers = ap (λ g. (plan_given g).workers) (c.requires.given ∙ sym c.tables.view_is) in
    let below : p < (protocol_at h).workers = omega (arith, many, c.loop-p-test.true, c.loop-p.auto.p-end) in
    record {
      home = ap (λ (m : MainView). m.home) main ∙ inv.home;
      count = (let long = ap (λ (l : List (CachePadded WorkerView)). length l) is in omega (arith, long, length-append c.loop-p.workers.items (x ∷ []), inv.count));
      each = pushed_all (λ q (d : CachePadded WorkerView). IsWorkerOf h q (padded_value d)) c.loop-p.workers.items c.push.new.self.items x p inv.count is inv.each here;
      out = λ q lt. elim (cases_eq q p) [
        | inl same ↦ ap (slice_get w.stages) same ∙ stage_new v w p NotOut Out main (inv.idle p (omega arith) below)
        | inr other ↦ stage_old v w p q Out main other ∙ inv.out q (omega (arith, lt, other))
      ];
      idle = λ q le lt. stage_old v w p q Out main (λ e. absurd (omega (arith, e, le))) ∙ inv.idle q (omega (arith, le)) lt;
    }
