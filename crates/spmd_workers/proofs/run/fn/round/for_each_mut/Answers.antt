use Rattle.std.proofs.Common.{◌≡◌, ◌≤◌, ◌⊎◌, true, false, true≢false, sym, ◌∙◌, ap, subst}
use Rattle.crossbeam_utils.specs.Padded.{padded_value}
use Rattle.shared_words.specs.Calls.{StandsInVain}
use Rattle.spmd_workers.specs.Workers.{WorkerView}
use Rattle.spmd_workers.proofs.run.fn.round.for_each_mut.Goals as goal

pub returns-then-not-has_ended : goal.returns-then-not-has_ended
returns-then-not-has_ended g c =
    let was = c.deref_mut.ensures.value in
    let new = c.leg.new.self in
    let going : (padded_value c.args.worker.now).ended ≡ false = sym (ap (λ (w : WorkerView). w.ended) c.deref.ensures) ∙ sym c.has_ended.ensures.ended ∙ c.if-not-has_ended.true in record {
      home = c.leg.ensures.home ∙ ap (λ (w : WorkerView). w.seat.home) was;
      processor = c.leg.ensures.processor ∙ ap (λ (w : WorkerView). w.seat.processor) was;
      inside = c.leg.ensures.inside;
      went = record {
        further = subst (λ (w : WorkerView). w.seat.position ≤ new.seat.position) was c.leg.ensures.further;
        stays = λ e. absurd (true≢false (sym e ∙ going));
        tells = λ e same. subst (λ (w : WorkerView). (new.ended ≡ true) ⊎ StandsInVain w.seat) was (c.leg.ensures.goes (same ∙ sym (ap (λ (w : WorkerView). w.seat.position) was)));
      };
    }
