use Rattle.std.proofs.Common.{sym, ◌∙◌, ◌≡◌, ◌⊎◌, true, ap, subst}
use Rattle.shared_words.specs.Calls.{StandsInVain}
use Rattle.spmd_workers.specs.Held.{AreHeld}
use Rattle.spmd_workers.specs.Workers.{WorkerView}
use Rattle.spmd_workers.proofs.Legs.{ready_inside, ready_again, stays_where}
use Rattle.spmd_workers.proofs.worker.Worker.leg.Goals as goal

pub leg-requires-clause-ready : goal.leg-requires-clause-ready
leg-requires-clause-ready g c = ready_again _ _ c.self.invariant

pub returns-clause-inside : goal.returns-clause-inside
returns-clause-inside g c =
    let goes = c.leg.ensures.goes in
    ready_inside c.leg.new.self goes.ready (subst AreHeld (sym (goes.seat.home ∙ ap (λ (w : WorkerView). w.seat.home) c.self.view_is ∙ c.requires.own)) c.laws_of.ensures)

pub returns-clause-goes : goal.returns-clause-goes
returns-clause-goes g c = λ here.
    subst (λ (w : WorkerView). (c.leg.new.self.ended ≡ true) ⊎ StandsInVain w.seat) c.self.view_is (stays_where _ c.leg.new.self c.leg.result (ready_again _ _ c.self.invariant) c.leg.ensures.goes c.leg.ensures.ends (here ∙ sym (ap (λ (w : WorkerView). w.seat.position) c.self.view_is)))
