use Rattle.std.proofs.Common.{sym, ◌∙◌, ap, subst}
use Rattle.shared_words.specs.Homes.{CellView, MainView}
use Rattle.spmd_workers.specs.Walks.{IsWalk}
use Rattle.spmd_workers.specs.Workers.{WorkerView}
use Rattle.spmd_workers.proofs.Legs.{is_over, noted_held, noted_ready, ready_inside}
use Rattle.spmd_workers.proofs.worker.Worker.note.Goals as goal

-- it is as ready in its new home
new_ready : (c : goal.After-note) → IsWalk (record c.self.inside.walk { seat = c.note.new.seat })
new_ready c =
    let x = c.self.inside.walk in
    let h = c.note.new.main.home in
    let given = ap (λ (m : MainView). m.home.given) c.note.ensures.main ∙ c.requires.main.1 ∙ sym (ap (λ (w : WorkerView). w.seat.home.given) c.self.view_is ∙ c.requires.seat.1) in
    subst (λ (s : CellView). IsWalk (record x { seat = s })) (sym c.note.ensures.seat) (noted_ready x h given c.self.invariant)

pub invariant_of-self : goal.invariant_of-self
invariant_of-self c = new_ready c

pub returns-clause-placed : goal.returns-clause-placed
returns-clause-placed c =
    let x = record c.self.inside.walk { seat = c.note.new.seat } in
    let given = ap (λ (v : CellView). v.home.given) c.note.ensures.seat ∙ ap (λ (m : MainView). m.home.given) c.note.ensures.main ∙ c.requires.main.1 in record {
      inside = ready_inside x (new_ready c) (noted_held c.note.new.seat.home _ given c.laws_of.ensures);
      over = is_over x (new_ready c);
    }
