use Rattle.std.proofs.Common.{◌<◌, List, sym, ◌∙◌, ap, subst}
use Rattle.crossbeam_utils.specs.declared.cache_padded.CachePadded.{CachePadded}
use Rattle.seq_meaning.proofs.RunSteps.{written_back}
use Rattle.shared_words.specs.Rounds.{LeaveLess}
use Rattle.shared_words.specs.Homes.{Home}
use Rattle.spmd_workers.specs.Places.{plan_at, style_at, tree_at}
use Rattle.spmd_workers.specs.Teams.{AreWorkersOf, IsGoing, WentAll, to_run}
use Rattle.spmd_workers.specs.Workers.{WorkerView}
use Rattle.spmd_workers.proofs.Rounds.{IsBetween, its_given, next_workers, round_between, round_less, seated_in, seated_on}
use Rattle.spmd_workers.proofs.run.run_spmd_with.Goals as goal

pub tell-requires-in-loop-cells-clause-workers : goal.tell-requires-in-loop-cells-clause-workers
tell-requires-in-loop-cells-clause-workers g c =
    let inv = c.loop-cells.invariant.0 in
    seated_on c.loop-cells.main c.tell.new.main c.loop-cells.workers.items c.tell.new.workers.items _ c.tell.ensures (seated_in c.loop-cells.cells c.loop-cells.main c.loop-cells.workers.items inv.home inv.workers)

pub round-requires-clause-workers : goal.round-requires-clause-workers
round-requires-clause-workers g c κs within =
    let twice = c.tell-in-loop-cells.new.workers.items in
    subst (λ (l : List (CachePadded WorkerView)). AreWorkersOf c.renew.new.self l) (sym c.deref_mut.ensures.value)
    (next_workers c.loop-cells.cells c.renew.new.self c.loop-cells.main c.tell.new.main c.tell-in-loop-cells.new.main c.loop-cells.workers.items c.tell.new.workers.items twice twice c.loop-cells.invariant.0 c.tell.ensures c.tell-in-loop-cells.ensures c.renew.ensures)

pub loop-cells-smaller : goal.loop-cells-smaller
loop-cells-smaller g c =
    let cells = c.loop-cells.cells in let next = c.renew.new.self in
    let before = c.loop-cells.workers.items in let old = c.tell-in-loop-cells.new.workers in let new = c.round.new.workers in
    let its = next_workers cells next c.loop-cells.main c.tell.new.main c.tell-in-loop-cells.new.main before c.tell.new.workers.items old.items new c.loop-cells.invariant.0 c.tell.ensures c.tell-in-loop-cells.ensures c.renew.ensures in
    let went : WentAll old.items new = subst (λ (l : List (CachePadded WorkerView)). WentAll l new) c.deref_mut.ensures.value c.round.ensures.went in
    let leave : LeaveLess (style_at cells) (tree_at cells) (plan_at cells) = c.rounds_leave_less.ensures (style_at cells) (tree_at cells) (plan_at cells) c.laws_of.ensures.run in
    let going : IsGoing before = subst IsGoing c.deref.ensures.value (c.have_ended.ensures.going c.loop-cells-test.true) in
    let less : to_run next new < to_run cells before = round_less cells next c.loop-cells.main c.tell.new.main c.tell-in-loop-cells.new.main before c.tell.new.workers.items old.items new c.loop-cells.invariant.0 c.tell.ensures c.tell-in-loop-cells.ensures c.renew.ensures c.round.ensures.workers c.round.ensures.inside went leave going in
    subst (λ (l : List (CachePadded WorkerView)). to_run next l < to_run cells before) (sym (written_back old.len new old.items old.ok.0 (c.round.ensures.workers.count ∙ sym its.count))) less

pub loop-cells-preserved : goal.loop-cells-preserved
loop-cells-preserved g c =
    let cells = c.loop-cells.cells in let next = c.renew.new.self in
    let before = c.loop-cells.workers.items in let old = c.tell-in-loop-cells.new.workers in let new = c.round.new.workers in
    let its = next_workers cells next c.loop-cells.main c.tell.new.main c.tell-in-loop-cells.new.main before c.tell.new.workers.items old.items new c.loop-cells.invariant.0 c.tell.ensures c.tell-in-loop-cells.ensures c.renew.ensures in
    let went : WentAll old.items new = subst (λ (l : List (CachePadded WorkerView)). WentAll l new) c.deref_mut.ensures.value c.round.ensures.went in
    let between : IsBetween next c.tell-in-loop-cells.new.main new = round_between cells next c.loop-cells.main c.tell.new.main c.tell-in-loop-cells.new.main before c.tell.new.workers.items old.items new c.loop-cells.invariant.0 c.tell.ensures c.tell-in-loop-cells.ensures c.renew.ensures c.round.ensures.workers c.round.ensures.inside went in (
      subst (λ (l : List (CachePadded WorkerView)). IsBetween next c.tell-in-loop-cells.new.main l) (sym (written_back old.len new old.items old.ok.0 (c.round.ensures.workers.count ∙ sym its.count))) between,
      ap (λ (h : Home). h.given) c.renew.ensures ∙ its_given cells c.loop-cells.main c.tell.new.main c.tell-in-loop-cells.new.main before c.tell.new.workers.items old.items c.loop-cells.invariant.0 c.tell.ensures c.tell-in-loop-cells.ensures ∙ c.loop-cells.invariant.1,
    )
