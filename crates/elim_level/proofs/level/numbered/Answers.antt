use Rattle.std.proofs.Common.{◌≡◌, length, [], ◌∷◌, ◌++◌, ap, sym, ◌∙◌, subst}
use Rattle.std.specs.List.{All}
use Rattle.std.proofs.lemmas.List.{map-append}
use Rattle.std.proofs.lemmas.List.Elements.{All-weaker, All-push}
use Rattle.std.proofs.lemmas.Iterator.Adapters.{YieldsList-from_vec}
use Rattle.std.proofs.lemmas.Iterator.Consumers.{YieldsList-turn}
use Rattle.elim_level.specs.declared.level.Held.{Held}
use Rattle.elim_rows.specs.declared.candidate.Candidate.{Candidate}
use Rattle.elim_rows.specs.Reduction.{IsReduced}
use Rattle.elim_level.specs.Logs.{IsFounded, IsHeld, rows_of}
use Rattle.elim_level.proofs.Continuing.{IsFounded-continued, IsHeld-continued}
use Rattle.elim_level.proofs.level.numbered.Goals as goal

pub loop-candidate-preserved : goal.loop-candidate-preserved
loop-candidate-preserved c =
    let system = c.args.system.now in
    let all = c.args.candidates.items in
    let done = c.loop-candidate.yielded in
    let old = c.loop-candidate.log.items in
    let new = c.number_of.new.log.items in
    let x = c.in-Some.candidate in
    let level = c.loop-candidate.level.items in
    let held : Held = record { row = x.row; number = c.in_ok-number.number } in
    let into = c.into_iter-candidate-iterator.ensures.into_iter_gives in
    let road = YieldsList-from_vec {s = c.into_iter-candidate-iterator.result} all into.0 (into.1 ∙ c.args.candidates.ok.0) in
    let turn = YieldsList-turn road done c.loop-candidate.candidate-iterator c.loop-candidate.yielded_by c.next.result c.next.new.self x c.in-Some.is c.next.ensures.steps in
    let lowest : IsReduced x.row x.row = subst (λ c. IsReduced c.row c.row) (sym turn.1) (c.requires.lowest (length done) x turn.0) in
    let founded : IsFounded system old x = subst (IsFounded system old) (sym turn.1) (c.loop-candidate.invariant.founded (length done) x turn.0) in
    let items : c.push.new.self.items ≡ level ++ held ∷ [] = c.in_ok-push.ensures.items in
    record {
      rows = ap rows_of items ∙ map-append (λ (h : Held). h.row) level (held ∷ []) ∙ ap (λ rs. rs ++ x.row ∷ []) c.loop-candidate.invariant.rows ∙ sym (map-append (λ (c : Candidate). c.row) done (x ∷ []));
      log = c.in_ok-number.ensures.log;
      founded = All-weaker (IsFounded system old) (IsFounded system new) (IsFounded-continued system old new c.in_ok-number.ensures.continued) all c.loop-candidate.invariant.founded;
      held = subst (All (IsHeld system new)) (sym items)
          (All-push (IsHeld system new) level held (All-weaker (IsHeld system old) (IsHeld system new) (IsHeld-continued system old new c.in_ok-number.ensures.continued) level c.loop-candidate.invariant.held)
          (record { suited = founded.suited; number = c.in_ok-number.ensures.number; lowest = lowest }));
    }
