use Rattle.std.proofs.Common.{[], ◌∷◌, ◌++◌, length, refl, sym, subst}
use Rattle.std.specs.Prelude.{IfSome}
use Rattle.std.specs.List.{All}
use Rattle.std.proofs.lemmas.List.Elements.{All-append}
use Rattle.nest_tree.specs.View.{tree_of}
use Rattle.comm_system.specs.SlotViews.{slot_seen}
use Rattle.plan_maker.specs.Asked.{slot_asked}
use Rattle.plan_maker.specs.Caches.{IsEntry, IsRecalled, waits_seen}
use Rattle.plan_maker.specs.Judged.{IsVerdict}
use Rattle.plan_maker.specs.declared.cache.Entry.{Entry}
use Rattle.plan_maker.proofs.Caches.{entry_recalled, got_last}
use Rattle.plan_maker.proofs.Lists.{all_one}
use Rattle.plan_maker.proofs.Ready.{grows_not}
use Rattle.plan_maker.proofs.cache.SlotCache.ask_waits.Goals as goal

pub returns-in-Some : goal.returns-in-Some
returns-in-Some c =
    let tree = tree_of c.args.problem.program.now in
    let plan = c.args.problem.plan.now in
    let slot = slot_seen c.args.self.now.slot in
    let g = waits_seen c.args.waits.now in
    let entries = subst (All (IsEntry tree plan slot)) (sym c.as_slice.ensures.value) c.requires.entries in
    let there = subst (λ o. IfSome o (IsRecalled tree plan slot g c.as_slice.result.now)) c.in-Some.is (c.recall.ensures tree plan slot entries) in
    record { cache = c.requires; grown = grows_not c.args.self.now; answer = subst (λ es. IsRecalled tree plan slot g es c.in-Some.outcome) c.as_slice.ensures.value there }

pub returns : goal.returns
returns c =
    let tree = tree_of c.args.problem.program.now in
    let plan = c.args.problem.plan.now in
    let slot = slot_seen c.args.self.now.slot in
    let g = waits_seen c.args.waits.now in
    let e : Entry = record { key = c.in_ok-key.key; verdict = c.in_ok-verdict.verdict } in
    let here = subst (λ k. IsVerdict (slot_asked tree plan slot k) c.in_ok-verdict.verdict) (sym c.in_ok-key.ensures) c.in_ok-verdict.ensures in
    let old = c.args.self.now.entries.items in
    let more = old ++ e ∷ [] in
    let recalled = entry_recalled tree plan slot g more (length old) e (got_last old e) c.in_ok-key.ensures here in
    let items = c.in_ok-push.ensures.items in
    record {
      cache = record {
        few = c.requires.few;
        entries = subst (All (IsEntry tree plan slot)) (sym items) (All-append (IsEntry tree plan slot) old (e ∷ []) c.requires.entries (all_one (IsEntry tree plan slot) e here));
      };
      grown = record { slot = refl; boundaries = refl; more = e ∷ []; behind = items };
      answer = subst (λ es. IsRecalled tree plan slot g es c.cause_of-outcome.result) (sym items) (subst (IsRecalled tree plan slot g more) (sym c.cause_of-outcome.ensures) recalled);
    }
