use Rattle.std.proofs.Common.{◌≡◌, ◌+◌, ◌++◌, ◌∷◌, [], length, map, take, refl, ap, sym, ◌∙◌, subst}
use Rattle.std.proofs.lemmas.List.{map-append}
use Rattle.std.proofs.lemmas.Option.{slice_get_read}
use Rattle.comm_system.specs.PhaseViews.{phase_seen}
use Rattle.comm_system.specs.SlotViews.{slot_seen}
use Rattle.comm_system.proofs.InPlace.{take_got}
use Rattle.plan_maker.specs.declared.cache.SlotCache.{SlotCache}
use Rattle.plan_maker.specs.Searches.{AreFresh, IsFresh}
use Rattle.plan_maker.proofs.Fresh.{fresh_more, fresh_none}
use Rattle.plan_maker.proofs.search.slot_caches.Goals as goal
use Rattle.plan_maker.proofs.search.slot_caches.Goals.{then-meets+in_ok-new+in_ok-push, else-meets}

pub loop-slot-preserved : goal.loop-slot-preserved
loop-slot-preserved c =
    let slots = c.args.slots.now in
    let k = c.loop-slot.slot-index in
    let x = c.slot-item.result in
    let ps = map phase_seen c.args.phases.now in
    let old = c.loop-slot.found.items in
    let split : map slot_seen (take (k + 1) slots) ≡ map slot_seen (take k slots) ++ slot_seen x ∷ [] = ap (map slot_seen) (take_got slots k x (slice_get_read slots (length slots) k x refl c.loop-slot-test.true c.slot-item.is)) ∙ map-append slot_seen (take k slots) (x ∷ []) in
    elim c.if-meets.branch [
      | then-meets+in_ok-new+in_ok-push w ↦
          let new : SlotCache = w.in_ok-new.field-0 in
          let its = w.in_ok-new.ensures in
          let fresh : IsFresh ps (slot_seen x) new = record { slot_is = ap slot_seen its.slot; few = its.few; certain = its.certain; empty = its.empty } in
          let all = fresh_more ps (map slot_seen (take k slots)) (slot_seen x) old new (sym c.meets.ensures ∙ w.if-meets.true) c.loop-slot.invariant fresh in
          let items = ap (λ (v : Rattle.std.specs.Global.Vec SlotCache). v.items) w.found-is ∙ w.in_ok-push.ensures.items in
          subst (λ xs. AreFresh ps xs c.if-meets.found.items) (sym split) (subst (AreFresh ps (map slot_seen (take k slots) ++ slot_seen x ∷ [])) (sym items) all)
      | else-meets w ↦
          let all = fresh_none ps (map slot_seen (take k slots)) (slot_seen x) old (sym c.meets.ensures ∙ w.if-meets.false) c.loop-slot.invariant in
          let items = ap (λ (v : Rattle.std.specs.Global.Vec SlotCache). v.items) w.found-is in
          subst (λ xs. AreFresh ps xs c.if-meets.found.items) (sym split) (subst (AreFresh ps (map slot_seen (take k slots) ++ slot_seen x ∷ [])) (sym items) all)
    ]
