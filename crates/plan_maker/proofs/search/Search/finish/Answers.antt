use Rattle.std.proofs.Common.{◌≡◌, List, length, map, ap, sym, ◌∙◌, subst}
use Rattle.std.specs.List.{list_all}
use Rattle.std.proofs.lemmas.Iterator.Adapters.{YieldsList-from_vec}
use Rattle.std.proofs.lemmas.Iterator.Consumers.{YieldsList-end, YieldsList-turn}
use Rattle.std.proofs.lemmas.List.{map-id}
use Rattle.nest_tree.specs.View.{tree_of}
use Rattle.comm_system.specs.Boundaries.{Boundary}
use Rattle.comm_system.specs.Signatures.{has_places_in, signature_of}
use Rattle.comm_system.specs.SlotViews.{slot_seen}
use Rattle.sync_plan.specs.declared.plan.Kind.{Kind}
use Rattle.plan_maker.specs.Asked.{AreRefuted, slot_asked}
use Rattle.plan_maker.specs.Trials.{HasMoreCertificates, slots_asked}
use Rattle.plan_maker.specs.Caches.{IsHeld, boundaries_seen}
use Rattle.plan_maker.specs.Searches.{IsCurrent, kinds_in, phases_in, slots_in}
use Rattle.plan_maker.proofs.Fresh.{all_have}
use Rattle.plan_maker.proofs.Ready.{finish_more, seen, taken_now}
use Rattle.plan_maker.proofs.TakenKinds.{taken_have}
use Rattle.plan_maker.proofs.search.Search.finish.Goals as goal

pub into_certificates-requires-clause-places : goal.into_certificates-requires-clause-places
into_certificates-requires-clause-places c =
    let s = c.args.self in
    let have = ap (list_all (λ ks. list_all has_places_in ks)) c.requires.candidates ∙ all_have (tree_of s.problem.program.now) s.problem.plan.now s.problem.shape in
    let kinds : c.as_slice-in-loop-slot.result.now ≡ kinds_in s = c.as_slice-in-loop-slot.ensures.value ∙ c.in_ok-kinds.ensures ∙ taken_now s c.as_slice.result.now c.as_slice-2.result.now c.as_slice.ensures.value c.as_slice-2.ensures.value in
    ap (list_all has_places_in) kinds ∙ taken_have s.candidates.items s.taken.items have

pub into_certificates-requires-clause-cache : goal.into_certificates-requires-clause-cache
into_certificates-requires-clause-cache c =
    let s = c.args.self in
    let into = c.into_iter-slot-iterator.ensures.into_iter_gives in
    let road = YieldsList-from_vec {s = c.into_iter-slot-iterator.result} s.slots.items into.0 (into.1 ∙ s.slots.ok.0) in
    let turn = YieldsList-turn road c.loop-slot.yielded c.loop-slot.slot-iterator c.loop-slot.yielded_by c.next.result c.next.new.self c.in-Some.slot c.in-Some.is c.next.ensures.steps in
    let ready = subst (IsCurrent s.problem (kinds_in s)) (sym turn.1) (c.requires.ready (length c.loop-slot.yielded) c.in-Some.slot turn.0) in
    ready.cache

pub into_certificates-requires-clause-held : goal.into_certificates-requires-clause-held
into_certificates-requires-clause-held c =
    let s = c.args.self in
    let x = c.in-Some.slot in
    let tree = tree_of s.problem.program.now in
    let plan = s.problem.plan.now in
    let into = c.into_iter-slot-iterator.ensures.into_iter_gives in
    let road = YieldsList-from_vec {s = c.into_iter-slot-iterator.result} s.slots.items into.0 (into.1 ∙ s.slots.ok.0) in
    let turn = YieldsList-turn road c.loop-slot.yielded c.loop-slot.slot-iterator c.loop-slot.yielded_by c.next.result c.next.new.self x c.in-Some.is c.next.ensures.steps in
    let ready = subst (IsCurrent s.problem (kinds_in s)) (sym turn.1) (c.requires.ready (length c.loop-slot.yielded) x turn.0) in
    let kinds : c.as_slice-in-loop-slot.result.now ≡ kinds_in s = c.as_slice-in-loop-slot.ensures.value ∙ c.in_ok-kinds.ensures ∙ taken_now s c.as_slice.result.now c.as_slice-2.result.now c.as_slice.ensures.value c.as_slice-2.ensures.value in
    subst (λ (ks : List Kind). IsHeld tree plan (slot_seen x.slot) (signature_of plan.version ks (boundaries_seen x)) x.entries.items) (sym kinds)
    (subst (λ (bs : List Boundary). IsHeld tree plan (slot_seen x.slot) (signature_of plan.version (kinds_in s) bs) x.entries.items) (sym ready.certain) ready.held)

pub loop-slot-preserved : goal.loop-slot-preserved
loop-slot-preserved c =
    let s = c.args.self in
    let x = c.in-Some.slot in
    let tree = tree_of s.problem.program.now in
    let plan = s.problem.plan.now in
    let into = c.into_iter-slot-iterator.ensures.into_iter_gives in
    let road = YieldsList-from_vec {s = c.into_iter-slot-iterator.result} s.slots.items into.0 (into.1 ∙ s.slots.ok.0) in
    let turn = YieldsList-turn road c.loop-slot.yielded c.loop-slot.slot-iterator c.loop-slot.yielded_by c.next.result c.next.new.self x c.in-Some.is c.next.ensures.steps in
    let ready = subst (IsCurrent s.problem (kinds_in s)) (sym turn.1) (c.requires.ready (length c.loop-slot.yielded) x turn.0) in
    let more = c.in_ok-more.more.items in
    let here = subst (λ (bs : List Boundary). AreRefuted (slot_asked tree plan (slot_seen x.slot) (signature_of plan.version c.as_slice-in-loop-slot.result.now bs)) more) ready.certain c.in_ok-more.ensures in
    let refuted = subst (λ (ks : List Kind). AreRefuted (slot_asked tree plan (slot_seen x.slot) (signature_of plan.version ks (Rattle.comm_system.specs.Certain.certain_of (slot_seen x.slot) (phases_in s.problem)))) more) c.as_slice-in-loop-slot.ensures.value here in
    finish_more tree plan c.in_ok-kinds.kinds.items c.loop-slot.yielded x c.args.certificates.items c.loop-slot.all.items c.append.new.self.items more c.loop-slot.invariant refuted c.in_ok-append.ensures.items

pub returns-clause-certificates : goal.returns-clause-certificates
returns-clause-certificates c =
    let s = c.args.self in
    let tree = tree_of s.problem.program.now in
    let plan = s.problem.plan.now in
    let into = c.into_iter-slot-iterator.ensures.into_iter_gives in
    let road = YieldsList-from_vec {s = c.into_iter-slot-iterator.result} s.slots.items into.0 (into.1 ∙ s.slots.ok.0) in
    let all = YieldsList-end road c.loop-slot.yielded c.loop-slot.slot-iterator c.loop-slot.yielded_by c.next.result c.next.new.self c.in-None.is c.next.ensures.steps in
    let kinds : c.in_ok-kinds.kinds.items ≡ kinds_in s = c.in_ok-kinds.ensures ∙ taken_now s c.as_slice.result.now c.as_slice-2.result.now c.as_slice.ensures.value c.as_slice-2.ensures.value in
    subst (λ (ks : List Kind). HasMoreCertificates (slots_asked tree plan ks (slots_in s)) c.args.certificates.items c.loop-slot.all.items) kinds
    (subst (λ xs. HasMoreCertificates (slots_asked tree plan c.in_ok-kinds.kinds.items (map seen xs)) c.args.certificates.items c.loop-slot.all.items) (sym (map-id c.loop-slot.yielded) ∙ all.0) c.loop-slot.invariant)
