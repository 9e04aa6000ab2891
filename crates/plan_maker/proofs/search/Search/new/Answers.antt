use Rattle.std.proofs.Common.{List, map, length, ap, sym, ◌∙◌, subst, arith}
use Rattle.std.specs.Prelude.{◌<◌, ◌^◌}
use Rattle.std.specs.List.{filter}
use Rattle.std.proofs.lemmas.List.{length-map}
use Rattle.comm_system.specs.Obligations.{Slot, slots_of}
use Rattle.comm_system.specs.PhaseViews.{phase_seen}
use Rattle.comm_system.specs.References.{StaticPhase}
use Rattle.comm_system.specs.SlotViews.{slot_seen}
use Rattle.plan_maker.specs.declared.search.Search.{Search}
use Rattle.plan_maker.specs.Candidates.{last_places}
use Rattle.plan_maker.specs.Meeting.{meets}
use Rattle.plan_maker.specs.Searches.{AreFresh, phases_in}
use Rattle.plan_maker.proofs.Fresh.{fresh_slots, new_search}
use Rattle.plan_maker.proofs.search.Search.new.Goals as goal

pub returns-clause-search : goal.returns-clause-search
returns-clause-search c =
    let p = c.args.problem in
    let s : Search = record { problem = p; phases = c.args.phases; candidates = c.in_ok-candidates.candidates; slots = c.in_ok-slots.slots; findings = c.args.findings; taken = c.in_ok-taken.taken } in
    let ps = phases_in p in
    let seen = map phase_seen c.args.phases.now in
    let candidates = c.in_ok-candidates.ensures in
    let taken = c.in_ok-taken.ensures ∙ ap last_places c.as_slice-2.ensures.value in
    let few : length ps < 2 ^ 20 = omega (arith, ap length (sym c.requires.phases), length-map c.args.phases.now phase_seen, c.requires.few) in
    let all = ap (map slot_seen) c.as_slice.ensures.value ∙ c.in_ok-all.ensures ∙ ap slots_of c.requires.phases in
    let fresh = subst (λ (qs : List StaticPhase). AreFresh qs (slots_of ps) c.in_ok-slots.slots.items) c.requires.phases (subst (λ (xs : List Slot). AreFresh seen xs c.in_ok-slots.slots.items) all c.in_ok-slots.ensures) in
    new_search s candidates taken few fresh

pub returns-clause-slots : goal.returns-clause-slots
returns-clause-slots c =
    let p = c.args.problem in
    let ps = phases_in p in
    let seen = map phase_seen c.args.phases.now in
    let all = ap (map slot_seen) c.as_slice.ensures.value ∙ c.in_ok-all.ensures ∙ ap slots_of c.requires.phases in
    let fresh = subst (λ (qs : List StaticPhase). AreFresh qs (slots_of ps) c.in_ok-slots.slots.items) c.requires.phases (subst (λ (xs : List Slot). AreFresh seen xs c.in_ok-slots.slots.items) all c.in_ok-slots.ensures) in
    fresh_slots ps (filter meets (slots_of ps)) c.in_ok-slots.slots.items fresh
