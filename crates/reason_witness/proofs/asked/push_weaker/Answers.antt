use Rattle.std.proofs.Common.{length, refl, ◌∙◌}
use Rattle.std.proofs.lemmas.Iterator.Adapters.{YieldsList-from_vec}
use Rattle.std.proofs.lemmas.Iterator.Consumers.{YieldsList-turn}
use Rattle.std.proofs.lemmas.Option.{slice_get_read}
use Rattle.list_lemmas.proofs.Each.{passes_at}
use Rattle.comm_system.specs.Signatures.{has_places_in}
use Rattle.reason_witness.proofs.asked.push_weaker.Goals as goal

pub invariant_of-push : goal.invariant_of-push
invariant_of-push c =
    let kinds = c.args.kinds.items in
    let done = c.loop-kind.yielded in
    let kind = c.in-Some.kind in
    let into = c.into_iter-kind-iterator.ensures.into_iter_gives in
    let road = YieldsList-from_vec {s = c.into_iter-kind-iterator.result} kinds into.0 (into.1 ∙ c.args.kinds.ok.0) in
    let turn = YieldsList-turn road done c.loop-kind.kind-iterator c.loop-kind.yielded_by c.next.result c.next.new.self kind c.in-Some.is c.next.ensures.steps in
    record { places = passes_at has_places_in kinds (length done) kind c.requires (slice_get_read kinds (length kinds) (length done) kind refl turn.0 turn.1) }
