use Rattle.std.proofs.Common.{get_or, map, take, ap, sym, ◌∙◌, slice_get, subst, arith}
use Rattle.std.specs.Option.{option_copied}
use Rattle.std.proofs.lemmas.List.{map_more, take_all}
use Rattle.comm_system.specs.Signatures.{has_places_in, or_nothing}
use Rattle.comm_system.specs.SideViews.{boundary_seen}
use Rattle.comm_system.specs.SignatureViews.{HasSeen}
use Rattle.comm_system.specs.declared.boundary.Boundary.{Boundary}
use Rattle.conflict_rules.specs.declared.producer.Side.TheVariants.{First}
use Rattle.comm_system.proofs.Looks.{places_at, seen_more}
use Rattle.comm_system.proofs.signature.signature_at.Goals as goal

pub count-requires-clause-places : goal.count-requires-clause-places
count-requires-clause-places c = ap (λ k. has_places_in (or_nothing k)) c.kind_in_front.ensures ∙ places_at c.args.kinds.now c.saturating_sub-place.result c.requires.places

pub loop-boundary-preserved : goal.loop-boundary-preserved
loop-boundary-preserved c =
    let kinds = c.args.kinds.now in
    let boundaries = c.args.boundaries.now in
    let k = c.loop-boundary.boundary-index in
    let none : Boundary = record { phase = 0; side = First } in
    let b = get_or boundaries k none in
    let kind = ap or_nothing (c.kind_in_front.ensures ∙ ap (slice_get kinds) c.saturating_sub-place.ensures) in
    let more = seen_more kinds (map boundary_seen (take k boundaries)) b (or_nothing (option_copied c.kind_in_front.result)) c.loop-boundary.seen c.count.new.self kind c.loop-boundary.invariant.seen c.in_ok-count.ensures.adds in
    record {
      seen = subst (λ us. HasSeen kinds us c.count.new.self) (sym (map_more boundary_seen boundaries k none c.loop-boundary-test.true)) more;
      left = omega (arith, c.in_ok-count.ensures.left, c.loop-boundary.invariant.left);
      right = omega (arith, c.in_ok-count.ensures.right, c.loop-boundary.invariant.right);
    }

pub returns : goal.returns
returns c =
    let kinds = c.args.kinds.now in
    let boundaries = c.args.boundaries.now in
    let all = take_all c.loop-boundary.boundary-index boundaries c.loop-boundary-test.false in
    c.signature.ensures kinds (map boundary_seen boundaries) (subst (λ bs. HasSeen kinds (map boundary_seen bs) c.loop-boundary.seen) all c.loop-boundary.invariant.seen)
