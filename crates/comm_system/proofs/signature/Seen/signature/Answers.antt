use Rattle.std.proofs.Common.{◌≡◌, ◌-◌, map, length, arith}
use Rattle.conflict_rules.specs.SideViews.{producer_seen}
use Rattle.comm_system.proofs.Looks.{last_seen, signature_is}
use Rattle.comm_system.proofs.signature.Seen.signature.Goals as goal

pub returns : goal.returns
returns c = λ kinds us h.
    signature_is c.args.version kinds us c.args.self c.counted.result c.counted-2.result (map producer_seen c.in_ok-from_slice.field-0.items) h c.if-barrier.false c.counted.ensures.count c.counted-2.ensures.count
    (let begin : c.saturating_sub-begin.result ≡ length c.deref.result.now - 3 = omega (arith, c.saturating_sub-begin.ensures, c.len.ensures, c.deref.ensures.len) in
    last_seen c.args.self.producers.items c.deref.result.now c.in_ok-from_slice.field-0.items c.saturating_sub-begin.result c.deref.ensures.value c.in_ok-from_slice.ensures.items begin)
