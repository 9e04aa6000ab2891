use Rattle.std.proofs.Common.{◌<◌, length, refl, sym, ◌∙◌, arith}
use Rattle.spmd_machine.proofs.Ready.{same_then}
use Rattle.spmd_machine.proofs.Settling.{acted, fewer_left, same_self, settled_is, stayed, still_past, still_same}
use Rattle.spmd_machine.proofs.parts.Parts.settle_own.Goals as goal

pub loop-init : goal.loop-init
loop-init c = record { ready = c.requires.ready; same = same_self c.args.self.now; state = refl }

pub act_quietly-requires-clause-worker : goal.act_quietly-requires-clause-worker
act_quietly-requires-clause-worker c = omega (arith, c.loop.invariant.same.count, c.requires.worker)

pub loop-preserved : goal.loop-preserved
loop-preserved c =
    let first = c.args.self.now in
    let m = c.loop.self in
    let o = c.act_quietly.new.self in
    let inv = c.loop.invariant in
    let lt : c.args.p < length m.processors.items = omega (arith, inv.same.count, c.requires.worker) in
    let some = sym c.act_quietly.ensures.quiet ∙ c.loop-test.true in
    let (said, step) = acted m o c.args.p c.act_quietly.result c.loop-test.true c.act_quietly.ensures.acts in
    record {
      ready = c.act_quietly.ensures.ready;
      same = still_same first m m o c.args.p said inv.same lt (same_self m) refl step some;
      state = still_past first m m o c.args.p said inv.same lt (same_self m) refl step some inv.state;
    }

pub loop-smaller : goal.loop-smaller
loop-smaller c =
    let first = c.args.self.now in
    let m = c.loop.self in
    let o = c.act_quietly.new.self in
    let inv = c.loop.invariant in
    let lt : c.args.p < length m.processors.items = omega (arith, inv.same.count, c.requires.worker) in
    let some = sym c.act_quietly.ensures.quiet ∙ c.loop-test.true in
    let (said, step) = acted m o c.args.p c.act_quietly.result c.loop-test.true c.act_quietly.ensures.acts in
    fewer_left first m m o c.args.p said inv.same lt (same_self m) refl step some

pub returns-clause-state : goal.returns-clause-state
returns-clause-state c =
    let m = c.loop.self in
    let o = c.act_quietly.new.self in
    let inv = c.loop.invariant in
    let lt : c.args.p < length m.processors.items = omega (arith, inv.same.count, c.requires.worker) in
    settled_is c.args.self.now m o c.args.p inv.same lt (stayed m o c.args.p c.act_quietly.result c.loop-test.false c.act_quietly.ensures.acts) (sym c.act_quietly.ensures.quiet ∙ c.loop-test.false) inv.state

pub returns-clause-same : goal.returns-clause-same
returns-clause-same c = same_then c.args.self.now c.loop.self c.act_quietly.new.self c.loop.invariant.same c.act_quietly.ensures.same
