use Rattle.std.proofs.Common.{◌≡◌, nat_le, false, refl, ap, ◌∙◌, arith}
use Rattle.std.proofs.lemmas.Bool.{le-leb, lt-leb}
use Rattle.nest_walk.specs.Tables.{entries}
use Rattle.spmd_model.specs.Deeds.{awaiting}
use Rattle.spmd_model.specs.Timelines.{signal}
use Rattle.turns.specs.declared.turns.Next.TheVariants.{AwaitSignal}
use Rattle.spmd_machine.specs.Machines.{plan_in, shown, style_in, tree_in}
use Rattle.spmd_machine.proofs.Awaited.{await_left, awaits_processor, behind_it, signal_read}
use Rattle.spmd_machine.proofs.Kept.{picked}
use Rattle.spmd_machine.proofs.Ready.{kept_here, next_here, worker_here}
use Rattle.spmd_machine.proofs.Steps.{blocked_answer, blocked_state}
use Rattle.spmd_machine.proofs.Words.{await_steps}
use Rattle.spmd_machine.proofs.parts.Parts.await_signal.Goals as goal

pub index-requires : goal.index-requires
index-requires c =
    let m = c.args.self.now in
    let (x, read) = picked m.processors.items c.args.p c.requires.worker in
    let next = next_here m c.requires.ready c.args.p x x c.requires.worker read (AwaitSignal c.args.on c.args.wanted) c.requires.next in
    omega (arith, awaits_processor m c.requires.ready c.args.p x c.requires.worker read signal c.args.on c.args.wanted next.0.0 next.0.1)

pub returns-then-seen-wanted : goal.returns-then-seen-wanted
unfolding shown
returns-then-seen-wanted c =
    let m = c.args.self.now in
    let ready = c.requires.ready in
    let p = c.args.p in
    let lt = c.requires.worker in
    let (x, read) = picked m.processors.items p lt in
    let kept = kept_here m ready p x x lt read in
    let worker = worker_here m ready p x x lt read in
    let next = next_here m ready p x x lt read (AwaitSignal c.args.on c.args.wanted) c.requires.next in
    let left = await_left m ready p x lt read signal c.args.on c.args.wanted next.0.0 next.0.1 in
    let deeds = behind_it m ready p x lt read signal c.args.on c.args.wanted next.0.0 next.0.1 in
    let seen = signal_read m.processors.items c.args.on c.index.result.now (awaits_processor m ready p x lt read signal c.args.on c.args.wanted next.0.0 next.0.1) c.index.ensures in
    let less : nat_le c.args.wanted c.index.result.now.signal ≡ false = lt-leb c.args.wanted c.index.result.now.signal c.if-seen-wanted.true in
    record {
      ready = ready;
      same = record { program = refl; plan = refl; style = refl; count = refl };
      state = blocked_state (style_in m) (tree_in m) (plan_in m) ready.formed ready.fits (entries m.table) m.processors.items m.memory.items m.output.bytes p worker x lt read kept (awaiting signal c.args.on c.args.wanted) deeds left (ap (nat_le c.args.wanted) seen ∙ less);
      answer = blocked_answer (style_in m) (tree_in m) (plan_in m) ready.formed ready.fits (entries m.table) m.processors.items m.memory.items m.output.bytes p worker x lt read kept signal c.args.on c.args.wanted c.index.result.now.signal deeds left seen less;
    }

pub finish-requires-clause-sound : goal.finish-requires-clause-sound
finish-requires-clause-sound c =
    let x = c.index_mut.result.now in
    (kept_here c.args.self.now c.requires.ready c.args.p x x c.requires.worker c.index_mut.ensures.value).sound

pub finish-requires-clause-next : goal.finish-requires-clause-next
finish-requires-clause-next c =
    let x = c.index_mut.result.now in
    next_here c.args.self.now c.requires.ready c.args.p x x c.requires.worker c.index_mut.ensures.value (AwaitSignal c.args.on c.args.wanted) c.requires.next

pub returns : goal.returns
returns c =
    let m = c.args.self.now in
    let ready = c.requires.ready in
    let x = c.index_mut.result.now in
    let read = c.index_mut.ensures.value in
    let y = c.finish.new.self in
    let (t, passes) = c.finish.ensures.passes in
    let next = next_here m ready c.args.p x x c.requires.worker read (AwaitSignal c.args.on c.args.wanted) c.requires.next in
    let seen = signal_read m.processors.items c.args.on c.index.result.now (awaits_processor m ready c.args.p x c.requires.worker read signal c.args.on c.args.wanted next.0.0 next.0.1) c.index.ensures in
    await_steps m ready c.args.p x y c.requires.worker read signal c.args.on c.args.wanted t next.0.0 next.0.1 passes c.finish.ensures.own_cells c.finish.ensures.counter c.finish.ensures.signal
    (ap (nat_le c.args.wanted) seen ∙ le-leb c.args.wanted c.index.result.now.signal c.if-seen-wanted.false)
