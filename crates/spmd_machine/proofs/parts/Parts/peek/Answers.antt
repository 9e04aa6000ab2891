use Rattle.std.proofs.Common.{ap, sym, subst}
use Rattle.std.proofs.lemmas.List.{get_or-set_same}
use Rattle.nest_walk.specs.Tables.{entries}
use Rattle.turns.specs.TurnsLeft.{IsNext}
use Rattle.spmd_machine.specs.Machines.{plan_in, style_in, tree_in}
use Rattle.spmd_machine.specs.declared.processor.Processor.{Processor}
use Rattle.spmd_machine.proofs.Kept.{look_kept, look_left, same_room}
use Rattle.spmd_machine.proofs.Ready.{kept_here, still_ready, still_shown}
use Rattle.spmd_machine.proofs.parts.Parts.peek.Goals as goal

pub peek-requires-clause-sound : goal.peek-requires-clause-sound
peek-requires-clause-sound c = (kept_here c.args.self.now c.requires.ready c.args.p c.index_mut.result.now c.index_mut.result.now c.requires.worker c.index_mut.ensures.value).sound

pub peek-requires-clause-found : goal.peek-requires-clause-found
peek-requires-clause-found c = (kept_here c.args.self.now c.requires.ready c.args.p c.index_mut.result.now c.index_mut.result.now c.requires.worker c.index_mut.ensures.value).instance

pub returns-clause-ready : goal.returns-clause-ready
returns-clause-ready c =
    let m = c.args.self.now in
    let x = c.index_mut.result.now in
    let read = c.index_mut.ensures.value in
    let y = c.peek.new.self in
    let l = c.peek.ensures.looks in
    let kept = kept_here m c.requires.ready c.args.p x y c.requires.worker read in
    let now = look_kept (style_in m) (tree_in m) (plan_in m) (entries m.table) c.args.p x kept y l in
    let left = look_left (style_in m) (tree_in m) (plan_in m) (entries m.table) c.args.p x kept y l in
    still_ready m c.requires.ready c.args.p x y c.requires.worker read now (same_room (tree_in m) x y l.left) (record {
      left = left;
      processor = now.processor;
      registers = ap (λ (z : Processor). z.registers.items) l.others;
      counter = ap (λ (z : Processor). z.counter) l.others;
      signal = ap (λ (z : Processor). z.signal) l.others;
      own_cells = ap (λ (z : Processor). z.own) l.others;
    })

pub returns-clause-next : goal.returns-clause-next
returns-clause-next c = λ d.
    let m = c.args.self.now in
    subst (λ (z : Processor). IsNext z.turns c.peek.result) (sym (get_or-set_same m.processors.items c.args.p c.peek.new.self d c.requires.worker)) c.peek.ensures.next

pub returns-clause-state : goal.returns-clause-state
returns-clause-state c =
    let m = c.args.self.now in
    let x = c.index_mut.result.now in
    let read = c.index_mut.ensures.value in
    let y = c.peek.new.self in
    let l = c.peek.ensures.looks in
    let kept = kept_here m c.requires.ready c.args.p x y c.requires.worker read in
    let now = look_kept (style_in m) (tree_in m) (plan_in m) (entries m.table) c.args.p x kept y l in
    let left = look_left (style_in m) (tree_in m) (plan_in m) (entries m.table) c.args.p x kept y l in
    still_shown m c.requires.ready c.args.p x y c.requires.worker read (record {
      left = left;
      processor = now.processor;
      registers = ap (λ (z : Processor). z.registers.items) l.others;
      counter = ap (λ (z : Processor). z.counter) l.others;
      signal = ap (λ (z : Processor). z.signal) l.others;
      own_cells = ap (λ (z : Processor). z.own) l.others;
    })
