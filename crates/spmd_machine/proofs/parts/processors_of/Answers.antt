use Rattle.std.proofs.Common.{◌∷◌, [], length, length-append, None, pos, replicate, refl, ap, arith}
use Rattle.list_lemmas.proofs.Appending.{pushed_all}
use Rattle.nest_tree.specs.View.{tree_of}
use Rattle.spmd_machine.specs.Processors.{IsFresh}
use Rattle.spmd_machine.specs.declared.processor.Processor.{Processor}
use Rattle.spmd_machine.proofs.parts.processors_of.Goals as goal

pub loop-p-preserved : goal.loop-p-preserved
loop-p-preserved c =
    let x : Processor = record { turns = c.new.result; found = None; registers = c.in_ok-with_capacity.field-0; place = c.first.result; done = 0; counter = 0; signal = 0; own = replicate 32 (pos 0) } in
    let fresh : IsFresh c.args.style (tree_of c.args.program.now) c.args.plan.now c.args.room c.loop-p.p x = record {
      sound = c.new.ensures.sound;
      program = c.new.ensures.program;
      plan_is = c.new.ensures.plan;
      processor = c.new.ensures.processor;
      style_is = c.new.ensures.style;
      turns = c.new.ensures.turns;
      none_found = refl;
      idle = record { none_done = refl; empty = c.in_ok-with_capacity.ensures.items; first_load = c.first.ensures.load; first_element = c.first.ensures.element };
      counter = refl;
      signal = refl;
      own_cells = refl;
      room = c.in_ok-with_capacity.ensures.capacity;
    } in
    record {
      count = omega (arith, ap length c.in_ok-push.ensures.items, length-append c.loop-p.processors.items (x ∷ []), c.loop-p.invariant.count);
      fresh = pushed_all (IsFresh c.args.style (tree_of c.args.program.now) c.args.plan.now c.args.room) c.loop-p.processors.items c.push.new.self.items x c.loop-p.p c.loop-p.invariant.count c.in_ok-push.ensures.items c.loop-p.invariant.fresh fresh;
    }
