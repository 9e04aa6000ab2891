use Rattle.std.proofs.Common.{◌++◌, IsTrue, ap, sym, ◌∙◌, subst}
use Rattle.std.specs.List.{fold, list_all}
use Rattle.std.proofs.lemmas.Bool.{and_parts}
use Rattle.std.proofs.lemmas.List.Folds.{list_all-append}
use Rattle.nest_tree.specs.View.{statement_of, tree_of}
use Rattle.nest_model.specs.Memory.{memory_after, output_from}
use Rattle.nest_model.specs.Ranges.{is_instance_inside}
use Rattle.nest_walk.specs.InstancesLeft.{instances_left, instances_rounds, instances_tree}
use Rattle.nest_walk.specs.RoundsOf.{rounds_of}
use Rattle.nest_walk.specs.Strips.{strip_left}
use Rattle.seq_meaning.specs.Executions.{IsPlacedWork}
use Rattle.seq_meaning.proofs.RunInstances.{memory_behind_some, memory_rest, memory_step, output_behind_some, output_rest, output_step, placed_work}
use Rattle.seq_meaning.proofs.run.Run.execute_all.Goals as goal

pub execute-requires-clause-placed : goal.execute-requires-clause-placed
execute-requires-clause-placed c =
    let tree = tree_of c.args.self.now.program.now in
    let next = c.in-Some-next.ensures in
    let stop = c.in-Some-next.stop in
    let i = next.instance.0 in
    let first = sym c.in_default.ensures.instances ∙ next.instance.2 in
    let rest = instances_left c.next.new.self in
    let walked = next.program ∙ c.in_default.ensures.program ∙ c.rest.invariant.walked in
    let insides = and_parts (is_instance_inside tree i) (list_all (is_instance_inside tree) rest) (sym (ap (list_all (is_instance_inside tree)) first) ∙ c.rest.invariant.inside) in
    let inside = ap (λ t. is_instance_inside t i) walked ∙ insides.0 in
    let placed = placed_work (instances_tree c.next.new.self) (instances_rounds c.next.new.self) stop i next.instance.1 next.reached next.text inside in
    let here = subst (λ rs. IsPlacedWork (instances_tree c.next.new.self) rs stop.first (statement_of stop.item.now)) (sym c.path.ensures) placed in
    subst (λ t. IsPlacedWork t (rounds_of c.path.result.now) stop.first (statement_of stop.item.now)) (walked ∙ sym (ap tree_of c.rest.invariant.program)) here

pub rest-preserved : goal.rest-preserved
rest-preserved c =
    let tree = tree_of c.args.self.now.program.now in
    let next = c.in-Some-next.ensures in
    let stop = c.in-Some-next.stop in
    let s = statement_of stop.item.now in
    let i = next.instance.0 in
    let first = sym c.in_default.ensures.instances ∙ next.instance.2 in
    let left = instances_left c.rest.left in
    let rest = instances_left c.next.new.self in
    let walked = next.program ∙ c.in_default.ensures.program ∙ c.rest.invariant.walked in
    let run = ap tree_of c.rest.invariant.program in
    let old = c.rest.self in
    let new = c.execute.new.self in
    let insides = and_parts (is_instance_inside tree i) (list_all (is_instance_inside tree) rest) (sym (ap (list_all (is_instance_inside tree)) first) ∙ c.rest.invariant.inside) in
    let memory = memory_step tree (instances_tree c.next.new.self) (tree_of old.program.now) (rounds_of c.path.result.now) (instances_rounds c.next.new.self) stop.first s i old.memory.items new.memory.items walked run c.path.ensures next.instance.1 c.in_ok-execute.ensures.memory in
    let output = output_step tree (instances_tree c.next.new.self) (tree_of old.program.now) (rounds_of c.path.result.now) (instances_rounds c.next.new.self) stop.first s i old.memory.items old.output.bytes new.output.bytes walked run c.path.ensures next.instance.1 c.in_ok-execute.ensures.output in
    record {
      ready = c.in_ok-execute.ensures.ready;
      program = c.in_ok-execute.ensures.program ∙ c.rest.invariant.program;
      walked = walked;
      inside = insides.1;
      memory = memory_rest tree old.memory.items new.memory.items _ left rest i first memory c.rest.invariant.memory;
      output = output_rest tree old.memory.items new.memory.items old.output.bytes new.output.bytes _ left rest i first memory output c.rest.invariant.output;
    }

pub repeat-requires-clause-inside : goal.repeat-requires-clause-inside
repeat-requires-clause-inside c =
    let tree = tree_of c.args.self.now.program.now in
    let inside = list_all (is_instance_inside tree) in
    let here = strip_left c.in-Some.strip in
    let rest = instances_left c.strip.new.self in
    let parts = and_parts (inside here) (inside rest) (sym (ap inside c.in-Some.ensures.instances ∙ list_all-append (is_instance_inside tree) here rest) ∙ c.rest.invariant.inside) in
    subst (λ t. IsTrue (list_all (is_instance_inside t) here)) (sym (ap tree_of c.rest.invariant.program)) parts.0

pub rest-preserved-in-Some : goal.rest-preserved-in-Some
rest-preserved-in-Some c =
    let tree = tree_of c.args.self.now.program.now in
    let inv = c.rest.invariant in
    let inside = list_all (is_instance_inside tree) in
    let left = instances_left c.rest.left in
    let here = strip_left c.in-Some.strip in
    let rest = instances_left c.strip.new.self in
    let run = ap tree_of inv.program in
    let old = c.rest.self in
    let new = c.repeat.new.self in
    let parts = and_parts (inside here) (inside rest) (sym (ap inside c.in-Some.ensures.instances ∙ list_all-append (is_instance_inside tree) here rest) ∙ inv.inside) in
    let memory = c.repeat.ensures.memory ∙ ap (λ t. fold (memory_after t) old.memory.items here) run in
    let output = c.repeat.ensures.output ∙ ap (λ t. old.output.bytes ++ output_from t old.memory.items here) run in
    record {
      ready = c.repeat.ensures.ready;
      program = c.repeat.ensures.program ∙ inv.program;
      walked = c.in-Some.ensures.program ∙ inv.walked;
      inside = parts.1;
      memory = memory_behind_some tree old.memory.items new.memory.items _ left here rest c.in-Some.ensures.instances memory inv.memory;
      output = output_behind_some tree old.memory.items new.memory.items old.output.bytes new.output.bytes _ left here rest c.in-Some.ensures.instances memory output inv.output;
    }
