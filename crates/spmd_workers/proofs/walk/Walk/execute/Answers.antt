use Rattle.std.proofs.Common.{◌≡◌, ◌+◌, List, refl, sym, ap, subst, ◌∙◌, arith}
use Rattle.nest_walk.specs.Paths.{Round}
use Rattle.spmd_model.specs.Deeds.{Deed}
use Rattle.instance_runs.specs.Executors.{Begins, executor_tree}
use Rattle.turns.specs.TurnsLeft.{turns_rounds}
use Rattle.spmd_workers.specs.Places.{left_seen, place_of}
use Rattle.spmd_workers.specs.Walks.{walk_place}
use Rattle.spmd_workers.proofs.walk.Walk.execute.Goals as goal

pub execute-requires-clause-begins : goal.execute-requires-clause-begins
execute-requires-clause-begins g c =
    let x = c.args.self.now in
    let none : place_of x.seat x.turns + 0 ≡ walk_place x = omega arith in
    let same : left_seen x.turns x.seat x.seat x.own (walk_place x) ≡ left_seen c.of-turns.result.value c.of-from.result.value x.seat x.own (place_of x.seat c.of-turns.result.value + c.new.result.done) = sym ((λ i. left_seen (c.of-turns.ensures i) (c.of-from.ensures i) x.seat x.own (place_of x.seat (c.of-turns.ensures i) + c.new.ensures i)) ∙ ap (left_seen x.turns x.seat x.seat x.own) none) in
    subst (λ (rs : List Round). Begins (executor_tree x.executor) rs c.args.stop (left_seen c.of-turns.result.value c.of-from.result.value x.seat x.own (place_of x.seat c.of-turns.result.value + c.new.result.done))) (sym c.path.ensures)
    (subst (λ (l : List Deed). Begins (executor_tree x.executor) (turns_rounds x.turns) c.args.stop l) same c.requires.begins)

pub returns-clause-left : goal.returns-clause-left
returns-clause-left g c = λ b.
    let x = c.args.self.now in
    let none : place_of x.seat x.turns + 0 ≡ walk_place x = omega arith in
    let same : left_seen x.turns x.seat x.seat x.own (walk_place x) ≡ left_seen c.of-turns.result.value c.of-from.result.value x.seat x.own (place_of x.seat c.of-turns.result.value + c.new.result.done) = sym ((λ i. left_seen (c.of-turns.ensures i) (c.of-from.ensures i) x.seat x.own (place_of x.seat (c.of-turns.ensures i) + c.new.ensures i)) ∙ ap (left_seen x.turns x.seat x.seat x.own) none) in
    let moved = subst (λ (rs : List Round). (d : Begins (executor_tree x.executor) rs c.args.stop (left_seen c.of-turns.result.value c.of-from.result.value x.seat x.own (place_of x.seat c.of-turns.result.value + c.new.result.done))) × (d.rest ≡ b.rest)) (sym c.path.ensures)
    (subst (λ (l : List Deed). (d : Begins (executor_tree x.executor) (turns_rounds x.turns) c.args.stop l) × (d.rest ≡ b.rest)) same (b, refl)) in
    let s = c.execute.new.deeds.seat.now in
    let turns : c.execute.new.deeds.turns.now.value ≡ x.turns = ap (λ k. k.1.1.1.0) c.execute.ensures.kept ∙ c.of-turns.ensures in
    let from : c.execute.new.deeds.from.now.value ≡ x.seat = ap (λ k. k.1.1.1.1.1.1) c.execute.ensures.kept ∙ c.of-from.ensures in
    sym (λ i. left_seen (turns i) (from i) s c.execute.new.deeds.own.now (place_of s (turns i) + (sym c.of.ensures i).done)) ∙ c.execute.ensures.left moved.0 ∙ moved.1
