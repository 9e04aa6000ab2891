use Rattle.std.proofs.Common.{◌≡◌, ◌+◌, ◌++◌, List, sym, ap, ◌∙◌, arith}
use Rattle.std.specs.List.{flat_map}
use Rattle.nest_walk.specs.Strips.{strip_left}
use Rattle.spmd_model.specs.Deeds.{Deed, instance_deeds}
use Rattle.instance_runs.specs.Executors.{executor_tree}
use Rattle.spmd_workers.specs.Places.{left_seen, place_of}
use Rattle.spmd_workers.proofs.walk.Walk.repeat.Goals as goal

pub repeat-requires-clause-left : goal.repeat-requires-clause-left
repeat-requires-clause-left c =
    let x = c.args.self.now in
    let t = c.args.turns.value in
    let n = place_of x.seat t in
    let none : n + 0 ≡ n = omega arith in
    (c.requires.left.0, (λ i. left_seen t (c.of-from.ensures i) x.seat x.own (n + c.new.ensures i)) ∙ ap (left_seen t x.seat x.seat x.own) none ∙ c.requires.left.1)

pub returns-clause-left : goal.returns-clause-left
returns-clause-left c =
    let x = c.args.self.now in
    let t = c.args.turns.value in
    let n = place_of x.seat t in
    let none : n + 0 ≡ n = omega arith in
    let new = c.repeat.new.deeds in
    let s = new.seat.now in
    let turns = ap (λ k. k.1.1.1.0) c.repeat.ensures.kept in
    let from = ap (λ k. k.1.1.1.1.1.1) c.repeat.ensures.kept ∙ c.of-from.ensures in
    let start = (λ i. left_seen t (c.of-from.ensures i) x.seat x.own (n + c.new.ensures i)) ∙ ap (left_seen t x.seat x.seat x.own) none in
    let front : List Deed = flat_map (instance_deeds (executor_tree x.executor)) (strip_left c.args.strip) in
    sym start ∙ c.repeat.ensures.left ∙ ap (λ l. front ++ l) (λ i. left_seen (turns i) (from i) s new.own.now (place_of s (turns i) + (sym c.of.ensures i).done))
