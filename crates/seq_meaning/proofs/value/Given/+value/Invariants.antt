use Rattle.std.proofs.Common.{drop, length}
use Rattle.std.specs.Int.{int_max, int_min}
use Rattle.nest_tree.specs.Loads.{loads_among}
use Rattle.nest_tree.specs.View.{expressions_from}
use Rattle.nest_model.specs.Meaning.{greatest, least, values_of}
use Rattle.seq_meaning.proofs.Values.{Remains}
use Rattle.seq_meaning.proofs.value.Given.+value.Given as goal

abbrev pub invariant-greatest-loop-e : goal.invariant-greatest-loop-e
invariant-greatest-loop-e l =
    let all = expressions_from l.fn.arguments in
    let first = drop l.fn.at l.self.loaded.now in
    Remains int_max l.best (drop l.e-index l.e-items) l.self.loops.now l.self.params.now (drop l.at l.self.loaded.now)
    (greatest (values_of all l.self.loops.now l.self.params.now first)) (drop (length (loads_among all)) first)

abbrev pub invariant-least-loop-e : goal.invariant-least-loop-e
invariant-least-loop-e l =
    let all = expressions_from l.fn.arguments in
    let first = drop l.fn.at l.self.loaded.now in
    Remains int_min l.best (drop l.e-index l.e-items) l.self.loops.now l.self.params.now (drop l.at l.self.loaded.now)
    (least (values_of all l.self.loops.now l.self.params.now first)) (drop (length (loads_among all)) first)
