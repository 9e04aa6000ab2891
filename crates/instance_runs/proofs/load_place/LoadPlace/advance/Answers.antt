use Rattle.std.proofs.Common.{◌≡◌, ◌≢◌, ◌+◌, Some, None, refl, sym, ◌∙◌, rules}
use Rattle.instance_runs.specs.Loads.{width}
use Rattle.instance_runs.proofs.NextLoads.{high, load_past, load_read, low, next_element, next_load, none_is}
use Rattle.instance_runs.proofs.load_place.LoadPlace.advance.Goals as goal

pub work-requires-clause-low : goal.work-requires-clause-low
work-requires-clause-low c = let (tree, path, done, cell, at, left) = c.requires in low tree c.args.table.now path c.args.stop done c.args.self.now at

pub work-requires-clause-high : goal.work-requires-clause-high
work-requires-clause-high c = let (tree, path, done, cell, at, left) = c.requires in high tree c.args.table.now path c.args.stop done c.args.self.now at

pub unreachable-requires : goal.unreachable-requires
unreachable-requires c =
    let (tree, path, done, cell, at, left) = c.requires in
    let none = load_past c.work.result.now.loads.items c.deref.result.now c.args.self.now.load c.deref.ensures.value c.in_default.ensures.lookup.3 in
    let no : Some cell ≡ None = sym left ∙ none_is tree c.args.table.now path c.args.stop done c.args.self.now at c.work.result.now c.work.ensures none in
    cc

pub overflow_add-self : goal.overflow_add-self
overflow_add-self c =
    let (tree, path, done, cell, at, left) = c.requires in
    let l = c.in-Some.load.now in
    let there = load_read c.work.result.now.loads.items c.deref.result.now c.args.self.now.load l c.deref.ensures.value c.in-Some.ensures.lookup.3.0 c.in-Some.ensures.lookup.1 in
    let below = (at.loading c.work.result.now c.work.ensures).within l there in
    search (rules, below, c.width-values.ensures)

pub returns-then-self-values : goal.returns-then-self-values
returns-then-self-values c = λ tree path done at.
    let l = c.in-Some.load.now in
    let there = load_read c.work.result.now.loads.items c.deref.result.now c.args.self.now.load l c.deref.ensures.value c.in-Some.ensures.lookup.3.0 c.in-Some.ensures.lookup.1 in
    let full : c.args.self.now.element + 1 ≡ width l = c.if-self-values.true ∙ c.width-values.ensures in
    next_load tree c.args.table.now path c.args.stop done c.args.self.now at c.work.result.now c.work.ensures l there (record { load = c.args.self.now.load + 1; element = 0 }) full refl refl

pub returns-else-self-values : goal.returns-else-self-values
returns-else-self-values c = λ tree path done at.
    let l = c.in-Some.load.now in
    let there = load_read c.work.result.now.loads.items c.deref.result.now c.args.self.now.load l c.deref.ensures.value c.in-Some.ensures.lookup.3.0 c.in-Some.ensures.lookup.1 in
    let more : c.args.self.now.element + 1 ≢ width l = λ full. c.if-self-values.false (full ∙ sym c.width-values.ensures) in
    next_element tree c.args.table.now path c.args.stop done c.args.self.now at c.work.result.now c.work.ensures l there (record { load = c.args.self.now.load; element = c.args.self.now.element + 1 }) more refl refl
