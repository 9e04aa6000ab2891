use Rattle.std.proofs.Common.{Some, ap, sym, ◌∙◌}
use Rattle.nest_walk.specs.CellForms.{cell_at}
use Rattle.nest_walk.specs.Paths.{by_depth}
use Rattle.nest_walk.specs.RoundsOf.{rounds_of}
use Rattle.instance_runs.specs.Loads.{cell_of_load}
use Rattle.instance_runs.proofs.NextLoads.{cell_is, high, load_past, load_read, none_is}
use Rattle.instance_runs.proofs.load_place.LoadPlace.cell.Goals as goal

pub work-requires-clause-high : goal.work-requires-clause-high
work-requires-clause-high c = let (tree, done, at) = c.requires in high tree c.args.table.now c.args.path.now c.args.stop done c.args.self.now at

pub returns-in_err-form : goal.returns-in_err-form
returns-in_err-form c = λ tree done at.
    let none = load_past c.work.result.now.loads.items c.deref.result.now c.args.self.now.load c.deref.ensures.value c.in_err-form.ensures.lookup.3 in
    c.from_residual.ensures ∙ sym (none_is tree c.args.table.now c.args.path.now c.args.stop done c.args.self.now at c.work.result.now c.work.ensures none)

pub returns-in-Element : goal.returns-in-Element
returns-in-Element c = λ tree done at.
    let l = c.in_ok-form.field-0.now in
    let there = load_read c.work.result.now.loads.items c.deref.result.now c.args.self.now.load l c.deref.ensures.value c.in_ok-form.ensures.lookup.3.0 c.in_ok-form.ensures.lookup.1 in
    ap (λ n. Some n) (c.at.ensures ∙ ap (cell_at c.in-Element.form) c.values.ensures ∙ ap (λ x. cell_of_load (by_depth (rounds_of c.args.path.now)) x c.args.self.now.element) (sym c.in-Element.is))
    ∙ sym (cell_is tree c.args.table.now c.args.path.now c.args.stop done c.args.self.now at c.work.result.now c.work.ensures l there)

pub returns-in-Array : goal.returns-in-Array
returns-in-Array c = λ tree done at.
    let l = c.in_ok-form.field-0.now in
    let there = load_read c.work.result.now.loads.items c.deref.result.now c.args.self.now.load l c.deref.ensures.value c.in_ok-form.ensures.lookup.3.0 c.in_ok-form.ensures.lookup.1 in
    ap (λ x. Some (cell_of_load (by_depth (rounds_of c.args.path.now)) x c.args.self.now.element)) (sym c.in-Array.is)
    ∙ sym (cell_is tree c.args.table.now c.args.path.now c.args.stop done c.args.self.now at c.work.result.now c.work.ensures l there)
