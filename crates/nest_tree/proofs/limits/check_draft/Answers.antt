use Rattle.std.proofs.Common.{◌≡◌, Err, map, ap, ◌∙◌, rules}
use Rattle.std.specs.Result.{result_err}
use Rattle.nest_tree.specs.Layout.{cells_in}
use Rattle.nest_tree.specs.Limits.{capped}
use Rattle.nest_tree.specs.View.{declaration_of, tree_of_draft}
use Rattle.nest_tree.proofs.Cells.{well_formed_parts}
use Rattle.nest_tree.proofs.FirstLimits.{limit-wide, limit-work, limit-cells, limit-none, parts-given, parts-wide, parts-work}
use Rattle.nest_tree.proofs.limits.check_draft.Goals as goal

pub statements_work-requires-clause-given : goal.statements_work-requires-clause-given
statements_work-requires-clause-given c =
    let d = c.args.draft.now in
    parts-given d.items.items d.params.items d.variables.items c.args.ends.now c.deref-2.result.now c.deref.result.now c.requires.ends c.deref-2.ensures.value c.deref.ensures.value c.requires.well_formed

pub returns-in_err-work : goal.returns-in_err-work
returns-in_err-work c =
    let same : c.from_residual.result ≡ Err c.in_err-work.field-0.0 = search rules in
    let d = c.args.draft.now in
    let wide = parts-wide d.items.items d.params.items d.variables.items c.args.ends.now c.deref-2.result.now c.deref.result.now c.requires.ends c.deref-2.ensures.value c.deref.ensures.value in
    ap result_err same ∙ limit-wide (tree_of_draft c.args.draft.now) c.in_err-work.field-0.0 (c.in_err-work.ensures.wide ∙ wide)

pub capped_cells-cells-requires : goal.capped_cells-cells-requires
capped_cells-cells-requires c = rw c.deref-3.ensures.value (well_formed_parts (tree_of_draft c.args.draft.now) c.requires.well_formed).variables

pub returns-then-work-gt-MOST_WORK : goal.returns-then-work-gt-MOST_WORK
returns-then-work-gt-MOST_WORK c =
    let d = c.args.draft.now in
    let wide = parts-wide d.items.items d.params.items d.variables.items c.args.ends.now c.deref-2.result.now c.deref.result.now c.requires.ends c.deref-2.ensures.value c.deref.ensures.value in
    let worked = parts-work d.items.items d.params.items d.variables.items c.args.ends.now c.deref-2.result.now c.deref.result.now c.requires.ends c.deref-2.ensures.value c.deref.ensures.value in
    limit-work (tree_of_draft c.args.draft.now) c.in_ok-work.work (c.in_ok-work.ensures.wide ∙ wide) (c.in_ok-work.ensures.work ∙ ap capped worked) c.if-work-gt-MOST_WORK.true

pub returns-then-cells-gt-MOST_CELLS : goal.returns-then-cells-gt-MOST_CELLS
returns-then-cells-gt-MOST_CELLS c =
    let d = c.args.draft.now in
    let wide = parts-wide d.items.items d.params.items d.variables.items c.args.ends.now c.deref-2.result.now c.deref.result.now c.requires.ends c.deref-2.ensures.value c.deref.ensures.value in
    let worked = parts-work d.items.items d.params.items d.variables.items c.args.ends.now c.deref-2.result.now c.deref.result.now c.requires.ends c.deref-2.ensures.value c.deref.ensures.value in
    limit-cells (tree_of_draft c.args.draft.now) c.in_ok-work.work (c.in_ok-work.ensures.wide ∙ wide) (c.in_ok-work.ensures.work ∙ ap capped worked) c.capped_cells-cells.result c.if-work-gt-MOST_WORK.false (c.capped_cells-cells.ensures ∙ ap (λ vs. capped (cells_in (map declaration_of vs))) c.deref-3.ensures.value) c.if-cells-gt-MOST_CELLS.true

pub returns : goal.returns
returns c =
    let d = c.args.draft.now in
    let wide = parts-wide d.items.items d.params.items d.variables.items c.args.ends.now c.deref-2.result.now c.deref.result.now c.requires.ends c.deref-2.ensures.value c.deref.ensures.value in
    let worked = parts-work d.items.items d.params.items d.variables.items c.args.ends.now c.deref-2.result.now c.deref.result.now c.requires.ends c.deref-2.ensures.value c.deref.ensures.value in
    limit-none (tree_of_draft c.args.draft.now) c.in_ok-work.work (c.in_ok-work.ensures.wide ∙ wide) (c.in_ok-work.ensures.work ∙ ap capped worked) c.capped_cells-cells.result c.if-work-gt-MOST_WORK.false (c.capped_cells-cells.ensures ∙ ap (λ vs. capped (cells_in (map declaration_of vs))) c.deref-3.ensures.value) c.if-cells-gt-MOST_CELLS.false
