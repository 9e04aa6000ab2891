use Rattle.std.proofs.Common.{ap, sym, ◌∙◌, arith, ◌<◌, ◌≤◌, length, map}
use Rattle.nest_tree.specs.Layout.{bounds_at}
use Rattle.nest_tree.specs.View.{declaration_of}
use Rattle.comm_system.proofs.RowSteps.{bounds_none, bounds_there}
use Rattle.comm_system.proofs.rows.bounds_of.Goals as goal

pub returns-then-place-len : goal.returns-then-place-len
returns-then-place-len c =
    let vs = c.args.program.now.variables.items in
    let k = c.saturating_sub-place.result in
    let lt : k < length vs = omega (arith, c.if-place-len.true, c.len.ensures) in
    c.as_slice.ensures.value ∙ sym (bounds_there vs k c.index.result.now lt c.index.ensures) ∙ ap (bounds_at (map declaration_of vs)) c.saturating_sub-place.ensures

pub returns-else-place-len : goal.returns-else-place-len
returns-else-place-len c =
    let vs = c.args.program.now.variables.items in
    let k = c.saturating_sub-place.result in
    let le : length vs ≤ k = omega (arith, c.if-place-len.false, c.len.ensures) in
    sym (bounds_none vs k le) ∙ ap (bounds_at (map declaration_of vs)) c.saturating_sub-place.ensures
