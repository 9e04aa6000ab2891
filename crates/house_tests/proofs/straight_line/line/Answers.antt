use Rattle.std.proofs.Common.{◌≡◌, Some, None, subst, sym, ap, ◌∙◌}
use Rattle.nest_tree.specs.Limits.{first_limit}
use Rattle.nest_tree.specs.WellFormed.{IsWellFormed}
use Rattle.house_tests.proofs.StraightLine as lines
use Rattle.house_tests.proofs.straight_line.line.Goals as goal

pub limited-requires : goal.limited-requires
limited-requires c = subst IsWellFormed (sym c.in_ok-line_draft.ensures) lines.formed

pub unreachable-requires : goal.unreachable-requires
unreachable-requires c =
    let clash : Some c.in-Err.field-0 ≡ None = c.in-Err.ensures.limit ∙ ap first_limit c.in_ok-line_draft.ensures ∙ lines.limits in
    cc
