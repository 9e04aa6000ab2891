use Rattle.std.proofs.Common.{ap, sym, ◌∙◌, arith}
use Rattle.nest_tree.specs.View.{statement_of, statements_from}
use Rattle.nest_model.specs.Instances.{works_in, works_of}
use Rattle.nest_walk.proofs.CursorMoves.{passes}
use Rattle.nest_walk.proofs.Trees.{works-loop}
use Rattle.nest_walk.proofs.cursor.Cursor.pass.Goals as goal

pub work_count-works-requires : goal.work_count-works-requires
work_count-works-requires c =
    let p = passes c.args.self.now c.args.item.now c.args.behind.now c.requires in
    let works = ap (λ i. works_in (statement_of i)) c.in-Loop.is ∙ works-loop c.in-Loop.nest in
    rw c.deref.ensures.value (omega (arith, p.work, works))

pub advance-requires-clause-works : goal.advance-requires-clause-works
advance-requires-clause-works c =
    c.work_count-works.ensures ∙ ap (λ xs. works_of (statements_from xs)) c.deref.ensures.value ∙ sym (ap (λ i. works_in (statement_of i)) c.in-Loop.is ∙ works-loop c.in-Loop.nest)
