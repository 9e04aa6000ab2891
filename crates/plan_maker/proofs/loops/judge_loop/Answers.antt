use Rattle.std.proofs.Common.{◌≡◌, [], ◌∷◌, ◌++◌, ap, sym, ◌∙◌, subst}
use Rattle.std.specs.Prelude.{IfOk}
use Rattle.nest_tree.specs.Prints.{have_print}
use Rattle.nest_tree.specs.View.{statements_from, tree_of}
use Rattle.plan_maker.specs.Bars.{loop_prints}
use Rattle.plan_maker.specs.Loops.{IsLoopVerdict}
use Rattle.maker_marks.specs.Tries.{body_among, nest_body}
use Rattle.maker_marks.specs.declared.tries.Tried.TheVariants.{Doall}
use Rattle.plan_maker.specs.declared.reasons.Bar.TheVariants.{Print}
use Rattle.plan_maker.specs.declared.reasons.LoopReason.{LoopReason}
use Rattle.plan_maker.proofs.Attempts.{body_there, print_bars}
use Rattle.plan_maker.proofs.loops.judge_loop.Goals as goal
use Rattle.plan_maker.proofs.loops.judge_loop.Goals.{After-have_print}

-- whether a PRINT stands in the loop was looked at
prints-as : (c : After-have_print) → loop_prints (tree_of c.args.program.now) c.args.number ≡ c.have_print.result
prints-as c =
    ap have_print (body_there (tree_of c.args.program.now) c.args.number (nest_body c.nest_of-nest.result.now) c.nest_of-nest.ensures.body)
    ∙ ap (λ xs. have_print (statements_from xs)) (sym c.deref.ensures.value) ∙ sym c.have_print.ensures

pub judge_tries-requires-clause-body : goal.judge_tries-requires-clause-body
judge_tries-requires-clause-body c =
    let number = c.nest_of-nest.ensures.number in
    ap (λ n. body_among n (tree_of c.args.program.now).items) number ∙ c.nest_of-nest.ensures.body

pub judge_tries-requires-clause-silent : goal.judge_tries-requires-clause-silent
judge_tries-requires-clause-silent c =
    let a = (goal.at.judge_tries-requires-clause-silent c).After-have_print in
    ap (loop_prints (tree_of c.args.program.now)) c.nest_of-nest.ensures.number ∙ prints-as a ∙ c.if-not-have_print.true

pub returns-then-not-have_print : goal.returns-then-not-have_print
returns-then-not-have_print c = subst (λ n. IfOk c.judge_tries.result (IsLoopVerdict (tree_of c.args.program.now) n)) c.nest_of-nest.ensures.number c.judge_tries.ensures

pub returns : goal.returns
returns c =
    let a = (goal.at.returns c).After-have_print in
    let reason : LoopReason = record { number = c.args.number; tried = Doall; bar = Print } in
    print_bars (tree_of c.args.program.now) c.args.number _ (prints-as a ∙ c.if-not-have_print.false) (c.in_ok-push.ensures.items ∙ ap (λ xs. xs ++ reason ∷ []) c.new-reasons.ensures.items)
