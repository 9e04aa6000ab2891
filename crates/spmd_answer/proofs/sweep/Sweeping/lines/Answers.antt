use Rattle.std.proofs.Common.{rules, ◌∙◌, ◌++◌, ap, ℕ, ℤ, List, w64, FitsSigned, arith}
use Rattle.std.proofs.lemmas.Int.{ints}
use Rattle.nest_tree.specs.View.{tree_of}
use Rattle.command_words.specs.Sweeps.{sweep_of}
use Rattle.spmd_answer.specs.Due.{reading_text}
use Rattle.spmd_answer.specs.Inputs.{readings_of}
use Rattle.spmd_answer.proofs.Sweeps.{one_more}
use Rattle.spmd_answer.proofs.sweep.Sweeping.lines.Goals as goal

pub overflow_add-self : goal.overflow_add-self
overflow_add-self c =
    let first : FitsSigned w64 c.args.self.now.sweep.now.low = search rules in
    omega (arith, ints, first, c.count_in-step-end.ensures.within, c.count_in-step-end.ensures.few, c.loop-step-test.true)

pub loop-step-preserved : goal.loop-step-preserved
loop-step-preserved c =
    let self = c.args.self.now in
    let text : ℤ → List ℕ = λ v. reading_text (tree_of self.proven.now.program.now) self.proven.now.plan.now (readings_of self.input.now (sweep_of self.sweep.now) v) in
    let first : FitsSigned w64 self.sweep.now.low = search rules in
    one_more text self.sweep.now.low c.loop-step.step _ c.loop-step.text.items c.in_ok-line.line.items _
    (c.in_ok-extend_from_slice.ensures.items ∙ ap (λ line. c.loop-step.text.items ++ line) c.deref.ensures.value)
    c.in_ok-line.ensures
    (omega (arith, ints, first, c.count_in-step-end.ensures.within, c.count_in-step-end.ensures.few, c.loop-step-test.true))
    c.loop-step.invariant
