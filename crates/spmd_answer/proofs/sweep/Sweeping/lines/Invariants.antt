use Rattle.std.proofs.Common.{◌≡◌}
use Rattle.nest_tree.specs.View.{tree_of}
use Rattle.command_words.specs.Sweeps.{sweep_of}
use Rattle.spmd_answer.specs.Due.{reading_text, value_lines}
use Rattle.spmd_answer.specs.Inputs.{readings_of}
use Rattle.spmd_answer.proofs.sweep.Sweeping.lines.Given as goal

abbrev pub invariant-loop-step : goal.invariant-loop-step
invariant-loop-step l =
    l.text.items ≡ value_lines (λ v. reading_text (tree_of l.self.proven.now.program.now) l.self.proven.now.plan.now (readings_of l.self.input.now (sweep_of l.self.sweep.now) v)) l.self.sweep.now.low l.step
