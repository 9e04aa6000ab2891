use Rattle.std.proofs.Common.{◌+◌, ◌<◌, ℕ, List, ◌∷◌, [], length, subst, sym, ap, ◌∙◌, length-append}
use Rattle.thread_code.specs.Closed.{IsTurningOf}
use Rattle.thread_code.specs.Tables.{table_of}
use Rattle.thread_code.specs.declared.turnings.Turning.{Turning}
use Rattle.thread_code.proofs.Made.{more_turnings}
use Rattle.thread_code.proofs.turnings.Turnings.new.Goals as goal

pub loop-rise-preserved : goal.loop-rise-preserved
loop-rise-preserved c =
    let made = c.loop-rise.by_rise.items in
    let t = c.turning_of.result in
    let is = c.in_ok-push.ensures.items in (
      ap (λ (xs : List Turning). length xs) is ∙ length-append made (t ∷ []) ∙ ap (λ n. n + 1) c.loop-rise.invariant.0,
      subst (λ xs. (r : ℕ) → r < c.loop-rise.rise + 1 → IsTurningOf c.args.workers r (table_of xs r)) (sym is)
          (more_turnings c.args.workers c.loop-rise.rise made t c.loop-rise.invariant.0 c.loop-rise.invariant.1 c.turning_of.ensures),
    )
