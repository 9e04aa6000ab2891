use Rattle.std.proofs.Common.{◌≡◌, ◌+◌, ◌-◌, ℕ, if◌then◌else◌, ap, sym, ◌∙◌, arith}
use Rattle.std.specs.Prelude.{sum_by}
use Rattle.std.specs.List.{range_with_len}
use Rattle.std.proofs.lemmas.Bool.{lt-ltb}
use Rattle.nest_rows.specs.Views.{heads_of}
use Rattle.comm_system.specs.Levels.{common, levels}
use Rattle.owner_partition.specs.StaticPhases.{loops_of}
use Rattle.obligation_numbers.specs.Counts.{slot_count}
use Rattle.obligation_numbers.specs.SlotViews.{phases_at, slot_at}
use Rattle.obligation_numbers.proofs.Levels.{all_levels}
use Rattle.obligation_numbers.proofs.scene.Both.count.Goals as goal

pub returns-then-self : goal.returns-then-self
returns-then-self c =
    let x = c.args.self.now in
    let f = λ (level : ℕ). slot_count x.second.scene.plan.now (phases_at x) (slot_at x level) in
    let loops = c.common-loops.result in
    let last : loops - loops + 1 ≡ 1 = omega arith in
    let carried = ap (λ n. sum_by f (range_with_len n loops)) last in
    let same = c.common-loops.ensures.common ∙ ap (λ xs. common (heads_of xs) (heads_of c.as_slice.result.now)) c.as_slice-first_loops.ensures ∙ ap (λ xs. common (heads_of (loops_of x.first.now.outer)) (heads_of xs)) c.as_slice.ensures in
    let all = ap (λ n. sum_by f (levels n x.s x.second.t)) (sym same) ∙ all_levels f loops x.s x.second.t ∙ ap (λ b. sum_by f (range_with_len 1 loops) + (if b then f 0 else 0)) (lt-ltb x.s x.second.t c.if-self.true) in
    omega (arith, all, carried, c.carried_count-carried.ensures, c.slot_count.ensures, c.saturating_add.ensures)
