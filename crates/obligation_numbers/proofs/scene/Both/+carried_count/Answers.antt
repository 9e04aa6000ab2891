use Rattle.std.proofs.Common.{◌<◌, ℕ, arith}
use Rattle.obligation_numbers.specs.Counts.{slot_count}
use Rattle.obligation_numbers.specs.SlotViews.{phases_at, slot_at}
use Rattle.obligation_numbers.proofs.Levels.{next_level}
use Rattle.obligation_numbers.proofs.scene.Both.+carried_count.Goals as goal

pub returns : goal.returns
returns t c =
    let x = c.args.self.now in
    let f = λ (level : ℕ). slot_count x.second.scene.plan.now (phases_at x) (slot_at x level) in
    let some : 0 < c.args.left = omega (arith, c.if-left-eq0.false) in
    omega (arith, next_level f c.args.loops c.args.left some c.requires.left, c.carried_count-later.ensures, c.slot_count-here.ensures, c.saturating_add.ensures)
