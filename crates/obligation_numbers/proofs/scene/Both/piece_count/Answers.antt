use Rattle.std.proofs.Common.{◌≡◌, ◌<◌, min, length, ap, sym, ◌∙◌, arith}
use Rattle.comm_system.specs.OwnerRows.{pieces}
use Rattle.comm_system.specs.Signatures.{is_barrier}
use Rattle.obligation_numbers.specs.Counts.{certain_count, is_producer}
use Rattle.obligation_numbers.specs.SlotViews.{phases_at, slot_at}
use Rattle.obligation_numbers.proofs.Shown.{none_behind_barriers, pieces_of_producers}
use Rattle.obligation_numbers.proofs.scene.Both.piece_count.Goals as goal

pub returns-then-certain-gt0 : goal.returns-then-certain-gt0
returns-then-certain-gt0 c =
    let x = c.args.self.now in
    let plan = x.second.scene.plan.now in
    let some : 0 < certain_count is_barrier plan.kinds (phases_at x) (slot_at x c.args.level) = omega (arith, c.certain.ensures, c.if-certain-gt0.true) in
    sym (none_behind_barriers plan.version plan.kinds (phases_at x) (slot_at x c.args.level) some)

pub returns-in-0 : goal.returns-in-0
returns-in-0 c =
    let x = c.args.self.now in
    let plan = x.second.scene.plan.now in
    let none : certain_count is_barrier plan.kinds (phases_at x) (slot_at x c.args.level) ≡ 0 = omega (arith, c.certain.ensures, c.if-certain-gt0.false) in
    let many : min (certain_count is_producer plan.kinds (phases_at x) (slot_at x c.args.level)) 3 ≡ 0 = omega (arith, c.certain-2.ensures, c.in-0.is) in
    sym (pieces_of_producers plan.version plan.kinds (phases_at x) (slot_at x c.args.level) none ∙ ap (λ n. length (pieces n)) many)

pub returns-in-1 : goal.returns-in-1
returns-in-1 c =
    let x = c.args.self.now in
    let plan = x.second.scene.plan.now in
    let none : certain_count is_barrier plan.kinds (phases_at x) (slot_at x c.args.level) ≡ 0 = omega (arith, c.certain.ensures, c.if-certain-gt0.false) in
    let many : min (certain_count is_producer plan.kinds (phases_at x) (slot_at x c.args.level)) 3 ≡ 1 = omega (arith, c.certain-2.ensures, c.in-1.is) in
    sym (pieces_of_producers plan.version plan.kinds (phases_at x) (slot_at x c.args.level) none ∙ ap (λ n. length (pieces n)) many)

pub returns-in-2 : goal.returns-in-2
returns-in-2 c =
    let x = c.args.self.now in
    let plan = x.second.scene.plan.now in
    let none : certain_count is_barrier plan.kinds (phases_at x) (slot_at x c.args.level) ≡ 0 = omega (arith, c.certain.ensures, c.if-certain-gt0.false) in
    let many : min (certain_count is_producer plan.kinds (phases_at x) (slot_at x c.args.level)) 3 ≡ 2 = omega (arith, c.certain-2.ensures, c.in-2.is) in
    sym (pieces_of_producers plan.version plan.kinds (phases_at x) (slot_at x c.args.level) none ∙ ap (λ n. length (pieces n)) many)

pub returns-in_default : goal.returns-in_default
returns-in_default c =
    let x = c.args.self.now in
    let plan = x.second.scene.plan.now in
    let none : certain_count is_barrier plan.kinds (phases_at x) (slot_at x c.args.level) ≡ 0 = omega (arith, c.certain.ensures, c.if-certain-gt0.false) in
    let many : min (certain_count is_producer plan.kinds (phases_at x) (slot_at x c.args.level)) 3 ≡ 3 = omega (arith, c.certain-2.ensures, c.in_default) in
    sym (pieces_of_producers plan.version plan.kinds (phases_at x) (slot_at x c.args.level) none ∙ ap (λ n. length (pieces n)) many)
