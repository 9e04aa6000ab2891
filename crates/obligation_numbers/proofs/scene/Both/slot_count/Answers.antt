use Rattle.std.proofs.Common.{◌≡◌, ◌*◌, ap, sym, ◌∙◌, arith}
use Rattle.std.specs.Io.Iter.{u64_saturate}
use Rattle.std.proofs.Math.Nat.{zero-mul}
use Rattle.comm_system.specs.Obligations.{slot_signature}
use Rattle.obligation_numbers.specs.Counts.{pair_count, piece_count}
use Rattle.obligation_numbers.specs.SlotViews.{first_of, phases_at, second_of, slot_at}
use Rattle.obligation_numbers.proofs.Saturated.{product_saturated}
use Rattle.obligation_numbers.proofs.scene.Both.slot_count.Goals as goal

pub returns-then-pairs-eq0 : goal.returns-then-pairs-eq0
returns-then-pairs-eq0 c =
    let x = c.args.self.now in
    let plan = x.second.scene.plan.now in
    let pairs = pair_count plan.cut (first_of x).what (second_of x.second).what in
    let pieces = piece_count (slot_signature plan.version plan.kinds (phases_at x) (slot_at x c.args.level)) in
    let none : pairs ≡ 0 = omega (arith, c.requires, c.if-pairs-eq0.true) in
    sym (ap (λ n. u64_saturate (n * pieces)) none ∙ ap u64_saturate (zero-mul pieces))

pub returns-else-pairs-eq0 : goal.returns-else-pairs-eq0
returns-else-pairs-eq0 c =
    let x = c.args.self.now in
    let pairs = pair_count x.second.scene.plan.now.cut (first_of x).what (second_of x.second).what in
    c.saturating_mul.ensures ∙ ap (λ n. u64_saturate (n * c.piece_count.result)) c.requires ∙ product_saturated pairs c.piece_count.result ∙ ap (λ n. u64_saturate (pairs * n)) c.piece_count.ensures
