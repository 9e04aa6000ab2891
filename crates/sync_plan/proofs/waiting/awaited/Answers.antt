use Rattle.std.proofs.Common.{◌<◌, inl, inr, sym, ap, ◌∙◌, arith}
use Rattle.std.specs.Int.{bit_at}
use Rattle.sync_plan.specs.declared.plan.Kind.TheVariants.{Nothing, Producer, Left, Right, Both, Barrier, Join}
use Rattle.sync_plan.specs.Waits.{awaited_at}
use Rattle.sync_plan.proofs.ProcessorSets.{digit, bit_of_lower, bit_of_higher}
use Rattle.sync_plan.proofs.KindBits.{awaited_by, bits-nothing, bits-all, bits-both}
use Rattle.sync_plan.proofs.waiting.awaited.Goals as goal
use Rattle.sync_plan.proofs.waiting.awaited.Goals.{in-Nothing, in-Producer, in-Left, in-Right, in-Both, in-Barrier, in-Barrier-2}

pub returns : goal.returns
unfolding digit
returns c =
    let p = c.args.p in
    let owner = c.args.owner in
    let workers = c.args.workers in
    let le = c.requires.few in
    let small : p < 64 = omega (arith, c.requires.worker, le) in
    elim c.match-kind.branch [
      | in-Nothing w ↦ awaited_by Nothing owner workers p _ le c.requires.worker (λ q below. ap (λ n. bit_at n q) w.others-is ∙ bits-nothing q) ∙ sym (ap (λ k. awaited_at k owner workers p) w.in-Nothing.is)
      | in-Producer w ↦ awaited_by (Producer w.in-Producer.field-0) owner workers p _ le c.requires.worker (λ q below. ap (λ n. bit_at n q) w.others-is ∙ w.bit-others.ensures q (omega arith)) ∙ sym (ap (λ k. awaited_at k owner workers p) w.in-Producer.is)
      | in-Left w ↦ awaited_by Left owner workers p _ le c.requires.worker (λ q below. ap (λ n. bit_at n q) w.others-is ∙ bit_of_lower p q small) ∙ sym (ap (λ k. awaited_at k owner workers p) w.in-Left.is)
      | in-Right w ↦ awaited_by Right owner workers p _ le c.requires.worker (λ q below. ap (λ n. bit_at n q) w.others-is ∙ bit_of_higher p q (omega arith) small) ∙ sym (ap (λ k. awaited_at k owner workers p) w.in-Right.is)
      | in-Both w ↦ awaited_by Both owner workers p _ le c.requires.worker (λ q below. ap (λ n. bit_at n q) w.others-is ∙ bits-both p q small (omega arith)) ∙ sym (ap (λ k. awaited_at k owner workers p) w.in-Both.is)
      | in-Barrier w ↦ elim w.in-Barrier.is [
        | inl e ↦ awaited_by Barrier owner workers p _ le c.requires.worker (λ q below. ap (λ n. bit_at n q) w.others-is ∙ bits-all q (omega arith)) ∙ sym (ap (λ k. awaited_at k owner workers p) e)
        | inr e ↦ awaited_by Join owner workers p _ le c.requires.worker (λ q below. ap (λ n. bit_at n q) w.others-is ∙ bits-all q (omega arith)) ∙ sym (ap (λ k. awaited_at k owner workers p) e)
      ]
      | in-Barrier-2 w ↦ elim w.in-Barrier.is [
        | inl e ↦ awaited_by Barrier owner workers p _ le c.requires.worker (λ q below. ap (λ n. bit_at n q) w.others-is ∙ bits-all q (omega arith)) ∙ sym (ap (λ k. awaited_at k owner workers p) e)
        | inr e ↦ awaited_by Join owner workers p _ le c.requires.worker (λ q below. ap (λ n. bit_at n q) w.others-is ∙ bits-all q (omega arith)) ∙ sym (ap (λ k. awaited_at k owner workers p) e)
      ]
    ]
