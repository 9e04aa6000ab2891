use Rattle.std.proofs.Common.{◌∙◌, ap, sym, inl, inr}
use Rattle.std.proofs.lemmas.Bool.{ne_eqb}
use Rattle.sync_plan.specs.Waits.{is_awaited_at}
use Rattle.sync_plan.proofs.KindBits.{awaited-nothing, awaited-left, awaited-right, awaited-both, awaited-barrier, awaited-join, awaited-owner, awaited-other}
use Rattle.sync_plan.proofs.waiting.is_awaited.Goals as goal

pub returns-in-Nothing : goal.returns-in-Nothing
returns-in-Nothing c = sym (ap (λ k. is_awaited_at k c.args.owner c.args.workers c.args.q) c.in-Nothing.is ∙ awaited-nothing c.args.owner c.args.workers c.args.q)

pub returns-then-owner-q : goal.returns-then-owner-q
returns-then-owner-q c =
    sym (ap (λ k. is_awaited_at k c.args.owner c.args.workers c.args.q) c.in-Producer.is ∙ awaited-owner c.in-Producer.field-0 c.args.owner c.args.workers c.args.q c.requires.worker c.if-owner-q.true)

pub returns-else-owner-q : goal.returns-else-owner-q
returns-else-owner-q c =
    ne_eqb c.args.owner c.args.q c.if-owner-q.false
    ∙ sym (ap (λ k. is_awaited_at k c.args.owner c.args.workers c.args.q) c.in-Producer.is ∙ awaited-other c.in-Producer.field-0 c.args.owner c.args.workers c.args.q c.if-owner-q.false)

pub returns-in-Left : goal.returns-in-Left
returns-in-Left c = sym (ap (λ k. is_awaited_at k c.args.owner c.args.workers c.args.q) c.in-Left.is ∙ awaited-left c.args.owner c.args.workers c.args.q)

pub returns-in-Right : goal.returns-in-Right
returns-in-Right c = sym (ap (λ k. is_awaited_at k c.args.owner c.args.workers c.args.q) c.in-Right.is ∙ awaited-right c.args.owner c.args.workers c.args.q c.requires.worker)

pub returns-in-Both : goal.returns-in-Both
returns-in-Both c =
    elim c.in-Both.is [
      | inl e ↦ sym (ap (λ k. is_awaited_at k c.args.owner c.args.workers c.args.q) e ∙ awaited-both c.args.owner c.args.workers c.args.q c.requires.worker)
      | inr others ↦ elim others [
        | inl e ↦ sym (ap (λ k. is_awaited_at k c.args.owner c.args.workers c.args.q) e ∙ awaited-barrier c.args.owner c.args.workers c.args.q c.requires.worker)
        | inr e ↦ sym (ap (λ k. is_awaited_at k c.args.owner c.args.workers c.args.q) e ∙ awaited-join c.args.owner c.args.workers c.args.q c.requires.worker)
      ]
    ]
