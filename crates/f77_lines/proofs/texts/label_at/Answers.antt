use Rattle.std.proofs.Common.{◌≡◌, true, ◌||◌, ltb, refl, get_or, arith, sym, ◌∙◌}
use Rattle.std.specs.Char.{is_ascii_digit}
use Rattle.f77_lines.specs.Texts.{label_at}
use Rattle.f77_lines.proofs.Labels.{label_behind-start, label-blank, label-digit, label-other, label-ended, ten_to-next}
use Rattle.f77_lines.proofs.texts.label_at.Goals as goal
use Rattle.f77_lines.proofs.texts.label_at.Goals.{then-c-ne32+else-not-is_ascii_digit, else-c-ne32, then-is_blank, else-is_blank}

pub loop-c-init : goal.loop-c-init
loop-c-init c = record { label = label_behind-start _; within = omega arith }

pub returns-then-not-is_ascii_digit : goal.returns-then-not-is_ascii_digit
unfolding label_at
returns-then-not-is_ascii_digit c =
    label-other c.args.field.now c.loop-c.c-index c.loop-c.label c.loop-c.is_blank _ c.loop-c-test.true c.loop-c.invariant.label c.if-c-ne32.true (sym c.is_ascii_digit.ensures.value ∙ c.if-not-is_ascii_digit.true)

pub loop-c-preserved : goal.loop-c-preserved
loop-c-preserved c =
    elim c.if-c-ne32.branch [
      | then-c-ne32+else-not-is_ascii_digit w ↦ (
          let digit : is_ascii_digit (get_or c.args.field.now c.loop-c.c-index 0) ≡ true = sym w.is_ascii_digit.ensures.value ∙ w.if-not-is_ascii_digit.false in
          record {
            label = rw (w.label-is, w.is_blank-is, w.from.ensures) (label-digit c.args.field.now c.loop-c.c-index c.loop-c.label c.loop-c.is_blank _ c.loop-c-test.true c.loop-c.invariant.label w.if-c-ne32.true digit);
            within = ten_to-next c.loop-c.c-index c.loop-c.label c.if-c-ne32.label c.loop-c.invariant.within (grind arith);
          })
      | else-c-ne32 w ↦ record {
        label = rw (w.label-is, w.is_blank-is) (label-blank c.args.field.now c.loop-c.c-index c.loop-c.label c.loop-c.is_blank _ c.loop-c-test.true c.loop-c.invariant.label w.if-c-ne32.false);
        within = ten_to-next c.loop-c.c-index c.loop-c.label c.if-c-ne32.label c.loop-c.invariant.within (omega (arith, w.label-is));
      }
    ]

pub returns : goal.returns
unfolding label_at
returns c =
    let test : c.if-is_blank.then_some ≡ (c.loop-c.is_blank || ltb 0 c.loop-c.label) = elim c.if-is_blank.branch [ then-is_blank w ↦ rw (w.then_some-is, w.if-is_blank.true) refl | else-is_blank w ↦ rw (w.then_some-is, w.if-is_blank.false) refl ] in
    c.then_some.ensures ∙ label-ended c.args.field.now c.loop-c.c-index c.loop-c.label c.loop-c.is_blank _ c.if-is_blank.then_some c.loop-c-test.false c.loop-c.invariant.label test
