use Rattle.std.proofs.Common.{◌≡◌, ◌<◌, ◌+◌, ◌-◌, ◌++◌, pos, None, false, subst, sym, ap, ◌∙◌, arith, length, take, drop, get_or}
use Rattle.std.proofs.lemmas.Bool.{both_ways}
use Rattle.std.proofs.lemmas.List.{get_or_default, drop_all, append-nil, take_all}
use Rattle.elim_rows.specs.declared.derivation.Derivation.{Derivation}
use Rattle.elim_level.specs.Logs.{step_of}
use Rattle.fm_elim.specs.Lean.{AreNeeded, IsMarked, AreMarkedToo}
use Rattle.fm_elim.proofs.Marks.{AreNeeded-skip, AreNeeded-mark}
use Rattle.fm_elim.proofs.certificate.needed_rows.Goals as goal

pub loop-place-preserved-then-index : goal.loop-place-preserved-then-index
loop-place-preserved-then-index c =
    let given = c.args.given in
    let log = c.args.log.now in
    let old = c.loop-place.needed.items in
    let new = c.mark.new.needed in
    let p = c.loop-place.place - 1 in
    let d : Derivation = record { divisor = pos 0; first = (0, pos 0); second = None } in
    let place : c.loop-place.place ≡ p + 1 = omega arith in
    let needed = subst (λ p. AreNeeded given log p old) place c.loop-place.invariant in
    let within : p < length log = omega arith in
    let here : given + p < length old = omega (arith, needed.whole) in
    let size : length new ≡ length old = c.mark.auto.needed ∙ ap length c.as_mut_slice.ensures.value in
    let marked : IsMarked old (given + p + 1) = ap (λ i. get_or old i false) (omega arith) ∙ get_or_default old (given + p) false c.index.result.now here ∙ sym c.index.ensures ∙ c.if-index.true in
    let too : AreMarkedToo old (step_of (get_or log p d)) new = subst (λ xs. AreMarkedToo xs (step_of (get_or log p d)) new) c.as_mut_slice.ensures.value c.mark.ensures in
    let whole : take c.loop-place.needed.len (new ++ drop (length new) old) ≡ new = ap (λ xs. take c.loop-place.needed.len (new ++ xs)) (drop_all (length new) old (omega arith)) ∙ ap (take c.loop-place.needed.len) (append-nil new) ∙ take_all c.loop-place.needed.len new (omega arith) in
    subst (AreNeeded given log p) (sym whole) (AreNeeded-mark given log p old needed within d new marked (c.requires.named p d within) size too)

pub loop-place-preserved : goal.loop-place-preserved
loop-place-preserved c =
    let given = c.args.given in
    let log = c.args.log.now in
    let old = c.loop-place.needed.items in
    let p = c.loop-place.place - 1 in
    let place : c.loop-place.place ≡ p + 1 = omega arith in
    let needed = subst (λ p. AreNeeded given log p old) place c.loop-place.invariant in
    let here : given + p < length old = omega (arith, needed.whole) in
    AreNeeded-skip given log p old needed (omega arith)
    (λ marked. both_ways c.index.result.now c.if-index.false (c.index.ensures ∙ get_or_default old (given + p) c.index.result.now false here ∙ ap (λ i. get_or old i false) (omega arith) ∙ marked))

pub returns : goal.returns
returns c =
    let place : c.loop-place.place ≡ 0 = omega arith in
    subst (λ p. AreNeeded c.args.given c.args.log.now p c.loop-place.needed.items) place c.loop-place.invariant
