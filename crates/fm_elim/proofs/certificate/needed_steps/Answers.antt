use Rattle.std.proofs.Common.{◌≡◌, ◌+◌, ◌-◌, ◌≤◌, pos, None, false, [], ◌∷◌, ◌++◌, length, get_or, ap, sym, ◌∙◌, subst, arith}
use Rattle.std.specs.List.{All}
use Rattle.std.proofs.lemmas.Bool.{both_ways}
use Rattle.elim_rows.specs.declared.derivation.Derivation.{Derivation}
use Rattle.elim_level.specs.Logs.{step_of}
use Rattle.fm_elim.specs.Lean.{IsMarked, renumbered}
use Rattle.fm_elim.proofs.Walks.{AreCopied, AreCopied-start, AreCopied-skip, AreCopied-keep, terms_within, copied_last, copied_lean}
use Rattle.fm_elim.proofs.certificate.needed_steps.Goals as goal
use Rattle.fm_elim.proofs.certificate.needed_steps.Goals.{then-needed-given+in_ok-step+in_ok-push, else-needed-given}

pub loop-place-init : goal.loop-place-init
loop-place-init c =
    let rows : length c.rows-given.result.now ≡ length c.args.system.now.rows = ap length c.rows-given.ensures.rows in
    let own = c.in_ok-numbers.ensures in
    subst (AreCopied c.args.system.now c.args.log.now c.args.needed.now 0 c.in_ok-numbers.numbers.items) (sym c.new-steps.ensures.items)
    (AreCopied-start c.args.system.now c.args.log.now c.args.needed.now c.in_ok-numbers.numbers.items (own.count ∙ rows) (λ k h. own.own k (omega arith)))

pub renumbered-requires : goal.renumbered-requires
renumbered-requires c =
    let d : Derivation = record { divisor = pos 0; first = (0, pos 0); second = None } in
    subst (λ xs. All (λ t. (1 ≤ t.0) × (t.0 ≤ length xs)) (step_of (get_or c.args.log.now c.loop-place.place d)).terms) (sym c.as_slice.ensures.value)
    (terms_within c.args.system.now c.args.log.now c.args.needed.now c.loop-place.place c.loop-place.numbers.items c.loop-place.steps.items c.requires.log c.requires.needed c.loop-place.invariant c.loop-place-test.true d)

pub loop-place-preserved : goal.loop-place-preserved
loop-place-preserved c =
    let system = c.args.system.now in
    let log = c.args.log.now in
    let needed = c.args.needed.now in
    let place = c.loop-place.place in
    let numbers = c.loop-place.numbers.items in
    let n = length c.rows-given.result.now + c.len.result in
    let d : Derivation = record { divisor = pos 0; first = (0, pos 0); second = None } in
    let rows : length c.rows-given.result.now ≡ length system.rows = ap length c.rows-given.ensures.rows in
    let pushed : c.push-in-loop-place.new.self.items ≡ numbers ++ n ∷ [] = c.in_ok-push-2.ensures.items in
    let count : n ≡ length system.rows + length c.if-needed-given.steps.items = omega (arith, rows, c.len.ensures) in
    let here : length c.rows-given.result.now + place ≡ length system.rows + place + 1 - 1 = omega arith in
    subst (λ xs. AreCopied system log needed (place + 1) xs c.if-needed-given.steps.items) (sym pushed)
    (elim c.if-needed-given.branch [
      | then-needed-given+in_ok-step+in_ok-push w ↦
          let step = w.in_ok-step.step in
          let items : c.if-needed-given.steps.items ≡ c.loop-place.steps.items ++ step ∷ [] = ap (λ v. v.items) w.steps-is ∙ w.in_ok-push.ensures.items in
          let is : step ≡ renumbered numbers (step_of (get_or log place d)) = w.in_ok-step.ensures ∙ ap (λ xs. renumbered xs (step_of (get_or log place d))) w.as_slice.ensures.value in
          let marked : IsMarked needed (length system.rows + place + 1) = ap (λ i. get_or needed i false) (sym here) ∙ w.if-needed-given.true in
          let number : n ≡ length system.rows + length (c.loop-place.steps.items ++ step ∷ []) = count ∙ ap (λ xs. length system.rows + length xs) items in
          subst (AreCopied system log needed (place + 1) (numbers ++ n ∷ [])) (sym items)
          (AreCopied-keep system log needed place numbers c.loop-place.steps.items c.requires.log c.requires.needed c.loop-place.invariant c.loop-place-test.true d n step is number marked)
      | else-needed-given w ↦
          let same : c.if-needed-given.steps.items ≡ c.loop-place.steps.items = ap (λ v. v.items) w.steps-is in
          let number : n ≡ length system.rows + length c.loop-place.steps.items = count ∙ ap (λ xs. length system.rows + length xs) same in
          subst (AreCopied system log needed (place + 1) (numbers ++ n ∷ [])) (sym same)
          (AreCopied-skip system log needed place numbers c.loop-place.steps.items c.requires.log c.requires.needed c.loop-place.invariant c.loop-place-test.true n number
          (λ marked. both_ways (get_or needed (length c.rows-given.result.now + place) false) w.if-needed-given.false (ap (λ i. get_or needed i false) here ∙ marked)))
    ])

pub returns-clause-last : goal.returns-clause-last
returns-clause-last c =
    let whole : c.loop-place.place ≡ length c.args.log.now = omega arith in
    let copied = subst (λ p. AreCopied c.args.system.now c.args.log.now c.args.needed.now p c.loop-place.numbers.items c.loop-place.steps.items) whole c.loop-place.invariant in
    copied_last c.args.system.now c.args.log.now c.args.needed.now c.loop-place.numbers.items c.loop-place.steps.items c.requires.log c.requires.needed c.requires.some copied

pub returns-clause-lean : goal.returns-clause-lean
returns-clause-lean c =
    let whole : c.loop-place.place ≡ length c.args.log.now = omega arith in
    let copied = subst (λ p. AreCopied c.args.system.now c.args.log.now c.args.needed.now p c.loop-place.numbers.items c.loop-place.steps.items) whole c.loop-place.invariant in
    copied_lean c.args.system.now c.args.log.now c.args.needed.now c.loop-place.numbers.items c.loop-place.steps.items c.requires.log c.requires.needed c.requires.some copied
