use Rattle.std.proofs.Common.{◌≡◌, map, drop, ◌+◌, Some, true, false, if◌then◌else◌, ap, sym, ◌∙◌}
use Rattle.std.specs.Str.{bytes_eq}
use Rattle.f77_program.specs.Known.{open_of, opened_as}
use Rattle.f77_program.proofs.Looked.{opened_step}
use Rattle.f77_program.proofs.known.loop_number.Goals as goal

pub returns-then-eq-clause-number : goal.returns-then-eq-clause-number
returns-then-eq-clause-number c =
    let o = c.open-item.result in
    let name = c.args.name.now in
    let rest = opened_as (drop (c.loop-open.open-index + 1) (map open_of c.args.opened.now)) name in
    let same : bytes_eq o.variable.items name ≡ true = ap (λ v. bytes_eq v name) (sym c.as_slice.ensures.value) ∙ sym c.if-eq.ensures in
    sym (ap (λ b. if b then Some o.number else rest) same) ∙ sym (opened_step c.args.opened.now c.loop-open.open-index o name c.loop-open-test.true c.open-item.is) ∙ c.loop-open.invariant

pub loop-open-preserved : goal.loop-open-preserved
loop-open-preserved c =
    let o = c.open-item.result in
    let name = c.args.name.now in
    let rest = opened_as (drop (c.loop-open.open-index + 1) (map open_of c.args.opened.now)) name in
    let other : bytes_eq o.variable.items name ≡ false = ap (λ v. bytes_eq v name) (sym c.as_slice.ensures.value) ∙ sym c.if-eq.ensures in
    sym (ap (λ b. if b then Some o.number else rest) other) ∙ sym (opened_step c.args.opened.now c.loop-open.open-index o name c.loop-open-test.true c.open-item.is) ∙ c.loop-open.invariant
