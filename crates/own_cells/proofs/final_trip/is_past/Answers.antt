use Rattle.std.proofs.Common.{FitsSigned, ◌+ℤ◌, pos, if◌then◌else◌, to_z, of_z, rules, arith, ap, sym, ◌∙◌, ◌≡◌}
use Rattle.std.specs.Int.{w64, w128}
use Rattle.std.specs.Int.Signed.{lt_z}
use Rattle.std.proofs.lemmas.Int.{ints, to_z-of_z}
use Rattle.own_cells.proofs.final_trip.is_past.Goals as goal

pub returns-then-step-gt0 : goal.returns-then-step-gt0
returns-then-step-gt0 c =
    let f : FitsSigned w64 c.args.step = search rules in
    let sum : to_z w128 (of_z w128 (to_z w128 (of_z w128 c.from.result) +ℤ to_z w128 (of_z w128 c.from-2.result))) ≡ c.args.value +ℤ c.args.step = omega (arith, ints, c.from.ensures, c.from-2.ensures) in
    let last : to_z w128 (of_z w128 c.from-then-step-gt0.result) ≡ c.args.last = omega (arith, ints, c.from-then-step-gt0.ensures) in
    ap (λ z. lt_z z (to_z w128 (of_z w128 (to_z w128 (of_z w128 c.from.result) +ℤ to_z w128 (of_z w128 c.from-2.result))))) last ∙ ap (lt_z c.args.last) sum
    ∙ sym (sym (ap (λ z. if lt_z (pos 0) z then lt_z c.args.last (c.args.value +ℤ c.args.step) else lt_z (c.args.value +ℤ c.args.step) c.args.last) (to_z-of_z w64 c.args.step f))
    ∙ ap (λ b. if b then lt_z c.args.last (c.args.value +ℤ c.args.step) else lt_z (c.args.value +ℤ c.args.step) c.args.last) c.if-step-gt0.true)

pub returns-else-step-gt0 : goal.returns-else-step-gt0
returns-else-step-gt0 c =
    let f : FitsSigned w64 c.args.step = search rules in
    let sum : to_z w128 (of_z w128 (to_z w128 (of_z w128 c.from.result) +ℤ to_z w128 (of_z w128 c.from-2.result))) ≡ c.args.value +ℤ c.args.step = omega (arith, ints, c.from.ensures, c.from-2.ensures) in
    let last : to_z w128 (of_z w128 c.from-else-step-gt0.result) ≡ c.args.last = omega (arith, ints, c.from-else-step-gt0.ensures) in
    ap (λ z. lt_z z (to_z w128 (of_z w128 c.from-else-step-gt0.result))) sum ∙ ap (lt_z (c.args.value +ℤ c.args.step)) last
    ∙ sym (sym (ap (λ z. if lt_z (pos 0) z then lt_z c.args.last (c.args.value +ℤ c.args.step) else lt_z (c.args.value +ℤ c.args.step) c.args.last) (to_z-of_z w64 c.args.step f))
    ∙ ap (λ b. if b then lt_z c.args.last (c.args.value +ℤ c.args.step) else lt_z (c.args.value +ℤ c.args.step) c.args.last) c.if-step-gt0.false)
