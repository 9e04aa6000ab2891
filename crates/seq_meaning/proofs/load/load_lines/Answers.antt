use Rattle.std.proofs.Common.{◌≡◌, ℤ, length, map, take, w64, to_z, of_z, ap, ◌∙◌, arith}
use Rattle.std.proofs.lemmas.Int.{to_z-of_z}
use Rattle.std.proofs.lemmas.List.{take_all}
use Rattle.nest_model.specs.Memory.{cell_value}
use Rattle.flat_code.specs.Lines.{cell_on}
use Rattle.flat_code.specs.declared.lines.Line.{Line}
use Rattle.seq_meaning.proofs.load.load_lines.Goals as goal

pub returns-clause-loaded : goal.returns-clause-loaded
returns-clause-loaded c =
    let lines = c.args.lines.now in
    let k = c.loop-k.k in
    let v = c.args.value in
    let found = λ (z : ℤ). λ (line : Line). cell_value c.args.memory.now (cell_on line z) in
    let end : length lines ≡ k = omega (arith, c.loop-k-test.false, c.loop-k.auto.k-end) in
    ap (λ n. take n c.loop-k.registers) end ∙ c.loop-k.invariant.loaded ∙ ap (map (found (to_z w64 (of_z w64 v)))) (take_all k lines c.loop-k-test.false) ∙ ap (λ z. map (found z) lines) (to_z-of_z w64 v c.ranges.value)
