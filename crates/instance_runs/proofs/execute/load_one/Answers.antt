use Rattle.std.proofs.Common.{◌≡◌, ◌<◌, suc, ◌+◌, ◌-◌, [], ◌∷◌, ◌++◌, append_assoc, map, take, length, length-set, set, w64, FitsSigned, to_z, of_z, sym, ap, ◌∙◌, arith, rules}
use Rattle.std.specs.List.{range_with_len}
use Rattle.std.proofs.Math.Seq.{take-suc-set}
use Rattle.std.proofs.lemmas.Int.{to_z-of_z}
use Rattle.seq_meaning.specs.Loads.{cells_of_load}
use Rattle.spmd_model.specs.Deeds.{loading}
use Rattle.instance_runs.specs.Loads.{width}
use Rattle.instance_runs.proofs.LoadLists.{loads_more, loads_next, range_more, range_split}
use Rattle.instance_runs.proofs.execute.load_one.Goals as goal

pub load-requires-in-loop-element : goal.load-requires-in-loop-element
load-requires-in-loop-element g c =
    let first = c.in-Array.first in
    let count = c.in-Array.count in
    let k = c.loop-element.element in
    let (rest, is) = c.requires.left in
    let long : count ≡ k + suc (count - k - 1) = omega (arith, c.loop-element-test.true) in
    let split = ap (range_with_len first) long ∙ range_split first k (count - k - 1) in
    let all = is ∙ ap (λ l. map loading (cells_of_load c.args.values.now l) ++ rest) c.in-Array.is in
    (_, loads_next (range_with_len first count) (range_with_len first k) ((first + k) ∷ []) (range_with_len (first + k + 1) (count - k - 1)) (g.D.Deeds.left c.args.deeds.now) (g.D.Deeds.left c.loop-element.deeds) rest split all c.loop-element.invariant.left)

pub loop-element-preserved : goal.loop-element-preserved
loop-element-preserved g c =
    let first = c.in-Array.first in
    let k = c.loop-element.element in
    let inv = c.loop-element.invariant in
    let went = c.load-in-loop-element.ensures in
    let v = c.load-in-loop-element.result in
    let old = c.loop-element.registers in
    let fits : FitsSigned w64 v = search rules in
    let width_is = ap width c.in-Array.is in
    let one : suc k ≡ k + 1 = omega arith in
    let below : k < length old = omega (arith, inv.same, c.requires.room, width_is, c.loop-element-test.true) in
    record {
      left = loads_more (range_with_len first k) ((first + k) ∷ []) (range_with_len first (k + 1)) (g.D.Deeds.left c.args.deeds.now) (g.D.Deeds.left c.loop-element.deeds) (g.D.Deeds.left c.load-in-loop-element.new.self) (range_more first k) inv.left went.left;
      registers = went.registers ∙ ap (λ l. l ++ v ∷ []) inv.registers ∙ append_assoc (g.D.Deeds.registers c.args.deeds.now) (take k old) (v ∷ [])
          ∙ ap (λ l. g.D.Deeds.registers c.args.deeds.now ++ l) (ap (λ x. take k old ++ x ∷ []) (sym (to_z-of_z w64 v fits)) ∙ sym (take-suc-set old k (to_z w64 (of_z w64 v)) below) ∙ ap (λ n. take n (set old k (to_z w64 (of_z w64 v)))) one);
      same = length-set old k (to_z w64 (of_z w64 v)) ∙ inv.same;
      printed = went.printed ∙ inv.printed;
      kept = went.kept ∙ inv.kept;
    }

pub returns-in-Element-clause-registers : goal.returns-in-Element-clause-registers
returns-in-Element-clause-registers g c =
    let v = c.load.result in
    let old = c.args.registers.now in
    let fits : FitsSigned w64 v = search rules in
    let width_is = ap width c.in-Element.is in
    let below : 0 < length old = omega (arith, c.requires.room, width_is) in
    c.load.ensures.registers ∙ ap (λ l. g.D.Deeds.registers c.args.deeds.now ++ l) (ap (λ x. x ∷ []) (sym (to_z-of_z w64 v fits)) ∙ sym (take-suc-set old 0 (to_z w64 (of_z w64 v)) below))
