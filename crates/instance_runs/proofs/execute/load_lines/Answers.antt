use Rattle.std.proofs.Common.{◌≡◌, ◌<◌, ◌+◌, [], ◌∷◌, ◌++◌, drop, map, take, length, length-set, w64, FitsSigned, to_z, of_z, sym, ap, ◌∙◌, arith, rules, suc}
use Rattle.std.proofs.lemmas.Int.{to_z-of_z}
use Rattle.std.proofs.lemmas.List.{take_all, take_more_set}
use Rattle.spmd_model.specs.Deeds.{loading}
use Rattle.flat_code.specs.Lines.{cell_on}
use Rattle.flat_code.specs.declared.lines.Line.{Line}
use Rattle.instance_runs.proofs.LoadLists.{loads_more, loads_next, map_next, map_split}
use Rattle.instance_runs.proofs.execute.load_lines.Goals as goal

pub load-requires : goal.load-requires
load-requires g c =
    let lines = c.args.lines.now in
    let k = c.loop-k.k in
    let v = to_z w64 (of_z w64 c.args.value) in
    let f = λ (m : Line). cell_on m v in
    let n = c.at.result in
    let (rest, is) = c.requires.left in
    let first = is ∙ ap (λ z. map loading (map (λ (m : Line). cell_on m z) lines) ++ rest) (sym (to_z-of_z w64 c.args.value c.ranges.value)) in
    (_, loads_next (map f lines) (map f (take k lines)) (n ∷ []) (map f (drop (suc k) lines)) (g.D.Deeds.left c.args.deeds.now) (g.D.Deeds.left c.loop-k.deeds) rest (map_split f lines k _ n c.loop-k-test.true c.at.ensures) first c.loop-k.invariant.left)

pub loop-k-preserved : goal.loop-k-preserved
loop-k-preserved g c =
    let lines = c.args.lines.now in
    let k = c.loop-k.k in
    let v = to_z w64 (of_z w64 c.args.value) in
    let f = λ (m : Line). cell_on m v in
    let n = c.at.result in
    let inv = c.loop-k.invariant in
    let went = c.load.ensures in
    let x = c.load.result in
    let fits : FitsSigned w64 x = search rules in
    let old = c.loop-k.registers in
    let y = to_z w64 (of_z w64 x) in
    let below : k < length old = omega (arith, inv.same, c.requires.room, c.loop-k-test.true) in
    record {
      left = loads_more (map f (take k lines)) (n ∷ []) (map f (take (k + 1) lines)) (g.D.Deeds.left c.args.deeds.now) (g.D.Deeds.left c.loop-k.deeds) (g.D.Deeds.left c.load.new.self) (map_next f lines k _ n c.loop-k-test.true c.at.ensures) inv.left went.left;
      registers = went.registers ∙ ap (λ l. l ++ x ∷ []) inv.registers ∙ ap (λ w. take k old ++ w ∷ []) (sym (to_z-of_z w64 x fits)) ∙ sym (take_more_set old k y below);
      same = length-set old k y ∙ inv.same;
      printed = went.printed ∙ inv.printed;
      kept = went.kept ∙ inv.kept;
    }

pub returns-clause-left : goal.returns-clause-left
returns-clause-left g c =
    let lines = c.args.lines.now in
    let k = c.loop-k.k in
    let v = to_z w64 (of_z w64 c.args.value) in
    c.loop-k.invariant.left ∙ ap (λ (ls : _). map loading (map (λ (m : Line). cell_on m v) ls) ++ g.D.Deeds.left c.loop-k.deeds) (take_all k lines c.loop-k-test.false)
    ∙ ap (λ z. map loading (map (λ (m : Line). cell_on m z) lines) ++ g.D.Deeds.left c.loop-k.deeds) (to_z-of_z w64 c.args.value c.ranges.value)

pub returns-clause-registers : goal.returns-clause-registers
returns-clause-registers g c =
    let lines = c.args.lines.now in
    let end : c.loop-k.k ≡ length lines = omega (arith, c.loop-k-test.false, c.loop-k.auto.k-end) in
    c.loop-k.invariant.registers ∙ ap (λ n. take n c.loop-k.registers) end
