use Rattle.std.proofs.Common.{◌≡◌, ◌≤◌, suc, ◌+◌, ◌-◌, pos, [], ◌∷◌, ◌++◌, append-nil, drop, get_or, length, take, sym, ap, ◌∙◌, arith}
use Rattle.std.specs.List.{flat_map}
use borrow.Rule.Slice.PartMut.{same_len_mid}
use Rattle.std.proofs.Math.Seq.{split_at, take-suc}
use Rattle.std.proofs.lemmas.Grind.{flat_map-append}
use Rattle.std.proofs.lemmas.List.Sums.{sum_by-append, sum_by-cons, sum_by-take-drop}
use Rattle.nest_walk.specs.declared.table.LoadCells.TheVariants.{Element}
use Rattle.seq_meaning.specs.Loads.{cells_of_load}
use Rattle.instance_runs.specs.Loads.{width, widths}
use Rattle.instance_runs.proofs.LoadLists.{front_written, loads_more, loads_next}
use Rattle.instance_runs.proofs.execute.load_all.Goals as goal

pub load_one-count-requires-clause-left : goal.load_one-count-requires-clause-left
load_one-count-requires-clause-left g c =
    let loads = c.args.loads.now in
    let k = c.loop-load.load-index in
    let cells = cells_of_load c.args.values.now in
    let x = Element (record { base = pos 0; steps = [] }) in
    let (rest, is) = c.requires.left in
    let parts = split_at loads k x c.loop-load-test.true in
    let split = ap (flat_map cells) parts ∙ flat_map-append cells (take k loads) (get_or loads k x ∷ drop (suc k) loads) in
    (_, loads_next (flat_map cells loads) (flat_map cells (take k loads)) (cells (get_or loads k x)) (flat_map cells (drop (suc k) loads)) (g.D.Deeds.left c.args.deeds.now) (g.D.Deeds.left c.loop-load.deeds) rest split is c.loop-load.invariant.left)

pub loop-load-preserved : goal.loop-load-preserved
loop-load-preserved g c =
    let loads = c.args.loads.now in
    let k = c.loop-load.load-index in
    let cells = cells_of_load c.args.values.now in
    let x = get_or loads k (Element (record { base = pos 0; steps = [] })) in
    let inv = c.loop-load.invariant in
    let went = c.load_one-count.ensures in
    let old = c.loop-load.registers in
    let part = c.load_one-count.new.registers in
    let next : k + 1 ≡ suc k = omega arith in
    let one = ap (λ n. take n loads) next ∙ take-suc loads k (Element (record { base = pos 0; steps = [] })) c.loop-load-test.true in
    let more : flat_map cells (take (k + 1) loads) ≡ flat_map cells (take k loads) ++ cells x = ap (flat_map cells) one ∙ flat_map-append cells (take k loads) (x ∷ []) ∙ ap (λ l. flat_map cells (take k loads) ++ l) (append-nil (cells x)) in
    let wide : widths (take (k + 1) loads) ≡ widths (take k loads) + width x = omega (arith, ap widths one, sum_by-append width (take k loads) (x ∷ []), sum_by-cons width x []) in
    let all = sum_by-take-drop width loads (k + 1) in
    let inside : c.loop-load.count ≤ length old = omega (arith, inv.count, inv.same, wide, all, c.requires.room) in
    let few : c.load_one-count.result ≤ length part = omega (arith, went.count, c.load_one-count.auto.registers, inv.count, inv.same, wide, all, c.requires.room) in
    record {
      left = loads_more (flat_map cells (take k loads)) (cells x) (flat_map cells (take (k + 1) loads)) (g.D.Deeds.left c.args.deeds.now) (g.D.Deeds.left c.loop-load.deeds) (g.D.Deeds.left c.load_one-count.new.deeds) more inv.left went.left;
      registers = went.registers ∙ ap (λ l. l ++ take c.load_one-count.result part) inv.registers ∙ sym (front_written c.loop-load.count (length old - c.loop-load.count) c.load_one-count.result old part inside few);
      same = same_len_mid c.loop-load.count (length old - c.loop-load.count) old part c.load_one-count.auto.registers ∙ inv.same;
      count = omega (arith, inv.count, went.count, wide);
      printed = went.printed ∙ inv.printed;
      kept = went.kept ∙ inv.kept;
    }
